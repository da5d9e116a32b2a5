use Rattle.std.proofs.Common.{rules}
use Rattle.interval.proofs.arithmetic.subtracted.Goals as goal

pub from_to-requires : goal.from_to-requires
from_to-requires c = search rules

pub returns-then-b-a : goal.returns-then-b-a
returns-then-b-a c = search rules
