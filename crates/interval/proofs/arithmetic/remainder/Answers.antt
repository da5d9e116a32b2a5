use Rattle.std.proofs.Common.{rules}
use Rattle.interval.proofs.arithmetic.remainder.Goals as goal

pub returns-then-b-gt0 : goal.returns-then-b-gt0
returns-then-b-gt0 c = search rules
