use Rattle.std.proofs.Common.{rules}
use Rattle.interval.proofs.arithmetic.added.Goals as goal

pub returns-in-Some : goal.returns-in-Some
returns-in-Some c = search rules
