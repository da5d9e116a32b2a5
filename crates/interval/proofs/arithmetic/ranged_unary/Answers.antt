use Rattle.std.proofs.Common.{rules}
use Rattle.interval.proofs.arithmetic.ranged_unary.Goals as goal

pub returns-then-ends-greatest_positive : goal.returns-then-ends-greatest_positive
returns-then-ends-greatest_positive c = search rules
