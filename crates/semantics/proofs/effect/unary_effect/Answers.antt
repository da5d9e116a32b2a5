use Rattle.std.proofs.Common.{rules}
use Rattle.semantics.proofs.effect.unary_effect.Goals as goal

pub returns-in_err-a : goal.returns-in_err-a
returns-in_err-a c = search rules
