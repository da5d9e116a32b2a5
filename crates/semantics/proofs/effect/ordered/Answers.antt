use Rattle.std.proofs.Common.{rules}
use Rattle.semantics.proofs.effect.ordered.Goals as goal

pub returns-in-Ge : goal.returns-in-Ge
returns-in-Ge c = search rules
