use Rattle.std.proofs.lemmas.Grind.{common_steps}
use Rattle.std.proofs.Common.{arith}
use Rattle.control.proofs.responding.respond.Goals as goal

pub returns-in-Binding-clause-responds : goal.returns-in-Binding-clause-responds
returns-in-Binding-clause-responds c = grind (arith, common_steps)
