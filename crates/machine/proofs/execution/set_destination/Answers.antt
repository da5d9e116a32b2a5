use Rattle.std.proofs.Common.{rules}
use Rattle.machine.proofs.execution.set_destination.Goals as goal

pub returns-clause-plan : goal.returns-clause-plan
returns-clause-plan c = search rules
