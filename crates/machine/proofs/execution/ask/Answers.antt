use Rattle.std.proofs.Common.{rules}
use Rattle.machine.proofs.execution.ask.Goals as goal

pub returns-clause-stack : goal.returns-clause-stack
returns-clause-stack c = search rules
