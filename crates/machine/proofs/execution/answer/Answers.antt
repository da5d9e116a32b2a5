use Rattle.std.proofs.Common.{rules}
use Rattle.machine.proofs.execution.answer.Goals as goal

pub returns : goal.returns
returns c = search rules
