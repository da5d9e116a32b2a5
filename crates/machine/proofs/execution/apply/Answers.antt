use Rattle.std.proofs.Common.{rules}
use Rattle.machine.proofs.execution.apply.Goals as goal

pub returns-in-Store-clause-applied : goal.returns-in-Store-clause-applied
returns-in-Store-clause-applied c = search rules
