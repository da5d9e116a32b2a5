use Rattle.std.proofs.Common.{rules}
use Rattle.control.proofs.allocate.allocate.Goals as goal

pub returns-clause-gives : goal.returns-clause-gives
returns-clause-gives c = search rules
