use Rattle.std.proofs.Common.{rules}
use Rattle.control.proofs.owning.own_allocation.Goals as goal

pub returns-clause-allocation : goal.returns-clause-allocation
returns-clause-allocation c = search rules
