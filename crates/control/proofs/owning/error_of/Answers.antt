use Rattle.std.proofs.Common.{rules}
use Rattle.control.proofs.owning.error_of.Goals as goal

pub returns-in-Capacity : goal.returns-in-Capacity
returns-in-Capacity c = search rules
