use Rattle.std.proofs.Common.{rules}
use Rattle.control.proofs.create_permission.are_of.Goals as goal

pub returns : goal.returns
returns c = search rules

pub returns-in_default : goal.returns-in_default
returns-in_default c = search rules
