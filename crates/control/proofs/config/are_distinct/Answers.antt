use Rattle.std.proofs.Common.{rules}
use Rattle.control.proofs.config.are_distinct.Goals as goal

pub returns-then-has_name : goal.returns-then-has_name
returns-then-has_name c = search rules

pub loop-user-preserved : goal.loop-user-preserved
loop-user-preserved c = search rules
