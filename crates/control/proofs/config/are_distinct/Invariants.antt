use Rattle.std.proofs.Common.{◌≡◌, length}
use Rattle.control.specs.Configs.{are_distinct}
use Rattle.control.proofs.config.are_distinct.Given as goal

abbrev pub decreases-loop-user : goal.decreases-loop-user
decreases-loop-user l = length l.rest

abbrev pub invariant-loop-user : goal.invariant-loop-user
invariant-loop-user l = are_distinct l.rest ≡ are_distinct l.users
