use Rattle.std.proofs.Common.{◌≡◌, map, take}
use Rattle.control.specs.Users.{index_of_user}
use Rattle.control.proofs.users.new_indices.Given as goal

abbrev pub invariant-loop-user : goal.invariant-loop-user
invariant-loop-user l = l.indices.items ≡ map (index_of_user l.new) (take l.user-index l.old)
