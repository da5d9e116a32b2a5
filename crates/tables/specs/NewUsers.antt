-- Internal. How the users of allocations change, in one definition for both ways.
use Rattle.std.specs.Prelude.{ℕ, Option}
use Rattle.tables.specs.Users.{index_in, user_by_index, user_unless}
use Rattle.tables.specs.declared.allocation.Allocation.{Allocation}
use Rattle.tables.specs.declared.users.NewUsers.{NewUsers}
use Rattle.tables.specs.declared.users.NewUsers.TheVariants.{Indices, Without}

abbrev pub user_after : NewUsers → Allocation → Option ℕ
user_after (Indices indices) = user_by_index (index_in indices.now)
user_after (Without owners) = user_unless owners.now
