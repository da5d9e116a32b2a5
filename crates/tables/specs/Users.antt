-- Meaning. The rows where the users of a relay are replaced, or some are revoked: what each slot holds continues or ends by its user.
use Rattle.std.specs.Prelude.{ℕ, List, map, slice_get, bytes_eq, Option, None, Some, unwrap_or, if◌then◌else◌}
use Rattle.std.specs.List.{list_any}
use Rattle.std.specs.Option.{option_map, option_and_then}
use Rattle.tables.specs.Rows.{Rows}
use Rattle.tables.specs.declared.allocation.Allocation.{Allocation}
use Rattle.tables.specs.declared.held.Held.{Held}

-- the same, of the user of this index
abbrev pub with_user : Held → ℕ → Held
with_user held user = record held { allocation = record held.allocation { user = user } }

-- what is left where each allocation has another user: of one that has none, nothing is
abbrev pub held_of_user : (Allocation → Option ℕ) → Held → Option Held
held_of_user user held = option_map (with_user held) (user held.allocation)

-- the rows of the allocations that have a user; each slot stays what it is, and so does the greatest moment
abbrev pub rows_for : (Allocation → Option ℕ) → Rows → Rows
rows_for user rows = record rows { slots = map (option_and_then (held_of_user user)) rows.slots }

-- ---- users with other indices

abbrev pub user_by_index : (ℕ → Option ℕ) → Allocation → Option ℕ
user_by_index index allocation = index allocation.user

-- the rows of the users that have another index
abbrev pub rows_of_users : (ℕ → Option ℕ) → Rows → Rows
rows_of_users index rows = rows_for (user_by_index index) rows

-- the other index of a user in a list of them; a user beyond its end keeps its number
abbrev pub index_in : List (Option ℕ) → ℕ → Option ℕ
index_in indices user = unwrap_or (slice_get indices user) (Some user)

-- ---- owners that have nothing any more

abbrev pub user_unless : List (List ℕ) → Allocation → Option ℕ
user_unless owners allocation = if list_any (λ owner. bytes_eq owner allocation.owner) owners then None else Some allocation.user

-- the rows without the allocations of some owners
abbrev pub rows_without : List (List ℕ) → Rows → Rows
rows_without owners rows = rows_for (user_unless owners) rows
