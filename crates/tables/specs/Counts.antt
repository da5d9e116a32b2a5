-- Meaning. How many allocations there are, and how many of an owner.
use Rattle.std.specs.Prelude.{ℕ, Bool, false, List, bytes_eq, Option, None, Some, is_some}
use Rattle.std.specs.List.{count_by}
use Rattle.tables.specs.Rows.{Rows}
use Rattle.tables.specs.declared.held.Held.{Held}

-- how many slots hold one
abbrev pub allocation_count : Rows → ℕ
allocation_count rows = count_by is_some rows.slots

-- whether a slot holds one of an owner
abbrev pub is_owned_by : List ℕ → Option Held → Bool
is_owned_by owner None = false
is_owned_by owner (Some held) = bytes_eq held.allocation.owner owner

-- how many slots hold one of an owner
abbrev pub allocations_of : List ℕ → Rows → ℕ
allocations_of owner rows = count_by (is_owned_by owner) rows.slots
