-- Meaning. The rows of the tables, and which of them are live at a moment (RFC 8656, sections 6, 9 and 12). A slot holds
-- nothing, or an allocation with its permissions and channels, which so end with it.
use Rattle.std.specs.Prelude.{ℕ, List, map, replicate, Option, None, Some, if◌then◌else◌, nat_lt}
use Rattle.std.specs.Option.{option_and_then}
use Rattle.tables.specs.Moments.{moment_of}
use Rattle.tables.specs.Permissions.{permissions_at}
use Rattle.tables.specs.Channels.{channels_at}
use Rattle.tables.specs.declared.held.Held.{Held}

-- what each slot holds, and the greatest moment of the changes made
pub record Rows : Type 0 where
  pub moment : ℕ
  pub slots : List (Option Held)

-- ---- the live rows

-- where the allocation has ended, its rows have too
abbrev pub held_at : ℕ → Held → Option Held
held_at t held =
    if nat_lt t held.allocation.end
    then Some (record held { permissions = permissions_at t held.permissions; channels = channels_at t held.channels })
    else None

abbrev pub slots_at : ℕ → List (Option Held) → List (Option Held)
slots_at t slots = map (option_and_then (held_at t)) slots

-- the live rows at a moment, which is then the greatest
abbrev pub live_rows : ℕ → Rows → Rows
live_rows t rows = record { moment = t; slots = slots_at t rows.slots }

-- the rows at a moment that is handed in
abbrev pub rows_at : ℕ → Rows → Rows
rows_at t rows = live_rows (moment_of rows.moment t) rows

-- `count` empty slots, before the first change
abbrev pub no_rows : ℕ → Rows
no_rows count = record { moment = 0; slots = replicate count None }
