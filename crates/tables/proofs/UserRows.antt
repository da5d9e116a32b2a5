-- What is stored where allocations have other users, or none.
use Rattle.std.proofs.Common.{◌≡◌, ℕ, List, [], ◌∷◌, map, filter, nat_lt, true, false, Option, Some, None, is_some, option_map, option_and_then, sym, refl, ap, ◌∙◌, inl, inr}
use Rattle.std.proofs.lemmas.Bool.{cases_Bool}
use Rattle.std.proofs.lemmas.Option.{none-some}
use Rattle.tables.specs.Rows.{Rows, held_at, slots_at, live_rows}
use Rattle.tables.specs.Stored.{AreStored, stored_at, client_in}
use Rattle.tables.specs.Users.{with_user, held_of_user, rows_for}
use Rattle.tables.specs.laws.Row.{live_held, held_at-live, held_at-ended, made_of}
use Rattle.tables.specs.laws.WellFormed.{users-well_formed}
use Rattle.tables.specs.declared.allocation.Allocation.{Allocation}
use Rattle.tables.specs.declared.clients.Client.{Client}
use Rattle.tables.specs.declared.held.Held.{Held}
use Rattle.tables.proofs.ClientRows.{left_are}

-- ---- what is live of a slot

live_left : (t : ℕ) (held : Held) (user : Option ℕ) → nat_lt t held.allocation.end ≡ true → option_and_then (held_at t) (option_map (with_user held) user) ≡ option_map (with_user (live_held t held)) user
live_left t held None counts = refl
live_left t held (Some user) counts = held_at-live t (with_user held user) counts

live_ended : (t : ℕ) (held : Held) (user : Option ℕ) → nat_lt t held.allocation.end ≡ false → option_and_then (held_at t) (option_map (with_user held) user) ≡ None
live_ended t held None ended = refl
live_ended t held (Some user) ended = held_at-ended t (with_user held user) ended

module _ (user : Allocation → Option ℕ) where
  live_of_users : (t : ℕ) (o : Option Held) → option_and_then (held_at t) (option_and_then (held_of_user user) o) ≡ option_and_then (held_of_user user) (option_and_then (held_at t) o)
  live_of_users t None = refl
  live_of_users t (Some held) = elim (cases_Bool (nat_lt t held.allocation.end)) [
    | inl counts ↦ live_left t held (user held.allocation) counts ∙ ap (option_and_then (held_of_user user)) (sym (held_at-live t held counts))
    | inr ended ↦ live_ended t held (user held.allocation) ended ∙ ap (option_and_then (held_of_user user)) (sym (held_at-ended t held ended))
  ]

  slots_of_users : (t : ℕ) (slots : List (Option Held)) → slots_at t (map (option_and_then (held_of_user user)) slots) ≡ map (option_and_then (held_of_user user)) (slots_at t slots)
  slots_of_users t [] = refl
  slots_of_users t (o ∷ slots) = λ i. live_of_users t o i ∷ slots_of_users t slots i

  pub live-users : (t : ℕ) (rows : Rows) → live_rows t (rows_for user rows) ≡ rows_for user (live_rows t rows)
  live-users t rows = λ i. record { moment = t; slots = slots_of_users t rows.slots i }

  -- ---- clients

  client_of_users : (o : Option Held) (held : Held) → option_and_then (held_of_user user) o ≡ Some held → client_in o ≡ Some held.allocation.client
  client_of_users None held is = absurd (none-some held is)
  client_of_users (Some old) held is = ap (λ (h : Held). Some h.allocation.client) (made_of (with_user old) (user old.allocation) held is).2

  pub stored-users : (t : ℕ) (slots : List (Option Held)) (clients : List Client) → AreStored t slots clients
      → AreStored t (map (option_and_then (held_of_user user)) slots) (filter (λ row. is_some (stored_at (map (option_and_then (held_of_user user)) slots) row.slot)) clients)
  stored-users t slots clients are = record {
    rows = users-well_formed user (record { moment = t; slots = slots }) are.rows;
    listed = left_are (option_and_then (held_of_user user)) refl client_of_users slots clients are.listed;
  }
