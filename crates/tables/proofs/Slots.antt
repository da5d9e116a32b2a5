-- The slots as they are stored, and the live rows.
use Rattle.std.proofs.Common.{◌≡◌, ℕ, zero, suc, ◌<◌, ◌≤◌, true, false, List, [], ◌∷◌, map, length, get_or, set, find, replicate, slice_get, nat_lt, Option, Some, None, is_none, option_and_then, sym, refl, ap, subst, ◌∙◌, arith}
use Rattle.std.specs.Iterator.{AlwaysYields}
use Rattle.std.specs.List.{range_with_len}
use Rattle.std.specs.Option.{option_flatten}
use Rattle.std.specs.declared.ops.Range.{Range}
use Rattle.std.proofs.iter.Yields.{nat_range_steps}
use Rattle.std.proofs.lemmas.Bool.{ltb-true, both_ways}
use Rattle.std.proofs.lemmas.Iterator.{YieldsList, YieldsList-from_range}
use Rattle.std.proofs.lemmas.List.{map-set, length-map}
use Rattle.std.proofs.lemmas.List.FromFn.{fill_by_all}
use Rattle.std.proofs.lemmas.List.Quantifiers.{position-Some}
use Rattle.std.proofs.lemmas.Option.{slice_get-get_or, slice_get_read}
use Rattle.addresses.specs.declared.address.Addr.{Addr}
use Rattle.tables.specs.Rows.{Rows, held_at, slots_at, live_rows}
use Rattle.tables.specs.LookUps.{held_in, held_by, is_of}
use Rattle.tables.specs.Changes.{with_held, first_free}
use Rattle.tables.specs.laws.Row.{live_again, held_in-live}
use Rattle.tables.specs.declared.held.Held.{Held}

get_flat : (slots : List (Option Held)) (i : ℕ) (d : Option Held) → i < length slots → option_flatten (slice_get slots i) ≡ get_or slots i d
get_flat slots i d l = ap option_flatten (slice_get-get_or slots i d l)

-- what a range gives, read by `f`
reads_each : {X : Type 0} (f : ℕ → X) (ks : List ℕ) (s : Range ℕ) → AlwaysYields nat_range_steps (λ k. k) s ks → AlwaysYields nat_range_steps f s (map f ks)
reads_each f [] s yields = yields
reads_each f (k ∷ ks) s yields = (yields.0, λ x j step. let more = yields.1 x j step in (ap f more.0, reads_each f ks j more.1))

-- `now` is the rows of what is stored
abbrev pub ShowsStored : ℕ → List (Option Held) → Rows → Type 0
ShowsStored moment slots now = live_rows moment (record { moment = moment; slots = slots }) ≡ now

module _ (last : ℕ) (slots : List (Option Held)) (now : Rows) (shows : ShowsStored last slots now) (t : ℕ) (later : now.moment ≤ t) where
  pub live-stored : live_rows t now ≡ record { moment = t; slots = slots_at t slots }
  live-stored =
      let since : last ≤ t = omega (arith, ap (λ (r : Rows). r.moment) shows, later) in
      ap (live_rows t) (sym shows) ∙ live_again last t (record { moment = last; slots = slots }) since

  pub held_in-stored : (slot : ℕ) → held_in (live_rows t now) slot ≡ option_and_then (held_at t) (option_flatten (slice_get slots slot))
  held_in-stored slot = ap (λ (r : Rows). held_in r slot) live-stored ∙ held_in-live t slot (record { moment = t; slots = slots })

  pub with_held-stored : (slot : ℕ) (held : Held) → live_rows t (record { moment = t; slots = set slots slot (Some held) }) ≡ with_held (live_rows t now) slot held
  with_held-stored slot held =
      (λ i. record { moment = t; slots = map-set (option_and_then (held_at t)) slots slot (Some held) i })
      ∙ ap (λ (r : Rows). with_held r slot held) (sym live-stored)

  pub held_by-stored : (client : Addr) → held_by client (live_rows t now) ≡ option_flatten (find (is_of client) (slots_at t slots))
  held_by-stored client = ap (held_by client) live-stored

  -- the numbers of the slots read what each holds
  pub slots_read : {s : Range ℕ} (n : ℕ) → s ≡ record { start = 0; end = n } → n ≡ length slots → YieldsList nat_range_steps (held_in (live_rows t now)) s (live_rows t now).slots
  slots_read {s} n is long =
      let f = held_in (live_rows t now) in
      let rows = (live_rows t now).slots in
      let same : length rows ≡ n = ap (λ (r : Rows). length r.slots) live-stored ∙ length-map slots (option_and_then (held_at t)) ∙ sym long in
      let each = fill_by_all f rows n None same (λ k lt. sym (get_flat rows k None (omega (arith, lt, same)))) in
      record { runs = subst (AlwaysYields nat_range_steps f s) (sym each) (reads_each f (range_with_len 0 n) s (YieldsList-from_range 0 n n is (omega arith)).runs) }

-- ---- a slot

-- what `get` gives
pub slot_shown : (shown slots : List (Option Held)) (i : ℕ) (slot : Option Held) → shown ≡ slots → true ≡ nat_lt i (length shown) → slot ≡ get_or shown i slot → slice_get slots i ≡ Some slot
slot_shown shown slots i slot same within at = ap (λ s. slice_get s i) (sym same) ∙ slice_get_read shown (length shown) i slot refl (ltb-true i (length shown) (sym within)) at

-- ---- a free slot

none_is : (o : Option Held) → is_none o ≡ true → o ≡ None
none_is None h = refl
none_is (Some held) h = absurd (both_ways false refl h)

-- the lowest free slot holds nothing
pub free_slot : (rows : Rows) (slot : ℕ) → first_free rows ≡ Some slot → held_in rows slot ≡ None
free_slot rows slot is =
    let r = position-Some is_none rows.slots slot None is in
    get_flat rows.slots slot None r.0 ∙ none_is (get_or rows.slots slot None) r.1

-- ---- no rows

pub slots_at-none : (t n : ℕ) → slots_at t (replicate n None) ≡ replicate n None
slots_at-none t zero = refl
slots_at-none t (suc n) = λ i. None ∷ slots_at-none t n i
