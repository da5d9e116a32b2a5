-- Interface. The rows of one client, and those of all others: which of them are live, and what a look-up for the client finds.
use Rattle.std.specs.Prelude.{◌≡◌, ℕ, zero, suc, ◌≤◌, Bool, true, false, cond, nat_lt, List, [], ◌∷◌, map, find, slice_get, slice_set, Option, None, Some, is_none, refl, if◌then◌else◌}
use Rattle.std.specs.Option.{option_map, option_and_then, option_flatten}
use Rattle.std.proofs.Common.{sym, ap, subst, ◌∙◌, get_or, arith}
use Rattle.std.proofs.lemmas.Bool.{both_ways}
use Rattle.std.proofs.lemmas.List.{map-set}
use Rattle.std.proofs.lemmas.List.Quantifiers.{position-Some}
use Rattle.std.proofs.lemmas.Option.{none-some, same_Some, slice_get-get_or}
use Rattle.addresses.specs.AddressOrder.{is_same_address}
use Rattle.addresses.specs.declared.address.Addr.{Addr}
use Rattle.events.specs.declared.meta.Source.TheVariants.{Client}
use Rattle.tables.specs.Changes.{first_free, with_held}
use Rattle.tables.specs.LookUps.{allocation_of, held_by, held_in, is_of}
use Rattle.tables.specs.Moments.{moment_of}
use Rattle.tables.specs.Rows.{Rows, held_at, live_rows, rows_at, slots_at}
use Rattle.tables.specs.WellFormed.{AreWellFormed}
use Rattle.tables.specs.declared.allocation.Allocation.{Allocation}
use Rattle.tables.specs.declared.held.Held.{Held}
use Rattle.tables.specs.laws.Row.{live_again, live_held}
use Rattle.tables.specs.laws.WellFormed.{held_by-at_slot}
use Rattle.rules.specs.Isolation.{LookAlike, of_client, of_other}

-- ---- some rows of a table, each at its slot

abbrev pub only : (Option Held → Option Held) → Rows → Rows
only f rows = record rows { slots = map f rows.slots }

-- what is chosen of what a slot holds is live when that is
abbrev pub IsChosenLive : (Option Held → Option Held) → Type 0
IsChosenLive f = (t : ℕ) (o : Option Held) → f (option_and_then (held_at t) o) ≡ option_and_then (held_at t) (f o)

abbrev nothing : Option Held
nothing = None

neither : (b : Bool) → cond b nothing nothing ≡ None
neither true = refl
neither false = refl

module _ (t : ℕ) (held : Held) where
  abbrev left : Bool → Option Held
  left live = if live then Some (live_held t held) else None

  chosen_if : (b : Bool) → option_and_then (held_at t) (if b then Some held else None) ≡ (if b then held_at t held else None)
  chosen_if true = refl
  chosen_if false = refl

  chosen_unless : (b : Bool) → option_and_then (held_at t) (if b then None else Some held) ≡ (if b then None else held_at t held)
  chosen_unless true = refl
  chosen_unless false = refl

  own_left : (client : Addr) (live : Bool) → of_client client (left live) ≡ (if is_same_address client held.allocation.client then left live else None)
  own_left client true = refl
  own_left client false = sym (neither (is_same_address client held.allocation.client))

  others_left : (client : Addr) (live : Bool) → of_other client (left live) ≡ (if is_same_address client held.allocation.client then None else left live)
  others_left client true = refl
  others_left client false = sym (neither (is_same_address client held.allocation.client))

pub own_live : (client : Addr) → IsChosenLive (of_client client)
own_live client t None = refl
own_live client t (Some held) = own_left t held client (nat_lt t held.allocation.end) ∙ sym (chosen_if t held (is_same_address client held.allocation.client))

pub others_live : (client : Addr) → IsChosenLive (of_other client)
others_live client t None = refl
others_live client t (Some held) = others_left t held client (nat_lt t held.allocation.end) ∙ sym (chosen_unless t held (is_same_address client held.allocation.client))

-- ---- the live rows

chosen_slots : (f : Option Held → Option Held) → IsChosenLive f → (t : ℕ) (slots : List (Option Held)) → map f (slots_at t slots) ≡ slots_at t (map f slots)
chosen_slots f each t [] = refl
chosen_slots f each t (o ∷ slots) = λ i. each t o i ∷ chosen_slots f each t slots i

-- some of the live rows are what is live of these rows
pub only-at : (f : Option Held → Option Held) → IsChosenLive f → (now : ℕ) (rows : Rows) → only f (rows_at now rows) ≡ rows_at now (only f rows)
only-at f each now rows = λ i. record { moment = moment_of rows.moment now; slots = chosen_slots f each (moment_of rows.moment now) rows.slots i }

moment_again : (greatest t : ℕ) → moment_of (moment_of greatest t) t ≡ moment_of greatest t
moment_again greatest t = omega arith

-- what is live is so still at the same moment
pub rows_at-again : (now : ℕ) (rows : Rows) → rows_at now (rows_at now rows) ≡ rows_at now rows
rows_at-again now rows =
    let m = moment_of rows.moment now in
    let le : m ≤ m = omega arith in
    ap (λ n. live_rows n (live_rows m rows)) (moment_again rows.moment now) ∙ live_again m m rows le

-- where some rows are the same before and after a change of the live rows, they are so among what is live then
pub only-changed : (f : Option Held → Option Held) → IsChosenLive f → (now : ℕ) (a b : Rows) → only f a ≡ only f b → only f (rows_at now a) ≡ only f (rows_at now b)
only-changed f each now a b same = only-at f each now a ∙ ap (rows_at now) same ∙ sym (only-at f each now b)

-- ---- a slot that holds something else

module _ (client : Addr) where
  others_set : (slots : List (Option Held)) (slot : ℕ) (o : Option Held) → of_other client (option_flatten (slice_get slots slot)) ≡ None → of_other client o ≡ None
      → map (of_other client) (slice_set slots slot o) ≡ map (of_other client) slots
  others_set [] slot o was is = refl
  others_set (x ∷ slots) zero o was is = λ i. (is ∙ sym was) i ∷ map (of_other client) slots
  others_set (x ∷ slots) (suc slot) o was is = λ i. of_other client x ∷ others_set slots slot o was is i

  no_other : (b : Bool) (held : Held) → b ≡ true → (if b then None else Some held) ≡ None
  no_other true held t = refl
  no_other false held t = absurd (both_ways false refl t)

  pub own_no_other : (held : Held) → is_same_address client held.allocation.client ≡ true → of_other client (Some held) ≡ None
  own_no_other held same = no_other (is_same_address client held.allocation.client) held same

  left_no_other : (t : ℕ) (held : Held) → is_same_address client held.allocation.client ≡ true → (live : Bool) → of_other client (left t held live) ≡ None
  left_no_other t held same true = own_no_other (live_held t held) same
  left_no_other t held same false = refl

  -- no other's row changes where a slot of the client's, or one that holds nothing, holds something of the client's
  pub others-with_held : (rows : Rows) (slot : ℕ) (held : Held) → of_other client (held_in rows slot) ≡ None → is_same_address client held.allocation.client ≡ true
      → only (of_other client) (with_held rows slot held) ≡ only (of_other client) rows
  others-with_held rows slot held was same =
      λ i. record rows { slots = others_set rows.slots slot (held_at rows.moment held) was (left_no_other rows.moment held same (nat_lt rows.moment held.allocation.end)) i }

  -- the client's own rows are the same afterwards, if they were
  pub own-with_held : (a b : Rows) (slot : ℕ) (held : Held) → only (of_client client) a ≡ only (of_client client) b
      → only (of_client client) (with_held a slot held) ≡ only (of_client client) (with_held b slot held)
  own-with_held a b slot held same = set_in a ∙ ap (λ (rows : Rows). record rows { slots = slice_set rows.slots slot (of_client client (held_at rows.moment held)) }) same ∙ sym (set_in b) where
    set_in : (rows : Rows) → only (of_client client) (with_held rows slot held) ≡ record rows { slots = slice_set (map (of_client client) rows.slots) slot (of_client client (held_at rows.moment held)) }
    set_in rows = λ i. record rows { slots = map-set (of_client client) rows.slots slot (held_at rows.moment held) i }

none_is : (o : Option Held) → is_none o ≡ true → o ≡ None
none_is None h = refl
none_is (Some held) h = absurd (both_ways false refl h)

-- the slot that is free next holds nothing
pub first_free-nothing : (rows : Rows) (slot : ℕ) → first_free rows ≡ Some slot → held_in rows slot ≡ None
first_free-nothing rows slot is =
    let r = position-Some is_none rows.slots slot None is in
    ap option_flatten (slice_get-get_or rows.slots slot None r.0) ∙ none_is (get_or rows.slots slot None) r.1

-- ---- look-ups for the client

module _ (client : Addr) where
  abbrev found : List (Option Held) → Option Held
  found slots = option_flatten (find (is_of client) slots)

  found_first : (held : Held) (slots : List (Option Held)) (b : Bool) → is_same_address client held.allocation.client ≡ b → found (map (of_client client) slots) ≡ found slots
      → option_flatten (cond (is_of client (if b then Some held else None)) (Some (if b then Some held else None)) (find (is_of client) (map (of_client client) slots)))
      ≡ option_flatten (cond b (Some (Some held)) (find (is_of client) slots))
  found_first held slots true same later = ap (λ b. option_flatten (cond b (Some (Some held)) (find (is_of client) (map (of_client client) slots)))) same
  found_first held slots false same later = later

  found_own : (slots : List (Option Held)) → found (map (of_client client) slots) ≡ found slots
  found_own [] = refl
  found_own (None ∷ slots) = found_own slots
  found_own (Some held ∷ slots) = found_first held slots (is_same_address client held.allocation.client) refl (found_own slots)

  first_is : (first held : Held) (slots : List (Option Held)) (b : Bool) → is_same_address client first.allocation.client ≡ b
      → (found slots ≡ Some held → is_same_address client held.allocation.client ≡ true)
      → option_flatten (cond b (Some (Some first)) (find (is_of client) slots)) ≡ Some held → is_same_address client held.allocation.client ≡ true
  first_is first held slots true same later there = subst (λ (h : Held). is_same_address client h.allocation.client ≡ true) (same_Some first held there) same
  first_is first held slots false same later there = later there

  found_is : (slots : List (Option Held)) (held : Held) → found slots ≡ Some held → is_same_address client held.allocation.client ≡ true
  found_is [] held there = absurd (none-some held there)
  found_is (None ∷ slots) held there = found_is slots held there
  found_is (Some first ∷ slots) held there = first_is first held slots (is_same_address client first.allocation.client) refl (found_is slots held) there

-- both tables hold the same of a client at a slot
pub record HoldsOwn (client : Addr) (slot : ℕ) (a b : Rows) : Type 0 where
  pub held : Held
  pub same : is_same_address client held.allocation.client ≡ true
  pub in_a : held_in a slot ≡ Some held
  pub in_b : held_in b slot ≡ Some held

module _ (client : Addr) (a b : Rows) where
  pub held_by-alike : {quota : Option ℕ} → LookAlike quota (Client client) a b → held_by client a ≡ held_by client b
  held_by-alike alike = sym (found_own client a.slots) ∙ ap (found client) alike.own ∙ found_own client b.slots

  pub allocation_of-alike : {quota : Option ℕ} → LookAlike quota (Client client) a b → allocation_of client a ≡ allocation_of client b
  allocation_of-alike alike = ap (option_map (λ held. held.allocation)) (held_by-alike alike)

  -- at the slot of the client's allocation
  pub own_slot : {quota : Option ℕ} → AreWellFormed a → AreWellFormed b → LookAlike quota (Client client) a b → (own : Allocation) → allocation_of client a ≡ Some own → HoldsOwn client own.slot a b
  own_slot are_a are_b alike own = of (held_by client a) refl where
    of : (o : Option Held) → held_by client a ≡ o → option_map (λ held. held.allocation) o ≡ Some own → HoldsOwn client own.slot a b
    of None is there = absurd (none-some own there)
    of (Some held) is there =
        let at : held.allocation.slot ≡ own.slot = ap (λ (x : Allocation). x.slot) (same_Some held.allocation own there) in
        record {
          held = held;
          same = found_is client a.slots held is;
          in_a = ap (held_in a) (sym at) ∙ held_by-at_slot client a held are_a is;
          in_b = ap (held_in b) (sym at) ∙ held_by-at_slot client b held are_b (sym (held_by-alike alike) ∙ is);
        }

  -- the client's own rows, as tables
  pub own-alike : {quota : Option ℕ} → LookAlike quota (Client client) a b → only (of_client client) a ≡ only (of_client client) b
  own-alike alike = λ i. record { moment = alike.moment i; slots = alike.own i }
