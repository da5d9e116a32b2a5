-- The clients of what is stored: looked up, and as slots are swept and filled.
use Rattle.std.proofs.Common.{◌≡◌, ◌≢◌, ℕ, zero, suc, ◌<◌, ◌≤◌, Bool, true, false, List, [], ◌∷◌, map, filter, find, length, get_or, set, nat_lt, Option, Some, None, is_some, option_and_then, All, Ordering, sym, refl, ap, ◌∙◌, subst, inl, inr, arith, is_eq, eqb}
use Rattle.std.specs.Option.{option_flatten}
use Rattle.std.proofs.lemmas.Bool.{eqb-true, ne_eqb, cases_Bool, cases_eq, cond-true, cond-false, both_ways, false_from_ne_true}
use Rattle.std.proofs.lemmas.Option.{none-some, same_Some}
use Rattle.std.proofs.lemmas.List.{map-set, length-map, length-set, get_or-map}
use Rattle.std.proofs.lemmas.List.Elements.{All-cons, All-tail, All-map, All-filter, All-contains, filter_passes}
use Rattle.std.proofs.lemmas.Map.Keys.{IsDistinct-from_apart}
use Rattle.std.proofs.lemmas.Map.Steps.{length-le_from_distinct_below}
use Rattle.std.proofs.lemmas.Map.Views.{Contains-from_any}
use Rattle.addresses.specs.declared.address.Addr.{Addr}
use Rattle.addresses.specs.declared.address.Addr.TheVariants.{V4}
use Rattle.addresses.specs.AddressOrder.{address_parts, order_by_parts, is_same_address}
use Rattle.addresses.specs.laws.AddressOrder.{parts_order-total}
use Rattle.tables.specs.LookUps.{is_of}
use Rattle.tables.specs.laws.Row.{held_at-live, held_at-ended, in_each, some_of, made_of}
use Rattle.tables.specs.Rows.{held_at, slots_at}
use Rattle.tables.specs.Search.{AreAscending, row_of, put_row}
use Rattle.tables.specs.Stored.{stored_at, client_in, left_at, AreClients}
use Rattle.tables.specs.laws.WellFormed.{get-set_same, get-set_other, inside}
use Rattle.tables.specs.declared.clients.Client.{Client}
use Rattle.tables.specs.WellFormed.{AreWellFormed}
use Rattle.tables.specs.declared.held.Held.{Held}
use Rattle.tables.specs.declared.moment.TheConstants.{LATEST}
use Rattle.tables.proofs.Ascending.{searchable, Ascending-distinct, Ascending-filter, Ascending-put_row, is_same-by_parts}
use Rattle.tables.proofs.Lists.{find-Some, find-None, find-each}
use Rattle.tables.proofs.Searches.{found_once, All-put_row, All-from_put_row}

abbrev pub key_in : Client → List ℕ × ℕ
key_in row = address_parts row.address

-- how a row compares with a client
abbrev pub by_client : Addr → Client → Ordering
by_client client row = order_by_parts row.address client

-- the clients whose slots hold something
abbrev pub with_slots_in : List Client → List (Option Held) → List Client
with_slots_in clients slots = filter (λ row. is_some (stored_at slots row.slot)) clients

-- what is read after the last row
abbrev pub blank : Client
blank = record { address = V4 [] 0; slot = 0 }

pub searchable_by_client : (client : Addr) (slots : List (Option Held)) (clients : List Client) → AreClients slots clients → AreAscending (by_client client) clients
searchable_by_client client slots clients are = searchable parts_order-total key_in clients (address_parts client) are.ascending

-- ---- a look-up

of_none : (t : ℕ) (client : Addr) (o : Option Held) → ((held : Held) → o ≡ Some held → is_same_address client held.allocation.client ≡ false) → is_of client (option_and_then (held_at t) o) ≡ false
of_none t client None h = refl
of_none t client (Some held) h = elim (cases_Bool (nat_lt t held.allocation.end)) [
  | inl c ↦ ap (is_of client) (held_at-live t held c) ∙ h held refl
  | inr e ↦ ap (is_of client) (held_at-ended t held e)
]

pub none_in : (t : ℕ) (client : Addr) (slots : List (Option Held)) → ((k : ℕ) (held : Held) → stored_at slots k ≡ Some held → is_same_address client held.allocation.client ≡ false)
    → find (is_of client) (slots_at t slots) ≡ None
none_in t client [] h = refl
none_in t client (o ∷ slots) h =
    cond-false (is_of client (option_and_then (held_at t) o)) _ _ (of_none t client o (λ held is. h zero held is))
    ∙ none_in t client slots (λ k held is. h (suc k) held is)

found_first : (t : ℕ) (client : Addr) (held : Held) (slots : List (Option Held)) → is_same_address client held.allocation.client ≡ true
    → ((k : ℕ) (other : Held) → stored_at slots k ≡ Some other → is_same_address client other.allocation.client ≡ false)
    → option_flatten (find (is_of client) (held_at t held ∷ slots_at t slots)) ≡ held_at t held
found_first t client held slots same others = elim (cases_Bool (nat_lt t held.allocation.end)) [
  | inl c ↦ ap option_flatten (cond-true (is_of client (held_at t held)) (Some (held_at t held)) (find (is_of client) (slots_at t slots)) (ap (is_of client) (held_at-live t held c) ∙ same))
  | inr e ↦ ap option_flatten (cond-false (is_of client (held_at t held)) (Some (held_at t held)) (find (is_of client) (slots_at t slots)) (ap (is_of client) (held_at-ended t held e)) ∙ none_in t client slots others)
      ∙ sym (held_at-ended t held e)
]

-- where a client has one slot alone
found_in : (t : ℕ) (client a : Addr) (slots : List (Option Held)) (s : ℕ) → client_in (stored_at slots s) ≡ Some a → is_same_address client a ≡ true
    → ((k : ℕ) (held : Held) → stored_at slots k ≡ Some held → is_same_address client held.allocation.client ≡ true → k ≡ s)
    → option_flatten (find (is_of client) (slots_at t slots)) ≡ option_and_then (held_at t) (stored_at slots s)
found_in t client a [] s at same only = absurd (none-some a at)
found_in t client a (None ∷ slots) zero at same only = absurd (none-some a at)
found_in t client a (Some held ∷ slots) zero at same only =
    found_first t client held slots (ap (is_same_address client) (same_Some _ _ at) ∙ same)
    (λ k other is. false_from_ne_true (is_same_address client other.allocation.client) (λ h. let one = only (suc k) other is h in omega (arith, one)))
found_in t client a (o ∷ slots) (suc s) at same only =
    ap option_flatten (cond-false (is_of client (option_and_then (held_at t) o)) _ _
    (of_none t client o (λ held is. false_from_ne_true (is_same_address client held.allocation.client) (λ h. let one = only zero held is h in omega (arith, one)))))
    ∙ found_in t client a slots s at same (λ k held is h. let one = only (suc k) held is h in omega (arith, one))

module _ (slots : List (Option Held)) (clients : List Client) (are : AreClients slots clients) (client : Addr) where
  row_held : (j k : ℕ) (d : Client) (held : Held) → j < length clients → stored_at slots k ≡ Some held → (get_or clients j d).slot ≡ k → (get_or clients j d).address ≡ held.allocation.client
  row_held j k d held l is at = same_Some _ _ (sym (are.held j d l) ∙ ap (λ n. client_in (stored_at slots n)) at ∙ ap client_in is)

  has_client : (j k : ℕ) (d : Client) (held : Held) → j < length clients → stored_at slots k ≡ Some held → (get_or clients j d).slot ≡ k → is_same_address client held.allocation.client ≡ true
      → is_eq (by_client client (get_or clients j d)) ≡ true
  has_client j k d held l is at same = is_same-by_parts client (get_or clients j d).address ∙ ap (is_same_address client) (row_held j k d held l is at) ∙ same

  not_listed : row_of (by_client client) clients ≡ None → (k : ℕ) (held : Held) → stored_at slots k ≡ Some held → is_same_address client held.allocation.client ≡ false
  not_listed none k held is = false_from_ne_true (is_same_address client held.allocation.client) (λ same. are.listed k held is (λ j d l at.
      both_ways (is_eq (by_client client (get_or clients j d))) (find-None (λ row. is_eq (by_client client row)) clients none j d l) (has_client j k d held l is at same)))

  only_row : (row : Client) → row_of (by_client client) clients ≡ Some row → (k : ℕ) (held : Held) → stored_at slots k ≡ Some held → is_same_address client held.allocation.client ≡ true → k ≡ row.slot
  only_row row there k held is same = elim (cases_eq k row.slot) [
    | inl e ↦ e
    | inr differ ↦ absurd (are.listed k held is (λ j d l at.
        let once = found_once (by_client client) clients (searchable_by_client client slots clients are) in
        let one = find-each (λ row. is_eq (by_client client row)) clients once j d l (has_client j k d held l is at same) in
        differ (sym at ∙ ap (λ (r : Client). r.slot) (same_Some _ _ (sym one ∙ there)))))
  ]

  -- what the slot of a client holds is what that of its row holds
  pub held_by-row_of : (t : ℕ) → option_flatten (find (is_of client) (slots_at t slots)) ≡ option_and_then (λ row. option_and_then (held_at t) (stored_at slots row.slot)) (row_of (by_client client) clients)
  held_by-row_of t =
      elim (row_of (by_client client) clients) as (λ r. row_of (by_client client) clients ≡ r → option_flatten (find (is_of client) (slots_at t slots)) ≡ option_and_then (λ row. option_and_then (held_at t) (stored_at slots row.slot)) r) [
        | None ↦ λ none. ap option_flatten (none_in t client slots (not_listed none))
        | Some row ↦ λ there.
            let r = find-Some (λ row. is_eq (by_client client row)) (λ row. client_in (stored_at slots row.slot) ≡ Some row.address) clients row are.held there in
            found_in t client row.address slots row.slot r.0 (sym (is_same-by_parts client row.address) ∙ r.1) (only_row row there)
      ] refl

-- ---- slots that are swept

left_some : (t : ℕ) (o : Option Held) (held : Held) → left_at t o ≡ Some held → (o ≡ Some held) × (nat_lt t held.allocation.end ≡ true)
left_some t None held is = absurd (none-some held is)
left_some t (Some h) held is = elim (cases_Bool (nat_lt t h.allocation.end)) [
  | inl c ↦ let same = sym (cond-true (nat_lt t h.allocation.end) (Some h) None c) ∙ is in (same, subst (λ (h : Held). nat_lt t h.allocation.end ≡ true) (same_Some _ _ same) c)
  | inr e ↦ absurd (none-some held (sym (cond-false (nat_lt t h.allocation.end) (Some h) None e) ∙ is))
]

pub stored_at-swept : (t : ℕ) (slots : List (Option Held)) (k : ℕ) → stored_at (map (left_at t) slots) k ≡ left_at t (stored_at slots k)
stored_at-swept t slots k = in_each (left_at t) refl slots k

left_again : (t : ℕ) (o : Option Held) → option_and_then (held_at t) (left_at t o) ≡ option_and_then (held_at t) o
left_again t None = refl
left_again t (Some held) = elim (cases_Bool (nat_lt t held.allocation.end)) [
  | inl c ↦ ap (option_and_then (held_at t)) (cond-true (nat_lt t held.allocation.end) (Some held) None c)
  | inr e ↦ ap (option_and_then (held_at t)) (cond-false (nat_lt t held.allocation.end) (Some held) None e) ∙ sym (held_at-ended t held e)
]

-- the live rows are those that counted
pub slots_at-swept : (t : ℕ) (slots : List (Option Held)) → slots_at t (map (left_at t) slots) ≡ slots_at t slots
slots_at-swept t [] = refl
slots_at-swept t (o ∷ slots) = λ i. left_again t o i ∷ slots_at-swept t slots i

left_none : (t : ℕ) (o : Option Held) → option_and_then (held_at t) o ≡ None → left_at t o ≡ None
left_none t None is = refl
left_none t (Some held) is = elim (cases_Bool (nat_lt t held.allocation.end)) [
  | inl c ↦ absurd (none-some _ (sym is ∙ held_at-live t held c))
  | inr e ↦ cond-false (nat_lt t held.allocation.end) (Some held) None e
]

-- a slot that holds nothing that counts is empty afterwards
pub empty-swept : (t : ℕ) (slots : List (Option Held)) (k : ℕ) → option_and_then (held_at t) (stored_at slots k) ≡ None → stored_at (map (left_at t) slots) k ≡ None
empty-swept t slots k is = stored_at-swept t slots k ∙ left_none t (stored_at slots k) is

-- ---- clients that are kept

module _ {X : Type 0} (p : X → Bool) (P Q : X → Type 0) where
  All-kept : ((x : X) → P x → p x ≡ true → Q x) → (xs : List X) → All P xs → All Q (filter p xs)
  All-kept h xs all = λ k d l. h (get_or (filter p xs) k d) (All-filter p P xs all k d l) (filter_passes p xs k d l)

  All-unkept : ((x : X) → P x → p x ≡ false → Q x) → (xs : List X) → All P xs → All Q (filter p xs) → All Q xs
  All-unkept h [] all kept = λ k d l. absurd (omega (arith, l))
  All-unkept h (x ∷ xs) all kept = elim (cases_Bool (p x)) [
    | inl t ↦
        let rest : All Q (x ∷ filter p xs) = subst (All Q) (cond-true (p x) (x ∷ filter p xs) (filter p xs) t) kept in
        All-cons Q x xs (rest zero x (omega arith)) (All-unkept h xs (All-tail P x xs all) (All-tail Q x (filter p xs) rest))
    | inr f ↦ All-cons Q x xs (h x (all zero x (omega arith)) f) (All-unkept h xs (All-tail P x xs all) (subst (All Q) (cond-false (p x) (x ∷ filter p xs) (filter p xs) f) kept))
  ]

abbrev client_of : Held → Addr
client_of held = held.allocation.client

-- where each slot that something is left of keeps its client
module _ (left : Option Held → Option Held) (none : left None ≡ None) (keeps : (o : Option Held) (held : Held) → left o ≡ Some held → client_in o ≡ Some held.allocation.client) (slots : List (Option Held))
    (clients : List Client) (are : AreClients slots clients) where
  abbrev is_left : Client → Bool
  is_left row = is_some (stored_at (map left slots) row.slot)

  client_kept : (k : ℕ) (held : Held) → stored_at (map left slots) k ≡ Some held → client_in (stored_at slots k) ≡ Some held.allocation.client
  client_kept k held is = keeps (stored_at slots k) held (sym (in_each left none slots k) ∙ is)

  still : (row : Client) → client_in (stored_at slots row.slot) ≡ Some row.address → is_left row ≡ true → client_in (stored_at (map left slots) row.slot) ≡ Some row.address
  still row before has =
      let now = some_of (stored_at (map left slots) row.slot) has in
      ap client_in now.1 ∙ sym (client_kept row.slot now.0 now.1) ∙ before

  pub left_are : AreClients (map left slots) (filter (λ row. is_some (stored_at (map left slots) row.slot)) clients)
  left_are = record {
    ascending = Ascending-filter parts_order-total key_in is_left clients are.ascending;
    held = All-kept is_left (λ row. client_in (stored_at slots row.slot) ≡ Some row.address) (λ row. client_in (stored_at (map left slots) row.slot) ≡ Some row.address) still clients are.held;
    listed = λ slot held there unlisted.
        let before = made_of client_of (stored_at slots slot) held.allocation.client (client_kept slot held there) in
        are.listed slot before.0 before.1 (All-unkept is_left (λ row. client_in (stored_at slots row.slot) ≡ Some row.address) (λ row. row.slot ≢ slot)
        (λ row _ ended at. both_ways (is_left row) ended (ap (λ n. is_some (stored_at (map left slots) n)) at ∙ ap is_some there)) clients are.held unlisted);
  }

module _ (t : ℕ) (slots : List (Option Held)) (clients : List Client) (are : AreClients slots clients) where
  abbrev has_slot : Client → Bool
  has_slot row = is_some (stored_at (map (left_at t) slots) row.slot)

  pub swept_are : AreClients (map (left_at t) slots) (filter (λ row. is_some (stored_at (map (left_at t) slots) row.slot)) clients)
  swept_are = left_are (left_at t) refl (λ o held is. ap client_in (left_some t o held is).0) slots clients are

  -- a client whose allocation does not count has no row
  pub no_row : (client : Addr) → option_flatten (find (is_of client) (slots_at t slots)) ≡ None → row_of (by_client client) (filter (λ row. is_some (stored_at (map (left_at t) slots) row.slot)) clients) ≡ None
  no_row client none =
      let rows : List Client = filter has_slot clients in
      let new_slots : List (Option Held) = map (left_at t) slots in
      elim (row_of (by_client client) rows) as (λ r. row_of (by_client client) rows ≡ r → r ≡ None) [
        | None ↦ λ _. refl
        | Some row ↦ λ is.
            let nothing = sym (ap (option_and_then (λ row. option_and_then (held_at t) (stored_at new_slots row.slot))) is) ∙ sym (held_by-row_of new_slots rows swept_are client t)
            ∙ ap (λ s. option_flatten (find (is_of client) s)) (slots_at-swept t slots) ∙ none in
            let there = (find-Some (λ row. is_eq (by_client client row)) (λ row. client_in (stored_at new_slots row.slot) ≡ Some row.address) rows row swept_are.held is).0 in
            let empty = stored_at-swept t slots row.slot ∙ left_none t (stored_at slots row.slot) (sym (left_again t (stored_at slots row.slot)) ∙ ap (option_and_then (held_at t)) (sym (stored_at-swept t slots row.slot)) ∙ nothing) in
            absurd (none-some row.address (sym (ap client_in empty) ∙ there))
      ] refl

-- ---- there are no more clients than slots

module _ (slots : List (Option Held)) (clients : List Client) (are : AreClients slots clients) where
  abbrev numbers : List ℕ
  numbers = map (λ (row : Client). row.slot) clients

  -- two clients have two slots
  slots_differ : (i j : ℕ) (d : Client) → i < j → j < length clients → (get_or clients i d).slot ≢ (get_or clients j d).slot
  slots_differ i j d p l s =
      let same : (get_or clients i d).address ≡ (get_or clients j d).address = same_Some _ _ (sym (are.held i d (omega (arith, p, l))) ∙ ap (λ n. client_in (stored_at slots n)) s ∙ are.held j d l) in
      Ascending-distinct parts_order-total key_in clients are.ascending i j d p l (ap address_parts same)

  pub few_clients : length clients ≤ length slots
  few_clients =
      let each : All (λ (row : Client). row.slot < length slots) clients = λ i d l.
      let held = made_of client_of (stored_at slots (get_or clients i d).slot) (get_or clients i d).address (are.held i d l) in
      inside slots (get_or clients i d).slot held.0 held.1 in
      let below : All (λ n. n < length slots) numbers = All-map (λ n. n < length slots) (λ (row : Client). row.slot) clients each in
      let long : length numbers ≡ length clients = length-map clients (λ (row : Client). row.slot) in
      let number : (i d : ℕ) → i < length clients → get_or numbers i d ≡ (get_or clients i blank).slot = λ i d l. get_or-map (λ (row : Client). row.slot) clients i blank d l in
      let apart : (i j d : ℕ) → i < j → j < length numbers → eqb (get_or numbers i d) (get_or numbers j d) ≡ false = λ i j d p l.
      let within : j < length clients = omega (arith, l, long) in
      ne_eqb _ _ (λ s. slots_differ i j blank p within (sym (number i d (omega (arith, p, within))) ∙ s ∙ number j d within)) in
      let few : length numbers ≤ length slots = length-le_from_distinct_below numbers (length slots) (IsDistinct-from_apart eqb numbers apart) (λ q any. All-contains (λ n. n < length slots) numbers q below (Contains-from_any eqb-true q numbers any)) in
      omega (arith, few, long)

-- ---- slots that are filled

-- a slot keeps its client
pub held_again : (slots : List (Option Held)) (clients : List Client) (slot : ℕ) (held : Held) → AreClients slots clients → slot < length slots → client_in (stored_at slots slot) ≡ Some held.allocation.client
    → AreClients (set slots slot (Some held)) clients
held_again slots clients slot held are within same =
    let new_slots : List (Option Held) = set slots slot (Some held) in
    let here : stored_at new_slots slot ≡ Some held = get-set_same slots slot (Some held) within in
    let there : (k : ℕ) → k ≢ slot → stored_at new_slots k ≡ stored_at slots k = λ k differ. ap option_flatten (get-set_other slots slot k (Some held) differ) in
    record {
      ascending = are.ascending;
      held = λ i d l. elim (cases_eq (get_or clients i d).slot slot) [
        | inl e ↦ ap (λ n. client_in (stored_at new_slots n)) e ∙ ap client_in here ∙ sym same ∙ ap (λ n. client_in (stored_at slots n)) (sym e) ∙ are.held i d l
        | inr differ ↦ ap client_in (there (get_or clients i d).slot differ) ∙ are.held i d l
      ];
      listed = λ k other is none. elim (cases_eq k slot) [
        | inl e ↦
            let before = made_of client_of (stored_at slots slot) held.allocation.client same in
            are.listed slot before.0 before.1 (λ j d l at. none j d l (at ∙ sym e))
        | inr differ ↦ are.listed k other (sym (there k differ) ∙ is) none
      ];
    }

module _ (slots : List (Option Held)) (clients : List Client) (are : AreClients slots clients) (slot : ℕ) (held : Held) (within : slot < length slots) (free : stored_at slots slot ≡ None) where
  abbrev pub new_row : Client
  new_row = record { address = held.allocation.client; slot = slot }

  pub elsewhere : All (λ row. row.slot ≢ slot) clients
  elsewhere = λ i d l at. none-some (get_or clients i d).address (sym (ap client_in (ap (stored_at slots) at ∙ free)) ∙ are.held i d l)

  pub admitted_are : row_of (by_client held.allocation.client) clients ≡ None → AreClients (set slots slot (Some held)) (put_row (by_client held.allocation.client) new_row clients)
  admitted_are new =
      let new_slots : List (Option Held) = set slots slot (Some held) in
      let order = by_client held.allocation.client in
      let here : stored_at new_slots slot ≡ Some held = get-set_same slots slot (Some held) within in
      let there : (k : ℕ) → k ≢ slot → stored_at new_slots k ≡ stored_at slots k = λ k differ. ap option_flatten (get-set_other slots slot k (Some held) differ) in
      record {
        ascending = Ascending-put_row parts_order-total key_in new_row clients are.ascending;
        held = All-put_row order (λ row. client_in (stored_at new_slots row.slot) ≡ Some row.address) new_row clients (ap client_in here)
            (λ j d l. ap client_in (there (get_or clients j d).slot (elsewhere j d l)) ∙ are.held j d l);
        listed = λ k other is all.
            let each = All-from_put_row order (λ row. row.slot ≢ k) new_row clients all in
            elim (cases_eq k slot) [
              | inl e ↦ each.0 (sym e)
              | inr differ ↦ are.listed k other (sym (there k differ) ∙ is) (each.1 (find-None (λ row. is_eq (order row)) clients new))
            ];
      }

-- ---- a new client, once slots are swept

module _ (t : ℕ) (slots : List (Option Held)) (clients : List Client) (are : AreClients slots clients) (slot : ℕ) (held : Held) (within : slot < length slots)
    (free : option_and_then (held_at t) (stored_at slots slot) ≡ None) where
  abbrev pub swept : List (Option Held)
  swept = map (left_at t) slots

  abbrev pub kept : List Client
  kept = filter (λ row. is_some (stored_at (map (left_at t) slots) row.slot)) clients

  pub are-admitted : option_flatten (find (is_of held.allocation.client) (slots_at t slots)) ≡ None
      → AreClients (set swept slot (Some held)) (put_row (by_client held.allocation.client) (record { address = held.allocation.client; slot = slot }) kept)
  are-admitted none =
      admitted_are swept kept (swept_are t slots clients are) slot held (omega (arith, within, length-map slots (left_at t))) (empty-swept t slots slot free) (no_row t slots clients are held.allocation.client none)

  -- there is room for the client
  pub few-admitted : option_flatten (find (is_of held.allocation.client) (slots_at t slots)) ≡ None
      → length (put_row (by_client held.allocation.client) (record { address = held.allocation.client; slot = slot }) kept) ≤ length slots
  few-admitted none = omega (arith, few_clients _ _ (are-admitted none), length-set swept slot (Some held), length-map slots (left_at t))

  pub slots_at-admitted : slots_at t (set swept slot (Some held)) ≡ set (slots_at t slots) slot (held_at t held)
  slots_at-admitted = map-set (option_and_then (held_at t)) swept slot (Some held) ∙ ap (λ s. set s slot (held_at t held)) (slots_at-swept t slots)

-- ---- swept slots are well formed

pub swept-well_formed : (m t : ℕ) (slots : List (Option Held)) → t ≤ LATEST → AreWellFormed (record { moment = m; slots = slots }) → AreWellFormed (record { moment = t; slots = map (left_at t) slots })
swept-well_formed m t slots latest are = record {
  latest = latest;
  few = omega (arith, are.few, length-map slots (left_at t));
  held = λ slot held there. are.held slot held (left_some t (stored_at slots slot) held (sym (stored_at-swept t slots slot) ∙ there)).0;
}
