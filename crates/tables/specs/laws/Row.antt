-- Interface. Laws of the live rows.
use Rattle.std.specs.Prelude.{◌≡◌, ℕ, zero, suc, ◌≤◌, Bool, true, false, cond, nat_lt, List, [], ◌∷◌, map, slice_get, Option, None, Some, is_some, refl}
use Rattle.std.specs.Option.{option_map, option_and_then, option_flatten}
use Rattle.std.specs.Cmp.{nat_cmp_total}
use Rattle.std.specs.FinMap.{get, nat_cmp-IsAntisymmetric}
use Rattle.std.proofs.Common.{sym, ap, ◌∙◌, inl, inr, arith}
use Rattle.std.proofs.lemmas.Bool.{cases_Bool, cond-true, cond-false, both_ways, ltb-true, lt-ltb}
use Rattle.std.proofs.lemmas.Option.{none-some, same_Some}
use Rattle.addresses.specs.Addresses.{ip_of}
use Rattle.addresses.specs.laws.AddressOrder.{ip_total, ip_antisymmetric}
use Rattle.addresses.specs.declared.address.Addr.{Addr}
use Rattle.tables.specs.Moments.{is_live_at}
use Rattle.tables.specs.Permissions.{PermissionMap, permissions_at}
use Rattle.tables.specs.Channels.{ChannelMap, channels_at}
use Rattle.tables.specs.Rows.{Rows, held_at, slots_at, live_rows}
use Rattle.tables.specs.LookUps.{held_in, allocation_at, peer_of, has_permission}
use Rattle.tables.specs.laws.Retained.{get-kept_of, kept_before, kept_of_again}
use Rattle.tables.specs.declared.allocation.Allocation.{Allocation}
use Rattle.tables.specs.declared.channels.Binding.{Binding}
use Rattle.tables.specs.declared.held.Held.{Held}

-- what has not ended at a moment had not ended before
pub live_before : (t u end : ℕ) → t ≤ u → nat_lt u end ≡ true → nat_lt t end ≡ true
live_before t u end le h = lt-ltb t end (omega (arith, ltb-true u end h, le))

pub ended_after : (t u end : ℕ) → t ≤ u → nat_lt t end ≡ false → nat_lt u end ≡ false
ended_after t u end le e = elim (cases_Bool (nat_lt u end)) [ inl h ↦ absurd (both_ways (nat_lt t end) e (live_before t u end le h)) | inr f ↦ f ]

-- whether a binding is live
abbrev pub is_live_binding : ℕ → Option Binding → Bool
is_live_binding t b = is_live_at t (option_map (λ b. b.end) b)

pub permissions_again : (t u : ℕ) (m : PermissionMap) → t ≤ u → permissions_at u (permissions_at t m) ≡ permissions_at u m
permissions_again t u m le = kept_of_again (is_live_at t) (is_live_at u) (λ end h. live_before t u end le h) ip_total ip_antisymmetric m

pub channels_again : (t u : ℕ) (c : ChannelMap) → t ≤ u → channels_at u (channels_at t c) ≡ channels_at u c
channels_again t u c le = kept_of_again (is_live_binding t) (is_live_binding u) (λ b h. live_before t u b.end le h) nat_cmp_total nat_cmp-IsAntisymmetric c

-- ---- what a slot holds

-- what is left of what a slot holds
abbrev pub live_held : ℕ → Held → Held
live_held t held = record held { permissions = permissions_at t held.permissions; channels = channels_at t held.channels }

pub held_at-live : (t : ℕ) (held : Held) → nat_lt t held.allocation.end ≡ true → held_at t held ≡ Some (live_held t held)
held_at-live t held h = cond-true (nat_lt t held.allocation.end) (Some (live_held t held)) None h

pub held_at-ended : (t : ℕ) (held : Held) → nat_lt t held.allocation.end ≡ false → held_at t held ≡ None
held_at-ended t held e = cond-false (nat_lt t held.allocation.end) (Some (live_held t held)) None e

held_again : (t u : ℕ) (held : Held) → t ≤ u → option_and_then (held_at u) (held_at t held) ≡ held_at u held
held_again t u held le = elim (cases_Bool (nat_lt t held.allocation.end)) [
  | inl h ↦ ap (option_and_then (held_at u)) (held_at-live t held h)
      ∙ (λ i. cond (nat_lt u held.allocation.end) (Some (record held { permissions = permissions_again t u held.permissions le i; channels = channels_again t u held.channels le i })) None)
  | inr e ↦ ap (option_and_then (held_at u)) (held_at-ended t held e) ∙ sym (held_at-ended u held (ended_after t u held.allocation.end le e))
]

slot_again : (t u : ℕ) (slot : Option Held) → t ≤ u → option_and_then (held_at u) (option_and_then (held_at t) slot) ≡ option_and_then (held_at u) slot
slot_again t u None le = refl
slot_again t u (Some held) le = held_again t u held le

pub slots_again : (t u : ℕ) (slots : List (Option Held)) → t ≤ u → slots_at u (slots_at t slots) ≡ slots_at u slots
slots_again t u [] le = refl
slots_again t u (slot ∷ slots) le = λ i. slot_again t u slot le i ∷ slots_again t u slots le i

-- what is live at a moment is found from what was live before
pub live_again : (t u : ℕ) (rows : Rows) → t ≤ u → live_rows u (live_rows t rows) ≡ live_rows u rows
live_again t u rows le = λ i. record { moment = u; slots = slots_again t u rows.slots le i }

-- where each slot holds something else
pub in_each : (f : Option Held → Option Held) → f None ≡ None → (slots : List (Option Held)) (slot : ℕ) → option_flatten (slice_get (map f slots) slot) ≡ f (option_flatten (slice_get slots slot))
in_each f none [] slot = sym none
in_each f none (o ∷ slots) zero = refl
in_each f none (o ∷ slots) (suc slot) = in_each f none slots slot

pub held_in-live : (t slot : ℕ) (rows : Rows) → held_in (live_rows t rows) slot ≡ option_and_then (held_at t) (held_in rows slot)
held_in-live t slot rows = in_each (option_and_then (held_at t)) refl rows.slots slot

-- ---- a greater moment never brings a row back

-- what holds of what is left at a moment holds of what was left before
before : {A : Type 0} (t u : ℕ) (f : Held → Option A) → t ≤ u → ((held : Held) (a : A) → f (live_held u held) ≡ Some a → f (live_held t held) ≡ Some a)
    → (slot : Option Held) (a : A) → option_and_then f (option_and_then (held_at u) slot) ≡ Some a → option_and_then f (option_and_then (held_at t) slot) ≡ Some a
before t u f le each None a h = h
before t u f le each (Some held) a h = elim (cases_Bool (nat_lt u held.allocation.end)) [
  | inl c ↦ ap (option_and_then f) (held_at-live t held (live_before t u held.allocation.end le c)) ∙ each held a (sym (ap (option_and_then f) (held_at-live u held c)) ∙ h)
  | inr e ↦ absurd (none-some a (sym (ap (option_and_then f) (held_at-ended u held e)) ∙ h))
]

before_in : {A : Type 0} (t u slot : ℕ) (rows : Rows) (f : Held → Option A) → t ≤ u → ((held : Held) (a : A) → f (live_held u held) ≡ Some a → f (live_held t held) ≡ Some a)
    → (a : A) → option_and_then f (held_in (live_rows u rows) slot) ≡ Some a → option_and_then f (held_in (live_rows t rows) slot) ≡ Some a
before_in t u slot rows f le each a h =
    ap (option_and_then f) (held_in-live t slot rows)
    ∙ before t u f le each (held_in rows slot) a (sym (ap (option_and_then f) (held_in-live u slot rows)) ∙ h)

-- what is made of something is made of what there is
pub made_of : {A B : Type 0} (f : A → B) (o : Option A) (y : B) → option_map f o ≡ Some y → (x : A) × (o ≡ Some x) × (f x ≡ y)
made_of f None y e = absurd (none-some y e)
made_of f (Some x) y e = (x, refl, same_Some _ _ e)

mapped : {A B : Type 0} (d : A → B) (o : Option A) → option_map d o ≡ option_and_then (λ x. Some (d x)) o
mapped d None = refl
mapped d (Some x) = refl

pub allocation_was_live : (t u slot : ℕ) (rows : Rows) (a : Allocation) → t ≤ u → allocation_at slot (live_rows u rows) ≡ Some a → allocation_at slot (live_rows t rows) ≡ Some a
allocation_was_live t u slot rows a le h =
    mapped (λ held. held.allocation) (held_in (live_rows t rows) slot)
    ∙ before_in t u slot rows (λ held. Some held.allocation) le (λ held a e. e) a (sym (mapped (λ held. held.allocation) (held_in (live_rows u rows) slot)) ∙ h)

pub some_of : {A : Type 0} (o : Option A) → is_some o ≡ true → (a : A) × (o ≡ Some a)
some_of None h = absurd (both_ways false refl h)
some_of (Some a) h = (a, refl)

permission_before : (t u : ℕ) (ip : Addr) → t ≤ u → (held : Held) (end : ℕ) → get (permissions_at u held.permissions) (ip_of ip) ≡ Some end → get (permissions_at t held.permissions) (ip_of ip) ≡ Some end
permission_before t u ip le held end h =
    let at_u = get-kept_of ip_total (is_live_at u) held.permissions (ip_of ip) in
    let at_t = get-kept_of ip_total (is_live_at t) held.permissions (ip_of ip) in
    elim (kept_before (is_live_at t) (is_live_at u) (λ end c. live_before t u end le c) (get held.permissions (ip_of ip))) [
      | inl none ↦ absurd (none-some end (sym (at_u ∙ none) ∙ h))
      | inr same ↦ at_t ∙ sym (at_u ∙ same) ∙ h
    ]

pub permission_was_live : (t u slot : ℕ) (ip : Addr) (rows : Rows) → t ≤ u → has_permission slot ip (live_rows u rows) ≡ true → has_permission slot ip (live_rows t rows) ≡ true
permission_was_live t u slot ip rows le h =
    let found = some_of (option_and_then (λ held. get held.permissions (ip_of ip)) (held_in (live_rows u rows) slot)) h in
    ap is_some (before_in t u slot rows (λ held. get held.permissions (ip_of ip)) le (permission_before t u ip le) found.0 found.1)

peer_before : (t u number : ℕ) → t ≤ u → (held : Held) (peer : Addr) → option_map (λ b. b.peer) (get (channels_at u held.channels) number) ≡ Some peer → option_map (λ b. b.peer) (get (channels_at t held.channels) number) ≡ Some peer
peer_before t u number le held peer h =
    let peer_in : Option Binding → Option Addr = option_map (λ b. b.peer) in
    let at_u = get-kept_of nat_cmp_total (is_live_binding u) held.channels number in
    let at_t = get-kept_of nat_cmp_total (is_live_binding t) held.channels number in
    elim (kept_before (is_live_binding t) (is_live_binding u) (λ b c. live_before t u b.end le c) (get held.channels number)) [
      | inl none ↦ absurd (none-some peer (sym (ap peer_in (at_u ∙ none)) ∙ h))
      | inr same ↦ ap peer_in (at_t ∙ sym (at_u ∙ same)) ∙ h
    ]

pub channel_was_live : (t u slot number : ℕ) (peer : Addr) (rows : Rows) → t ≤ u → peer_of slot number (live_rows u rows) ≡ Some peer → peer_of slot number (live_rows t rows) ≡ Some peer
channel_was_live t u slot number peer rows le h = before_in t u slot rows (λ held. option_map (λ b. b.peer) (get held.channels number)) le (peer_before t u number le) peer h
