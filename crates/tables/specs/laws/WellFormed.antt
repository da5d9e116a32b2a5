-- Interface. Laws of rows that are well formed: changes leave them so, and what is looked up in them.
use Rattle.std.specs.Prelude.{IsTrue, ◌≡◌, ◌≢◌, ℕ, zero, suc, ◌+◌, ◌<◌, ◌≤◌, Bool, true, false, List, [], ◌∷◌, length, find, slice_get, slice_set, replicate, nat_le, nat_lt, Option, None, Some, is_none, ok_or, Result, Ok, Err, IfOk, refl}
use Rattle.std.specs.Option.{option_map, option_and_then, option_flatten}
use Rattle.std.specs.Ordering.{eq_by_cmp, nat_cmp}
use Rattle.std.specs.Cmp.{Equal-is, nat_cmp_total}
use Rattle.std.specs.FinMap.{get, insert, len, get-empty, get-insert, len-empty, entries, nat_cmp-IsAntisymmetric}
use Rattle.std.proofs.Common.{sym, ap, subst, ◌∙◌, inl, inr, arith}
use Rattle.std.proofs.lemmas.Bool.{cases_Bool, cases_eq, cond-true, cond-false, leb-true}
use Rattle.std.proofs.lemmas.List.{length-map, length-replicate, length-set}
use Rattle.std.proofs.lemmas.List.Folds.{find_at}
use Rattle.std.proofs.lemmas.Option.{none-some, same_Some, option_and_then_some}
use Rattle.basics.specs.Fallible.{◌>>=◌, check}
use Rattle.std.specs.List.{list_all, position_or_len}
use Rattle.addresses.specs.Addresses.{IsAddress, IsIpv4Address, is_of_family}
use Rattle.addresses.specs.declared.address.Family.{Family}
use Rattle.addresses.specs.AddressOrder.{ip_cmp, is_same_address}
use Rattle.addresses.specs.laws.AddressOrder.{ip_total}
use Rattle.addresses.specs.declared.address.Addr.{Addr}
use Rattle.addresses.specs.declared.address.Addr.TheVariants.{V4, V6}
use Rattle.tables.specs.Addresses.{is_ipv4}
use Rattle.tables.specs.Changes.{Change, Follows, with_held, fresh, first_free, allocation_change, refresh_change, permit_change, bind_change, permission_end, with_peer}
use Rattle.tables.specs.Channels.{ChannelMap, IsChannelNumber, may_bind}
use Rattle.tables.specs.LookUps.{held_in, held_by, is_of, allocation_of, allocation_at, peer_of, channel_of, bound_peer, bound_channel}
use Rattle.tables.specs.laws.Map.{entry_found}
use Rattle.tables.specs.laws.Moment.{moment_of-latest}
use Rattle.tables.specs.Moments.{moment_of, is_live_at}
use Rattle.tables.specs.Permissions.{PermissionMap, with_all}
use Rattle.tables.specs.laws.Retained.{get-kept_of, kept_from, len-kept_of}
use Rattle.tables.specs.laws.Row.{is_live_binding, live_held, held_at-live, held_at-ended, held_in-live, in_each, made_of}
use Rattle.tables.specs.Rows.{Rows, held_at, live_rows, rows_at, no_rows}
use Rattle.tables.specs.Users.{with_user, held_of_user, rows_for}
use Rattle.tables.specs.WellFormed.{IsChannel, IsHeldAt, AreWellFormed}
use Rattle.tables.specs.declared.allocation.Allocation.{Allocation}
use Rattle.tables.specs.declared.channels.Binding.{Binding}
use Rattle.tables.specs.declared.channels.TheConstants.{CHANNEL_LIFETIME, MAX_CHANNELS}
use Rattle.tables.specs.declared.held.Held.{Held}
use Rattle.tables.specs.declared.moment.TheConstants.{LATEST}
use Rattle.tables.specs.declared.permissions.TheConstants.{MAX_PERMISSIONS}
use Rattle.tables.specs.declared.refusal.TableError.{TableError}
use Rattle.tables.specs.declared.refusal.TableError.TheVariants as refusal
use Rattle.tables.specs.declared.refusal.TableError.TheVariants.{Mismatch, Capacity, Conflict, NoAllocation}
use Rattle.tables.specs.declared.storage.TheConstants.{MAX_ALLOCATIONS}

-- ---- addresses

pub of_ipv4 : (address : Addr) → IsAddress address → IsTrue (is_ipv4 address) → IsIpv4Address address
of_ipv4 (V4 ip port) is ipv4 = is
of_ipv4 (V6 ip port) is ipv4 = absurd cc

-- ---- what a slot holds

-- what is live at a moment
pub live-held_at : (t slot : ℕ) (held : Held) → IsHeldAt slot held → IsHeldAt slot (live_held t held)
live-held_at t slot held is = record {
  at_slot = is.at_slot;
  client = is.client;
  channels = λ number binding there. is.channels number binding
      (kept_from (is_live_binding t) (get held.channels number) binding (sym (get-kept_of nat_cmp_total (is_live_binding t) held.channels number) ∙ there)).0;
  few_permissions = omega (arith, is.few_permissions, len-kept_of ip_total (is_live_at t) held.permissions);
  few_channels = omega (arith, is.few_channels, len-kept_of nat_cmp_total (is_live_binding t) held.channels);
}

-- what is left of it, if anything is
pub left-held_at : (t slot : ℕ) (held left : Held) → IsHeldAt slot held → held_at t held ≡ Some left → IsHeldAt slot left
left-held_at t slot held left is there = elim (cases_Bool (nat_lt t held.allocation.end)) [
  | inl counts ↦ subst (IsHeldAt slot) (same_Some _ _ (sym (held_at-live t held counts) ∙ there)) (live-held_at t slot held is)
  | inr ended ↦ absurd (none-some left (sym (held_at-ended t held ended) ∙ there))
]

pub fresh-held_at : (slot : ℕ) (allocation : Allocation) → allocation.slot ≡ slot → IsIpv4Address allocation.client → IsHeldAt slot (fresh allocation)
fresh-held_at slot allocation at client = record {
  at_slot = at;
  client = client;
  channels = λ number binding there. absurd (none-some binding (sym (get-empty nat_cmp number) ∙ there));
  few_permissions = omega (arith, len-empty ip_cmp ℕ);
  few_channels = omega (arith, len-empty nat_cmp Binding);
}

pub refreshed-held_at : (slot end : ℕ) (held : Held) → IsHeldAt slot held → IsHeldAt slot (record held { allocation = record held.allocation { end = end } })
refreshed-held_at slot end held is =
    record { at_slot = is.at_slot; client = is.client; channels = is.channels; few_permissions = is.few_permissions; few_channels = is.few_channels }

pub permitted-held_at : (slot : ℕ) (permissions : PermissionMap) (held : Held) → len permissions ≤ MAX_PERMISSIONS → IsHeldAt slot held → IsHeldAt slot (record held { permissions = permissions })
permitted-held_at slot permissions held few is =
    record { at_slot = is.at_slot; client = is.client; channels = is.channels; few_permissions = few; few_channels = is.few_channels }

either_channel : (number q : ℕ) (new binding : Binding) (channels : ChannelMap) → IsChannel number new → ((n : ℕ) (b : Binding) → get channels n ≡ Some b → IsChannel n b)
    → get (insert channels number new) q ≡ Some binding → IsChannel q binding
either_channel number q new binding channels is each there = elim (cases_Bool (eq_by_cmp nat_cmp q number)) [
  | inl e ↦
      let one : new ≡ binding = same_Some _ _ (sym (get-insert nat_cmp_total channels number new q ∙ cond-true (eq_by_cmp nat_cmp q number) _ _ e) ∙ there) in
      subst (IsChannel q) one (subst (λ n. IsChannel n new) (sym (nat_cmp-IsAntisymmetric q number ((Equal-is (nat_cmp q number)).0 e))) is)
  | inr e ↦ each q binding (sym (get-insert nat_cmp_total channels number new q ∙ cond-false (eq_by_cmp nat_cmp q number) _ _ e) ∙ there)
]

pub bound-held_at : (slot number : ℕ) (binding : Binding) (permissions : PermissionMap) (held : Held) → IsChannel number binding
    → len (insert held.channels number binding) ≤ MAX_CHANNELS → len permissions ≤ MAX_PERMISSIONS → IsHeldAt slot held
    → IsHeldAt slot (record held { channels = insert held.channels number binding; permissions = permissions })
bound-held_at slot number binding permissions held new few_channels few_permissions is = record {
  at_slot = is.at_slot;
  client = is.client;
  channels = λ q b there. either_channel number q binding b held.channels new is.channels there;
  few_permissions = few_permissions;
  few_channels = few_channels;
}

-- ---- rows

abbrev free : Option Held
free = None

nothing : (n slot : ℕ) → option_flatten (slice_get (replicate n free) slot) ≡ None
nothing zero slot = refl
nothing (suc n) zero = refl
nothing (suc n) (suc slot) = nothing n slot

pub no_rows-well_formed : (n : ℕ) → n ≤ MAX_ALLOCATIONS → AreWellFormed (no_rows n)
no_rows-well_formed n few = record {
  latest = omega arith;
  few = omega (arith, few, length-replicate n free);
  held = λ slot held there. absurd (none-some held (sym (nothing n slot) ∙ there));
}

pub live-well_formed : (t : ℕ) (rows : Rows) → t ≤ LATEST → AreWellFormed rows → AreWellFormed (live_rows t rows)
live-well_formed t rows latest are = record {
  latest = latest;
  few = omega (arith, are.few, length-map rows.slots (option_and_then (held_at t)));
  held = λ slot left there. option_and_then_some (held_at t) (held_in rows slot) left (sym (held_in-live t slot rows) ∙ there)
      (λ held is. left-held_at t slot held left (are.held slot held is));
}

pub rows_at-well_formed : (t : ℕ) (rows : Rows) → AreWellFormed rows → AreWellFormed (rows_at t rows)
rows_at-well_formed t rows are = live-well_formed (moment_of rows.moment t) rows (moment_of-latest rows.moment t are.latest) are

pub get-set_same : (slots : List (Option Held)) (i : ℕ) (o : Option Held) → i < length slots → option_flatten (slice_get (slice_set slots i o) i) ≡ o
get-set_same [] i o l = absurd (omega arith)
get-set_same (x ∷ xs) zero o l = refl
get-set_same (x ∷ xs) (suc i) o l = get-set_same xs i o (omega arith)

pub get-set_other : (slots : List (Option Held)) (i k : ℕ) (o : Option Held) → k ≢ i → slice_get (slice_set slots i o) k ≡ slice_get slots k
get-set_other [] i k o differ = refl
get-set_other (x ∷ xs) zero zero o differ = absurd (differ refl)
get-set_other (x ∷ xs) zero (suc k) o differ = refl
get-set_other (x ∷ xs) (suc i) zero o differ = refl
get-set_other (x ∷ xs) (suc i) (suc k) o differ = get-set_other xs i k o (omega arith)

pub inside : (slots : List (Option Held)) (i : ℕ) (held : Held) → option_flatten (slice_get slots i) ≡ Some held → i < length slots
inside [] i held there = absurd (none-some held there)
inside (x ∷ xs) zero held there = omega arith
inside (x ∷ xs) (suc i) held there = omega (arith, inside xs i held there)

-- where a slot holds something else
pub set-well_formed : (t slot : ℕ) (o : Option Held) (rows : Rows) → t ≤ LATEST → AreWellFormed rows → ((held : Held) → o ≡ Some held → IsHeldAt slot held)
    → AreWellFormed (record { moment = t; slots = slice_set rows.slots slot o })
set-well_formed t slot o rows latest are new = record {
  latest = latest;
  few = omega (arith, are.few, length-set rows.slots slot o);
  held = λ k held there. elim (cases_eq k slot) [
    | inl e ↦
        let at : option_flatten (slice_get (slice_set rows.slots slot o) slot) ≡ Some held = subst (λ n. option_flatten (slice_get (slice_set rows.slots slot o) n) ≡ Some held) e there in
        let within : slot < length rows.slots = omega (arith, inside (slice_set rows.slots slot o) slot held at, length-set rows.slots slot o) in
        subst (λ n. IsHeldAt n held) (sym e) (new held (sym (get-set_same rows.slots slot o within) ∙ at))
    | inr differ ↦ are.held k held (ap option_flatten (sym (get-set_other rows.slots slot k o differ)) ∙ there)
  ];
}

pub with_held-well_formed : (slot : ℕ) (held : Held) (rows : Rows) → AreWellFormed rows → IsHeldAt slot held → AreWellFormed (with_held rows slot held)
with_held-well_formed slot held rows are is =
    set-well_formed rows.moment slot (held_at rows.moment held) rows are.latest are (λ left there. left-held_at rows.moment slot held left is there)

-- ---- changes

module _ {A B : Type 0} (P : B → Type 0) where
  on_ok : (result : Result A TableError) (f : A → Result B TableError) → ((x : A) → result ≡ Ok x → IfOk (f x) P) → IfOk (result >>= f) P
  on_ok (Ok x) f each = each x refl
  on_ok (Err refused) f each = tt

checked : {B : Type 0} (P : B → Type 0) (b : Bool) (refused : TableError) (r : Result B TableError) → (b ≡ true → IfOk r P) → IfOk (check b refused >>= λ _. r) P
checked P true refused r each = each refl
checked P false refused r each = tt

some_ok : {A : Type 0} (option : Option A) (refused : TableError) (x : A) → ok_or option refused ≡ Ok x → option ≡ Some x
some_ok None refused x e = cc
some_ok (Some y) refused x e = cc

pub allocate-well_formed : (client : Addr) (user : ℕ) (owner tx : List ℕ) (family : Family) (lifetime : ℕ) (rows : Rows) → AreWellFormed rows → IsIpv4Address client
    → IfOk (allocation_change client user owner tx family lifetime rows) (λ made. AreWellFormed made.1)
allocate-well_formed client user owner tx family lifetime rows are address =
    checked (λ made. AreWellFormed made.1) (is_none (allocation_of client rows)) Mismatch _ (λ _.
    on_ok (λ made. AreWellFormed made.1) (ok_or (first_free rows) Capacity) _ (λ slot free.
    let allocation : Allocation = record { slot = slot; client = client; family = family; user = user; owner = owner; tx = tx; lifetime = lifetime; end = rows.moment + lifetime } in
    with_held-well_formed slot (fresh allocation) rows are (fresh-held_at slot allocation refl address)))

pub refresh-well_formed : (slot lifetime : ℕ) (rows : Rows) → AreWellFormed rows → IfOk (refresh_change slot lifetime rows) (λ made. AreWellFormed made.1)
refresh-well_formed slot lifetime rows are =
    on_ok (λ made. AreWellFormed made.1) (ok_or (held_in rows slot) NoAllocation) _ (λ held there.
    let is = are.held slot held (some_ok (held_in rows slot) NoAllocation held there) in
    with_held-well_formed slot (record held { allocation = record held.allocation { end = rows.moment + lifetime } }) rows are (refreshed-held_at slot (rows.moment + lifetime) held is))

pub permit-well_formed : (slot : ℕ) (ips : List Addr) (rows : Rows) → AreWellFormed rows → IfOk (permit_change slot ips rows) (λ made. AreWellFormed made.1)
permit-well_formed slot ips rows are =
    on_ok (λ made. AreWellFormed made.1) (ok_or (held_in rows slot) NoAllocation) _ (λ held there.
    let is = are.held slot held (some_ok (held_in rows slot) NoAllocation held there) in
    let permissions : PermissionMap = with_all held.permissions ips (permission_end rows) in
    checked (λ made. AreWellFormed made.1) (list_all (is_of_family held.allocation.family) ips) refusal.Family _ (λ _.
    checked (λ made. AreWellFormed made.1) (nat_le (len permissions) MAX_PERMISSIONS) Capacity _ (λ few.
    with_held-well_formed slot (record held { permissions = permissions }) rows are (permitted-held_at slot permissions held (leb-true _ _ few) is))))

pub bind-well_formed : (slot number : ℕ) (peer : Addr) (rows : Rows) → AreWellFormed rows → IsChannelNumber number → IsAddress peer
    → IfOk (bind_change slot number peer rows) (λ made. AreWellFormed made.1)
bind-well_formed slot number peer rows are range address =
    on_ok (λ made. AreWellFormed made.1) (ok_or (held_in rows slot) NoAllocation) _ (λ held there.
    let is = are.held slot held (some_ok (held_in rows slot) NoAllocation held there) in
    let binding : Binding = record { peer = peer; end = rows.moment + CHANNEL_LIFETIME } in
    let permissions : PermissionMap = with_peer held.permissions peer rows in
    checked (λ made. AreWellFormed made.1) (is_of_family held.allocation.family peer) refusal.Family _ (λ _.
    checked (λ made. AreWellFormed made.1) (may_bind held.channels number peer) Conflict _ (λ _.
    checked (λ made. AreWellFormed made.1) (nat_le (len (insert held.channels number binding)) MAX_CHANNELS) Capacity _ (λ few_channels.
    checked (λ made. AreWellFormed made.1) (nat_le (len permissions) MAX_PERMISSIONS) Capacity _ (λ few_permissions.
    with_held-well_formed slot (record held { channels = insert held.channels number binding; permissions = permissions }) rows are
    (bound-held_at slot number binding permissions held (record { in_range = range; peer = address }) (leb-true _ _ few_channels) (leb-true _ _ few_permissions) is))))))

-- a change that is made, or refused
pub follows-well_formed : {A : Type 0} (change : Change A) (old new : Rows) (result : Result A TableError) → Follows change old result new
    → AreWellFormed old → IfOk change (λ made. AreWellFormed made.1) → AreWellFormed new
follows-well_formed (Ok made) old new result follows are made_are = subst AreWellFormed (sym follows.1) made_are
follows-well_formed (Err refused) old new result follows are made_are = subst AreWellFormed (sym follows.1) are

-- ---- users that are replaced

with_user-held_at : (slot user : ℕ) (held : Held) → IsHeldAt slot held → IsHeldAt slot (with_user held user)
with_user-held_at slot user held is =
    record { at_slot = is.at_slot; client = is.client; channels = is.channels; few_permissions = is.few_permissions; few_channels = is.few_channels }

module _ (user : Allocation → Option ℕ) where
  pub users-well_formed : (rows : Rows) → AreWellFormed rows → AreWellFormed (rows_for user rows)
  users-well_formed rows are = record {
    latest = are.latest;
    few = omega (arith, are.few, length-map rows.slots (option_and_then (held_of_user user)));
    held = λ slot left there. option_and_then_some (held_of_user user) (held_in rows slot) left (sym (in_each (option_and_then (held_of_user user)) refl rows.slots slot) ∙ there)
        (λ held is replaced. let made = made_of (with_user held) (user held.allocation) left replaced in subst (IsHeldAt slot) made.2 (with_user-held_at slot made.0 held (are.held slot held is)));
  }

-- ---- look-ups

-- the allocation at a slot names the slot, and its client has an IPv4 address
pub allocation_at-held : (slot : ℕ) (rows : Rows) (a : Allocation) → AreWellFormed rows → allocation_at slot rows ≡ Some a → (a.slot ≡ slot) × IsIpv4Address a.client
allocation_at-held slot rows a are there =
    let made = made_of (λ held. held.allocation) (held_in rows slot) a there in
    let at = are.held slot made.0 made.1 in
    (subst (λ (a : Allocation). a.slot ≡ slot) made.2 at.at_slot, subst (λ (a : Allocation). IsIpv4Address a.client) made.2 at.client)

-- the slot of a client is the one that its allocation names
pub held_by-at_slot : (client : Addr) (rows : Rows) (held : Held) → AreWellFormed rows → held_by client rows ≡ Some held → held_in rows held.allocation.slot ≡ Some held
held_by-at_slot client rows held are there =
    let slot = position_or_len (is_of client) rows.slots in
    let holds : held_in rows slot ≡ Some held = ap option_flatten (sym (find_at (is_of client) rows.slots)) ∙ there in
    ap (held_in rows) (are.held slot held holds).at_slot ∙ holds

-- the allocation of a client is that at its slot
pub allocation_of-at_slot : (client : Addr) (rows : Rows) (a : Allocation) → AreWellFormed rows → allocation_of client rows ≡ Some a → allocation_at a.slot rows ≡ Some a
allocation_of-at_slot client rows a are there =
    let made = made_of (λ held. held.allocation) (held_by client rows) a there in
    ap (λ (a : Allocation). allocation_at a.slot rows) (sym made.2) ∙ ap (option_map (λ held. held.allocation)) (held_by-at_slot client rows made.0 are made.1) ∙ ap Some made.2

-- the peer of a channel is an address
pub bound_peer-address : (slot number : ℕ) (held : Held) (peer : Addr) → IsHeldAt slot held → bound_peer number held ≡ Some peer → IsAddress peer
bound_peer-address slot number held peer is there = let made = made_of (λ b. b.peer) (get held.channels number) peer there in subst IsAddress made.2 (is.channels number made.0 made.1).peer

pub peer_of-address : (slot number : ℕ) (rows : Rows) (peer : Addr) → AreWellFormed rows → peer_of slot number rows ≡ Some peer → IsAddress peer
peer_of-address slot number rows peer are there =
    option_and_then_some (bound_peer number) (held_in rows slot) peer there (λ held is. bound_peer-address slot number held peer (are.held slot held is))

-- the channel of a peer has one of the numbers of channels
pub bound_channel-number : (slot : ℕ) (peer : Addr) (held : Held) (number : ℕ) → IsHeldAt slot held → bound_channel peer held ≡ Some number → IsChannelNumber number
bound_channel-number slot peer held number is there =
    let is_to : ℕ × Binding → Bool = λ e. is_same_address peer e.1.peer in
    let made = made_of (λ e. e.0) (find is_to (entries held.channels)) number there in
    subst IsChannelNumber made.2 (is.channels made.0.0 made.0.1 (entry_found nat_cmp_total is_to held.channels made.0 made.1)).in_range

pub channel_of-number : (slot : ℕ) (peer : Addr) (rows : Rows) (number : ℕ) → AreWellFormed rows → channel_of slot peer rows ≡ Some number → IsChannelNumber number
channel_of-number slot peer rows number are there =
    option_and_then_some (bound_channel peer) (held_in rows slot) number there (λ held is. bound_channel-number slot peer held number (are.held slot held is))

-- a number that is bound is one of the numbers of channels
pub bound_peer-number : (slot number : ℕ) (held : Held) (peer : Addr) → IsHeldAt slot held → bound_peer number held ≡ Some peer → IsChannelNumber number
bound_peer-number slot number held peer is there = let made = made_of (λ b. b.peer) (get held.channels number) peer there in (is.channels number made.0 made.1).in_range
