-- What a slot holds after a change, and the rows after it.
use Rattle.std.proofs.Common.{◌≡◌, ℕ, ◌+◌, ◌<◌, ◌≤◌, Bool, true, false, cond, List, [], ◌∷◌, length, get_or, set, nat_lt, nat_le, Option, Some, None, Result, Ok, Err, Ordering, IsTrue, option_and_then, sym, refl, ap, ◌∙◌, subst, inl, inr, arith}
use Rattle.std.specs.Ordering.{eq_by_cmp}
use Rattle.std.specs.Option.{option_flatten, ok_or}
use Rattle.std.specs.Cmp.{IsTotalOrder, nat_cmp_total}
use Rattle.std.specs.FinMap.{FinMap, IsAntisymmetric, get, insert, len, get-insert, same_map, nat_cmp-IsAntisymmetric}
use Rattle.std.proofs.lemmas.Bool.{cases_Bool, cond-true, cond-false, lt-ltb, le-ltb, le-leb}
use Rattle.std.proofs.lemmas.List.{set-get_or}
use Rattle.std.proofs.lemmas.Option.{same_Some, slice_get_read}
use Rattle.basics.specs.Fallible.{◌>>=◌, check}
use Rattle.std.specs.List.{list_all}
use Rattle.addresses.specs.Addresses.{IsAddress, ip_of, is_of_family}
use Rattle.addresses.specs.laws.AddressOrder.{ip_total, ip_antisymmetric}
use Rattle.addresses.specs.declared.address.Addr.{Addr}
use Rattle.tables.specs.Changes.{Change, Follows, with_held, permit_change, bind_change, permission_end}
use Rattle.tables.specs.Channels.{ChannelMap, IsChannelNumber, channels_at, may_bind}
use Rattle.tables.specs.LookUps.{held_in}
use Rattle.tables.specs.laws.Map.{len-within}
use Rattle.tables.specs.Moments.{is_live_at}
use Rattle.tables.specs.Permissions.{PermissionMap, permissions_at, with_all}
use Rattle.tables.specs.Retained.{value_if, kept_of}
use Rattle.tables.specs.laws.Retained.{get-kept_of, kept_again, kept_from}
use Rattle.tables.specs.laws.Row.{is_live_binding, live_held, held_at-live, held_at-ended, permissions_again, channels_again}
use Rattle.tables.specs.Rows.{Rows, held_at, live_rows}
use Rattle.tables.specs.Stored.{AreStored, LeavesHeld, change_held, slot_change, stored_at, client_in, with_end, with_permissions, with_binding, permit_held, bind_held}
use Rattle.tables.specs.WellFormed.{IsHeldAt}
use Rattle.tables.specs.laws.WellFormed.{set-well_formed, bound-held_at}
use Rattle.tables.specs.declared.allocation.Allocation.{Allocation}
use Rattle.tables.specs.declared.channels.Binding.{Binding}
use Rattle.tables.specs.declared.channels.TheConstants.{CHANNEL_LIFETIME, MAX_CHANNELS}
use Rattle.tables.specs.declared.clients.Client.{Client}
use Rattle.tables.specs.declared.held.Held.{Held}
use Rattle.tables.specs.declared.held.HeldChange.{HeldChange}
use Rattle.tables.specs.declared.moment.TheConstants.{LATEST}
use Rattle.tables.specs.declared.permissions.TheConstants.{PERMISSION_LIFETIME, MAX_PERMISSIONS}
use Rattle.tables.specs.declared.refusal.TableError.{TableError}
use Rattle.tables.specs.declared.refusal.TableError.TheVariants.{Capacity, Conflict, NoAllocation}
use Rattle.tables.specs.declared.refusal.TableError.TheVariants as refusal
use Rattle.tables.proofs.ClientRows.{held_again}
use Rattle.tables.proofs.HeldRows.{held_of}
use Rattle.tables.proofs.Slots.{ShowsStored, held_in-stored, with_held-stored}

-- ---- what is kept of a map after an insert

module _ {K X : Type 0} {R : K → K → Ordering} (o : IsTotalOrder R) where
  -- each entry of a map is one of another
  abbrev pub Within : FinMap R X → FinMap R X → Type 0
  Within m n = (q : K) (v : X) → get m q ≡ Some v → get n q ≡ Some v

  pub insert_within : (m n : FinMap R X) (k : K) (x : X) → Within m n → Within (insert m k x) (insert n k x)
  insert_within m n k x each q v there = elim (cases_Bool (eq_by_cmp R q k)) [
    | inl e ↦ get-insert o n k x q ∙ cond-true (eq_by_cmp R q k) (Some x) (get n q) e ∙ sym (get-insert o m k x q ∙ cond-true (eq_by_cmp R q k) (Some x) (get m q) e) ∙ there
    | inr e ↦ get-insert o n k x q ∙ cond-false (eq_by_cmp R q k) (Some x) (get n q) e ∙ each q v (sym (get-insert o m k x q ∙ cond-false (eq_by_cmp R q k) (Some x) (get m q) e) ∙ there)
  ]

  module _ (test : Option X → Bool) where
    pub kept_within : (m : FinMap R X) → Within (kept_of test m) m
    kept_within m q v there = (kept_from test (get m q) v (sym (get-kept_of o test m q) ∙ there)).0

    chosen : (b : Bool) (x : X) (v : Option X) → value_if test (cond b (Some x) v) ≡ value_if test (cond b (Some x) (value_if test v))
    chosen true x v = refl
    chosen false x v = sym (kept_again test test (λ x h. h) v)

    pub kept_of-insert : IsAntisymmetric R → (m : FinMap R X) (k : K) (x : X) → kept_of test (insert m k x) ≡ kept_of test (insert (kept_of test m) k x)
    kept_of-insert same m k x = same_map o same _ _ (λ q.
        get-kept_of o test (insert m k x) q ∙ ap (value_if test) (get-insert o m k x q)
        ∙ chosen (eq_by_cmp R q k) x (get m q)
        ∙ ap (λ v. value_if test (cond (eq_by_cmp R q k) (Some x) v)) (sym (get-kept_of o test m q))
        ∙ ap (value_if test) (sym (get-insert o (kept_of test m) k x q))
        ∙ sym (get-kept_of o test (insert (kept_of test m) k x) q))

-- ---- permissions and channels that are live

pub permissions_at-with_all : (t : ℕ) (p : PermissionMap) (ips : List Addr) (end : ℕ) → permissions_at t (with_all p ips end) ≡ permissions_at t (with_all (permissions_at t p) ips end)
permissions_at-with_all t p [] end = sym (permissions_again t t p (omega arith))
permissions_at-with_all t p (ip ∷ ips) end =
    permissions_at-with_all t (insert p (ip_of ip) end) ips end
    ∙ ap (λ (m : PermissionMap). permissions_at t (with_all m ips end)) (kept_of-insert ip_total (is_live_at t) ip_antisymmetric p (ip_of ip) end)
    ∙ sym (permissions_at-with_all t (insert (permissions_at t p) (ip_of ip) end) ips end)

with_all_within : (m n : PermissionMap) (ips : List Addr) (end : ℕ) → Within ip_total m n → Within ip_total (with_all m ips end) (with_all n ips end)
with_all_within m n [] end each = each
with_all_within m n (ip ∷ ips) end each = with_all_within (insert m (ip_of ip) end) (insert n (ip_of ip) end) ips end (insert_within ip_total m n (ip_of ip) end each)

pub few_live : (t : ℕ) (p : PermissionMap) (ips : List Addr) (end most : ℕ) → len (with_all p ips end) ≤ most → len (with_all (permissions_at t p) ips end) ≤ most
few_live t p ips end most few =
    omega (arith, few, len-within ip_total (with_all (permissions_at t p) ips end) (with_all p ips end) (with_all_within (permissions_at t p) p ips end (kept_within ip_total (is_live_at t) p)))

pub few_channels_live : (t : ℕ) (c : ChannelMap) (number : ℕ) (binding : Binding) (most : ℕ) → len (insert c number binding) ≤ most → len (insert (channels_at t c) number binding) ≤ most
few_channels_live t c number binding most few =
    omega (
      arith,
      few,
      len-within nat_cmp_total (insert (channels_at t c) number binding) (insert c number binding)
          (insert_within nat_cmp_total (channels_at t c) c number binding (kept_within nat_cmp_total (is_live_binding t) c)),
    )

-- ---- what is left of a slot

same_left : (t : ℕ) (a : Allocation) (p q : PermissionMap) (c d : ChannelMap) → permissions_at t p ≡ permissions_at t q → channels_at t c ≡ channels_at t d → held_at t (held_of a p c) ≡ held_at t (held_of a q d)
same_left t a p q c d permissions channels = λ i. cond (nat_lt t a.end) (Some (held_of a (permissions i) (channels i))) None

module _ (t : ℕ) (held : Held) where
  same_permissions : permissions_at t held.permissions ≡ permissions_at t (permissions_at t held.permissions)
  same_permissions = sym (permissions_again t t held.permissions (omega arith))

  same_channels : channels_at t held.channels ≡ channels_at t (channels_at t held.channels)
  same_channels = sym (channels_again t t held.channels (omega arith))

  pub left-end : (end : ℕ) → held_at t (with_end end held) ≡ held_at t (with_end end (live_held t held))
  left-end end = same_left t (record held.allocation { end = end }) _ _ _ _ same_permissions same_channels

  pub left-binding : (number : ℕ) (peer : Addr) → held_at t (with_binding t number peer held) ≡ held_at t (with_binding t number peer (live_held t held))
  left-binding number peer = same_left t held.allocation _ _ _ _
      (kept_of-insert ip_total (is_live_at t) ip_antisymmetric held.permissions (ip_of peer) (t + PERMISSION_LIFETIME))
      (kept_of-insert nat_cmp_total (is_live_binding t) nat_cmp-IsAntisymmetric held.channels number (record { peer = peer; end = t + CHANNEL_LIFETIME }))

-- ---- the changes of what a slot holds

-- a change that is made
leaves : (change : Result Held TableError) (t : ℕ) (old new made : Held) → change ≡ Ok made → held_at t new ≡ held_at t made → LeavesHeld change t old (Ok tt) new
leaves change t old new made is same = subst (λ (c : Result Held TableError). LeavesHeld c t old (Ok tt) new) (sym is) (refl, same)

permit-is : (t : ℕ) (ips : List Addr) (held : Held) → list_all (is_of_family held.allocation.family) ips ≡ true → len (with_all held.permissions ips (t + PERMISSION_LIFETIME)) ≤ MAX_PERMISSIONS
    → permit_held t ips held ≡ Ok (with_permissions (t + PERMISSION_LIFETIME) ips held)
permit-is t ips held of few = rw (of, le-leb _ _ few) refl

bind-is : (t number : ℕ) (peer : Addr) (held : Held) → is_of_family held.allocation.family peer ≡ true → may_bind held.channels number peer ≡ true
    → len (with_binding t number peer held).channels ≤ MAX_CHANNELS → len (with_binding t number peer held).permissions ≤ MAX_PERMISSIONS
    → bind_held t number peer held ≡ Ok (with_binding t number peer held)
bind-is t number peer held of free few_channels few_permissions = rw (of, free, le-leb _ _ few_channels, le-leb _ _ few_permissions) refl

full : (b : Bool) (rest : Result Held TableError) → rest ≡ Err Capacity → (check b Capacity >>= (λ _. rest)) ≡ Err Capacity
full true rest same = same
full false rest same = refl

-- where there is no room for the peer's permission
pub bind-full : (t number : ℕ) (peer : Addr) (held : Held) → is_of_family held.allocation.family peer ≡ true → may_bind held.channels number peer ≡ true
    → nat_le (len (insert held.permissions (ip_of peer) (t + PERMISSION_LIFETIME))) MAX_PERMISSIONS ≡ false → bind_held t number peer held ≡ Err Capacity
bind-full t number peer held of free no_room = rw (of, free, no_room) (full (nat_le (len (with_binding t number peer held).channels) MAX_CHANNELS) (Err Capacity) refl)

module _ (t : ℕ) (held : Held) where
  -- with these permissions, which are those of the change as far as they are live
  pub permit-leaves : (ips : List Addr) (permissions : PermissionMap) → list_all (is_of_family held.allocation.family) ips ≡ true
      → len (with_all (permissions_at t held.permissions) ips (t + PERMISSION_LIFETIME)) ≤ MAX_PERMISSIONS
      → permissions_at t permissions ≡ permissions_at t (with_all (permissions_at t held.permissions) ips (t + PERMISSION_LIFETIME))
      → LeavesHeld (permit_held t ips (live_held t held)) t held (Ok tt) (held_of held.allocation permissions held.channels)
  permit-leaves ips permissions of few same =
      leaves _ t held _ (with_permissions (t + PERMISSION_LIFETIME) ips (live_held t held)) (permit-is t ips (live_held t held) of few) (same_left t held.allocation permissions _ held.channels _ same (same_channels t held))

  pub bind-leaves : (number : ℕ) (peer : Addr) (new : Held) → is_of_family held.allocation.family peer ≡ true → IsTrue (may_bind (channels_at t held.channels) number peer)
      → len (insert (channels_at t held.channels) number (record { peer = peer; end = t + CHANNEL_LIFETIME })) ≤ MAX_CHANNELS
      → len (insert (permissions_at t held.permissions) (ip_of peer) (t + PERMISSION_LIFETIME)) ≤ MAX_PERMISSIONS
      → held_at t new ≡ held_at t (with_binding t number peer (live_held t held))
      → LeavesHeld (bind_held t number peer (live_held t held)) t held (Ok tt) new
  bind-leaves number peer new of free few_channels few_permissions same =
      leaves _ t held new (with_binding t number peer (live_held t held)) (bind-is t number peer (live_held t held) of free few_channels few_permissions) same

  -- beside what is stored
  pub bind-beside : (number : ℕ) (peer : Addr) (new : Held) → new ≡ with_binding t number peer held → is_of_family held.allocation.family peer ≡ true
      → IsTrue (may_bind (channels_at t held.channels) number peer) → len new.permissions ≤ MAX_PERMISSIONS → len new.channels ≤ MAX_CHANNELS
      → LeavesHeld (bind_held t number peer (live_held t held)) t held (Ok tt) new
  bind-beside number peer new made of free few_permissions few_channels =
      bind-leaves number peer new of free
      (few_channels_live t held.channels number (record { peer = peer; end = t + CHANNEL_LIFETIME }) MAX_CHANNELS (subst (λ (h : Held). len h.channels ≤ MAX_CHANNELS) made few_channels))
      (few_live t held.permissions (peer ∷ []) (t + PERMISSION_LIFETIME) MAX_PERMISSIONS (subst (λ (h : Held). len h.permissions ≤ MAX_PERMISSIONS) made few_permissions))
      (ap (held_at t) made ∙ left-binding t held number peer)

  bind-of-left : (number : ℕ) (peer : Addr) (new : Held) → new ≡ with_binding t number peer (live_held t held) → is_of_family held.allocation.family peer ≡ true
      → IsTrue (may_bind (channels_at t (channels_at t held.channels)) number peer) → len new.permissions ≤ MAX_PERMISSIONS → len new.channels ≤ MAX_CHANNELS
      → LeavesHeld (bind_held t number peer (live_held t held)) t held (Ok tt) new
  bind-of-left number peer new made of free few_permissions few_channels =
      bind-leaves number peer new of (subst (λ (c : ChannelMap). IsTrue (may_bind c number peer)) (channels_again t t held.channels (omega arith)) free)
      (subst (λ (h : Held). len h.channels ≤ MAX_CHANNELS) made few_channels)
      (subst (λ (h : Held). len h.permissions ≤ MAX_PERMISSIONS) made few_permissions)
      (ap (held_at t) made)

  -- in a copy of what is left
  pub bind-left : (number : ℕ) (peer : Addr) (left new : Held) → left ≡ live_held t held → new ≡ with_binding t number peer left → is_of_family left.allocation.family peer ≡ true
      → IsTrue (may_bind (channels_at t left.channels) number peer) → len new.permissions ≤ MAX_PERMISSIONS → len new.channels ≤ MAX_CHANNELS
      → LeavesHeld (bind_held t number peer (live_held t held)) t held (Ok tt) new
  bind-left number peer left new is =
      subst (λ (left : Held). new ≡ with_binding t number peer left → is_of_family left.allocation.family peer ≡ true → IsTrue (may_bind (channels_at t left.channels) number peer)
      → len new.permissions ≤ MAX_PERMISSIONS → len new.channels ≤ MAX_CHANNELS → LeavesHeld (bind_held t number peer (live_held t held)) t held (Ok tt) new)
      (sym is) (bind-of-left number peer new)

-- what is bound stays at its slot
pub bound-at : (slot t number : ℕ) (peer : Addr) (held new : Held) → new ≡ with_binding t number peer held → IsChannelNumber number → IsAddress peer → len new.permissions ≤ MAX_PERMISSIONS → len new.channels ≤ MAX_CHANNELS
    → IsHeldAt slot held → IsHeldAt slot new
bound-at slot t number peer held new made range address few_permissions few_channels is =
    subst (IsHeldAt slot) (sym made) (bound-held_at slot number (record { peer = peer; end = t + CHANNEL_LIFETIME }) (insert held.permissions (ip_of peer) (t + PERMISSION_LIFETIME)) held
    (record { in_range = range; peer = address }) (subst (λ (h : Held). len h.channels ≤ MAX_CHANNELS) made few_channels) (subst (λ (h : Held). len h.permissions ≤ MAX_PERMISSIONS) made few_permissions) is)

-- ---- the changes of rows, by those of what the slot holds

module _ (slot : ℕ) (rows : Rows) where
  -- the rows after a change of what the slot holds
  abbrev pub put-back : Held → Change (Unit {0})
  put-back made = Ok (tt, with_held rows slot made)

  after-check : (b : Bool) (refused : TableError) (change : Result Held TableError) (rest : Change (Unit {0})) → rest ≡ (change >>= put-back) → (check b refused >>= (λ _. rest)) ≡ ((check b refused >>= (λ _. change)) >>= put-back)
  after-check true refused change rest same = same
  after-check false refused change rest same = refl

  alike : (o : Option Held) (f g : Held → Change (Unit {0})) → ((held : Held) → f held ≡ g held) → (ok_or o NoAllocation >>= f) ≡ (ok_or o NoAllocation >>= g)
  alike None f g same = refl
  alike (Some held) f g same = same held

  pub permit-changes : (ips : List Addr) → (ok_or (held_in rows slot) NoAllocation >>= (λ held. permit_held rows.moment ips held >>= put-back)) ≡ permit_change slot ips rows
  permit-changes ips = sym (alike (held_in rows slot) _ _ (λ held. after-check _ refusal.Family _ _ (after-check _ Capacity (Ok (with_permissions (permission_end rows) ips held)) _ refl)))

  pub bind-changes : (number : ℕ) (peer : Addr) → (ok_or (held_in rows slot) NoAllocation >>= (λ held. bind_held rows.moment number peer held >>= put-back)) ≡ bind_change slot number peer rows
  bind-changes number peer = sym (alike (held_in rows slot) _ _ (λ held.
      after-check _ refusal.Family _ _ (after-check _ Conflict _ _ (after-check _ Capacity _ _ (after-check _ Capacity (Ok (with_binding rows.moment number peer held)) _ refl)))))

-- ---- a slot that is read

ok-err : {why : TableError} {result : Result (Unit {0}) TableError} → result ≡ Ok tt → result ≡ Err why → ⊥
ok-err ok err = cc

-- a refused change leaves what the slot holds
pub left-unchanged : (change : Result Held TableError) (t : ℕ) (old new : Held) (why : TableError) → LeavesHeld change t old (Err why) new → new ≡ old
left-unchanged (Ok made) t old new why left = absurd (ok-err left.0 refl)
left-unchanged (Err refused) t old new why left = left.1

pub stored-unchanged : (last : ℕ) (slots : List (Option Held)) (clients : List Client) (slot : ℕ) (o : Option Held) (held new : Held) → AreStored last slots clients → o ≡ get_or slots slot o → o ≡ Some held → new ≡ held
    → AreStored last (set slots slot (Some new)) clients
stored-unchanged last slots clients slot o held new are at is same =
    subst (λ (s : List (Option Held)). AreStored last s clients) (sym (ap (set slots slot) (ap Some same ∙ sym is ∙ at) ∙ set-get_or slots slot o)) are

pub stored_read : (slots : List (Option Held)) (slot : ℕ) (o is : Option Held) → slot < length slots → o ≡ get_or slots slot o → o ≡ is → stored_at slots slot ≡ is
stored_read slots slot o is within at same = ap option_flatten (slice_get_read slots (length slots) slot o refl within at) ∙ same

-- `o` is what was read of the slot
module _ (last : ℕ) (slots : List (Option Held)) (now : Rows) (shows : ShowsStored last slots now) (t : ℕ) (later : now.moment ≤ t) (slot : ℕ) (within : slot < length slots)
    (o : Option Held) (at : o ≡ get_or slots slot o) where
  -- where it is written back, nothing changes
  unchanged : (same : Option Held) → same ≡ o → live_rows last (record { moment = last; slots = set slots slot same }) ≡ now
  unchanged same is = ap (λ (o : Option Held). live_rows last (record { moment = last; slots = set slots slot o })) (is ∙ at) ∙ ap (λ (s : List (Option Held)). live_rows last (record { moment = last; slots = s })) (set-get_or slots slot o) ∙ shows

  none-refused : (same : Option Held) (f : Held → Change (Unit {0})) → same ≡ o → option_and_then (held_at t) o ≡ None
      → Follows (ok_or (held_in (live_rows t now) slot) NoAllocation >>= f) now (Err NoAllocation) (live_rows last (record { moment = last; slots = set slots slot same }))
  none-refused same f is none =
      let nothing : held_in (live_rows t now) slot ≡ None = held_in-stored last slots now shows t later slot ∙ ap (option_and_then (held_at t)) (stored_read slots slot o o within at refl) ∙ none in
      subst (λ (h : Option Held). Follows (ok_or h NoAllocation >>= f) now (Err NoAllocation) (live_rows last (record { moment = last; slots = set slots slot same }))) (sym nothing)
      (refl, unchanged same is)

  pub empty-refused : (f : Held → Change (Unit {0})) → o ≡ None
      → Follows (ok_or (held_in (live_rows t now) slot) NoAllocation >>= f) now (Err NoAllocation) (live_rows last (record { moment = last; slots = set slots slot o }))
  empty-refused f is = none-refused o f refl (ap (option_and_then (held_at t)) is)

  pub ended-refused : (held : Held) (f : Held → Change (Unit {0})) → o ≡ Some held → held.allocation.end ≤ t
      → Follows (ok_or (held_in (live_rows t now) slot) NoAllocation >>= f) now (Err NoAllocation) (live_rows last (record { moment = last; slots = set slots slot (Some held) }))
  ended-refused held f is ended =
      none-refused (Some held) f (sym is) (ap (option_and_then (held_at t)) is ∙ held_at-ended t held (le-ltb t held.allocation.end ended))

  module _ (held : Held) (same : o ≡ Some held) (counts : t < held.allocation.end) where
    is : stored_at slots slot ≡ Some held
    is = stored_read slots slot o (Some held) within at same

    held_rows : held_in (live_rows t now) slot ≡ Some (live_held t held)
    held_rows = held_in-stored last slots now shows t later slot ∙ ap (option_and_then (held_at t)) is ∙ held_at-live t held (lt-ltb t held.allocation.end counts)

    made : (new wanted : Held) → held_at t new ≡ held_at t wanted → live_rows t (record { moment = t; slots = set slots slot (Some new) }) ≡ with_held (live_rows t now) slot wanted
    made new wanted left =
        with_held-stored last slots now shows t later slot new ∙ ap (λ (o : Option Held). record (live_rows t now) { slots = set (live_rows t now).slots slot o }) left

    slot-changes : (change : HeldChange) → slot_change slot change (live_rows t now) ≡ (change_held change t (live_held t held) >>= put-back slot (live_rows t now))
    slot-changes change = ap (λ (o : Option Held). ok_or o NoAllocation >>= (λ held. change_held change t held >>= put-back slot (live_rows t now))) held_rows

    after : (change : Change (Unit {0})) (inner : Result Held TableError) (new : Held) → change ≡ (inner >>= put-back slot (live_rows t now)) → LeavesHeld inner t held (Ok tt) new
        → Follows change now (Ok tt) (live_rows t (record { moment = t; slots = set slots slot (Some new) }))
    after change (Ok wanted) new made_is left = subst (λ (c : Change (Unit {0})). Follows c now (Ok tt) (live_rows t (record { moment = t; slots = set slots slot (Some new) }))) (sym made_is) (refl, made new wanted left.1)
    after change (Err refused) new made_is left = absurd (ok-err refl left.0)

    pub change-follows : (change : HeldChange) (new : Held) → LeavesHeld (change_held change t (live_held t held)) t held (Ok tt) new
        → Follows (slot_change slot change (live_rows t now)) now (Ok tt) (live_rows t (record { moment = t; slots = set slots slot (Some new) }))
    change-follows change new = after _ _ new (slot-changes change)

    -- where the change of what the slot holds is refused, so is that of the rows
    refused : (change : Change (Unit {0})) (inner : Result Held TableError) (why : TableError) (new : Held) → change ≡ (inner >>= put-back slot (live_rows t now)) → LeavesHeld inner t held (Err why) new
        → Follows change now (Err why) (live_rows last (record { moment = last; slots = set slots slot (Some new) }))
    refused change (Ok wanted) why new refused_is left = absurd (ok-err left.0 refl)
    refused change (Err other) why new refused_is left =
        subst (λ (c : Change (Unit {0})). Follows c now (Err why) (live_rows last (record { moment = last; slots = set slots slot (Some new) }))) (sym refused_is)
        (left.0, unchanged (Some new) (ap Some left.1 ∙ sym same))

    pub change-refused : (change : HeldChange) (why : TableError) (new : Held) → LeavesHeld (change_held change t (live_held t held)) t held (Err why) new
        → Follows (slot_change slot change (live_rows t now)) now (Err why) (live_rows last (record { moment = last; slots = set slots slot (Some new) }))
    change-refused change why new = refused _ _ why new (slot-changes change)

-- ---- the moment of a change

pub at_moment : (change : Rows → Change (Unit {0})) (now new : Rows) (result : Result (Unit {0}) TableError) (t u : ℕ) → t ≡ u → Follows (change (live_rows t now)) now result new → Follows (change (live_rows u now)) now result new
at_moment change now new result t u moment = subst (λ m. Follows (change (live_rows m now)) now result new) moment

-- ---- what is stored stays well formed

pub stored-held : (last t : ℕ) (slots : List (Option Held)) (clients : List Client) → AreStored last slots clients → t ≤ LATEST → (slot : ℕ) → slot < length slots → (held : Held) → stored_at slots slot ≡ Some held
    → (new : Held) → ((slot : ℕ) → IsHeldAt slot held → IsHeldAt slot new) → new.allocation.client ≡ held.allocation.client → AreStored t (set slots slot (Some new)) clients
stored-held last t slots clients are latest slot within held is new at client = record {
  rows = set-well_formed t slot (Some new) (record { moment = last; slots = slots }) latest are.rows (λ held same. subst (IsHeldAt slot) (same_Some _ _ same) (at slot (are.rows.held slot _ is)));
  listed = held_again slots clients slot new are.listed within (ap client_in is ∙ ap Some (sym client));
}
