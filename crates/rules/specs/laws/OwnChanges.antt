-- Interface. A request of a client is decided alike over two tables that look alike to the client, and its change leaves the same
-- own rows; no row of another client changes.
use Rattle.std.specs.Prelude.{◌≡◌, ℕ, ◌+◌, Bool, true, false, List, nat_le, nat_lt, nat_eq, Option, None, Some, is_none, Result, Ok, Err, ok_or, refl}
use Rattle.std.specs.FinMap.{len}
use Rattle.std.specs.List.{list_all}
use Rattle.std.proofs.Common.{sym, ap, subst, ◌∙◌}
use Rattle.basics.specs.Fallible.{◌>>=◌, check}
use Rattle.stun.specs.Messages.{Parts}
use Rattle.stun.specs.declared.registry.ErrorCode.{ErrorCode}
use Rattle.stun.specs.declared.registry.ErrorCode.TheVariants.{AllocationMismatch, BadRequest, InsufficientCapacity, PeerAddressFamilyMismatch, WrongCredentials}
use Rattle.stun.specs.Ranges.{is_between}
use Rattle.stun.specs.declared.registry.attribute.TheConstants.{CHANNEL_NUMBER, XOR_PEER_ADDRESS}
use Rattle.addresses.specs.AddressOrder.{is_same_address}
use Rattle.addresses.specs.laws.AddressOrder.{is_same-itself}
use Rattle.attributes.specs.Addresses.{address_in}
use Rattle.addresses.specs.Addresses.{is_of_family}
use Rattle.attributes.specs.Values.{number_of_value}
use Rattle.addresses.specs.declared.address.Addr.{Addr}
use Rattle.addresses.specs.declared.address.Family.{Family}
use Rattle.credentials.specs.declared.checking.AuthError.{AuthError}
use Rattle.credentials.specs.Checks.{first_value}
use Rattle.control.specs.Control.{Decision, acceptable, has_quota, owner_in, allocate_anew, allocate_beside, attribute_test, binding, channel_bind, create_permission, decision, decision_for_user, family_number, is_repeated, own_allocation, requested_family, requested_lifetime, refresh_decision, error_of, refresh_for, result_of_change, user_or_error, peers_in}
use Rattle.control.specs.Values.{required_value}
use Rattle.control.specs.declared.config.Config.{Config}
use Rattle.control.specs.declared.reply.Grant.TheVariants.{Allocated}
use Rattle.control.specs.declared.request.TurnRequest.{TurnRequest}
use Rattle.control.specs.declared.request.TurnRequest.TheVariants as turn
use Rattle.events.specs.declared.meta.Source.TheVariants.{Client}
use Rattle.tables.specs.Changes.{Change, allocation_change, bind_change, first_free, fresh, permission_end, permit_change, refresh_change, with_channel, with_held, with_peer}
use Rattle.tables.specs.Counts.{allocations_of}
use Rattle.tables.specs.Channels.{is_none_or, may_bind}
use Rattle.tables.specs.Permissions.{with_all}
use Rattle.tables.specs.LookUps.{allocation_of, held_in}
use Rattle.tables.specs.Rows.{Rows}
use Rattle.tables.specs.WellFormed.{AreWellFormed}
use Rattle.tables.specs.declared.allocation.Allocation.{Allocation}
use Rattle.tables.specs.declared.channels.TheConstants.{FIRST_CHANNEL, LAST_CHANNEL, MAX_CHANNELS}
use Rattle.tables.specs.declared.held.Held.{Held}
use Rattle.tables.specs.declared.permissions.TheConstants.{MAX_PERMISSIONS}
use Rattle.tables.specs.declared.refusal.TableError.TheVariants.{Mismatch, Capacity, Conflict, NoAllocation}
use Rattle.tables.specs.declared.refusal.TableError.TheVariants as refusal
use Rattle.rules.specs.Isolation.{HaveSameCounts, LookAlike, of_client, of_other}
use Rattle.rules.specs.laws.OwnRows.{HoldsOwn, allocation_of-alike, first_free-nothing, only, own_no_other, others-with_held, own-alike, own-with_held, own_slot}

-- ---- results that are related

-- both are made, and the values related, or both are refused alike
abbrev pub Both : {A B E : Type 0} → (A → B → Type 0) → Result A E → Result B E → Type 0
Both R (Ok x) (Ok y) = R x y
Both R (Ok x) (Err refused) = ⊥
Both R (Err refused) (Ok y) = ⊥
Both R (Err refused) (Err other) = refused ≡ other

module _ {B C E : Type 0} (R : B → C → Type 0) where
  -- what follows the same result
  after_same : {A : Type 0} (r : Result A E) (f : A → Result B E) (g : A → Result C E) → ((x : A) → r ≡ Ok x → Both R (f x) (g x)) → Both R (r >>= f) (r >>= g)
  after_same (Ok x) f g each = each x refl
  after_same (Err refused) f g each = refl

  after_equal : {A : Type 0} (r s : Result A E) → r ≡ s → (f : A → Result B E) (g : A → Result C E) → ((x : A) → r ≡ Ok x → Both R (f x) (g x)) → Both R (r >>= f) (s >>= g)
  after_equal r s same f g each = subst (λ (s : Result _ E). Both R (r >>= f) (s >>= g)) same (after_same r f g each)

  after_related : {A D : Type 0} (Q : A → D → Type 0) (r : Result A E) (s : Result D E) → Both Q r s → (f : A → Result B E) (g : D → Result C E)
      → ((x : A) (y : D) → Q x y → Both R (f x) (g y)) → Both R (r >>= f) (s >>= g)
  after_related Q (Ok x) (Ok y) related f g each = each x y related
  after_related Q (Ok x) (Err refused) related f g each = absurd related
  after_related Q (Err refused) (Ok y) related f g each = absurd related
  after_related Q (Err refused) (Err other) related f g each = related

some_ok : {A E : Type 0} (option : Option A) (refused : E) (x : A) → ok_or option refused ≡ Ok x → option ≡ Some x
some_ok None refused x e = cc
some_ok (Some y) refused x e = cc

-- ---- rows that a change leaves

-- the same own rows, and those of others as they were
pub record LeavesOwn (client : Addr) (before a b : Rows) : Type 0 where
  pub own : only (of_client client) a ≡ only (of_client client) b
  pub others : only (of_other client) a ≡ only (of_other client) before

abbrev pub IsMadeAlike : {A : Type 0} → Addr → Rows → A × Rows → A × Rows → Type 0
IsMadeAlike client before x y = (x.0 ≡ y.0) × LeavesOwn client before x.1 y.1

-- rows that a request leaves, if it changes any
abbrev pub LeaveOwn : Addr → Rows → Option Rows → Option Rows → Type 0
LeaveOwn client before None None = Unit {0}
LeaveOwn client before None (Some b) = ⊥
LeaveOwn client before (Some a) None = ⊥
LeaveOwn client before (Some a) (Some b) = LeavesOwn client before a b

abbrev pub IsGivenAlike : {A : Type 0} → Addr → Rows → A × Option Rows → A × Option Rows → Type 0
IsGivenAlike client before x y = (x.0 ≡ y.0) × LeaveOwn client before x.1 y.1

given_of_change : {A : Type 0} (client : Addr) (before : Rows) (c d : Change A) → Both (IsMadeAlike client before) c d → Both (IsGivenAlike client before) (result_of_change c) (result_of_change d)
given_of_change client before (Ok x) (Ok y) alike = alike
given_of_change client before (Ok x) (Err refused) alike = absurd alike
given_of_change client before (Err refused) (Ok y) alike = absurd alike
given_of_change client before (Err refused) (Err other) alike = ap error_of alike

-- ---- over two tables at one moment

module _ (client : Addr) (m : ℕ) (xs ys : List (Option Held)) where
  abbrev a : Rows
  a = record { moment = m; slots = xs }

  abbrev b : Rows
  b = record { moment = m; slots = ys }

  abbrev Made : {A : Type 0} → A × Rows → A × Rows → Type 0
  Made x y = IsMadeAlike client a x y

  abbrev Given : {A : Type 0} → A × Option Rows → A × Option Rows → Type 0
  Given x y = IsGivenAlike client a x y

  module _ (config : Config) (are_a : AreWellFormed a) (are_b : AreWellFormed b) (alike : LookAlike config.user_slots (Client client) a b) where
    holds_other : (slot : ℕ) (held : Held) → of_other client (held_in a slot) ≡ None → is_same_address client held.allocation.client ≡ true
        → LeavesOwn client a (with_held a slot held) (with_held b slot held)
    holds_other slot held was same = record {
      own = own-with_held client a b slot held (own-alike client a b alike);
      others = others-with_held client a slot held was same;
    }

    -- ---- changes

    allocation_alike : (user : ℕ) (owner tx : List ℕ) (family : Family) (lifetime : ℕ)
        → Both Made (allocation_change client user owner tx family lifetime a) (allocation_change client user owner tx family lifetime b)
    allocation_alike user owner tx family lifetime =
        after_equal Made _ _ (ap (λ (o : Option Allocation). check (is_none o) Mismatch) (allocation_of-alike client a b alike)) _ _ (λ _ _.
        after_equal Made _ _ (ap (λ (o : Option ℕ). ok_or o Capacity) alike.next) _ _ (λ slot free.
        let allocation : Allocation = record { slot = slot; client = client; family = family; user = user; owner = owner; tx = tx; lifetime = lifetime; end = m + lifetime } in
        (refl, holds_other slot (fresh allocation) (ap (of_other client) (first_free-nothing a slot (some_ok (first_free a) Capacity slot free))) (is_same-itself client))))

    -- what follows from what a slot of the client's holds
    after_own : {A : Type 0} (slot : ℕ) → HoldsOwn client slot a b → (f g : Held → Change A)
        → ((held : Held) → of_other client (held_in a slot) ≡ None → is_same_address client held.allocation.client ≡ true → Both Made (f held) (g held))
        → Both Made (ok_or (held_in a slot) NoAllocation >>= f) (ok_or (held_in b slot) NoAllocation >>= g)
    after_own slot own f g each =
        let was : of_other client (held_in a slot) ≡ None = ap (of_other client) own.in_a ∙ own_no_other client own.held own.same in
        subst (λ (o : Option Held). Both Made (ok_or o NoAllocation >>= f) (ok_or (held_in b slot) NoAllocation >>= g)) (sym own.in_a)
        (subst (λ (o : Option Held). Both Made (f own.held) (ok_or o NoAllocation >>= g)) (sym own.in_b) (each own.held was own.same))

    refresh_alike : (slot lifetime : ℕ) → HoldsOwn client slot a b → Both Made (refresh_change slot lifetime a) (refresh_change slot lifetime b)
    refresh_alike slot lifetime own = after_own slot own _ _ (λ held was same.
        (refl, holds_other slot (record held { allocation = record held.allocation { end = m + lifetime } }) was same))

    permit_alike : (slot : ℕ) (ips : List Addr) → HoldsOwn client slot a b → Both Made (permit_change slot ips a) (permit_change slot ips b)
    permit_alike slot ips own = after_own slot own _ _ (λ held was same.
        after_same Made (check (list_all (is_of_family held.allocation.family) ips) refusal.Family) _ _ (λ _ _.
        after_same Made (check (nat_le (len (with_all held.permissions ips (permission_end a))) MAX_PERMISSIONS) Capacity) _ _ (λ _ _.
        (refl, holds_other slot _ was same))))

    bind_alike : (slot number : ℕ) (peer : Addr) → HoldsOwn client slot a b → Both Made (bind_change slot number peer a) (bind_change slot number peer b)
    bind_alike slot number peer own = after_own slot own _ _ (λ held was same.
        after_same Made (check (is_of_family held.allocation.family peer) refusal.Family) _ _ (λ _ _.
        after_same Made (check (may_bind held.channels number peer) Conflict) _ _ (λ _ _.
        after_same Made (check (nat_le (len (with_channel held.channels number peer a)) MAX_CHANNELS) Capacity) _ _ (λ _ _.
        after_same Made (check (nat_le (len (with_peer held.permissions peer a)) MAX_PERMISSIONS) Capacity) _ _ (λ _ _.
        (refl, holds_other slot _ was same))))))

    -- ---- decisions

    quota_alike : (quota : Option ℕ) → HaveSameCounts quota (Client client) a b → (owner : List ℕ)
        → has_quota quota (allocations_of owner a) ≡ has_quota quota (allocations_of owner b)
    quota_alike None same owner = refl
    quota_alike (Some quota) same owner = ap (λ (count : ℕ). nat_lt count quota) (same owner)

    anew_alike : (user : ℕ) (p : Parts) → Both Given (allocate_anew config client user p a) (allocate_anew config client user p b)
    anew_alike user p =
        after_same Given (acceptable config p) _ _ (λ given _.
        after_equal Given _ _ (ap (λ (b : Bool). check b InsufficientCapacity) (quota_alike config.user_slots alike.counts (owner_in p))) _ _ (λ _ _.
        after_related Given Given _ _ (given_of_change client a _ _ (allocation_alike user (owner_in p) p.tx given.0 given.1)) _ _ (λ x y made.
        (ap (λ (slot : ℕ). Allocated given.0 slot given.1) made.0, made.1))))

    beside_alike : (user : ℕ) (p : Parts) (o : Option Allocation) → Both Given (allocate_beside config o client user p a) (allocate_beside config o client user p b)
    beside_alike user p None = anew_alike user p
    beside_alike user p (Some own) = after_same Given (check (is_repeated own user p) AllocationMismatch) _ _ (λ _ _. (refl, tt))

    -- what follows from the client's allocation
    user_is : (own x : Allocation) (t : Bool) → (check {E = ErrorCode} t WrongCredentials >>= λ _. Ok own) ≡ Ok x → own ≡ x
    user_is own x true e = cc
    user_is own x false e = cc

    own_is : (user : ℕ) (o : Option Allocation) (x : Allocation)
        → (ok_or o AllocationMismatch >>= λ a. check (nat_eq a.user user) WrongCredentials >>= λ _. Ok a) ≡ Ok x → o ≡ Some x
    own_is user None x e = cc
    own_is user (Some own) x e = ap Some (user_is own x (nat_eq own.user user) e)

    after_allocation : (user : ℕ) (f g : Allocation → Decision) → ((x : Allocation) → HoldsOwn client x.slot a b → Both Given (f x) (g x))
        → Both Given (own_allocation client user a >>= f) (own_allocation client user b >>= g)
    after_allocation user f g each =
        after_equal Given _ _
        (ap (λ (o : Option Allocation). ok_or o AllocationMismatch >>= λ a. check (nat_eq a.user user) WrongCredentials >>= λ _. Ok a) (allocation_of-alike client a b alike))
        f g (λ x is. each x (own_slot client a b are_a are_b alike x (own_is user (allocation_of client a) x is)))

    refreshed_alike : (user : ℕ) (p : Parts) → Both Given (refresh_decision client user p a) (refresh_decision client user p b)
    refreshed_alike user p = after_allocation user _ _ (λ x own.
        after_same Given (requested_family p) _ _ (λ family _.
        after_same Given (check (is_none_or (nat_eq (family_number x.family)) family) PeerAddressFamilyMismatch) _ _ (λ _ _.
        after_same Given (requested_lifetime p) _ _ (λ requested _.
        after_related Given Given _ _ (given_of_change client a _ _ (refresh_alike x.slot (refresh_for requested) own)) _ _ (λ x y made. (refl, made.1))))))

    permitted_alike : (user : ℕ) (p : Parts) → Both Given (create_permission client user p a) (create_permission client user p b)
    permitted_alike user p = after_allocation user _ _ (λ x own.
        after_same Given (peers_in p) _ _ (λ peers _.
        after_related Given Given _ _ (given_of_change client a _ _ (permit_alike x.slot peers own)) _ _ (λ x y made. (refl, made.1))))

    bound_alike : (user : ℕ) (p : Parts) → Both Given (channel_bind client user p a) (channel_bind client user p b)
    bound_alike user p = after_allocation user _ _ (λ x own.
        after_same Given (required_value (number_of_value 2) (first_value p CHANNEL_NUMBER)) _ _ (λ number _.
        after_same Given (required_value (address_in p.tx) (first_value p XOR_PEER_ADDRESS)) _ _ (λ peer _.
        after_same Given (check (is_between FIRST_CHANNEL LAST_CHANNEL number) BadRequest) _ _ (λ _ _.
        after_related Given Given _ _ (given_of_change client a _ _ (bind_alike x.slot number peer own)) _ _ (λ x y made. (refl, made.1))))))

    for_user : (r : TurnRequest) (user : ℕ) (p : Parts) → Both Given (decision_for_user r config client user p a) (decision_for_user r config client user p b)
    for_user turn.Allocate user p =
        subst (λ (o : Option Allocation). Both Given (allocate_beside config (allocation_of client a) client user p a) (allocate_beside config o client user p b)) (allocation_of-alike client a b alike)
        (beside_alike user p (allocation_of client a))
    for_user turn.Refresh user p = refreshed_alike user p
    for_user turn.CreatePermission user p = permitted_alike user p
    for_user turn.ChannelBind user p = bound_alike user p

    decided : (r : TurnRequest) (checked : Result ℕ AuthError) (p : Parts) → Both Given (decision r checked config client p a) (decision r checked config client p b)
    decided r checked p =
        after_same Given (user_or_error checked) _ _ (λ user _.
        after_same Given (attribute_test p) _ _ (λ _ _.
        for_user r user p))

-- a request of TURN is decided alike
pub decision-alike : (config : Config) (client : Addr) (a b : Rows) → AreWellFormed a → AreWellFormed b → LookAlike config.user_slots (Client client) a b
    → (r : TurnRequest) (checked : Result ℕ AuthError) (p : Parts)
    → Both (IsGivenAlike client a) (decision r checked config client p a) (decision r checked config client p b)
decision-alike config client a b are_a are_b alike r checked p = of b.moment alike.moment are_b alike where
  of : (n : ℕ) → a.moment ≡ n → AreWellFormed (record { moment = n; slots = b.slots }) → LookAlike config.user_slots (Client client) a (record { moment = n; slots = b.slots })
      → Both (IsGivenAlike client a) (decision r checked config client p a) (decision r checked config client p (record { moment = n; slots = b.slots }))
  of n is =
      subst (λ (n : ℕ). AreWellFormed (record { moment = n; slots = b.slots }) → LookAlike config.user_slots (Client client) a (record { moment = n; slots = b.slots })
      → Both (IsGivenAlike client a) (decision r checked config client p a) (decision r checked config client p (record { moment = n; slots = b.slots })))
      is (λ are alike. decided client a.moment a.slots b.slots config are_a are alike r checked p)

-- one of Binding changes nothing
pub binding-alike : (client : Addr) (before : Rows) (p : Parts) → Both (IsGivenAlike client before) (binding p) (binding p)
binding-alike client before p = after_same (IsGivenAlike client before) (attribute_test p) _ _ (λ _ _. (refl, tt))
