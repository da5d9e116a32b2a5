-- Addresses that are read one after the other, and those of them that differ.
use Rattle.std.proofs.Common.{◌≡◌, ℕ, ◌<◌, ◌≤◌, ◌⊎◌, inl, inr, Bool, true, false, cond, ◌&&◌, ◌||◌, List, [], ◌∷◌, ◌++◌, length, nat_le, bytes_eq, filter_map, Option, Some, None, Result, Ok, Err, sym, ap, ◌∙◌, subst, refl, arith, append_assoc, append-nil}
use Rattle.std.specs.List.{list_all, list_any, cons_option}
use Rattle.std.specs.FinMap.{len}
use Rattle.std.proofs.lemmas.Bool.{cases_Bool, both_ways, leb-true, and_parts, and_from}
use Rattle.std.proofs.lemmas.Bool.Decides.{leb_tells}
use Rattle.std.proofs.lemmas.Option.{none-some, same_Some}
use Rattle.std.proofs.lemmas.Slice.Eq.{bytes_eq-Decides}
use Rattle.std.proofs.lemmas.List.{length-append}
use Rattle.basics.specs.Fallible.{◌>>=◌}
use Rattle.stun.specs.declared.registry.ErrorCode.{ErrorCode}
use Rattle.stun.specs.declared.registry.ErrorCode.TheVariants.{BadRequest}
use Rattle.addresses.specs.Addresses.{ip_of, is_of_family}
use Rattle.attributes.specs.Addresses.{address_in}
use Rattle.addresses.specs.declared.address.Family.{Family}
use Rattle.addresses.specs.declared.address.Addr.{Addr}
use Rattle.tables.specs.Permissions.{PermissionMap, with_all}
use Rattle.tables.specs.laws.Permit.{HasIp, AreDistinct, permitted_again, permitted_many, distinct_push, StandsFor}
use Rattle.tables.specs.declared.permissions.TheConstants.{MAX_PERMISSIONS}
use Rattle.control.specs.Control.{first_and_rest, addresses_in, some_addresses}
use Rattle.control.specs.Peers.{peers_of, peers_with}
use Rattle.control.specs.Serving.{are_of}
use Rattle.stun.specs.Attributes.{values_of}
use Rattle.stun.specs.Messages.{Parts, message_of}
use Rattle.stun.specs.declared.registry.attribute.TheConstants.{XOR_PEER_ADDRESS}
use Rattle.control.specs.declared.create_permission.TheConstants.{MAX_PEERS}

-- ---- whether all are of a family

-- what was found of the addresses before, with those that are left
abbrev pub combined : (family : Family) → Option Bool → Option (List Addr) → Result Bool ErrorCode
combined family found None = Err BadRequest
combined family None (Some []) = Err BadRequest
combined family None (Some (a ∷ rest)) = Ok (list_all (is_of_family family) (a ∷ rest))
combined family (Some b) (Some rest) = Ok (b && list_all (is_of_family family) rest)

abbrev pub all_of : (family : Family) → Option (List Addr) → Result Bool ErrorCode
all_of family peers = some_addresses peers >>= (λ peers. Ok (list_all (is_of_family family) peers))

pub at_first : (family : Family) → (peers : Option (List Addr)) → combined family None peers ≡ all_of family peers
at_first family None = refl
at_first family (Some []) = refl
at_first family (Some (a ∷ rest)) = refl

regrouped : (a b c : Bool) → ((a && b) && c) ≡ (a && (b && c))
regrouped true b c = refl
regrouped false b c = refl

abbrev pub found_with : (family : Family) → Option Bool → Addr → Bool
found_with family None a = true && is_of_family family a
found_with family (Some b) a = b && is_of_family family a

pub one_more : (family : Family) → (found : Option Bool) (a : Addr) (rest : Option (List Addr)) → combined family (Some (found_with family found a)) rest ≡ combined family found (first_and_rest (Some a) rest)
one_more family None a None = refl
one_more family (Some b) a None = refl
one_more family None a (Some rest) = refl
one_more family (Some b) a (Some rest) = ap Ok (regrouped b (is_of_family family a) (list_all (is_of_family family) rest))

-- ---- those that differ

is_there : (peer : Addr) (peers : List Addr) → list_any (λ known. bytes_eq (ip_of known) (ip_of peer)) peers ≡ true → HasIp (ip_of peer) peers
is_there peer [] e = absurd (both_ways false refl e)
is_there peer (x ∷ xs) e = elim (cases_Bool (bytes_eq (ip_of x) (ip_of peer))) [
  | inl same ↦ inl (sym ((bytes_eq-Decides (ip_of x) (ip_of peer)).0 same))
  | inr other ↦ inr (is_there peer xs (sym (ap (λ b. b || list_any (λ known. bytes_eq (ip_of known) (ip_of peer)) xs) other) ∙ e))
]

is_new : (peer : Addr) (peers : List Addr) → list_any (λ known. bytes_eq (ip_of known) (ip_of peer)) peers ≡ false → HasIp (ip_of peer) peers → ⊥
is_new peer [] e there = there
is_new peer (x ∷ xs) e (inl same) = both_ways false refl (sym e ∙ ap (λ b. b || list_any (λ known. bytes_eq (ip_of known) (ip_of peer)) xs) ((bytes_eq-Decides (ip_of x) (ip_of peer)).1 (sym same)))
is_new peer (x ∷ xs) e (inr there) = elim (cases_Bool (bytes_eq (ip_of x) (ip_of peer))) [
  | inl same ↦ both_ways false refl (sym e ∙ ap (λ b. b || list_any (λ known. bytes_eq (ip_of known) (ip_of peer)) xs) same)
  | inr other ↦ is_new peer xs (sym (ap (λ b. b || list_any (λ known. bytes_eq (ip_of known) (ip_of peer)) xs) other) ∙ e) there
]

-- the addresses that were collected, before those that are left, stand for all; or there are too many
pub record Collected (peers left all : List Addr) : Type 0 where
  pub distinct : AreDistinct peers
  pub few : length peers ≤ MAX_PEERS
  pub stands : (m : PermissionMap) (end : ℕ) → (with_all m (peers ++ left) end ≡ with_all m all end) ⊎ ((length peers ≡ MAX_PEERS) × (MAX_PERMISSIONS < len (with_all m all end)))

pub collected_first : (all : List Addr) → Collected [] all all
collected_first all = record { distinct = tt; few = omega arith; stands = λ m end. inl refl }

-- an address whose IP address was collected before
collected_again : (peers : List Addr) (a : Addr) (left all : List Addr) → Collected peers (a ∷ left) all → HasIp (ip_of a) peers → Collected peers left all
collected_again peers a left all c there = record {
  distinct = c.distinct;
  few = c.few;
  stands = λ m end. elim (c.stands m end) [
    | inl same ↦ inl (sym (permitted_again m peers a left end there) ∙ same)
    | inr many ↦ inr many
  ];
}

-- one where there is no room left
collected_enough : (peers : List Addr) (a : Addr) (left all : List Addr) → Collected peers (a ∷ left) all → length peers ≡ MAX_PEERS → Collected peers left all
collected_enough peers a left all c full = record {
  distinct = c.distinct;
  few = c.few;
  stands = λ m end. elim (c.stands m end) [
    | inl same ↦ inr (full, omega (arith, full, permitted_many m peers (a ∷ left) end c.distinct, ap len same))
    | inr many ↦ inr many
  ];
}

-- a new one
collected_new : (peers : List Addr) (a : Addr) (left all : List Addr) → Collected peers (a ∷ left) all → length peers < MAX_PEERS → (HasIp (ip_of a) peers → ⊥) → Collected (peers ++ a ∷ []) left all
collected_new peers a left all c room none = record {
  distinct = distinct_push peers a c.distinct none;
  few = omega (arith, room, length-append peers (a ∷ []));
  stands = λ m end. elim (c.stands m end) [
    | inl same ↦ inl (ap (λ (xs : List Addr). with_all m xs end) (append_assoc peers (a ∷ []) left) ∙ same)
    | inr many ↦ absurd (omega (arith, room, many.0))
  ];
}

under : (n k : ℕ) → nat_le n k ≡ false → k < n
under n k f = elim (leb_tells n k) [ inl t ↦ absurd (both_ways (nat_le n k) f t.0) | inr t ↦ t.1 ]

pub collected_peer : (peers : List Addr) (a : Addr) (left all : List Addr) → Collected peers (a ∷ left) all → Collected (peers_with peers a) left all
collected_peer peers a left all c =
    let there : Bool = list_any (λ known. bytes_eq (ip_of known) (ip_of a)) peers in
    let full : Bool = nat_le MAX_PEERS (length peers) in
    let P : Bool → Bool → Type 0 = λ b d. Collected (cond (b || d) peers (peers ++ a ∷ [])) left all in
    elim (cases_Bool there) [
      | inl e ↦ subst (λ b. P b full) (sym e) (collected_again peers a left all c (is_there a peers e))
      | inr e ↦ subst (λ b. P b full) (sym e) (elim (cases_Bool full) [
        | inl f ↦ subst (λ d. P false d) (sym f) (collected_enough peers a left all c (omega (arith, c.few, leb-true MAX_PEERS (length peers) f)))
        | inr f ↦ subst (λ d. P false d) (sym f) (collected_new peers a left all c (under MAX_PEERS (length peers) f) (is_new a peers e))
      ])
    ]

pub collected_all : (peers all : List Addr) → Collected peers [] all → StandsFor peers all
collected_all peers all c m end = elim (c.stands m end) [
  | inl same ↦ inl (ap (λ (xs : List Addr). with_all m xs end) (sym (append-nil peers)) ∙ same)
  | inr many ↦ inr (omega (arith, many.0, subst (λ (xs : List Addr). length peers ≤ len (with_all m xs end)) (append-nil peers) (permitted_many m peers [] end c.distinct)), many.1)
]

-- ---- as the values are read

pub collected_value : (tx : List ℕ) (peers more : List Addr) (a : Addr) (value : List ℕ) (values before : List (List ℕ)) (all : List Addr)
    → before ≡ value ∷ values → address_in tx value ≡ Some a → more ≡ peers_with peers a
    → Collected peers (filter_map (address_in tx) before) all → Collected more (filter_map (address_in tx) values) all
collected_value tx peers more a value values before all first read added c =
    let left : List Addr = filter_map (address_in tx) values in
    let begun : filter_map (address_in tx) before ≡ a ∷ left = ap (filter_map (address_in tx)) first ∙ ap (λ o. cons_option o left) read in
    subst (λ (xs : List Addr). Collected xs left all) (sym added) (collected_peer peers a left all (subst (λ (xs : List Addr). Collected peers xs all) begun c))

pub collected_end : (tx : List ℕ) (peers : List Addr) (values : List (List ℕ)) (all : List Addr) → values ≡ [] → Collected peers (filter_map (address_in tx) values) all → StandsFor peers all
collected_end tx peers values all none c = collected_all peers all (subst (λ (vs : List (List ℕ)). Collected peers (filter_map (address_in tx) vs) all) none c)

-- ---- the addresses of a request

-- all addresses of a request that are read are those that are well formed
pub all_read : (tx : List ℕ) (values : List (List ℕ)) (peers : List Addr) → addresses_in tx values ≡ Some peers → filter_map (address_in tx) values ≡ peers
all_read tx [] peers e = same_Some [] peers e
all_read tx (value ∷ values) peers e =
    elim (address_in tx value) as (λ o. first_and_rest o (addresses_in tx values) ≡ Some peers → cons_option o (filter_map (address_in tx) values) ≡ peers) [
      | None ↦ λ h. absurd (none-some peers h)
      | Some a ↦ λ h. elim (addresses_in tx values) as (λ r. addresses_in tx values ≡ r → first_and_rest (Some a) r ≡ Some peers → a ∷ filter_map (address_in tx) values ≡ peers) [
        | None ↦ λ is k. absurd (none-some peers k)
        | Some rest ↦ λ is k. ap (λ (xs : List Addr). a ∷ xs) (all_read tx values rest is) ∙ same_Some (a ∷ rest) peers k
      ] refl h
    ] e

err-ok : {A E : Type 0} {x : A} {e : E} → ◌≡◌ {A = Result A E} (Err e) (Ok x) → ⊥
err-ok h = cc

ok_value : {A E : Type 0} (x y : A) → ◌≡◌ {A = Result A E} (Ok x) (Ok y) → x ≡ y
ok_value x y h = cc

-- ---- addresses of a family

-- those that were collected, and those that are left
pub record AreOf (family : Family) (peers left : List Addr) : Type 0 where
  pub collected : list_all (is_of_family family) peers ≡ true
  pub rest : list_all (is_of_family family) left ≡ true

one_and_all : (family : Family) → (a : Addr) (left : List Addr) → list_all (is_of_family family) (a ∷ left) ≡ true → (is_of_family family a ≡ true) × (list_all (is_of_family family) left ≡ true)
one_and_all family a left e = and_parts _ _ e

one_pushed : (family : Family) → (peers : List Addr) (a : Addr) → list_all (is_of_family family) peers ≡ true → is_of_family family a ≡ true → list_all (is_of_family family) (peers ++ a ∷ []) ≡ true
one_pushed family [] a e one = and_from _ _ one refl
one_pushed family (x ∷ xs) a e one = let parts = and_parts _ _ e in and_from _ _ parts.0 (one_pushed family xs a parts.1 one)

one_added : (family : Family) → (peers : List Addr) (a : Addr) → list_all (is_of_family family) peers ≡ true → is_of_family family a ≡ true → list_all (is_of_family family) (peers_with peers a) ≡ true
one_added family peers a e one =
    let there : Bool = list_any (λ known. bytes_eq (ip_of known) (ip_of a)) peers || nat_le MAX_PEERS (length peers) in
    elim there as (λ b. list_all (is_of_family family) (cond b peers (peers ++ a ∷ [])) ≡ true) [
      | true ↦ e
      | false ↦ one_pushed family peers a e one
    ]

pub family_value : (family : Family) → (tx : List ℕ) (peers more : List Addr) (a : Addr) (value : List ℕ) (values before : List (List ℕ))
    → before ≡ value ∷ values → address_in tx value ≡ Some a → more ≡ peers_with peers a
    → AreOf family peers (filter_map (address_in tx) before) → AreOf family more (filter_map (address_in tx) values)
family_value family tx peers more a value values before first read added are =
    let left : List Addr = filter_map (address_in tx) values in
    let begun : filter_map (address_in tx) before ≡ a ∷ left = ap (filter_map (address_in tx)) first ∙ ap (λ o. cons_option o left) read in
    let parts = one_and_all family a left (sym (ap (list_all (is_of_family family)) begun) ∙ are.rest) in
    record { collected = ap (list_all (is_of_family family)) added ∙ one_added family peers a are.collected parts.0; rest = parts.1 }

-- whether all addresses of a request are of a family is whether those that are well formed are
pub read_families : (family : Family) (p : Parts) (b : Bool) → are_of family p ≡ Ok b → list_all (is_of_family family) (peers_of p) ≡ b
read_families family p b =
    let values : List (List ℕ) = values_of XOR_PEER_ADDRESS (message_of p).attributes in
    elim (addresses_in p.tx values) as
    (λ o. addresses_in p.tx values ≡ o → all_of family o ≡ Ok b → list_all (is_of_family family) (filter_map (address_in p.tx) values) ≡ b) [
      | None ↦ λ is h. absurd (err-ok h)
      | Some [] ↦ λ is h. absurd (err-ok h)
      | Some (peer ∷ peers) ↦ λ is h. ap (list_all (is_of_family family)) (all_read p.tx values (peer ∷ peers) is) ∙ ok_value _ _ h
    ] refl
