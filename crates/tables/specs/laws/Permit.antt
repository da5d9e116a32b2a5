-- Interface. Permissions for a list of IP addresses depend on the addresses that differ alone.
use Rattle.std.specs.Prelude.{◌≡◌, ◌≢◌, ℕ, ◌-◌, ◌<◌, ◌≤◌, Bool, nat_le, ok_or, Err, ◌⊎◌, true, false, cond, List, [], ◌∷◌, ◌++◌, length, Option, None, Some, Ok, refl}
use Rattle.std.specs.List.{list_all}
use Rattle.std.specs.Ordering.{eq_by_cmp}
use Rattle.std.specs.Cmp.{Equal-is, tied_itself}
use Rattle.std.specs.FinMap.{get, insert, remove, len, contains_key, get-insert, get-remove, get-empty, len-remove, empty_of_len, same_map}
use Rattle.std.proofs.Common.{sym, ap, subst, ◌∙◌, inl, inr, arith, is_some, is_eq}
use Rattle.std.proofs.lemmas.Bool.{cases_Bool, cond-true, cond-false, false_from_ne_true, leb-true}
use Rattle.std.proofs.lemmas.Option.{none-some}
use Rattle.basics.specs.Fallible.{◌>>=◌, check}
use Rattle.addresses.specs.Addresses.{ip_of, is_of_family}
use Rattle.addresses.specs.AddressOrder.{ip_cmp}
use Rattle.addresses.specs.laws.AddressOrder.{ip_total, ip_antisymmetric}
use Rattle.addresses.specs.declared.address.Addr.{Addr}
use Rattle.tables.specs.Changes.{Change, permit_change, permission_end, with_held}
use Rattle.tables.specs.LookUps.{held_in}
use Rattle.tables.specs.Permissions.{PermissionMap, with_all}
use Rattle.tables.specs.Rows.{Rows}
use Rattle.tables.specs.declared.held.Held.{Held}
use Rattle.tables.specs.declared.permissions.TheConstants.{MAX_PERMISSIONS}
use Rattle.tables.specs.declared.refusal.TableError.TheVariants.{Capacity, NoAllocation}
use Rattle.tables.specs.declared.refusal.TableError.TheVariants as refusal

same_ip : (q k : List ℕ) → eq_by_cmp ip_cmp q k ≡ true → q ≡ k
same_ip q k e = ip_antisymmetric q k ((Equal-is (ip_cmp q k)).0 e)

is_itself : (q : List ℕ) → eq_by_cmp ip_cmp q q ≡ true
is_itself q = ap is_eq (tied_itself ip_total q)

other_ip : (q k : List ℕ) → q ≢ k → eq_by_cmp ip_cmp q k ≡ false
other_ip q k differ = false_from_ne_true (eq_by_cmp ip_cmp q k) (λ e. differ (same_ip q k e))

pub with_all-append : (m : PermissionMap) (xs ys : List Addr) (end : ℕ) → with_all m (xs ++ ys) end ≡ with_all (with_all m xs end) ys end
with_all-append m [] ys end = refl
with_all-append m (x ∷ xs) ys end = with_all-append (insert m (ip_of x) end) xs ys end

-- ---- an address that is there twice

insert_again : (m : PermissionMap) (ip : List ℕ) (end : ℕ) → get m ip ≡ Some end → insert m ip end ≡ m
insert_again m ip end there = same_map ip_total ip_antisymmetric _ _ (λ q. get-insert ip_total m ip end q ∙ elim (cases_Bool (eq_by_cmp ip_cmp q ip)) [
  | inl e ↦ cond-true (eq_by_cmp ip_cmp q ip) _ _ e ∙ sym (ap (get m) (same_ip q ip e) ∙ there)
  | inr e ↦ cond-false (eq_by_cmp ip_cmp q ip) _ _ e
])

either_end : (b : Bool) (end : ℕ) (o : Option ℕ) → o ≡ Some end → cond b (Some end) o ≡ Some end
either_end true end o e = refl
either_end false end o e = e

end_kept : (m : PermissionMap) (ip : List ℕ) (xs : List Addr) (end : ℕ) → get m ip ≡ Some end → get (with_all m xs end) ip ≡ Some end
end_kept m ip [] end there = there
end_kept m ip (x ∷ xs) end there =
    end_kept (insert m (ip_of x) end) ip xs end (get-insert ip_total m (ip_of x) end ip ∙ either_end (eq_by_cmp ip_cmp ip (ip_of x)) end (get m ip) there)

inserted : (m : PermissionMap) (ip : List ℕ) (end : ℕ) → get (insert m ip end) ip ≡ Some end
inserted m ip end = get-insert ip_total m ip end ip ∙ cond-true (eq_by_cmp ip_cmp ip ip) _ _ (is_itself ip)

-- at an index of a list is this IP address
abbrev pub HasIp : List ℕ → List Addr → Type 0
HasIp ip [] = ⊥
HasIp ip (x ∷ xs) = (ip ≡ ip_of x) ⊎ HasIp ip xs

end_of_each : (m : PermissionMap) (ip : List ℕ) (xs : List Addr) (end : ℕ) → HasIp ip xs → get (with_all m xs end) ip ≡ Some end
end_of_each m ip [] end there = absurd there
end_of_each m ip (x ∷ xs) end (inl e) = end_kept (insert m (ip_of x) end) ip xs end (ap (get (insert m (ip_of x) end)) e ∙ inserted m (ip_of x) end)
end_of_each m ip (x ∷ xs) end (inr there) = end_of_each (insert m (ip_of x) end) ip xs end there

pub permitted_again : (m : PermissionMap) (xs : List Addr) (a : Addr) (ys : List Addr) (end : ℕ) → HasIp (ip_of a) xs → with_all m (xs ++ a ∷ ys) end ≡ with_all m (xs ++ ys) end
permitted_again m xs a ys end there =
    with_all-append m xs (a ∷ ys) end
    ∙ ap (λ (n : PermissionMap). with_all n ys end) (insert_again (with_all m xs end) (ip_of a) end (end_of_each m (ip_of a) xs end there))
    ∙ sym (with_all-append m xs ys end)

-- ---- addresses that differ

abbrev pub AreDistinct : List Addr → Type 0
AreDistinct [] = Unit {0}
AreDistinct (x ∷ xs) = (HasIp (ip_of x) xs → ⊥) × AreDistinct xs

same_in : (ip k : List ℕ) (xs : List Addr) → ip ≡ k → HasIp k xs → HasIp ip xs
same_in ip k xs e there = subst (λ (q : List ℕ). HasIp q xs) (sym e) there

-- a map that has each of these has as many at least
as_many : (xs : List Addr) (m : PermissionMap) (end : ℕ) → AreDistinct xs → ((ip : List ℕ) → HasIp ip xs → get m ip ≡ Some end) → length xs ≤ len m
as_many [] m end differ has = omega arith
as_many (x ∷ xs) m end differ has =
    let there : get m (ip_of x) ≡ Some end = has (ip_of x) (inl refl) in
    let some : len m ≢ 0 = λ e. none-some end (sym (ap (λ (n : PermissionMap). get n (ip_of x)) (empty_of_len m e) ∙ get-empty ip_cmp (ip_of x)) ∙ there) in
    let less : len (remove m (ip_of x)) ≡ len m - 1 = len-remove ip_total m (ip_of x) ∙ cond-true (contains_key m (ip_of x)) _ _ (ap is_some there) in
    let rest : length xs ≤ len (remove m (ip_of x)) = as_many xs (remove m (ip_of x)) end differ.1
    (λ ip inside. get-remove ip_total m (ip_of x) ip ∙ cond-false (eq_by_cmp ip_cmp ip (ip_of x)) _ _ (other_ip ip (ip_of x) (λ e. differ.0 (same_in (ip_of x) ip xs (sym e) inside))) ∙ has ip (inr inside)) in
    omega (arith, some, less, rest)

in_front : (ip : List ℕ) (xs ys : List Addr) → HasIp ip xs → HasIp ip (xs ++ ys)
in_front ip [] ys there = absurd there
in_front ip (x ∷ xs) ys (inl e) = inl e
in_front ip (x ∷ xs) ys (inr there) = inr (in_front ip xs ys there)

-- permissions for addresses that differ are as many at least
pub permitted_many : (m : PermissionMap) (xs ys : List Addr) (end : ℕ) → AreDistinct xs → length xs ≤ len (with_all m (xs ++ ys) end)
permitted_many m xs ys end differ = as_many xs (with_all m (xs ++ ys) end) end differ (λ ip there. end_of_each m ip (xs ++ ys) end (in_front ip xs ys there))

in_part : (ip : List ℕ) (xs : List Addr) (a : Addr) → HasIp ip (xs ++ a ∷ []) → HasIp ip xs ⊎ (ip ≡ ip_of a)
in_part ip [] a (inl e) = inr e
in_part ip [] a (inr there) = absurd there
in_part ip (x ∷ xs) a (inl e) = inl (inl e)
in_part ip (x ∷ xs) a (inr there) = elim (in_part ip xs a there) [ inl h ↦ inl (inr h) | inr e ↦ inr e ]

pub distinct_push : (xs : List Addr) (a : Addr) → AreDistinct xs → (HasIp (ip_of a) xs → ⊥) → AreDistinct (xs ++ a ∷ [])
distinct_push [] a differ none = ((λ there. there), tt)
distinct_push (x ∷ xs) a differ none =
    ((λ there. elim (in_part (ip_of x) xs a there) [ inl h ↦ differ.0 h | inr e ↦ none (inl (sym e)) ]), distinct_push xs a differ.1 (λ there. none (inr there)))

-- ---- a change for some addresses in place of all

-- permissions for these are granted or refused as for those
abbrev pub StandsFor : List Addr → List Addr → Type 0
StandsFor few all = (m : PermissionMap) (end : ℕ) → (with_all m few end ≡ with_all m all end) ⊎ ((MAX_PERMISSIONS < len (with_all m few end)) × (MAX_PERMISSIONS < len (with_all m all end)))

abbrev pub permit_with : ℕ → Rows → Held → PermissionMap → Change (Unit {0})
permit_with slot rows held permissions = check (nat_le (len permissions) MAX_PERMISSIONS) Capacity >>= (λ _. Ok (tt, with_held rows slot (record held { permissions = permissions })))

abbrev pub permit_held : List Addr → ℕ → Rows → Option Held → Change (Unit {0})
permit_held ips slot rows held = ok_or held NoAllocation >>= (λ held. check (list_all (is_of_family held.allocation.family) ips) refusal.Family >>= (λ _. permit_with slot rows held (with_all held.permissions ips (permission_end rows))))

too_many : (slot : ℕ) (rows : Rows) (held : Held) (permissions : PermissionMap) → MAX_PERMISSIONS < len permissions → permit_with slot rows held permissions ≡ Err Capacity
too_many slot rows held permissions many = elim (cases_Bool (nat_le (len permissions) MAX_PERMISSIONS)) [
  | inl t ↦ absurd (omega (arith, many, leb-true (len permissions) MAX_PERMISSIONS t))
  | inr f ↦ ap (λ b. check b Capacity >>= (λ _. Ok (tt, with_held rows slot (record held { permissions = permissions })))) f
]

-- some addresses are of the family at a slot where all are
abbrev pub HaveFamilyOf : List Addr → List Addr → ℕ → Rows → Type 0
HaveFamilyOf few all slot rows = (held : Held) → held_in rows slot ≡ Some held → list_all (is_of_family held.allocation.family) few ≡ list_all (is_of_family held.allocation.family) all

-- permissions for some addresses are granted as those for all
pub permit_alike : (few all : List Addr) → StandsFor few all → (slot : ℕ) (rows : Rows) → HaveFamilyOf few all slot rows → permit_change slot few rows ≡ permit_change slot all rows
permit_alike few all stands slot rows families = elim (held_in rows slot) as (λ o. held_in rows slot ≡ o → permit_held few slot rows o ≡ permit_held all slot rows o) [
  | None ↦ λ is. refl
  | Some held ↦ λ is.
      let Permits : Bool → Change (Unit {0}) → Change (Unit {0}) = λ b change. check b refusal.Family >>= (λ _. change) in
      let family : list_all (is_of_family held.allocation.family) few ≡ list_all (is_of_family held.allocation.family) all = families held is in
      elim (stands held.permissions (permission_end rows)) [
        | inl same ↦ λ i. Permits (family i) (permit_with slot rows held (same i))
        | inr many ↦
            let both = too_many slot rows held (with_all held.permissions few (permission_end rows)) many.0 ∙ sym (too_many slot rows held (with_all held.permissions all (permission_end rows)) many.1) in
            λ i. Permits (family i) (both i)
      ]
] refl
