-- Interface. The orders of addresses are total, only what is the same is equal in them, and they agree on all addresses.
use Rattle.std.specs.Prelude.{◌≡◌, ℕ, ◌&&◌, List, length, nat_eq, true, refl}
use Rattle.std.specs.Ordering.{nat_cmp, eq_by_cmp, ordering_then, is_eq}
use Rattle.std.specs.Cmp.{IsTotalOrder, nat_cmp_total, unsigned_ties, then_total, on_total, tied_itself, Equal-is}
use Rattle.std.specs.Cmp.Lexicographic.{nat_list_cmp_total, pointwise, texts_ties}
use Rattle.std.specs.declared.cmp.Ordering.{Ordering}
use Rattle.std.specs.declared.cmp.Ordering.TheVariants.{Less, Equal, Greater}
use Rattle.std.specs.FinMap.{IsAntisymmetric, nat_cmp-IsAntisymmetric, slice_cmp-IsAntisymmetric}
use Rattle.std.proofs.Common.{false, sym, ap, subst, ◌∙◌, inl, inr}
use Rattle.std.proofs.lemmas.Bool.{cases_Bool, both_ways}
use Rattle.addresses.specs.Addresses.{IsAddress, ip_of, port_of}
use Rattle.addresses.specs.contracts.address.AddrPartialEq.TheImpl as equality
use Rattle.addresses.specs.declared.address.Addr.{Addr}
use Rattle.addresses.specs.declared.address.Addr.TheVariants.{V4, V6}
use Rattle.addresses.specs.AddressOrder.{ip_cmp, ip_order, address_parts, parts_order, family_of, address_order, order_by_parts, is_same_address}

pub ip_total : IsTotalOrder ip_cmp
ip_total = nat_list_cmp_total

pub ip_antisymmetric : IsAntisymmetric ip_cmp
ip_antisymmetric = slice_cmp-IsAntisymmetric nat_cmp-IsAntisymmetric

pub ip_order-total : IsTotalOrder ip_order
ip_order-total = then_total (on_total length nat_cmp_total) ip_total

pub parts_order-total : IsTotalOrder parts_order
parts_order-total = then_total (on_total (λ (p : List ℕ × ℕ). p.0) ip_order-total) (on_total (λ (p : List ℕ × ℕ). p.1) nat_cmp_total)

pub order_by_parts-total : IsTotalOrder order_by_parts
order_by_parts-total = on_total address_parts parts_order-total

both_equal : (o b : Ordering) → is_eq (ordering_then o b) ≡ (is_eq o && is_eq b)
both_equal Less b = refl
both_equal Equal b = refl
both_equal Greater b = refl

second_equal : (o b : Ordering) → ordering_then o b ≡ Equal → b ≡ Equal
second_equal Less b e = absurd (both_ways false refl (ap is_eq e))
second_equal Equal b e = e
second_equal Greater b e = absurd (both_ways false refl (ap is_eq e))

first_equal : (o b : Ordering) → ordering_then o b ≡ Equal → o ≡ Equal
first_equal Less b e = absurd (both_ways false refl (ap is_eq e))
first_equal Equal b e = refl
first_equal Greater b e = absurd (both_ways false refl (ap is_eq e))

pub ip_order-antisymmetric : IsAntisymmetric ip_order
ip_order-antisymmetric a b e = ip_antisymmetric a b (second_equal (nat_cmp (length a) (length b)) (ip_cmp a b) e)

pub parts_order-antisymmetric : IsAntisymmetric parts_order
parts_order-antisymmetric a b e =
    let ip : a.0 ≡ b.0 = ip_order-antisymmetric a.0 b.0 (first_equal (ip_order a.0 b.0) (nat_cmp a.1 b.1) e) in
    let port : a.1 ≡ b.1 = nat_cmp-IsAntisymmetric a.1 b.1 (second_equal (ip_order a.0 b.0) (nat_cmp a.1 b.1) e) in
    λ i. (ip i, port i)

pub ip_order-same : (a c : List ℕ) → eq_by_cmp ip_order a c ≡ eq_by_cmp ip_cmp a c
ip_order-same a l = elim (cases_Bool (eq_by_cmp ip_cmp a l)) [
  | inl t ↦
      let one : a ≡ l = ip_antisymmetric a l ((Equal-is (ip_cmp a l)).0 t) in
      ap is_eq (subst (λ (c : List ℕ). ip_order a c ≡ Equal) one (tied_itself ip_order-total a)) ∙ sym t
  | inr f ↦ elim (cases_Bool (eq_by_cmp ip_order a l)) [
    | inl t ↦ absurd (both_ways (eq_by_cmp ip_cmp a l) f (ap is_eq (second_equal (nat_cmp (length a) (length l)) (ip_cmp a l) ((Equal-is (ip_order a l)).0 t))))
    | inr g ↦ g ∙ sym f
  ]
]

pub order_by_parts-same : (address d : Addr) → eq_by_cmp order_by_parts address d ≡ is_same_address address d
order_by_parts-same d address =
    both_equal (ip_order (ip_of d) (ip_of address)) (nat_cmp (port_of d) (port_of address))
    ∙ (λ i. ip_order-same (ip_of d) (ip_of address) i && sym (unsigned_ties (port_of d) (port_of address)) i)

-- an address is the same as itself
pub is_same-itself : (address : Addr) → is_same_address address address ≡ true
is_same-itself address = sym (order_by_parts-same address address) ∙ ap is_eq (tied_itself order_by_parts-total address)

-- ---- the order by family

pub address_order-total : IsTotalOrder address_order
address_order-total = then_total (on_total family_of nat_cmp_total) (then_total (on_total ip_of ip_total) (on_total port_of nat_cmp_total))

of_one_family : (a c : List ℕ) (n q : ℕ) → pointwise nat_eq a c && nat_eq n q ≡ is_eq (ordering_then (ip_cmp a c) (nat_cmp n q))
of_one_family a c n q = (λ i. texts_ties a c i && unsigned_ties n q i) ∙ sym (both_equal (ip_cmp a c) (nat_cmp n q))

-- the addresses that are equal in it are those that `==` finds equal
pub address_order-ties : (d address : Addr) → (equality.ghosts).eq d address ≡ eq_by_cmp address_order d address
address_order-ties (V4 a p) (V4 b q) = of_one_family a b p q
address_order-ties (V4 a p) (V6 b q) = refl
address_order-ties (V6 a p) (V4 b q) = refl
address_order-ties (V6 a p) (V6 b q) = of_one_family a b p q

pub of_one_length : (n : ℕ) (a c : List ℕ) → length a ≡ n → length c ≡ n → ip_order a c ≡ ip_cmp a c
of_one_length n a c long also = ap (λ o. ordering_then o (ip_cmp a c)) ((λ i. nat_cmp (long i) (also i)) ∙ tied_itself nat_cmp_total n)

-- it is the order by the bytes, since each address has the bytes of its family
pub address_order-by_parts : (d address : Addr) → IsAddress d → IsAddress address → address_order d address ≡ order_by_parts d address
address_order-by_parts (V4 a p) (V4 b q) is also = ap (λ o. ordering_then o (nat_cmp p q)) (sym (of_one_length 4 a b is.long also.long))
address_order-by_parts (V4 a p) (V6 b q) is also = sym (λ i. ordering_then (ordering_then (nat_cmp (is.long i) (also.long i)) (ip_cmp a b)) (nat_cmp p q))
address_order-by_parts (V6 a p) (V4 b q) is also = sym (λ i. ordering_then (ordering_then (nat_cmp (is.long i) (also.long i)) (ip_cmp a b)) (nat_cmp p q))
address_order-by_parts (V6 a p) (V6 b q) is also = ap (λ o. ordering_then o (nat_cmp p q)) (sym (of_one_length 16 a b is.long also.long))
