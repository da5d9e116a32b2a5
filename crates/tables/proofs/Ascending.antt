-- Lists of rows in ascending order, as they are searched and changed.
use Rattle.std.proofs.Common.{◌≡◌, ◌≢◌, Bool, true, false, List, filter, get_or, AllPairs, Ordering, Less, Equal, Greater, sym, refl, ap, ◌∙◌, subst}
use Rattle.std.specs.Ordering.{is_lt, is_gt, is_eq, eq_by_cmp, ordering_reverse}
use Rattle.std.specs.Cmp.{IsTotalOrder, tied_itself, eq_by_cmp_equiv}
use Rattle.std.proofs.lemmas.Bool.{both_ways}
use Rattle.std.proofs.lemmas.List.Kept.{AllPairs-filter}
use Rattle.addresses.specs.declared.address.Addr.{Addr}
use Rattle.addresses.specs.AddressOrder.{order_by_parts, is_same_address}
use Rattle.addresses.specs.laws.AddressOrder.{order_by_parts-total, order_by_parts-same}
use Rattle.tables.specs.Search.{AreAscending, put_row}
use Rattle.tables.proofs.Searches.{AllPairs-put_row}

module _ {Row K : Type 0} {R : K → K → Ordering} (o : IsTotalOrder R) (key : Row → K) where
  abbrev pub Ascending : List Row → Type 0
  Ascending rows = AllPairs (λ a b. R (key a) (key b) ≡ Less) rows

  -- how the rows compare with a key
  abbrev pub against : K → Row → Ordering
  against k row = R (key row) k

  less_back : (a b : K) → R a b ≡ Less → R b a ≡ Greater
  less_back a b e = IsTotalOrder.antisymm o b a ∙ ap ordering_reverse e

  less_differ : (a b : K) → R a b ≡ Less → a ≢ b
  less_differ a b e s = both_ways (is_eq (R a b)) (ap is_eq e) (ap is_eq (subst (λ (c : K). R a c ≡ Equal) s (tied_itself o a)))

  above_by : (a b k : K) (r : Ordering) → R a b ≡ Less → R a k ≡ r → is_lt r ≡ false → is_gt (R b k) ≡ true
  above_by a b k Less e is h = absurd (both_ways true h refl)
  above_by a b k Equal e is h = ap is_gt (less_back k b (sym (IsTotalOrder.congr o a k b is) ∙ e))
  above_by a b k Greater e is h =
      let back : R k a ≡ Less = IsTotalOrder.antisymm o k a ∙ ap ordering_reverse is in
      ap is_gt (less_back k b (IsTotalOrder.trans o k a b back e))

  pub searchable : (rows : List Row) (k : K) → Ascending rows → AreAscending (against k) rows
  searchable rows k up = λ i j d p l h. above_by (key (get_or rows i d)) (key (get_or rows j d)) k (R (key (get_or rows i d)) k) (up i j d p l) refl h

  pub Ascending-distinct : (rows : List Row) → Ascending rows → AllPairs (λ a b. key a ≢ key b) rows
  Ascending-distinct rows up = λ i j d p l. less_differ (key (get_or rows i d)) (key (get_or rows j d)) (up i j d p l)

  pub Ascending-filter : (test : Row → Bool) (rows : List Row) → Ascending rows → Ascending (filter test rows)
  Ascending-filter test rows up = AllPairs-filter (λ a b. R (key a) (key b) ≡ Less) test rows up

  -- with a row at the place of its key
  pub Ascending-put_row : (y : Row) (rows : List Row) → Ascending rows → Ascending (put_row (against (key y)) y rows)
  Ascending-put_row y rows up =
      AllPairs-put_row (against (key y)) (λ a b. R (key a) (key b) ≡ Less) y rows (searchable rows (key y) up) up
      (λ k d l. (λ less. less, λ more. IsTotalOrder.antisymm o (key y) (key (get_or rows k d)) ∙ ap ordering_reverse more))

-- the order of addresses by their parts finds the same address
pub is_same-by_parts : (a b : Addr) → eq_by_cmp order_by_parts b a ≡ is_same_address a b
is_same-by_parts a b = (eq_by_cmp_equiv order_by_parts-total).symm b a ∙ order_by_parts-same a b
