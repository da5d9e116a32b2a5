-- The finite map of the keys and the values of rows.
use Rattle.std.proofs.Common.{◌≡◌, ◌≢◌, zero, ◌+◌, Bool, true, false, cond, List, [], ◌∷◌, map, filter, length, get_or, Option, Some, None, is_some, option_map, All, AllPairs, Ordering, Less, Equal, Greater, is_eq, sym, refl, ap, ◌∙◌, subst, arith}
use Rattle.std.specs.Ordering.{eq_by_cmp}
use Rattle.std.specs.Cmp.{IsTotalOrder, Equal-is, tied_itself, eq_by_cmp_equiv}
use Rattle.std.specs.FinMap.{FinMap, IsAntisymmetric, get, insert, len, from_entries, get-from_entries, get-insert, same_map, len-insert, len-empty, find as lookup}
use Rattle.std.proofs.lemmas.Bool.{false_from_ne_true, both_ways}
use Rattle.std.proofs.lemmas.List.Elements.{All-tail}
use Rattle.tables.specs.Retained.{kept_of, value_if}
use Rattle.tables.specs.laws.Retained.{get-kept_of}
use Rattle.tables.specs.laws.Row.{made_of}
use Rattle.tables.specs.Search.{AreAscending, row_of, placed, put_row}
use Rattle.tables.proofs.Lists.{AllPairs-head, AllPairs-tail, Once, find-Some, find-absent, find-each, find-filter}
use Rattle.tables.proofs.Searches.{AllPairs-put_row}

-- two tests that do not pass together may change places
swapped : {A : Type 0} (a b : Bool) (x y z : A) → (a ≡ true → b ≡ true → ⊥) → cond a x (cond b y z) ≡ cond b y (cond a x z)
swapped true true x y z apart = absurd (apart refl refl)
swapped true false x y z apart = refl
swapped false b x y z apart = refl

-- a test that is repeated is not reached
shadowed : {A : Type 0} (b : Bool) (x y z : A) → cond b x z ≡ cond b x (cond b y z)
shadowed true x y z = refl
shadowed false x y z = refl

module _ {K : Type 0} {R : K → K → Ordering} (o : IsTotalOrder R) (same : IsAntisymmetric R) {Row X : Type 0} (f : Row → K × X) where
  -- of two rows with one key it has the first
  abbrev pub map_of : List Row → FinMap R X
  map_of rows = from_entries (map f rows)

  abbrev pub Distinct : List Row → Type 0
  Distinct rows = AllPairs (λ a b. (f a).0 ≢ (f b).0) rows

  abbrev has_key : K → Row → Bool
  has_key q row = eq_by_cmp R (f row).0 q

  -- the order finds the rows of a key
  abbrev pub Finds : (Row → Ordering) → K → List Row → Type 0
  Finds order q rows = All (λ row. is_eq (order row) ≡ eq_by_cmp R (f row).0 q) rows

  abbrev value_of : Option Row → Option X
  value_of row = option_map (λ row. (f row).1) row

  tied : (q k : K) → eq_by_cmp R q k ≡ true → q ≡ k
  tied q k e = same q k ((Equal-is (R q k)).0 e)

  itself : (q k : K) → q ≡ k → eq_by_cmp R q k ≡ true
  itself q k e = subst (λ (x : K). eq_by_cmp R q x ≡ true) e (ap is_eq (tied_itself o q))

  -- ---- a look-up

  value_of-cond : (b : Bool) (row other : Option Row) → value_of (cond b row other) ≡ cond b (value_of row) (value_of other)
  value_of-cond true row other = refl
  value_of-cond false row other = refl

  lookup-row_of : (order : Row → Ordering) (q : K) (rows : List Row) → Finds order q rows → lookup R q (map f rows) ≡ value_of (row_of order rows)
  lookup-row_of order q [] finds = refl
  lookup-row_of order q (x ∷ rows) finds =
      ap (λ b. cond b (Some (f x).1) (lookup R q (map f rows))) ((eq_by_cmp_equiv o).symm q (f x).0 ∙ sym (finds zero x (omega arith)))
      ∙ ap (cond (is_eq (order x)) (Some (f x).1)) (lookup-row_of order q rows (All-tail (λ row. is_eq (order row) ≡ eq_by_cmp R (f row).0 q) x rows finds))
      ∙ sym (value_of-cond (is_eq (order x)) (Some x) (row_of order rows))

  pub get-row_of : (order : Row → Ordering) (q : K) (rows : List Row) → Finds order q rows → get (map_of rows) q ≡ option_map (λ row. (f row).1) (row_of order rows)
  get-row_of order q rows finds = get-from_entries o (map f rows) q ∙ lookup-row_of order q rows finds

  get-own : (q : K) (rows : List Row) → get (map_of rows) q ≡ value_of (row_of (λ row. R (f row).0 q) rows)
  get-own q rows = get-row_of (λ row. R (f row).0 q) q rows (λ k d l. refl)

  -- each entry is that of a row
  pub row_of_entry : (P : Row → Type 0) (rows : List Row) → All P rows → (q : K) (v : X) → get (map_of rows) q ≡ Some v → (row : Row) × P row × (q ≡ (f row).0) × ((f row).1 ≡ v)
  row_of_entry P rows all q v at =
      let made = made_of (λ row. (f row).1) (row_of (λ row. R (f row).0 q) rows) v (sym (get-own q rows) ∙ at) in
      let r = find-Some (has_key q) P rows made.0 all made.1 in
      (made.0, r.0, sym (tied (f made.0).0 q r.1), made.2)

  -- ---- rows whose keys differ

  once : (q : K) (rows : List Row) → Distinct rows → Once (has_key q) rows
  once q rows distinct = λ i j d p l t. false_from_ne_true (has_key q (get_or rows j d)) (λ s. distinct i j d p l (tied _ q t ∙ sym (tied _ q s)))

  pub entry_of_row : (rows : List Row) → Distinct rows → All (λ row. get (map_of rows) (f row).0 ≡ Some (f row).1) rows
  entry_of_row rows distinct = λ k d l.
      let q : K = (f (get_or rows k d)).0 in
      get-own q rows ∙ ap value_of (find-each (has_key q) rows (once q rows distinct) k d l (itself q q refl))

  pub len-map_of : (rows : List Row) → Distinct rows → len (map_of rows) ≡ length rows
  len-map_of [] distinct = len-empty R X
  len-map_of (x ∷ rows) distinct =
      let Q : Row → Row → Type 0 = λ a b. (f a).0 ≢ (f b).0 in
      let none = find-absent (has_key (f x).0) rows (λ k d l. false_from_ne_true (has_key (f x).0 (get_or rows k d)) (λ t. AllPairs-head Q x rows distinct k d l (sym (tied _ (f x).0 t)))) in
      let more : len (insert (map_of rows) (f x).0 (f x).1) ≡ len (map_of rows) + 1 =
      len-insert o (map_of rows) (f x).0 (f x).1 ∙ ap (λ v. cond (is_some v) (len (map_of rows)) (len (map_of rows) + 1)) (get-own (f x).0 rows ∙ ap value_of none) in
      let rest = len-map_of rows (AllPairs-tail Q x rows distinct) in
      omega (arith, more, rest)

  -- the rows whose values pass a test
  pub map_of-filter : (test : Option X → Bool) (p : Row → Bool) → ((row : Row) → p row ≡ test (Some (f row).1)) → (rows : List Row) → Distinct rows → map_of (filter p rows) ≡ kept_of test (map_of rows)
  map_of-filter test p is rows distinct = same_map o same _ _ (λ q.
      get-own q (filter p rows) ∙ ap value_of (find-filter (has_key q) p (λ row. test (value_of row)) is rows (once q rows distinct))
      ∙ value_of-cond (test (value_of (row_of (λ row. R (f row).0 q) rows))) (row_of (λ row. R (f row).0 q) rows) None
      ∙ sym (get-kept_of o test (map_of rows) q ∙ ap (value_if test) (get-own q rows)))

  -- ---- a row at its place

  lookup-put_row : (order : Row → Ordering) (y : Row) (rows : List Row) → Finds order (f y).0 rows → (q : K) → lookup R q (map f (put_row order y rows)) ≡ cond (eq_by_cmp R q (f y).0) (Some (f y).1) (lookup R q (map f rows))
  lookup-put_row order y [] finds q = refl
  lookup-put_row order y (x ∷ rows) finds q =
      let new : Bool = eq_by_cmp R q (f y).0 in
      let here : Bool = eq_by_cmp R q (f x).0 in
      let later : Option X = lookup R q (map f rows) in
      elim (order x) as (λ r. is_eq r ≡ eq_by_cmp R (f x).0 (f y).0 → lookup R q (map f (placed r y x rows (put_row order y rows))) ≡ cond new (Some (f y).1) (cond here (Some (f x).1) later)) [
        | Less ↦ λ differs.
            ap (cond here (Some (f x).1)) (lookup-put_row order y rows (All-tail (λ row. is_eq (order row) ≡ eq_by_cmp R (f row).0 (f y).0) x rows finds) q)
            ∙ swapped here new _ _ _ (λ a b. both_ways (eq_by_cmp R (f x).0 (f y).0) (sym differs) (sym ((eq_by_cmp_equiv o).congr q (f x).0 (f y).0 a) ∙ b))
        | Equal ↦ λ tie.
            let alike : new ≡ here = (eq_by_cmp_equiv o).symm q (f y).0 ∙ sym ((eq_by_cmp_equiv o).congr (f x).0 (f y).0 q (sym tie)) ∙ (eq_by_cmp_equiv o).symm (f x).0 q in
            shadowed new (Some (f y).1) (Some (f x).1) later ∙ ap (λ b. cond new (Some (f y).1) (cond b (Some (f x).1) later)) alike
        | Greater ↦ λ _. refl
      ] (finds zero x (omega arith))

  pub map_of-put_row : (order : Row → Ordering) (y : Row) (rows : List Row) → Finds order (f y).0 rows → map_of (put_row order y rows) ≡ insert (map_of rows) (f y).0 (f y).1
  map_of-put_row order y rows finds = same_map o same _ _ (λ q.
      get-from_entries o (map f (put_row order y rows)) q ∙ lookup-put_row order y rows finds q
      ∙ sym (get-insert o (map_of rows) (f y).0 (f y).1 q ∙ ap (cond (eq_by_cmp R q (f y).0) (Some (f y).1)) (get-from_entries o (map f rows) q)))

  pub Distinct-put_row : (order : Row → Ordering) (y : Row) (rows : List Row) → AreAscending order rows → Finds order (f y).0 rows → Distinct rows → Distinct (put_row order y rows)
  Distinct-put_row order y rows up finds distinct = AllPairs-put_row order (λ a b. (f a).0 ≢ (f b).0) y rows up distinct (λ k d l.
      let row : Row = get_or rows k d in (
        λ less e. both_ways (is_eq (order row)) (ap is_eq less) (finds k d l ∙ itself (f row).0 (f y).0 e),
        λ more e. both_ways (is_eq (order row)) (ap is_eq more) (finds k d l ∙ itself (f row).0 (f y).0 (sym e)),
      ))
