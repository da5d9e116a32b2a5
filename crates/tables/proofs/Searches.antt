-- What a comparison rules out of rows in ascending order, and how often they can be halved.
use Rattle.std.proofs.Common.{◌≡◌, ℕ, zero, suc, ◌+◌, ◌-◌, ◌*◌, ◌/◌, ◌^◌, pow_mono, ◌<◌, ◌≤◌, true, false, List, [], ◌∷◌, length, All, AllPairs, Some, None, get_or, set, Ordering, Less, Equal, Greater, sym, refl, ap, ◌∙◌, subst, inl, inr, arith}
use Rattle.std.specs.List.{insert}
use Rattle.std.specs.Ordering.{is_lt, is_eq, is_gt}
use Rattle.std.proofs.lemmas.Bool.{cases_Bool, cases_eq, cond-true, cond-false, both_ways}
use Rattle.std.specs.Cmp.{Equal-is}
use Rattle.std.proofs.lemmas.List.{get_or_default}
use Rattle.std.proofs.lemmas.List.Elements.{All-nil, All-cons, All-tail}
use Rattle.std.proofs.lemmas.List.Kept.{AllPairs-cons}
use Rattle.std.proofs.lemmas.Nat.{div_below}
use Rattle.std.proofs.Math.Nat.{pow-suc}
use Rattle.tables.specs.Search.{AreAscending, IsFoundAt, IsMissingAt, row_of, placed, put_row}
use Rattle.tables.proofs.Lists.{Once, AllPairs-head, AllPairs-tail}

pub is_less : (o : Ordering) → is_lt o ≡ true → o ≡ Less
is_less Less h = refl
is_less Equal h = absurd (both_ways false refl h)
is_less Greater h = absurd (both_ways false refl h)

pub is_greater : (o : Ordering) → is_gt o ≡ true → o ≡ Greater
is_greater Less h = absurd (both_ways false refl h)
is_greater Equal h = absurd (both_ways false refl h)
is_greater Greater h = refl

module _ {X : Type 0} (order : X → Ordering) (rows : List X) (ascending : AreAscending order rows) (m : ℕ) (x : X) (within : m < length rows) (is : x ≡ get_or rows m x) where
  at : (d : X) → order x ≡ order (get_or rows m d)
  at d = ap order (is ∙ get_or_default rows m x d within)

  pub all_less : order x ≡ Less → (k : ℕ) (d : X) → k < m + 1 → order (get_or rows k d) ≡ Less
  all_less less k d l = elim (cases_eq k m) [
    | inl e ↦ ap (λ n. order (get_or rows n d)) e ∙ sym (at d) ∙ less
    | inr differ ↦ elim (cases_Bool (is_lt (order (get_or rows k d)))) [
      | inl t ↦ is_less (order (get_or rows k d)) t
      | inr f ↦ absurd (both_ways (is_gt (order x)) (ap is_gt less) (ap is_gt (at d) ∙ ascending k m d (omega arith) within f))
    ]
  ]

  pub all_greater : order x ≡ Greater → (k : ℕ) (d : X) → m ≤ k → k < length rows → order (get_or rows k d) ≡ Greater
  all_greater greater k d l inside = elim (cases_eq k m) [
    | inl e ↦ ap (λ n. order (get_or rows n d)) e ∙ sym (at d) ∙ greater
    | inr differ ↦ is_greater (order (get_or rows k d)) (ascending m k d (omega arith) inside (ap is_lt (sym (at d) ∙ greater)))
  ]

halved_from : (j size half : ℕ) → size < 2 ^ j → 0 < size → half ≤ size / 2 → (1 ≤ j) × (half < 2 ^ (j - 1))
halved_from zero size half few some less = absurd (omega (arith, few, some))
halved_from (suc i) size half few some less =
    let below : size < 2 ^ i * 2 = subst (λ n. size < n) (pow-suc 2 i) few in
    let rest : size / 2 < 2 ^ i = div_below size 2 (2 ^ i) (omega arith) below in
    let same : i ≡ suc i - 1 = omega arith in
    (omega arith, subst (λ n. half < 2 ^ n) same (omega (arith, rest, less)))

-- one more halving
pub halved : (old k steps size half : ℕ) → (steps ≤ old + k) × (size < 2 ^ (old + k - steps)) → 0 < size → half ≤ size / 2
    → (steps + 1 ≤ old + k) × (half < 2 ^ (old + k - (steps + 1)))
halved old k steps size half before some less =
    let more = halved_from (old + k - steps) size half before.1 some less in
    let fewer : old + k - steps - 1 ≡ old + k - (steps + 1) = omega arith in
    (omega (arith, before.0, more.0), subst (λ n. half < 2 ^ n) fewer more.1)

-- a tick raises the count by at most one
pub fewer_ticks : (old k made now half : ℕ) → now ≤ made + 1 → (made + 1 ≤ old + k) × (half < 2 ^ (old + k - (made + 1)))
    → (now ≤ old + k) × (half < 2 ^ (old + k - now))
fewer_ticks old k made now half le h = (omega (arith, le, h.0), omega (arith, h.1, pow_mono {i = old + k - (made + 1)} {j = old + k - now} (omega (arith, le, h.0))))

-- ---- the row of a key, and a row at its place

module _ {X : Type 0} (order : X → Ordering) where
  -- each row before that of the key is below it
  below_found : (rows : List X) (i : ℕ) (d : X) → AreAscending order rows → IsFoundAt order rows i → (k : ℕ) → k < i → order (get_or rows k d) ≡ Less
  below_found rows i d up at k p = elim (cases_Bool (is_lt (order (get_or rows k d)))) [
    | inl t ↦ is_less (order (get_or rows k d)) t
    | inr f ↦ absurd (both_ways (is_gt (order (get_or rows i d))) (ap is_gt (at.equal d)) (up k i d p at.inside f))
  ]

  row_after : (rows : List X) (i : ℕ) (d : X) → i < length rows → ((k : ℕ) → k < i → order (get_or rows k d) ≡ Less) → order (get_or rows i d) ≡ Equal
      → (row_of order rows ≡ Some (get_or rows i d)) × ((y : X) → put_row order y rows ≡ set rows i y)
  row_after [] i d l below is = absurd (omega arith)
  row_after (x ∷ rows) zero d l below is = (cond-true (is_eq (order x)) _ _ (ap is_eq is), λ y. ap (λ r. placed r y x rows (put_row order y rows)) is)
  row_after (x ∷ rows) (suc i) d l below is =
      let rest = row_after rows i d (omega arith) (λ k p. below (suc k) (omega arith)) is in
      let less = below zero (omega arith) in
      (cond-false (is_eq (order x)) _ _ (ap is_eq less) ∙ rest.0, λ y. ap (λ r. placed r y x rows (put_row order y rows)) less ∙ ap (λ s. x ∷ s) (rest.1 y))

  pub row-found : (rows : List X) (i : ℕ) (d : X) → AreAscending order rows → IsFoundAt order rows i → (row_of order rows ≡ Some (get_or rows i d)) × ((y : X) → put_row order y rows ≡ set rows i y)
  row-found rows i d up at = row_after rows i d at.inside (below_found rows i d up at) (at.equal d)

  pub row-missing : (rows : List X) (i : ℕ) → IsMissingAt order rows i → (row_of order rows ≡ None) × ((y : X) → put_row order y rows ≡ insert rows i y)
  row-missing [] zero none = (refl, λ y. refl)
  row-missing [] (suc i) none = absurd (omega (arith, none.inside))
  row-missing (x ∷ rows) zero none =
      let greater = none.above zero x (omega arith) (omega arith) in
      let rest = row-missing rows zero (record { inside = omega arith; below = λ k d p. absurd (omega arith); above = λ k d p l. none.above (suc k) d (omega arith) (omega arith) }) in
      (cond-false (is_eq (order x)) _ _ (ap is_eq greater) ∙ rest.0, λ y. ap (λ r. placed r y x rows (put_row order y rows)) greater)
  row-missing (x ∷ rows) (suc i) none =
      let less = none.below zero x (omega arith) in
      let rest = row-missing rows i (record { inside = omega (arith, none.inside); below = λ k d p. none.below (suc k) d (omega arith); above = λ k d p l. none.above (suc k) d (omega arith) (omega arith) }) in
      (cond-false (is_eq (order x)) _ _ (ap is_eq less) ∙ rest.0, λ y. ap (λ r. placed r y x rows (put_row order y rows)) less ∙ ap (λ s. x ∷ s) (rest.1 y))

  -- no two rows have the key
  pub found_once : (rows : List X) → AreAscending order rows → Once (λ row. is_eq (order row)) rows
  found_once rows up = λ i j d p l t. ap is_eq (is_greater (order (get_or rows j d)) (up i j d p l (ap is_lt ((Equal-is (order (get_or rows i d))).0 t))))

  -- ---- with a row at its place

  pub All-put_row : (P : X → Type 0) (y : X) (rows : List X) → P y → All P rows → All P (put_row order y rows)
  All-put_row P y [] new all = All-cons P y [] new (All-nil P)
  All-put_row P y (x ∷ rows) new all = elim (order x) as (λ r. All P (placed r y x rows (put_row order y rows))) [
    | Less ↦ All-cons P x (put_row order y rows) (all zero x (omega arith)) (All-put_row P y rows new (All-tail P x rows all))
    | Equal ↦ All-cons P y rows new (All-tail P x rows all)
    | Greater ↦ All-cons P y (x ∷ rows) new all
  ]

  -- where the row fits those below its key and those above
  pub AllPairs-put_row : (Q : X → X → Type 0) (y : X) (rows : List X) → AreAscending order rows → AllPairs Q rows → All (λ x. (order x ≡ Less → Q x y) × (order x ≡ Greater → Q y x)) rows → AllPairs Q (put_row order y rows)
  AllPairs-put_row Q y [] up all fits = AllPairs-cons Q y [] (All-nil (Q y)) all
  AllPairs-put_row Q y (x ∷ rows) up all fits =
      let rest : AllPairs Q rows = AllPairs-tail Q x rows all in
      let above : is_lt (order x) ≡ false → All (Q y) rows = λ least k d l. (fits (suc k) d (omega arith)).1 (is_greater (order (get_or rows k d)) (up zero (suc k) d (omega arith) (omega arith) least)) in
      elim (order x) as (λ r. order x ≡ r → AllPairs Q (placed r y x rows (put_row order y rows))) [
        | Less ↦ λ less. AllPairs-cons Q x (put_row order y rows) (All-put_row (Q x) y rows ((fits zero x (omega arith)).0 less) (AllPairs-head Q x rows all))
            (AllPairs-put_row Q y rows (AllPairs-tail (λ a b. is_lt (order a) ≡ false → is_gt (order b) ≡ true) x rows up) rest (λ k d l. fits (suc k) d (omega arith)))
        | Equal ↦ λ same. AllPairs-cons Q y rows (above (ap is_lt same)) rest
        | Greater ↦ λ more. AllPairs-cons Q y (x ∷ rows) (All-cons (Q y) x rows ((fits zero x (omega arith)).1 more) (above (ap is_lt more))) all
      ] refl

  -- what holds of all then holds of the row, and of those before, if none has the key
  pub All-from_put_row : (P : X → Type 0) (y : X) (rows : List X) → All P (put_row order y rows) → P y × (All (λ x. is_eq (order x) ≡ false) rows → All P rows)
  All-from_put_row P y [] all = (all zero y (omega arith), λ _. All-nil P)
  All-from_put_row P y (x ∷ rows) all =
      let Other : X → Type 0 = λ x. is_eq (order x) ≡ false in
      elim (order x) as (λ r. order x ≡ r → All P (placed r y x rows (put_row order y rows)) → P y × (All Other (x ∷ rows) → All P (x ∷ rows))) [
        | Less ↦ λ _ all.
            let rest = All-from_put_row P y rows (All-tail P x (put_row order y rows) all) in
            (rest.0, λ others. All-cons P x rows (all zero x (omega arith)) (rest.1 (All-tail Other x rows others)))
        | Equal ↦ λ same all. (all zero y (omega arith), λ others. absurd (both_ways (is_eq (order x)) (others zero x (omega arith)) (ap is_eq same)))
        | Greater ↦ λ _ all. (all zero y (omega arith), λ _. All-tail P y (x ∷ rows) all)
      ] refl all
