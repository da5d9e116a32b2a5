-- Internal. Refinement: one lemma for each row of the table.
use Rattle.std.proofs.Common.{◌≡◌, ℕ, ◌+◌, ◌-◌, ◌/◌, ◌^◌, ◌≤◌, ◌<◌, min, max, Bool, true, false, ◌==◌, Option, Some, None, refl, sym, ◌∙◌, subst, arith, ℤ, pos}
use Rattle.std.specs.Prelude.{nat_lt, nat_le, int_lt, int_le, ◌&&◌, if◌then◌else◌}
use Rattle.std.specs.Int.{cast_signed}
use Rattle.std.proofs.lemmas.Bool.{cond_both, ltb-true, leb-true, ltb-false, leb-false, eqb-true, and_parts, not-true, not-false, true≢false}
use Rattle.std.proofs.Math.Nat.{div-le_self}
use Rattle.insn.specs.Words.{int_width, modulus, compares, holds}
use Rattle.insn.specs.declared.width.Width.{Width}
use Rattle.insn.specs.declared.condition.Condition.{Condition}
use Rattle.insn.specs.declared.condition.Condition.TheVariants.{Eq, Gt, Ge, Set, Ne, SignedGt, SignedGe, Lt, Le, SignedLt, SignedLe}
use Rattle.interval.specs.Domains.{passes, KeepsPair, HasMembers}
use Rattle.interval.specs.declared.domain.Bounds.{Bounds}
use Rattle.interval.specs.declared.domain.Test.{Test}
use Rattle.interval.specs.declared.domain.Test.TheVariants.{Holds, Fails}
use Rattle.interval.specs.Intervals.{LiesBetween, from_to, is_single, are_positive, if_any, both, exchanged_pair, greater, at_least, equal, is_signed, where_it_holds, where_it_fails, condition_of, pair_where, can_refine, interval_refine}
use Rattle.interval.specs.laws.Interval.Members.{LiesInWords, is_member, only_member, cut_small, modulus_fits}
use Rattle.interval.specs.laws.Interval.Operators.{positive}

abbrev AreKept : Option (Bounds × Bounds) → ℕ → ℕ → Type 0
AreKept pairs m n = KeepsPair LiesInWords pairs m n

-- both intervals have a member, so both are left
both_kept : (lo hi lo' hi' m n : ℕ) → hi < 2 ^ 64 → lo ≤ m → m ≤ hi → hi' < 2 ^ 64 → lo' ≤ n → n ≤ hi' → AreKept (both (if_any (from_to lo hi)) (if_any (from_to lo' hi'))) m n
both_kept lo hi lo' hi' m n p a b q h d =
    cond_both (nat_le lo hi) (Some (from_to lo hi)) None (λ r. AreKept (both r (if_any (from_to lo' hi'))) m n)
    (λ e.
    cond_both (nat_le lo' hi') (Some (from_to lo' hi')) None (λ r. AreKept (both (Some (from_to lo hi)) r) m n)
    (λ f. (record { word = p; above = a; below = b }, record { word = q; above = h; below = d }))
    (λ f. let no = leb-false lo' hi' f in absurd (omega arith)))
    (λ e. let no = leb-false lo hi e in absurd (omega arith))

exchanged_kept : (pairs : Option (Bounds × Bounds)) (m n : ℕ) → AreKept pairs n m → AreKept (exchanged_pair pairs) m n
exchanged_kept None m n h = h
exchanged_kept (Some pair) m n h = (h.1, h.0)

module _ (x y : Bounds) (m n : ℕ) (a : LiesInWords x m) (b : LiesInWords y n) where
  keeps_greater : n < m → AreKept (greater x y) m n
  keeps_greater lt =
      cond_both (nat_lt y.lo x.hi) (both (if_any (from_to (max x.lo (y.lo + 1)) x.hi)) (if_any (from_to y.lo (min y.hi (x.hi - 1))))) None (λ r. AreKept r m n)
      (λ e.
      both_kept (max x.lo (y.lo + 1)) x.hi y.lo (min y.hi (x.hi - 1)) m n a.word (omega (arith, a.above, b.above)) a.below
      (omega (arith, b.word)) b.above (omega (arith, a.below, b.below)))
      (λ e. let no = ltb-false y.lo x.hi e in absurd (omega (arith, a.below, b.above)))

  keeps_at_least : n ≤ m → AreKept (at_least x y) m n
  keeps_at_least le =
      both_kept (max x.lo y.lo) x.hi y.lo (min y.hi x.hi) m n a.word (omega (arith, a.above, b.above)) a.below
      (omega (arith, b.word)) b.above (omega (arith, a.below, b.below))

  keeps_equal : m ≡ n → AreKept (equal x y) m n
  keeps_equal same =
      both_kept (max x.lo y.lo) (min x.hi y.hi) (max x.lo y.lo) (min x.hi y.hi) m n (omega (arith, a.word)) (omega (arith, a.above, b.above)) (omega (arith, a.below, b.below))
      (omega (arith, a.word)) (omega (arith, a.above, b.above)) (omega (arith, a.below, b.below))

module _ (x y : Bounds) (m n : ℕ) (a : LiesInWords x m) (b : LiesInWords y n) where
  keeps_less : m < n → AreKept (exchanged_pair (greater y x)) m n
  keeps_less lt = exchanged_kept (greater y x) m n (keeps_greater y x n m b a lt)

  keeps_at_most : m ≤ n → AreKept (exchanged_pair (at_least y x)) m n
  keeps_at_most le = exchanged_kept (at_least y x) m n (keeps_at_least y x n m b a le)

  -- operands below half are their own signed numbers, where the condition reads signs
  module _ (w : Width) where
    AreOwn : Condition → Type 0
    AreOwn c = is_signed c ≡ true → (cast_signed (int_width w) m ≡ pos m) × (cast_signed (int_width w) n ≡ pos n)

    signed_is : (test : ℤ → ℤ → Bool) (c : Condition) → AreOwn c → is_signed c ≡ true → (t : Bool) → test (cast_signed (int_width w) m) (cast_signed (int_width w) n) ≡ t → test (pos m) (pos n) ≡ t
    unfolding AreOwn
    signed_is test c own e t h = let is = own e in (λ i. test (sym is.0 i) (sym is.1 i)) ∙ h

    holding : (c : Condition) → AreOwn c → compares c (int_width w) m n ≡ true → AreKept (where_it_holds c x y) m n
    holding Eq own h = keeps_equal x y m n a b (eqb-true m n h)
    holding Gt own h = keeps_greater x y m n a b (ltb-true n m h)
    holding Ge own h = keeps_at_least x y m n a b (leb-true n m h)
    holding Set own h = (a, b)
    holding Ne own h = (a, b)
    holding SignedGt own h = keeps_greater x y m n a b (ltb-true n m (signed_is (λ p q. int_lt q p) SignedGt own refl true h))
    holding SignedGe own h = keeps_at_least x y m n a b (leb-true n m (signed_is (λ p q. int_le q p) SignedGe own refl true h))
    holding Lt own h = keeps_less (ltb-true m n h)
    holding Le own h = keeps_at_most (leb-true m n h)
    holding SignedLt own h = keeps_less (ltb-true m n (signed_is int_lt SignedLt own refl true h))
    holding SignedLe own h = keeps_at_most (leb-true m n (signed_is int_le SignedLe own refl true h))

    failing : (c : Condition) → AreOwn c → compares c (int_width w) m n ≡ false → AreKept (where_it_fails c x y) m n
    failing Eq own h = (a, b)
    failing Gt own h = keeps_at_most (ltb-false n m h)
    failing Ge own h = keeps_less (leb-false n m h)
    failing Set own h = (a, b)
    failing Ne own h = keeps_equal x y m n a b (eqb-true m n (not-false (m == n) h))
    failing SignedGt own h = keeps_at_most (ltb-false n m (signed_is (λ p q. int_lt q p) SignedGt own refl false h))
    failing SignedGe own h = keeps_less (leb-false n m (signed_is (λ p q. int_le q p) SignedGe own refl false h))
    failing Lt own h = keeps_at_least x y m n a b (ltb-false m n h)
    failing Le own h = keeps_greater x y m n a b (leb-false m n h)
    failing SignedLt own h = keeps_at_least x y m n a b (ltb-false m n (signed_is int_lt SignedLt own refl false h))
    failing SignedLe own h = keeps_greater x y m n a b (leb-false m n (signed_is int_le SignedLe own refl false h))

    -- operands that are words of the width are compared as they are
    same_holds : (c : Condition) → m < modulus w → n < modulus w → holds c w m n ≡ compares c (int_width w) m n
    same_holds c small_m small_n = λ i. compares c (int_width w) (cut_small w m small_m i) (cut_small w n small_n i)

    passing : (test : Test) → AreOwn (condition_of test) → m < modulus w → n < modulus w → passes test w m n ≡ true → AreKept (pair_where test x y) m n
    passing (Holds c) own small_m small_n h = holding c own (sym (same_holds c small_m small_n) ∙ h)
    passing (Fails c) own small_m small_n h = failing c own (sym (same_holds c small_m small_n) ∙ not-true (holds c w m n) h)

-- the pairs that are left of members are kept, whatever a member is: a word between the ends, and each such word where the greater end is a word
kept_as : (pairs : Option (Bounds × Bounds)) (m n : ℕ) → AreKept pairs m n → KeepsPair LiesBetween pairs m n
kept_as None m n h = h
kept_as (Some pair) m n h = (is_member pair.0 m h.0, is_member pair.1 n h.1)

module _ (x y : Bounds) (m n : ℕ) (h : LiesBetween x m) (k : LiesBetween y n) (w : Width) where
  first_lies : LiesBetween x m
  first_lies = h

  second_lies : LiesBetween y n
  second_lies = k

  -- the greatest members of both are words of the width, and where the condition reads signs, the members are their own signed numbers
  record AreReadable (c : Condition) : Type 0 where
    first_small : x.hi < modulus w
    second_small : y.hi < modulus w
    own : is_signed c ≡ true → (cast_signed (int_width w) m ≡ pos m) × (cast_signed (int_width w) n ≡ pos n)

  readable : (signed : Bool) (c : Condition) → is_signed c ≡ signed → (if signed then are_positive w x y else (nat_lt x.hi (modulus w) && nat_lt y.hi (modulus w))) ≡ true → AreReadable c
  readable true c s e =
      let half = modulus w / 2 in
      let less = div-le_self (modulus w) 2 in
      let both = and_parts (nat_lt x.hi half) (nat_lt y.hi half) e in
      let left = ltb-true x.hi half both.0 in
      let right = ltb-true y.hi half both.1 in
      let p = first_lies.below in
      let q = second_lies.below in
      record {
        first_small = omega arith;
        second_small = omega arith;
        own = λ _. (positive w m (omega arith), positive w n (omega arith));
      }
  readable false c s e =
      let both = and_parts (nat_lt x.hi (modulus w)) (nat_lt y.hi (modulus w)) e in
      record {
        first_small = ltb-true x.hi (modulus w) both.0;
        second_small = ltb-true y.hi (modulus w) both.1;
        own = λ t. absurd (true≢false (sym t ∙ s));
      }

  member_of : (z : Bounds) (i : ℕ) → z.hi < modulus w → LiesBetween z i → LiesInWords z i
  member_of z i lt j = record { word = omega (arith, modulus_fits w); above = j.above; below = j.below }

  refined : (test : Test) → can_refine test w x y ≡ true → passes test w m n ≡ true → KeepsPair LiesBetween (pair_where test x y) m n
  unfolding AreOwn
  refined test e passed =
      let known = readable (is_signed (condition_of test)) (condition_of test) refl e in
      let a = member_of x m known.first_small first_lies in
      let b = member_of y n known.second_small second_lies in
      kept_as (pair_where test x y) m n (passing x y m n a b w test known.own (omega (arith, known.first_small, a.below)) (omega (arith, known.second_small, b.below)) passed)

  pub refine_sound : (test : Test) → passes test w m n ≡ true → KeepsPair LiesBetween (interval_refine test w x y) m n
  refine_sound test passed =
      cond_both (is_single x && is_single y) (if passes test w x.lo y.lo then Some (x, y) else None) (if can_refine test w x y then pair_where test x y else Some (x, y)) (λ r. KeepsPair LiesBetween r m n)
      (λ e.
      let both = and_parts (is_single x) (is_single y) e in
      let first : x.lo ≡ m = only_member x m both.0 first_lies in
      let second : y.lo ≡ n = only_member y n both.1 second_lies in
      let same : passes test w x.lo y.lo ≡ true = (λ i. passes test w (first i) (second i)) ∙ passed in
      cond_both (passes test w x.lo y.lo) (Some (x, y)) None (λ r. KeepsPair LiesBetween r m n) (λ t. (h, k)) (λ t. absurd (true≢false (sym same ∙ t))))
      (λ e. cond_both (can_refine test w x y) (pair_where test x y) (Some (x, y)) (λ r. KeepsPair LiesBetween r m n) (λ t. refined test t passed) (λ t. (h, k)))

-- ---- what is left has members

-- two intervals, if they are left, have their least words as members
abbrev AreLeft : Option (Bounds × Bounds) → Type 0
AreLeft None = Unit {0}
AreLeft (Some pair) = LiesBetween pair.0 pair.0.lo × LiesBetween pair.1 pair.1.lo

least_member : (x : Bounds) (n : ℕ) → LiesBetween x n → LiesBetween x x.lo
least_member x n h = record { word = omega (arith, h.word, h.above); above = omega arith; below = omega (arith, h.above, h.below) }

if_left : (x y : Bounds) → x.hi < 2 ^ 64 → y.hi < 2 ^ 64 → AreLeft (both (if_any x) (if_any y))
if_left x y p q =
    cond_both (nat_le x.lo x.hi) (Some x) None (λ r. AreLeft (both r (if_any y)))
    (λ e.
    let a = leb-true x.lo x.hi e in
    cond_both (nat_le y.lo y.hi) (Some y) None (λ r. AreLeft (both (Some x) r))
    (λ f. let b = leb-true y.lo y.hi f in (record { word = omega arith; above = omega arith; below = a }, record { word = omega arith; above = omega arith; below = b }))
    (λ f. tt))
    (λ e. tt)

exchanged_left : (pairs : Option (Bounds × Bounds)) → AreLeft pairs → AreLeft (exchanged_pair pairs)
exchanged_left None h = h
exchanged_left (Some pair) h = (h.1, h.0)

greater_left : (x y : Bounds) → x.hi < 2 ^ 64 → y.hi < 2 ^ 64 → AreLeft (greater x y)
greater_left x y p q =
    cond_both (nat_lt y.lo x.hi) (both (if_any (from_to (max x.lo (y.lo + 1)) x.hi)) (if_any (from_to y.lo (min y.hi (x.hi - 1))))) None AreLeft
    (λ e. if_left (from_to (max x.lo (y.lo + 1)) x.hi) (from_to y.lo (min y.hi (x.hi - 1))) p (omega arith)) (λ e. tt)

at_least_left : (x y : Bounds) → x.hi < 2 ^ 64 → y.hi < 2 ^ 64 → AreLeft (at_least x y)
at_least_left x y p q = if_left (from_to (max x.lo y.lo) x.hi) (from_to y.lo (min y.hi x.hi)) p (omega arith)

equal_left : (x y : Bounds) → x.hi < 2 ^ 64 → y.hi < 2 ^ 64 → AreLeft (equal x y)
equal_left x y p q = if_left (from_to (max x.lo y.lo) (min x.hi y.hi)) (from_to (max x.lo y.lo) (min x.hi y.hi)) (omega arith) (omega arith)

module _ (x y : Bounds) (p : x.hi < 2 ^ 64) (q : y.hi < 2 ^ 64) (as_they_are : AreLeft (Some (x, y))) where
  holding_left : (c : Condition) → AreLeft (where_it_holds c x y)
  holding_left Eq = equal_left x y p q
  holding_left Gt = greater_left x y p q
  holding_left Ge = at_least_left x y p q
  holding_left Set = as_they_are
  holding_left Ne = as_they_are
  holding_left SignedGt = greater_left x y p q
  holding_left SignedGe = at_least_left x y p q
  holding_left Lt = exchanged_left (greater y x) (greater_left y x q p)
  holding_left Le = exchanged_left (at_least y x) (at_least_left y x q p)
  holding_left SignedLt = exchanged_left (greater y x) (greater_left y x q p)
  holding_left SignedLe = exchanged_left (at_least y x) (at_least_left y x q p)

  failing_left : (c : Condition) → AreLeft (where_it_fails c x y)
  failing_left Eq = as_they_are
  failing_left Gt = exchanged_left (at_least y x) (at_least_left y x q p)
  failing_left Ge = exchanged_left (greater y x) (greater_left y x q p)
  failing_left Set = as_they_are
  failing_left Ne = equal_left x y p q
  failing_left SignedGt = exchanged_left (at_least y x) (at_least_left y x q p)
  failing_left SignedGe = exchanged_left (greater y x) (greater_left y x q p)
  failing_left Lt = at_least_left x y p q
  failing_left Le = greater_left x y p q
  failing_left SignedLt = at_least_left x y p q
  failing_left SignedLe = greater_left x y p q

  passing_left : (test : Test) → AreLeft (pair_where test x y)
  passing_left (Holds c) = holding_left c
  passing_left (Fails c) = failing_left c

module _ (test : Test) (w : Width) (x y : Bounds) (m n : ℕ) (h : LiesBetween x m) (k : LiesBetween y n) where
  as_they_are : AreLeft (Some (x, y))
  as_they_are = (least_member x m h, least_member y n k)

  all_left : AreLeft (interval_refine test w x y)
  all_left =
      cond_both (is_single x && is_single y) (if passes test w x.lo y.lo then Some (x, y) else None) (if can_refine test w x y then pair_where test x y else Some (x, y)) AreLeft
      (λ e. cond_both (passes test w x.lo y.lo) (Some (x, y)) None AreLeft (λ t. as_they_are) (λ t. tt))
      (λ e.
      cond_both (can_refine test w x y) (pair_where test x y) (Some (x, y)) AreLeft
      (λ t.
      let known = readable x y m n h k w (is_signed (condition_of test)) (condition_of test) refl t in
      passing_left x y (omega (arith, known.first_small, modulus_fits w)) (omega (arith, known.second_small, modulus_fits w)) as_they_are test)
      (λ t. as_they_are))

  -- what is left of intervals with members has members
  pub refine_precise : (pair : Bounds × Bounds) → interval_refine test w x y ≡ Some pair → HasMembers LiesBetween pair
  refine_precise pair e = let least = subst AreLeft e all_left in record { first = pair.0.lo; second = pair.1.lo; of_first = least.0; of_second = least.1 }
