-- Interface. What a refinement leaves passes the test.
use Rattle.std.proofs.Common.{◌≡◌, ℕ, ◌+◌, ◌-◌, ◌≤◌, ◌<◌, min, max, Bool, true, false, Option, Some, None, refl, sym, ap, ◌∙◌, arith, ℤ, pos}
use Rattle.std.specs.Prelude.{nat_lt, nat_le, int_lt, int_le, not, ◌&&◌, if◌then◌else◌}
use Rattle.std.specs.Int.{cast_signed}
use Rattle.std.proofs.lemmas.Bool.{cond_both, ltb-true, lt-ltb, le-leb, le-ltb, lt-leb, eq-eqb, and_parts, and_from, true≢false, not_from_false}
use Rattle.insn.specs.Words.{int_width, modulus, compares, holds}
use Rattle.insn.specs.declared.width.Width.{Width}
use Rattle.insn.specs.declared.condition.Condition.{Condition}
use Rattle.insn.specs.declared.condition.Condition.TheVariants.{Eq, Gt, Ge, Set, Ne, SignedGt, SignedGe, Lt, Le, SignedLt, SignedLe}
use Rattle.interval.specs.Domains.{passes}
use Rattle.interval.specs.declared.domain.Bounds.{Bounds}
use Rattle.interval.specs.declared.domain.Test.{Test}
use Rattle.interval.specs.declared.domain.Test.TheVariants.{Holds, Fails}
use Rattle.interval.specs.Intervals.{LiesBetween, from_to, is_single, if_any, both, exchanged_pair, greater, at_least, equal, pair_where, can_refine, interval_refine}
use Rattle.interval.specs.Narrowness.{AreWords, ArePositive, ArePassing, OnLeft, Refines}
use Rattle.interval.specs.laws.Interval.Members.{cut_small, modulus_fits, only_member}
use Rattle.interval.specs.laws.Interval.Operators.{positive}
use Rattle.interval.specs.laws.Interval.Narrow.{positive_is}

-- a member of one operand with a member of the other one that it is related to
pub record IsPaired (R : ℕ → ℕ → Type 0) (x y : Bounds) (m : ℕ) : Type 0 where
  pub own : m ≤ x.hi
  pub other : ℕ
  pub of_other : LiesBetween y other
  pub related : R m other

-- each member that is left is paired
pub record ArePaired (R : ℕ → ℕ → Type 0) (x y : Bounds) (left : Bounds × Bounds) : Type 0 where
  pub first : (m : ℕ) → LiesBetween left.0 m → IsPaired R x y m
  pub second : (n : ℕ) → LiesBetween left.1 n → IsPaired (λ n m. R m n) y x n

exchanged_paired : (R : ℕ → ℕ → Type 0) (x y : Bounds) (pairs : Option (Bounds × Bounds)) → OnLeft pairs (ArePaired R x y) → OnLeft (exchanged_pair pairs) (ArePaired (λ n m. R m n) y x)
exchanged_paired R x y None h = tt
exchanged_paired R x y (Some pair) h = record { first = h.second; second = h.first }

-- two intervals of which both are left, or neither
if_both : (P : Bounds × Bounds → Type 0) (u v : Bounds) → P (u, v) → OnLeft (both (if_any u) (if_any v)) P
if_both P u v p =
    cond_both (nat_le u.lo u.hi) (Some u) None (λ r. OnLeft (both r (if_any v)) P)
    (λ e. cond_both (nat_le v.lo v.hi) (Some v) None (λ r. OnLeft (both (Some u) r) P) (λ f. p) (λ f. tt))
    (λ e. tt)

module _ (w : Width) (x y : Bounds) (a : AreWords w x) (b : AreWords w y) where
  -- the ends are members
  lowest : LiesBetween y y.lo
  lowest = record { word = omega (arith, b.words, b.order, modulus_fits w); above = omega arith; below = b.order }

  greatest : LiesBetween x x.hi
  greatest = record { word = omega (arith, a.words, modulus_fits w); above = a.order; below = omega arith }

  pub greater_paired : OnLeft (greater x y) (ArePaired (λ m n. n < m) x y)
  greater_paired =
      cond_both (nat_lt y.lo x.hi) (both (if_any (from_to (max x.lo (y.lo + 1)) x.hi)) (if_any (from_to y.lo (min y.hi (x.hi - 1))))) None (λ r. OnLeft r (ArePaired (λ m n. n < m) x y))
      (λ e.
      if_both (ArePaired (λ m n. n < m) x y) (from_to (max x.lo (y.lo + 1)) x.hi) (from_to y.lo (min y.hi (x.hi - 1)))
      (record {
        first = λ m h. record { own = h.below; other = y.lo; of_other = lowest; related = omega (arith, h.above) };
        second = λ n h. record { own = omega (arith, h.below); other = x.hi; of_other = greatest; related = omega (arith, h.below, ltb-true y.lo x.hi e) };
      }))
      (λ e. tt)

  pub at_least_paired : OnLeft (at_least x y) (ArePaired (λ m n. n ≤ m) x y)
  at_least_paired =
      if_both (ArePaired (λ m n. n ≤ m) x y) (from_to (max x.lo y.lo) x.hi) (from_to y.lo (min y.hi x.hi))
      (record {
        first = λ m h. record { own = h.below; other = y.lo; of_other = lowest; related = omega (arith, h.above) };
        second = λ n h. record { own = omega (arith, h.below); other = x.hi; of_other = greatest; related = omega (arith, h.below) };
      })

  pub equal_paired : OnLeft (equal x y) (ArePaired (λ m n. m ≡ n) x y)
  equal_paired =
      if_both (ArePaired (λ m n. m ≡ n) x y) (from_to (max x.lo y.lo) (min x.hi y.hi)) (from_to (max x.lo y.lo) (min x.hi y.hi))
      (record {
        first = λ m h. record { own = omega (arith, h.below); other = m; of_other = record { word = h.word; above = omega (arith, h.above); below = omega (arith, h.below) }; related = refl };
        second = λ n h. record { own = omega (arith, h.below); other = n; of_other = record { word = h.word; above = omega (arith, h.above); below = omega (arith, h.below) }; related = refl };
      })

module _ (w : Width) (x y : Bounds) (a : AreWords w x) (b : AreWords w y) where
  less_paired : OnLeft (exchanged_pair (greater y x)) (ArePaired (λ m n. m < n) x y)
  less_paired = exchanged_paired (λ n m. m < n) y x (greater y x) (greater_paired w y x b a)

  at_most_paired : OnLeft (exchanged_pair (at_least y x)) (ArePaired (λ m n. m ≤ n) x y)
  at_most_paired = exchanged_paired (λ n m. m ≤ n) y x (at_least y x) (at_least_paired w y x b a)

  -- words are compared as they are
  held : (c : Condition) (m n : ℕ) (t : Bool) → m ≤ x.hi → n ≤ y.hi → compares c (int_width w) m n ≡ t → holds c w m n ≡ t
  held c m n t p q e = (λ i. compares c (int_width w) (cut_small w m (omega (arith, p, a.words)) i) (cut_small w n (omega (arith, q, b.words)) i)) ∙ e

  -- and positive ones with their signs too
  signed_held : ArePositive w x y → (test : ℤ → ℤ → Bool) (m n : ℕ) (t : Bool) → m ≤ x.hi → n ≤ y.hi → test (pos m) (pos n) ≡ t → test (cast_signed (int_width w) m) (cast_signed (int_width w) n) ≡ t
  signed_held h test m n t p q e = (λ i. test (positive w m (omega (arith, p, h.left)) i) (positive w n (omega (arith, q, h.right)) i)) ∙ e

  -- pairs that are related pass
  Suffices : Test → (ℕ → ℕ → Type 0) → Type 0
  Suffices test R = (m n : ℕ) → m ≤ x.hi → n ≤ y.hi → R m n → passes test w m n ≡ true

  passing : (test : Test) (R : ℕ → ℕ → Type 0) (pairs : Option (Bounds × Bounds)) → Suffices test R → OnLeft pairs (ArePaired R x y) → OnLeft pairs (ArePassing test w x y)
  unfolding Suffices
  passing test R None enough h = tt
  passing test R (Some pair) enough h = record {
    first = λ m i. let p = h.first m i in (p.other, p.of_other, enough m p.other p.own p.of_other.below p.related);
    second = λ n i. let p = h.second n i in (p.other, p.of_other, enough p.other n p.of_other.below p.own p.related);
  }

  holding : (c : Condition) (R : ℕ → ℕ → Type 0) → ((m n : ℕ) → m ≤ x.hi → n ≤ y.hi → R m n → compares c (int_width w) m n ≡ true) → Suffices (Holds c) R
  unfolding Suffices
  holding c R is m n p q r = held c m n true p q (is m n p q r)

  failing : (c : Condition) (R : ℕ → ℕ → Type 0) → ((m n : ℕ) → m ≤ x.hi → n ≤ y.hi → R m n → compares c (int_width w) m n ≡ false) → Suffices (Fails c) R
  unfolding Suffices
  failing c R is m n p q r = not_from_false (holds c w m n) (held c m n false p q (is m n p q r))

  left_passes : (test : Test) → Refines test w x y → OnLeft (pair_where test x y) (ArePassing test w x y)
  left_passes (Holds Eq) s = passing (Holds Eq) (λ m n. m ≡ n) (equal x y) (holding Eq (λ m n. m ≡ n) (λ m n p q r. eq-eqb m n r)) (equal_paired w x y a b)
  left_passes (Holds Gt) s = passing (Holds Gt) (λ m n. n < m) (greater x y) (holding Gt (λ m n. n < m) (λ m n p q r. lt-ltb n m r)) (greater_paired w x y a b)
  left_passes (Holds Ge) s = passing (Holds Ge) (λ m n. n ≤ m) (at_least x y) (holding Ge (λ m n. n ≤ m) (λ m n p q r. le-leb n m r)) (at_least_paired w x y a b)
  left_passes (Holds Set) s = absurd s
  left_passes (Holds Ne) s = absurd s
  left_passes (Holds SignedGt) s = passing (Holds SignedGt) (λ m n. n < m) (greater x y) (holding SignedGt (λ m n. n < m) (λ m n p q r. signed_held s (λ i j. int_lt j i) m n true p q (lt-ltb n m r))) (greater_paired w x y a b)
  left_passes (Holds SignedGe) s = passing (Holds SignedGe) (λ m n. n ≤ m) (at_least x y) (holding SignedGe (λ m n. n ≤ m) (λ m n p q r. signed_held s (λ i j. int_le j i) m n true p q (le-leb n m r))) (at_least_paired w x y a b)
  left_passes (Holds Lt) s = passing (Holds Lt) (λ m n. m < n) (exchanged_pair (greater y x)) (holding Lt (λ m n. m < n) (λ m n p q r. lt-ltb m n r)) less_paired
  left_passes (Holds Le) s = passing (Holds Le) (λ m n. m ≤ n) (exchanged_pair (at_least y x)) (holding Le (λ m n. m ≤ n) (λ m n p q r. le-leb m n r)) at_most_paired
  left_passes (Holds SignedLt) s = passing (Holds SignedLt) (λ m n. m < n) (exchanged_pair (greater y x)) (holding SignedLt (λ m n. m < n) (λ m n p q r. signed_held s int_lt m n true p q (lt-ltb m n r))) less_paired
  left_passes (Holds SignedLe) s = passing (Holds SignedLe) (λ m n. m ≤ n) (exchanged_pair (at_least y x)) (holding SignedLe (λ m n. m ≤ n) (λ m n p q r. signed_held s int_le m n true p q (le-leb m n r))) at_most_paired
  left_passes (Fails Eq) s = absurd s
  left_passes (Fails Gt) s = passing (Fails Gt) (λ m n. m ≤ n) (exchanged_pair (at_least y x)) (failing Gt (λ m n. m ≤ n) (λ m n p q r. le-ltb n m r)) at_most_paired
  left_passes (Fails Ge) s = passing (Fails Ge) (λ m n. m < n) (exchanged_pair (greater y x)) (failing Ge (λ m n. m < n) (λ m n p q r. lt-leb n m r)) less_paired
  left_passes (Fails Set) s = absurd s
  left_passes (Fails Ne) s = passing (Fails Ne) (λ m n. m ≡ n) (equal x y) (failing Ne (λ m n. m ≡ n) (λ m n p q r. ap not (eq-eqb m n r))) (equal_paired w x y a b)
  left_passes (Fails SignedGt) s = passing (Fails SignedGt) (λ m n. m ≤ n) (exchanged_pair (at_least y x)) (failing SignedGt (λ m n. m ≤ n) (λ m n p q r. signed_held s (λ i j. int_lt j i) m n false p q (le-ltb n m r))) at_most_paired
  left_passes (Fails SignedGe) s = passing (Fails SignedGe) (λ m n. m < n) (exchanged_pair (greater y x)) (failing SignedGe (λ m n. m < n) (λ m n p q r. signed_held s (λ i j. int_le j i) m n false p q (lt-leb n m r))) less_paired
  left_passes (Fails Lt) s = passing (Fails Lt) (λ m n. n ≤ m) (at_least x y) (failing Lt (λ m n. n ≤ m) (λ m n p q r. le-ltb m n r)) (at_least_paired w x y a b)
  left_passes (Fails Le) s = passing (Fails Le) (λ m n. n < m) (greater x y) (failing Le (λ m n. n < m) (λ m n p q r. lt-leb m n r)) (greater_paired w x y a b)
  left_passes (Fails SignedLt) s = passing (Fails SignedLt) (λ m n. n ≤ m) (at_least x y) (failing SignedLt (λ m n. n ≤ m) (λ m n p q r. signed_held s int_lt m n false p q (le-ltb m n r))) (at_least_paired w x y a b)
  left_passes (Fails SignedLe) s = passing (Fails SignedLe) (λ m n. n < m) (greater x y) (failing SignedLe (λ m n. n < m) (λ m n p q r. signed_held s int_le m n false p q (lt-leb m n r))) (greater_paired w x y a b)

  -- the operands of such a test are refined
  unsigned : (nat_lt x.hi (modulus w) && nat_lt y.hi (modulus w)) ≡ true
  unsigned = and_from (nat_lt x.hi (modulus w)) (nat_lt y.hi (modulus w)) (lt-ltb x.hi (modulus w) a.words) (lt-ltb y.hi (modulus w) b.words)

  refined : (test : Test) → Refines test w x y → can_refine test w x y ≡ true
  refined (Holds Eq) s = unsigned
  refined (Holds Gt) s = unsigned
  refined (Holds Ge) s = unsigned
  refined (Holds Set) s = unsigned
  refined (Holds Ne) s = unsigned
  refined (Holds SignedGt) s = positive_is w x y s
  refined (Holds SignedGe) s = positive_is w x y s
  refined (Holds Lt) s = unsigned
  refined (Holds Le) s = unsigned
  refined (Holds SignedLt) s = positive_is w x y s
  refined (Holds SignedLe) s = positive_is w x y s
  refined (Fails Eq) s = unsigned
  refined (Fails Gt) s = unsigned
  refined (Fails Ge) s = unsigned
  refined (Fails Set) s = unsigned
  refined (Fails Ne) s = unsigned
  refined (Fails SignedGt) s = positive_is w x y s
  refined (Fails SignedGe) s = positive_is w x y s
  refined (Fails Lt) s = unsigned
  refined (Fails Le) s = unsigned
  refined (Fails SignedLt) s = positive_is w x y s
  refined (Fails SignedLe) s = positive_is w x y s

  -- single operands that pass are partners
  singles : (test : Test) → (is_single x && is_single y) ≡ true → passes test w x.lo y.lo ≡ true → ArePassing test w x y (x, y)
  singles test e passed =
      let single = and_parts (is_single x) (is_single y) e in
      record {
        first = λ m h. (y.lo, lowest w x y a b, ap (λ (k : ℕ). passes test w k y.lo) (sym (only_member x m single.0 h)) ∙ passed);
        second = λ n h. (x.lo, lowest w y x b a, ap (λ (k : ℕ). passes test w x.lo k) (sym (only_member y n single.1 h)) ∙ passed);
      }

  -- an order, or equality, leaves only members that pass with a member of the other operand
  pub refinement_passes : (test : Test) → Refines test w x y → OnLeft (interval_refine test w x y) (ArePassing test w x y)
  refinement_passes test s =
      cond_both (is_single x && is_single y) (if passes test w x.lo y.lo then Some (x, y) else None) (if can_refine test w x y then pair_where test x y else Some (x, y)) (λ r. OnLeft r (ArePassing test w x y))
      (λ e. cond_both (passes test w x.lo y.lo) (Some (x, y)) None (λ r. OnLeft r (ArePassing test w x y)) (λ t. singles test e t) (λ t. tt))
      (λ e. cond_both (can_refine test w x y) (pair_where test x y) (Some (x, y)) (λ r. OnLeft r (ArePassing test w x y)) (λ t. left_passes test s) (λ t. absurd (true≢false (sym (refined test s) ∙ t))))
