-- Internal. Members of intervals, and operands that are words of a width.
use Rattle.std.proofs.Common.{◌≡◌, ℕ, ◌-◌, ◌^◌, ◌≤◌, ◌<◌, Bool, true, false, sym, subst, arith}
use Rattle.std.specs.Prelude.{nat_lt, if◌then◌else◌}
use Rattle.std.proofs.lemmas.Bool.{cond_both, ltb-true, eqb-true}
use Rattle.std.proofs.Math.Nat.{mod-eq_of_lt, mod-le}
use Rattle.std.proofs.lemmas.Nat.{mod_below}
use Rattle.insn.specs.Words.{modulus, cut}
use Rattle.insn.specs.declared.width.Width.{Width}
use Rattle.insn.specs.declared.width.Width.TheVariants.{W32, W64}
use Rattle.interval.specs.declared.domain.Bounds.{Bounds}
use Rattle.interval.specs.Intervals.{LiesBetween, from_to, all, operand_bounds, is_single}

-- a member of an interval whose ends are below M
pub record IsWithin (M : ℕ) (x : Bounds) (n : ℕ) : Type 0 where
  pub small : x.hi < M
  pub above : x.lo ≤ n
  pub below : n ≤ x.hi

-- a number between the ends of an interval of words
pub record LiesInWords (x : Bounds) (n : ℕ) : Type 0 where
  pub word : x.hi < 2 ^ 64
  pub above : x.lo ≤ n
  pub below : n ≤ x.hi

pub is_member : (x : Bounds) (n : ℕ) → LiesInWords x n → LiesBetween x n
is_member x n h = record { word = omega (arith, h.word, h.below); above = h.above; below = h.below }

pub modulus_fits : (w : Width) → modulus w ≤ 2 ^ 64
modulus_fits W32 = omega arith
modulus_fits W64 = omega arith

pub modulus_positive : (w : Width) → 0 < modulus w
modulus_positive W32 = omega arith
modulus_positive W64 = omega arith

pub number_small : (M : ℕ) (x : Bounds) (n : ℕ) → IsWithin M x n → n < M
number_small M x n h = omega (arith, h.small, h.below)

pub cut_small : (w : Width) (n : ℕ) → n < modulus w → cut w n ≡ n
cut_small w n lt = mod-eq_of_lt lt

pub cut_at_most : (w : Width) (n : ℕ) → cut w n ≤ n
cut_at_most w n = mod-le n (modulus w)

pub cut_below : (w : Width) (n : ℕ) → cut w n < modulus w
cut_below w n = mod_below n (modulus w) (modulus_positive w)

pub cut_cut : (w : Width) (n : ℕ) → cut w (cut w n) ≡ cut w n
cut_cut w n = cut_small w (cut w n) (cut_below w n)

-- a number between two ends
pub between : (lo hi n : ℕ) → hi < 2 ^ 64 → lo ≤ n → n ≤ hi → LiesInWords (from_to lo hi) n
between lo hi n word above below = record { word = word; above = above; below = below }

-- a word of the width is what is left of it
pub cut_between : (w : Width) (lo hi n : ℕ) → hi < 2 ^ 64 → n < modulus w → lo ≤ n → n ≤ hi → LiesInWords (from_to lo hi) (cut w n)
cut_between w lo hi n word lt above below = subst (λ (k : ℕ). LiesInWords (from_to lo hi) k) (sym (cut_small w n lt)) (between lo hi n word above below)

-- what is left of a number isn't greater
pub cut_up_to : (w : Width) (hi n : ℕ) → hi < 2 ^ 64 → n ≤ hi → LiesInWords (from_to 0 hi) (cut w n)
cut_up_to w hi n word below = between 0 hi (cut w n) word (omega arith) (omega (arith, cut_at_most w n))

pub cut_any : (w : Width) (n : ℕ) → LiesInWords (all w) (cut w n)
cut_any w n = between 0 (modulus w - 1) (cut w n) (omega (arith, modulus_fits w, modulus_positive w)) (omega arith) (omega (arith, cut_below w n))

-- where a choice is one of two intervals
pub either_interval : (b : Bool) (x y : Bounds) (n : ℕ) → (b ≡ true → LiesInWords x n) → (b ≡ false → LiesInWords y n) → LiesInWords (if b then x else y) n
either_interval b x y n p q = cond_both b x y (λ z. LiesInWords z n) p q

-- an operand that is narrowed to a width
pub narrowed_within : (w : Width) (x : Bounds) (n : ℕ) → LiesBetween x n → IsWithin (modulus w) (operand_bounds w x) (cut w n)
narrowed_within w x n h =
    cond_both (nat_lt x.hi (modulus w)) x (all w) (λ z. IsWithin (modulus w) z (cut w n))
    (λ e.
    let small = ltb-true x.hi (modulus w) e in
    let same = cut_small w n (omega (arith, h.below)) in
    record { small = small; above = omega (arith, h.above, same); below = omega (arith, h.below, same) })
    (λ e. record { small = omega (arith, modulus_positive w); above = omega arith; below = omega (arith, cut_below w n) })

-- the one member of a single interval
pub the_member : (x : Bounds) (n M : ℕ) → is_single x ≡ true → IsWithin M x n → x.lo ≡ n
the_member x n M e h = let same = eqb-true x.lo x.hi e in omega (arith, h.above, h.below)

pub only_member : (x : Bounds) (n : ℕ) → is_single x ≡ true → LiesBetween x n → x.lo ≡ n
only_member x n e h = let same = eqb-true x.lo x.hi e in omega (arith, h.above, h.below)
