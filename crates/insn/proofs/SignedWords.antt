-- Signed operators compute on 64 bits what their definition computes on the width.
use Rattle.std.proofs.Common.{◌≡◌, ℕ, suc, ◌/◌, ◌^◌, ◌<◌, ◌≤◌, Bool, true, false, ◌==◌, if◌then◌else◌, refl, ap, ◌∙◌, arith, ℤ, pos, negsuc, FitsSigned, zero, neg_ℤ}
use Rattle.std.specs.Int.{w64, cast_signed, cast_unsigned, int_shr}
use Rattle.std.specs.Int.RustNames.{int_div, int_rem, unsigned_abs}
use Rattle.std.proofs.lemmas.Int.{ints, of_z-to_z}
use Rattle.std.proofs.Math.Facts.{sfits_to_z}
use Rattle.std.proofs.lemmas.Bool.{true≢false, false≢true}
use native.Mathlib.Nat.{div-le_self}
use lib.Signed.{mag, mag_shr, mag_rem}
use Rattle.insn.specs.Words.{int_width, modulus, cut, whole}
use Rattle.insn.specs.declared.width.Width.{Width}
use Rattle.insn.specs.declared.width.Width.TheVariants.{W32, W64}
use Rattle.insn.specs.declared.operator.AluOp.TheVariants.{SignedDiv, SignedMod}

pub cut_small : (w : Width) (n : ℕ) → n < modulus w → cut w n ≡ n
cut_small W32 n lt = omega arith
cut_small W64 n lt = omega arith

-- a number of either sign has the same low bits at 64 bits as at the width
cut_signed : (w : Width) (z : ℤ) → mag z < modulus w → cut w (cast_unsigned w64 z) ≡ cut w (cast_unsigned (int_width w) z)
cut_signed W64 z lt = refl
cut_signed W32 (pos n) lt = refl
cut_signed W32 (negsuc n) lt = omega arith

fits_width : (w : Width) (n : ℕ) → n < modulus w → FitsSigned (int_width w) (cast_signed (int_width w) n)
fits_width W32 n lt = sfits_to_z (record { fits = lt })
fits_width W64 n lt = sfits_to_z (record { fits = lt })

-- the bits of a number that fits are those of the definition
small : (w : Width) (z : ℤ) → mag z ≤ modulus w / 2 → mag z < modulus w
small W32 z le = omega arith
small W64 z le = omega arith

signed_small : (w : Width) (n : ℕ) → n < modulus w → unsigned_abs (cast_signed (int_width w) n) ≤ modulus w / 2
signed_small W32 n lt = omega (arith, ints)
signed_small W64 n lt = omega (arith, ints)

mag_at_most : (z : ℤ) → mag z ≤ unsigned_abs z
mag_at_most (pos n) = omega arith
mag_at_most (negsuc n) = omega arith

abs-neg : (n : ℕ) → unsigned_abs (neg_ℤ (pos n)) ≡ n
abs-neg zero = refl
abs-neg (suc n) = refl

quotient_at_most : (a b : ℤ) → unsigned_abs (int_div a b) ≤ unsigned_abs a
quotient_at_most (pos a) (pos b) = div-le_self a b
quotient_at_most (pos a) (negsuc b) = omega (arith, abs-neg (a / suc b), div-le_self a (suc b))
quotient_at_most (negsuc a) (pos b) = omega (arith, abs-neg (suc a / b), div-le_self (suc a) b)
quotient_at_most (negsuc a) (negsuc b) = div-le_self (suc a) (suc b)

-- zero at the width is zero at 64 bits
same_zero : (w : Width) (b : ℕ) → b < modulus w → (cast_unsigned w64 (cast_signed (int_width w) b) == 0) ≡ (b == 0)
same_zero W32 b lt = grind (arith, ints)
same_zero W64 b lt = ap (λ (n : ℕ). n == 0) (of_z-to_z w64 b lt)

chosen : (w : Width) (t u : Bool) (x y p q : ℕ) → t ≡ u → cut w x ≡ cut w p → cut w y ≡ cut w q → cut w (if t then x else y) ≡ cut w (if u then p else q)
chosen w true true x y p q e f g = f
chosen w false false x y p q e f g = g
chosen w true false x y p q e f g = absurd (true≢false e)
chosen w false true x y p q e f g = absurd (false≢true e)

module _ (w : Width) (a b : ℕ) (small_a : a < modulus w) (small_b : b < modulus w) where
  -- a number that is no further from zero than the first operand
  from_signed : (z : ℤ) → mag z ≤ unsigned_abs (cast_signed (int_width w) a) → cut w (cast_unsigned w64 z) ≡ cut w (cast_unsigned (int_width w) z)
  from_signed z le = cut_signed w z (small w z (omega (arith, le, signed_small w a small_a)))

  -- the bits of a signed number are the number's
  kept : cut w (cast_unsigned w64 (cast_signed (int_width w) a)) ≡ cut w a
  kept = from_signed (cast_signed (int_width w) a) (mag_at_most (cast_signed (int_width w) a)) ∙ ap (cut w) (of_z-to_z (int_width w) a small_a)

  module _ (x : ℤ) (x_is : x ≡ cast_signed (int_width w) (cut w a)) where
    x_of : x ≡ cast_signed (int_width w) a
    x_of = x_is ∙ ap (cast_signed (int_width w)) (cut_small w a small_a)

    pub arsh_is : (count : ℕ) → cut w (cast_unsigned w64 (int_shr x count)) ≡ cut w (cast_unsigned (int_width w) (int_shr (cast_signed (int_width w) a) count))
    arsh_is count =
        ap (λ (z : ℤ). cut w (cast_unsigned w64 (int_shr z count))) x_of
        ∙ from_signed (int_shr (cast_signed (int_width w) a) count) (omega (arith, mag_shr (cast_signed (int_width w) a) (2 ^ count), mag_at_most (cast_signed (int_width w) a)))

    module _ (y : ℤ) (y_is : y ≡ cast_signed (int_width w) (cut w b)) where
      y_of : y ≡ cast_signed (int_width w) b
      y_of = y_is ∙ ap (cast_signed (int_width w)) (cut_small w b small_b)

      divided_is : (by : ℤ → ℤ → ℤ) (at_zero other : ℕ) → cut w at_zero ≡ cut w other → ((a b : ℤ) → mag (by a b) ≤ unsigned_abs a)
          → cut w (if cast_unsigned w64 y == 0 then at_zero else cast_unsigned w64 (by x y)) ≡ cut w (if b == 0 then other else cast_unsigned (int_width w) (by (cast_signed (int_width w) a) (cast_signed (int_width w) b)))
      divided_is by at_zero other same le =
          let zero_is : (cast_unsigned w64 y == 0) ≡ (b == 0) = ap (λ (z : ℤ). cast_unsigned w64 z == 0) y_of ∙ same_zero w b small_b in
          let result_is : cast_unsigned w64 (by x y) ≡ cast_unsigned w64 (by (cast_signed (int_width w) a) (cast_signed (int_width w) b)) = λ i. cast_unsigned w64 (by (x_of i) (y_of i)) in
          chosen w (cast_unsigned w64 y == 0) (b == 0) at_zero (cast_unsigned w64 (by x y)) other (cast_unsigned (int_width w) (by (cast_signed (int_width w) a) (cast_signed (int_width w) b))) zero_is same
          (ap (cut w) result_is ∙ from_signed (by (cast_signed (int_width w) a) (cast_signed (int_width w) b)) (le (cast_signed (int_width w) a) (cast_signed (int_width w) b)))

      pub signed_div_is : cut w (if cast_unsigned w64 y == 0 then 0 else cast_unsigned w64 (int_div x y)) ≡ cut w (whole SignedDiv w a b)
      signed_div_is = divided_is int_div 0 0 refl (λ p q. omega (arith, mag_at_most (int_div p q), quotient_at_most p q))

      pub signed_mod_is : cut w (if cast_unsigned w64 y == 0 then cast_unsigned w64 x else cast_unsigned w64 (int_rem x y)) ≡ cut w (whole SignedMod w a b)
      signed_mod_is = divided_is int_rem (cast_unsigned w64 x) a (ap (λ (z : ℤ). cut w (cast_unsigned w64 z)) x_of ∙ kept) (λ p q. omega (arith, mag_rem p q, mag_at_most p))
