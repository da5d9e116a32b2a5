-- Numerals as std's parser reads them.
use Rattle.std.proofs.Common.{◌≡◌, ◌≢◌, refl, ℕ, zero, suc, ◌<◌, ◌≤◌, ◌+◌, Bool, true, false, nat_le, not, ◌&&◌, ◌==◌, List, [], ◌∷◌, length, sym, ap, arith, subst}
use Rattle.std.specs.Prelude.{IsUtf8, IsAscii, slice_index, ltb, ◌^◌}
use Rattle.std.specs.List.{list_all}
use Rattle.std.specs.Char.{digit_value}
use Rattle.std.specs.Str.Parse.{AllDigits, IsNumeral, without_leading_plus, digits_value}
use Rattle.std.proofs.lemmas.Bool.{le-ltb, ltb-true, ltb-false, leb-true, false≢true}
use Rattle.std.proofs.lemmas.Str.{IsUtf8-from_ascii}
use Rattle.std.proofs.lemmas.Str.Parse.{without_leading_plus_none}
use Rattle.asm.specs.Radices.{radix_of, is_numeral}
use Rattle.asm.specs.declared.radix.Radix.{Radix}
use Rattle.asm.specs.declared.radix.Radix.TheVariants.{Decimal, Hexadecimal}

-- what follows the letters is no digit
no_digit : (c : ℕ) → 123 ≤ c → digit_value c ≡ 36
no_digit c le = rw (le-ltb c 48 (omega (arith, le)), le-ltb c 58 (omega (arith, le)), le-ltb c 65 (omega (arith, le)), le-ltb c 91 (omega (arith, le)), le-ltb c 97 (omega (arith, le)), le-ltb c 123 le)

radix_small : (r : Radix) → radix_of r ≤ 16
radix_small Decimal = omega arith
radix_small Hexadecimal = omega arith

both : (a b : Bool) → (a && b) ≡ true → (a ≡ true) × (b ≡ true)
both true true e = (refl, refl)
both true false e = absurd (false≢true e)
both false b e = absurd (false≢true e)

below : (v n : ℕ) → nat_le (v + 1) n ≡ true → v < n
below v n e = omega (arith, leb-true (v + 1) n e)

are_digits : (r : Radix) (ds : List ℕ) → list_all (λ d. nat_le (digit_value d + 1) (radix_of r)) ds ≡ true → AllDigits (radix_of r) ds
are_digits r [] e = tt
are_digits r (d ∷ ds) e = (below _ _ (both _ _ e).0, are_digits r ds (both _ _ e).1)

some_digit : (n : ℕ) → not (n == 0) ≡ true → 0 < n
some_digit zero e = absurd (false≢true e)
some_digit (suc n) e = omega arith

pub numeral_is_IsNumeral : (r : Radix) (ds : List ℕ) → is_numeral (radix_of r) ds ≡ true → IsNumeral (radix_of r) ds
numeral_is_IsNumeral r ds e = let parts = both _ _ e in (some_digit (length ds) parts.0, are_digits r ds parts.1)

digit_is_ascii : (r : Radix) (d : ℕ) → digit_value d < radix_of r → d < 128
digit_is_ascii r d lt = by_size (ltb d 123) refl
  where
    by_size : (b : Bool) → ltb d 123 ≡ b → d < 128
    by_size true e = omega (arith, ltb-true d 123 e)
    by_size false e = absurd (omega (arith, no_digit d (ltb-false d 123 e), lt, radix_small r))

digits_are_ascii : (r : Radix) (ds : List ℕ) → AllDigits (radix_of r) ds → IsAscii ds
digits_are_ascii r [] all i = omega arith
digits_are_ascii r (d ∷ ds) all zero = digit_is_ascii r d all.0
digits_are_ascii r (d ∷ ds) all (suc i) = digits_are_ascii r ds all.1 i

pub numeral_is_utf8 : (r : Radix) (ds : List ℕ) → is_numeral (radix_of r) ds ≡ true → IsUtf8 ds
numeral_is_utf8 r ds e = IsUtf8-from_ascii ds (digits_are_ascii r ds (numeral_is_IsNumeral r ds e).1)

plus_value : digit_value 43 ≡ 36
plus_value = refl

plus_is_no_digit : (r : Radix) (ds : List ℕ) → AllDigits (radix_of r) ds → 0 < length ds → slice_index ds 0 ≢ 43
plus_is_no_digit r [] all some is = omega arith
plus_is_no_digit r (d ∷ ds) all some is = omega (arith, all.0, radix_small r, ap digit_value is, plus_value)

pub numeral_without_plus : (r : Radix) (ds : List ℕ) → is_numeral (radix_of r) ds ≡ true → without_leading_plus ds ≡ ds
numeral_without_plus r ds e = let numeral = numeral_is_IsNumeral r ds e in
    without_leading_plus_none ds (plus_is_no_digit r ds numeral.1 numeral.0)

numeral_fits : (r : Radix) (ds : List ℕ) → is_numeral (radix_of r) ds ≡ true → digits_value (radix_of r) ds < 2 ^ 64
    → IsNumeral (radix_of r) (without_leading_plus ds) × (digits_value (radix_of r) (without_leading_plus ds) < 2 ^ 64)
numeral_fits r ds e lt = (
  subst (λ v. IsNumeral (radix_of r) v) (sym (numeral_without_plus r ds e)) (numeral_is_IsNumeral r ds e),
  subst (λ v. digits_value (radix_of r) v < 2 ^ 64) (sym (numeral_without_plus r ds e)) lt,
)

-- a numeral is refused only where it is too large
pub refused_is : (r : Radix) (ds text : List ℕ) (base : ℕ) → is_numeral (radix_of r) ds ≡ true → base ≡ radix_of r → text ≡ ds
    → (IsNumeral base (without_leading_plus text) × (digits_value base (without_leading_plus text) < 2 ^ 64) → ⊥)
    → digits_value (radix_of r) ds < 2 ^ 64 → ⊥
refused_is r ds text base e is same refused lt = refused (subst (λ v. IsNumeral v (without_leading_plus text) × (digits_value v (without_leading_plus text) < 2 ^ 64)) (sym is)
    (subst (λ v. IsNumeral (radix_of r) (without_leading_plus v) × (digits_value (radix_of r) (without_leading_plus v) < 2 ^ 64)) (sym same) (numeral_fits r ds e lt)))
