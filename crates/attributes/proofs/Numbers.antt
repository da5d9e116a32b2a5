-- A number that was read from a value of four bytes.
use Rattle.std.proofs.Common.{◌≡◌, ℕ, ◌≤◌, ◌<◌, ◌^◌, List, [], ◌++◌, length, drop, sym, ap, ◌∙◌, subst, get_or, arith, Fits, w8}
use Rattle.std.proofs.lemmas.List.{take-append-drop, append-nil}
use Rattle.stun.specs.Endian.{big_number, big_bytes}
use Rattle.stun.specs.Numbers.{big_number-reads_back, big_from-lt, length-bytes_high_first}
use Rattle.attributes.specs.Values.{IsNumberValue}
use Rattle.attributes.specs.laws.Number.{bytes_back, all_fit}

pub number_read : (n : ℕ) (value : List ℕ) → length value ≡ 4 → n ≤ 4 → ((i : ℕ) → Fits w8 (get_or value i 0)) → IsNumberValue n (big_number n value) value
number_read n value four few fit = record {
  fits = big_from-lt 0 n value (λ i. (fit i).fits);
  four = four;
  rest = drop n value;
  spelled = sym (ap (λ (front : List ℕ). front ++ drop n value) (bytes_back n value (omega (arith, four)) (all_fit value fit)) ∙ take-append-drop n value);
}

pub first_read : (value : List ℕ) → length value ≡ 4 → ((i : ℕ) → Fits w8 (get_or value i 0)) → IsNumberValue 1 (get_or value 0 0) value
first_read value four fit = subst (λ (n : ℕ). IsNumberValue 1 n value) (omega arith) (number_read 1 value four (omega arith) fit)

-- a value has one number
pub number_unique : (n a b : ℕ) (value : List ℕ) → IsNumberValue n a value → IsNumberValue n b value → a ≡ b
number_unique n a b value is other =
    sym (big_number-reads_back n a is.rest is.fits) ∙ ap (big_number n) (sym is.spelled ∙ other.spelled) ∙ big_number-reads_back n b other.rest other.fits

-- the four bytes of a number are its value
pub number_written : (n : ℕ) → n < 2 ^ 32 → IsNumberValue 4 n (big_bytes 4 n)
number_written n small = record {
  fits = omega arith;
  four = length-bytes_high_first 4 n;
  rest = [];
  spelled = sym (append-nil (big_bytes 4 n));
}
