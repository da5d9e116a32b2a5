-- Internal. The bases of numbers, and their digits.
use Rattle.std.specs.Prelude.{ℕ, ◌+◌, ◌==◌, nat_le, Bool, not, ◌&&◌, List, length}
use Rattle.std.specs.List.{list_all}
use Rattle.std.specs.Char.{digit_value}
use Rattle.asm.specs.declared.radix.Radix.{Radix}
use Rattle.asm.specs.declared.radix.Radix.TheVariants.{Decimal, Hexadecimal}

abbrev pub radix_of : Radix → ℕ
radix_of Decimal = 10
radix_of Hexadecimal = 16

-- one digit or more
abbrev pub is_numeral : ℕ → List ℕ → Bool
is_numeral radix digits = not (length digits == 0) && list_all (λ d. nat_le (digit_value d + 1) radix) digits
