-- Meaning. The values that the texts of options spell.
use Rattle.std.specs.Prelude.{◌≡◌, ◌^◌, ℕ, ℤ, pos, ◌<◌, length, Option, Some, None, List, Ok, option_map}
use Rattle.std.specs.Borrow.{Bor}
use Rattle.std.specs.Str.Parse.{IsNumeral, digits_value, without_leading_plus}
use Rattle.clap.specs.Words.{Text}
use Rattle.hex.specs.Hex.{decode_of}
use Rattle.command_line.specs.declared.values.OptionError.{OptionError}

-- decimal digits, of which a plus may be before the first, have this number, and it is below a bound
abbrev pub IsDecimal : ℕ → Text → ℕ → Type 0
IsDecimal bound text n = IsNumeral 10 (without_leading_plus text)
    × ((digits_value 10 (without_leading_plus text) ≡ n) × (n < bound))

-- the sixteen bytes that a text writes in hexadecimal digits of either case, two a byte
abbrev pub AreOctets6 : Text → List ℕ → Type 0
AreOctets6 text ip = (decode_of text ≡ Ok ip) × (length ip ≡ 16)

-- a number of seconds, at least 1
abbrev pub IsSeconds : Text → ℕ → Type 0
IsSeconds text n = IsDecimal (2 ^ 64) text n × (0 < n)

-- the bytes of a buffer, of which there is at least 1
abbrev pub IsBuffer : Text → ℤ → Type 0
IsBuffer text size = (n : ℕ) × (IsDecimal (2 ^ 30) text n × ((0 < n) × (size ≡ pos n)))

-- the text that a reference has
abbrev pub text_of : Option (Bor Text) → Option Text
text_of = option_map (λ s. s.now)

-- the value that the text of an option spells, and none where the option is not given
abbrev pub HasValue : {A : Type 0} → (Text → A → Type 0) → Option Text → Option A → Type 0
HasValue Spells (Some text) (Some value) = Spells text value
HasValue Spells None None = Unit {0}
HasValue Spells _ _ = ⊥

-- the text of this option spells no value, and is refused: the error names both
abbrev pub IsRefusedValue : {A : Type 0} → Text → (Text → A → Type 0) → Option Text → OptionError → Type 0
IsRefusedValue {A} option Spells None e = ⊥
IsRefusedValue {A} option Spells (Some text) e = ((value : A) → ¬ (Spells text value)) × ((e.option.now ≡ option) × (e.text.now ≡ text))
