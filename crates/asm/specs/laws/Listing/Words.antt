-- Internal. The words of a spelling: where a word ends, and the numerals of numbers that fit their fields.
use Rattle.std.proofs.Common.{◌≡◌, ◌<◌, ◌^◌, ℕ, suc, ℤ, pos, negsuc, true, false, List, inl, sym, arith}
use Rattle.std.specs.Prelude.{decimal, ◌==◌, FitsSigned}
use Rattle.std.specs.Int.{w16, w32}
use Rattle.std.specs.Int.Signed.{mag}
use Rattle.std.specs.List.{AllByRecursion}
use Rattle.std.proofs.lemmas.Bool.Decides.{nat_tests}
use Rattle.std.proofs.lemmas.Fmt.{decimal_is_IsNumeral}
use Rattle.asm.specs.Lines.{Token, is_in_words, IsWord}
use Rattle.asm.specs.Statements.{IsNumber}
use Rattle.asm.specs.laws.Grammar.Steps.{each_also}
use Rattle.asm.specs.laws.Grammar.Numbers.{number_is_word}

-- ---- line feeds

-- a text without line feeds
abbrev pub HasNoFeed : List ℕ → Type 0
HasNoFeed text = AllByRecursion (λ c. (c == 10) ≡ false) text

-- a character of words is no line feed
no_feed : (c : ℕ) → is_in_words c ≡ true → (c == 10) ≡ false
no_feed c e = grind (arith, nat_tests)

-- a word has no line feed
pub word_has_no_feed : (t : Token) → IsWord t → HasNoFeed t
word_has_no_feed t h = each_also no_feed t h.1

-- ---- numbers

-- a number of at most 64 bits with its sign
abbrev pub IsShortNumber : ℤ → Type 0
IsShortNumber z = mag z < 2 ^ 63

-- an offset is one
pub offset_is_short : (z : ℤ) → FitsSigned w16 z → IsShortNumber z
offset_is_short z h = omega (arith, h.sfits)

-- and so is an imm
pub imm_is_short : (z : ℤ) → FitsSigned w32 z → IsShortNumber z
imm_is_short z h = omega (arith, h.sfits)

-- the digits of a number of 64 bits spell it
pub decimal_is_number : (n : ℕ) → n < 2 ^ 64 → IsNumber n (decimal n)
decimal_is_number n h = let is = decimal_is_IsNumeral n h in inl (is.0, sym is.1)

-- and are a word
pub decimal_is_word : (n : ℕ) → n < 2 ^ 64 → IsWord (decimal n)
decimal_is_word n h = number_is_word n (decimal n) (decimal_is_number n h)

-- the size of a positive number
pub positive_size : (n : ℕ) → IsShortNumber (pos n) → n < 2 ^ 64
positive_size n h = omega (arith, h)

-- the size of a negative number
pub negative_size : (n : ℕ) → IsShortNumber (negsuc n) → suc n < 2 ^ 64
negative_size n h = omega (arith, h)
