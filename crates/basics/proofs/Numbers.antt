-- The number of a decimal text, from what parsing it gives.
use Rattle.std.proofs.Common.{◌≡◌, ℕ, ◌<◌, ◌^◌, List, sym, ap, ◌∙◌, subst}
use Rattle.std.specs.Prelude.{Option, None, Some, Result, Ok, decimal}
use Rattle.std.specs.Str.{IsUtf8}
use Rattle.std.specs.Str.Parse.{ParsesUnsigned}
use Rattle.std.proofs.lemmas.Fmt.{IsAscii-decimal, parse-decimal}
use Rattle.std.proofs.lemmas.Str.{IsUtf8-from_ascii}
use Rattle.basics.specs.Decimals.{decimal_in}
use Rattle.basics.specs.laws.Decimals.{decimal_in-decimal, decimal_in-is}

pub is_number : (text : List ℕ) (n : ℕ) → n < 2 ^ 64 → text ≡ decimal n → Some n ≡ decimal_in (2 ^ 64) text
is_number text n small e = sym (ap (decimal_in (2 ^ 64)) e ∙ decimal_in-decimal (2 ^ 64) n small small)

none_is : (o : Option ℕ) → ((n : ℕ) → o ≡ Some n → ⊥) → None ≡ o
none_is None never = λ i. None
none_is (Some n) never = absurd (never n (λ i. Some n))

-- a text that is no number's
pub is_none : (limit : ℕ) (text : List ℕ) → ((n : ℕ) → n < limit → text ≡ decimal n → ⊥) → None ≡ decimal_in limit text
is_none limit text never = none_is (decimal_in limit text) (λ n e. let is = decimal_in-is limit text n e in never n is.0 is.1)

pub not_utf8 : (text : List ℕ) → (IsUtf8 text → ⊥) → None ≡ decimal_in (2 ^ 64) text
not_utf8 text bad = is_none (2 ^ 64) text (λ n small e. bad (subst IsUtf8 (sym e) (IsUtf8-from_ascii (decimal n) (IsAscii-decimal n small))))

-- parsing the text of a number gives that number
pub parsed : {E : Type 0} (text : List ℕ) (r : Result ℕ E) → ParsesUnsigned 64 10 text r → (n : ℕ) → n < 2 ^ 64 → text ≡ decimal n → r ≡ Ok n
parsed text r parses n small e = parse-decimal 64 n text r small small e parses
