-- Internal. Numbers: the reader reads the number that a word spells.
use Rattle.std.proofs.Common.{◌≡◌, ℕ, ◌+◌, ◌<◌, ◌≤◌, Bool, true, false, not, List, [], ◌∷◌, ◌++◌, length, take, drop, Some, None, inl, inr, refl, sym, ap, ◌∙◌, subst, arith}
use Rattle.std.specs.Prelude.{codes, bytes_eq, ◌==◌, nat_le}
use Rattle.std.specs.List.{list_all, AllByRecursion}
use Rattle.std.specs.Char.{digit_value}
use Rattle.std.specs.Str.Parse.{IsNumeral, AllDigits, digits_value}
use Rattle.std.proofs.lemmas.Bool.{cases_Bool, cond-true, cond-false, and_parts, and_from, false_from_ne_true, leb-true, le-leb}
use Rattle.std.proofs.lemmas.Bool.Decides.{nat_tests}
use Rattle.std.proofs.lemmas.List.{take-append-drop}
use Rattle.std.proofs.lemmas.Option.{cond_some, none-some}
use Rattle.asm.specs.Radices.{is_numeral}
use Rattle.asm.specs.Lines.{Token, is_in_words, IsWord}
use Rattle.asm.specs.Statements.{IsNumber}
use Rattle.asm.specs.Reading.{register_named, is_hexadecimal, number_of_token}
use Rattle.asm.specs.laws.Grammar.Steps.{none_unless}
use Rattle.asm.specs.laws.Grammar.Words.{same_text, register_has_no_number, named_register}

-- ---- digits

-- the test of one digit
abbrev is_below : ℕ → ℕ → Bool
is_below radix d = nat_le (digit_value d + 1) radix

-- a digit that passes the test is one of the base
digit_by_test : (value radix : ℕ) → nat_le (value + 1) radix ≡ true → value < radix
digit_by_test value radix e = omega (arith, leb-true (value + 1) radix e)

-- digits that pass the test are those of the base
digits_by_test : (radix : ℕ) (ds : List ℕ) → list_all (is_below radix) ds ≡ true → AllDigits radix ds
digits_by_test radix [] e = tt
digits_by_test radix (d ∷ ds) e =
    let parts = and_parts (is_below radix d) (list_all (is_below radix) ds) e in
    (digit_by_test (digit_value d) radix parts.0, digits_by_test radix ds parts.1)

-- the digits of a base pass the test
digits_pass : (radix : ℕ) (ds : List ℕ) → AllDigits radix ds → list_all (is_below radix) ds ≡ true
digits_pass radix [] h = refl
digits_pass radix (d ∷ ds) h =
    and_from _ _ (le-leb (digit_value d + 1) radix (omega (arith, h.0))) (digits_pass radix ds h.1)

-- ---- numerals

-- the test that there is a digit
some_by_test : (n : ℕ) → not (n == 0) ≡ true → 0 < n
some_by_test n e = grind (arith, nat_tests)

-- it passes where there is one
some_pass : (n : ℕ) → 0 < n → not (n == 0) ≡ true
some_pass n h = grind (arith, nat_tests)

-- what passes the test is a numeral
numeral_by_test : (radix : ℕ) (ds : List ℕ) → is_numeral radix ds ≡ true → IsNumeral radix ds
numeral_by_test radix ds e =
    let parts = and_parts (not (length ds == 0)) (list_all (is_below radix) ds) e in
    (some_by_test (length ds) parts.0, digits_by_test radix ds parts.1)

-- a numeral passes the test
numeral_passes : (radix : ℕ) (ds : List ℕ) → IsNumeral radix ds → is_numeral radix ds ≡ true
numeral_passes radix ds h = and_from _ _ (some_pass (length ds) h.0) (digits_pass radix ds h.1)

-- ---- numbers

-- no decimal digit is an `x`
decimal_is_not_hexadecimal : (t : Token) → AllDigits 10 t → take 2 t ≡ codes "0x" → ⊥
decimal_is_not_hexadecimal [] h e = absurd cc
decimal_is_not_hexadecimal (c ∷ []) h e = absurd cc
decimal_is_not_hexadecimal (c ∷ d ∷ rest) h e =
    let is_x : d ≡ 120 = cc in
    let small : digit_value 120 < 10 = subst (λ (x : ℕ). digit_value x < 10) is_x h.1.0 in
    omega arith

-- decimal digits don't begin as a hexadecimal number
decimal_begins_plain : (t : Token) → AllDigits 10 t → is_hexadecimal t ≡ false
decimal_begins_plain t h =
    false_from_ne_true (is_hexadecimal t) (λ e. decimal_is_not_hexadecimal t h (same_text (take 2 t) (codes "0x") e))

-- a word that spells a number is read as that number
pub number_is_numbered : (n : ℕ) (t : Token) → IsNumber n t → number_of_token t ≡ Some n
number_is_numbered n t (inl h) =
    cond-false (is_hexadecimal t) _ _ (decimal_begins_plain t h.0.1)
    ∙ cond-true (is_numeral 10 t) _ _ (numeral_passes 10 t h.0) ∙ ap Some (sym h.1)
number_is_numbered n t (inr h) =
    ap number_of_token h.1 ∙ cond-true (is_numeral 16 h.0) _ _ (numeral_passes 16 h.0 h.2) ∙ ap Some (sym h.3)

-- a word that begins with `0x` is that and digits
hexadecimal_split : (t : Token) → is_hexadecimal t ≡ true → t ≡ codes "0x" ++ drop 2 t
hexadecimal_split t e =
    sym (take-append-drop 2 t) ∙ ap (λ (front : Token). front ++ drop 2 t) (same_text (take 2 t) (codes "0x") e)

-- a word that is read as a number spells it
pub numbered_number : (t : Token) (n : ℕ) → number_of_token t ≡ Some n → IsNumber n t
numbered_number t n e = elim (cases_Bool (is_hexadecimal t)) [
  | inl long ↦
      let value = digits_value 16 (drop 2 t) in
      let parts = cond_some (is_numeral 16 (drop 2 t)) value n (sym (cond-true (is_hexadecimal t) _ _ long) ∙ e) in
      inr (drop 2 t, hexadecimal_split t long, numeral_by_test 16 (drop 2 t) parts.0, sym parts.1)
  | inr plain ↦
      let value = digits_value 10 t in
      let parts = cond_some (is_numeral 10 t) value n (sym (cond-false (is_hexadecimal t) _ _ plain) ∙ e) in
      inl (numeral_by_test 10 t parts.0, sym parts.1)
]

-- ---- the words of numbers

-- a hexadecimal digit may be in words
digit_is_in_words : (d : ℕ) → digit_value d < 16 → is_in_words d ≡ true
digit_is_in_words d h = grind (arith, nat_tests)

-- likewise each of some digits
digits_are_in_words : (radix : ℕ) (ds : List ℕ) → radix ≤ 16 → AllDigits radix ds
    → AllByRecursion (λ c. is_in_words c ≡ true) ds
digits_are_in_words radix [] le h = tt
digits_are_in_words radix (d ∷ ds) le h =
    (digit_is_in_words d (omega (arith, h.0)), digits_are_in_words radix ds le h.1)

-- a number is a word
pub number_is_word : (n : ℕ) (t : Token) → IsNumber n t → IsWord t
number_is_word n [] (inl h) = absurd (omega (arith, h.0.0))
number_is_word n (d ∷ ds) (inl h) = ((λ same. absurd cc), digits_are_in_words 10 (d ∷ ds) (omega arith) h.0.1)
number_is_word n t (inr h) =
    let digits = digits_are_in_words 16 h.0 (omega arith) h.2.1 in
    subst IsWord (sym h.1) ((λ same. absurd cc), (refl, (refl, digits)))

-- a number names no register
pub number_is_no_register : (n : ℕ) (t : Token) → IsNumber n t → register_named t ≡ None
number_is_no_register n t h =
    none_unless (register_named t) (λ r e. none-some n
    (sym (register_has_no_number r) ∙ ap number_of_token (sym (named_register t r e)) ∙ number_is_numbered n t h))

-- a number is no minus
pub number_is_no_minus : (n : ℕ) (t : Token) → IsNumber n t → bytes_eq t (codes "-") ≡ false
number_is_no_minus n t h =
    false_from_ne_true (bytes_eq t (codes "-"))
    (λ e. none-some n (ap number_of_token (sym (same_text t (codes "-") e)) ∙ number_is_numbered n t h))
