-- The first line of a text.
use Rattle.std.proofs.Common.{◌≡◌, refl, ℕ, ◌<◌, ◌+◌, ◌==◌, Bool, true, false, List, [], ◌∷◌, length, Option, Some, None, cond, not, arith, ap, ◌∙◌, Bor}
use Rattle.std.specs.Prelude.{MatchOption}
use Rattle.std.specs.List.{onto_first, position_or_len, before_first, after_first}
use Rattle.std.proofs.lemmas.List.Splits.{slice_split_first}
use Rattle.std.proofs.lemmas.Str.Pattern.{IsSplitOnceResult, split_once_first}
use Rattle.asm.specs.Lines.{lines_of}

-- a text without a line feed is one line
one_line : (text : List ℕ) → position_or_len (λ c. c == 10) text ≡ length text → lines_of text ≡ text ∷ []
one_line [] none = refl
one_line (c ∷ rest) none = by (c == 10) none (one_line rest)
  where
    by : (b : Bool) → cond (not b) (1 + position_or_len (λ d. d == 10) rest) 0 ≡ length (c ∷ rest)
        → (position_or_len (λ d. d == 10) rest ≡ length rest → lines_of rest ≡ rest ∷ [])
        → cond b ([] ∷ lines_of rest) (onto_first c (lines_of rest)) ≡ (c ∷ rest) ∷ []
    by true none after = absurd (omega arith)
    by false none after = ap (onto_first c) (after (omega arith))

-- where a text is split at its first line feed, its first line and its other lines
pub first_of_lines : (text : List ℕ) (r : Option (Bor (List ℕ) × Bor (List ℕ))) → IsSplitOnceResult 10 text r
    → MatchOption r (lines_of text ≡ text ∷ []) (λ x. lines_of text ≡ x.0.now ∷ lines_of x.1.now)
first_of_lines text r split = by r (split_once_first 10 text r split (omega arith))
  where
    by : (r : Option (Bor (List ℕ) × Bor (List ℕ))) → MatchOption r (position_or_len (λ c. c == 10) text ≡ length text)
        (λ x. (position_or_len (λ c. c == 10) text < length text) × (x.0.now ≡ before_first (λ c. c == 10) text) ×
        (x.1.now ≡ after_first (λ c. c == 10) text))
        → MatchOption r (lines_of text ≡ text ∷ []) (λ x. lines_of text ≡ x.0.now ∷ lines_of x.1.now)
    by None none = one_line text none
    by (Some x) (some, line, rest) = slice_split_first (λ c. c == 10) text 0 some ∙ rw (line, rest)
