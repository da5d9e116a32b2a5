-- The first token of a line, and the first character of a name.
use Rattle.std.proofs.Common.{◌≡◌, ◌≢◌, refl, ℕ, suc, ◌<◌, ◌≤◌, ◌+◌, Bool, true, false, nat_le, ◌&&◌, ◌==◌, List, [], ◌∷◌, ◌++◌, length, take, drop, slice_index_or, Option, Some, None, cond, not, unwrap_or, sym, ap, ◌∙◌, arith}
use Rattle.std.specs.Prelude.{max, ltb}
use Rattle.std.specs.List.{list_all, prefix_len, position_or_len}
use Rattle.std.proofs.lemmas.Bool.{ltb-false, ne_eqb}
use Rattle.std.proofs.lemmas.List.{append_assoc, append-nil}
use Rattle.std.proofs.lemmas.List.Sums.{prefix_len-le-length}
use Rattle.asm.specs.Lines.{begins_name, is_in_names, is_in_words, is_blank}
use Rattle.asm.specs.Parsing.{StartsUnblank}
use Rattle.asm.specs.Reading.{is_name, with_word, following_tokens, tokens_of}

pub is_name_first : (w : List ℕ) → 0 < length w
    → is_name w ≡ (begins_name (slice_index_or w 0 0) && (list_all is_in_names (drop 1 w) && nat_le (length w) 32))
is_name_first [] some = absurd (omega arith)
is_name_first (c ∷ rest) some = refl

-- ---- words

at_least_one : (n : ℕ) → max (1 + n) 1 ≡ 1 + n
at_least_one n = omega arith

twice : (b : Bool) → not (not b) ≡ b
twice true = refl
twice false = refl

-- up to the first character that is none of a word
up_to : (rest : List ℕ) → position_or_len (λ c. not (is_in_words c)) rest ≡ prefix_len is_in_words rest
up_to [] = refl
up_to (c ∷ rest) = rw (twice (is_in_words c), up_to rest)

or_end : (k n : ℕ) (b : Bool) → ltb k n ≡ b → k ≤ n → unwrap_or (cond b (Some k) None) n ≡ k
or_end k n true e at_most = refl
or_end k n false e at_most = omega (arith, ltb-false k n e)

-- the place of the first character that is none of a word, or the end
pub found_or_length : (rest : List ℕ) (r : Option ℕ)
    → r ≡ cond (ltb (position_or_len (λ c. not (is_in_words c)) rest) (length rest)) (Some (position_or_len (λ c. not (is_in_words c)) rest)) None
    → unwrap_or r (length rest) ≡ prefix_len is_in_words rest
found_or_length rest r is = ap (λ o. unwrap_or o (length rest)) is
    ∙ or_end _ (length rest) _ refl (prefix_len-le-length _ rest) ∙ up_to rest

one_more : (n : ℕ) → 1 + n ≡ suc n
one_more n = omega arith

take_more : (n k c : ℕ) (rest : List ℕ) → k ≡ suc n → take k (c ∷ rest) ≡ c ∷ take n rest
take_more n k c rest is = rw is

drop_more : (n k c : ℕ) (rest : List ℕ) → k ≡ suc n → drop k (c ∷ rest) ≡ drop n rest
drop_more n k c rest is = rw is

-- a word ends before a character that is none of a word
stops : (w : List ℕ) (c : ℕ) (rest : List ℕ) → is_in_words c ≡ false → following_tokens w (c ∷ rest) ≡ with_word w (tokens_of (c ∷ rest))
stops w c rest e = rw e

-- the rest of a word, after its beginning
word_after : (w rest : List ℕ) → following_tokens w rest
    ≡ with_word (w ++ take (prefix_len is_in_words rest) rest) (tokens_of (drop (prefix_len is_in_words rest) rest))
word_after w [] = ap (λ v. with_word v []) (sym (append-nil w))
word_after w (c ∷ rest) = more (is_in_words c) refl (word_after (w ++ c ∷ []) rest)
  where
    more : (b : Bool) → is_in_words c ≡ b
        → following_tokens (w ++ c ∷ []) rest ≡ with_word (w ++ c ∷ [] ++ take (prefix_len is_in_words rest) rest) (tokens_of (drop (prefix_len is_in_words rest) rest))
        → following_tokens w (c ∷ rest) ≡ with_word (w ++ take (cond b (1 + prefix_len is_in_words rest) 0) (c ∷ rest))
        (tokens_of (drop (cond b (1 + prefix_len is_in_words rest) 0) (c ∷ rest)))
    more true e following = rw (e, following, append_assoc w (c ∷ []) (take (prefix_len is_in_words rest) rest), take_more _ _ c rest (one_more (prefix_len is_in_words rest)), drop_more _ _ c rest (one_more (prefix_len is_in_words rest)))
    more false e following = stops w c rest e ∙ ap (λ v. with_word v (tokens_of (c ∷ rest))) (sym (append-nil w))

pub no_token : (rest : List ℕ) → length rest ≡ 0 → tokens_of rest ≡ []
no_token [] none = refl
no_token (c ∷ rest) none = absurd (omega arith)

pub comment_token : (rest : List ℕ) → 0 < length rest → slice_index_or rest 0 0 ≡ 59 → tokens_of rest ≡ []
comment_token [] some is = absurd (omega arith)
comment_token (c ∷ rest) some is = rw is

first_more : (c : ℕ) (rest : List ℕ) (b : Bool) → is_in_words c ≡ b → is_blank c ≡ false → (c == 59) ≡ false
    → tokens_of (c ∷ rest) ≡ take (max (cond b (1 + prefix_len is_in_words rest) 0) 1) (c ∷ rest)
    ∷ tokens_of (drop (max (cond b (1 + prefix_len is_in_words rest) 0) 1) (c ∷ rest))
first_more c rest true e unblank other = rw (e, word_after (c ∷ []) rest, at_least_one (prefix_len is_in_words rest), take_more _ _ c rest (one_more (prefix_len is_in_words rest)), drop_more _ _ c rest (one_more (prefix_len is_in_words rest)))
first_more c rest false e unblank other = rw (e, unblank, other)

pub first_token : (rest : List ℕ) → 0 < length rest → StartsUnblank rest → slice_index_or rest 0 0 ≢ 59
    → tokens_of rest ≡ take (max (prefix_len is_in_words rest) 1) rest ∷ tokens_of (drop (max (prefix_len is_in_words rest) 1) rest)
first_token [] some unblank other = absurd (omega arith)
first_token (c ∷ rest) some unblank other = first_more c rest (is_in_words c) refl unblank (ne_eqb _ _ other)

pub first_length : (rest : List ℕ) (n k : ℕ) → 0 < length rest → n ≡ prefix_len is_in_words rest → k ≡ max n 1 → k ≤ length rest
first_length rest n k some is longer = omega (arith, prefix_len-le-length is_in_words rest)

pub next_token : (rest token after : List ℕ) (n k : ℕ) → 0 < length rest → StartsUnblank rest → slice_index_or rest 0 0 ≢ 59
    → n ≡ prefix_len is_in_words rest → k ≡ max n 1 → token ≡ take k rest → after ≡ drop k rest → tokens_of rest ≡ token ∷ tokens_of after
next_token rest token after n k some unblank other is longer front back =
    first_token rest some unblank other ∙ rw (front, back, longer, is)
