-- Internal. The tokens of a line: the reader finds those that the line has.
use Rattle.std.proofs.Common.{◌≡◌, ◌≢◌, ℕ, true, false, List, [], ◌∷◌, ◌++◌, inl, inr, refl, sym, ap, ◌∙◌, subst, subst₂, append-nil, append_assoc, arith}
use Rattle.std.specs.Prelude.{◌==◌, flat_map, if◌then◌else◌}
use Rattle.std.specs.List.{AllByRecursion}
use Rattle.std.proofs.lemmas.Bool.{cases_Bool, cond-true, cond-false, eqb-true, false≢true}
use Rattle.std.proofs.lemmas.Bool.Decides.{nat_tests}
use Rattle.asm.specs.Lines.{Token, is_blank, is_in_words, is_sign, IsWord, IsSign, Piece, Blank, Lexeme, piece_text, IsPiece, AreApart, tokens_in, IsComment, HasTokens}
use Rattle.asm.specs.Reading.{with_word, following_tokens, tokens_of}
use Rattle.asm.specs.laws.Grammar.Steps.{each_append}
use Rattle.asm.specs.laws.Grammar.StatementTokens.{AreProper}

-- ---- characters

-- the tokens from a character on that is none of words
abbrev tokens_at : ℕ → List ℕ → List Token
tokens_at c rest = if c == 59 then [] else (if is_blank c then tokens_of rest else (c ∷ []) ∷ tokens_of rest)

-- a blank is none of words
blank_is_no_word : (c : ℕ) → is_blank c ≡ true → is_in_words c ≡ false
blank_is_no_word c e = grind (arith, nat_tests)

-- nor a `;`
blank_is_no_comment : (c : ℕ) → is_blank c ≡ true → (c == 59) ≡ false
blank_is_no_comment c e = grind (arith, nat_tests)

-- a sign is none of words
sign_is_no_word : (c : ℕ) → is_sign c ≡ true → is_in_words c ≡ false
sign_is_no_word c e = grind (arith, nat_tests)

-- nor a `;`
sign_is_no_comment : (c : ℕ) → is_sign c ≡ true → (c == 59) ≡ false
sign_is_no_comment c e = grind (arith, nat_tests)

-- nor a blank
sign_is_no_blank : (c : ℕ) → is_sign c ≡ true → is_blank c ≡ false
sign_is_no_blank c e = grind (arith, nat_tests)

-- a blank is no token
blank_read : (c : ℕ) (rest : List ℕ) → is_blank c ≡ true → tokens_of (c ∷ rest) ≡ tokens_of rest
blank_read c rest e =
    cond-false (is_in_words c) _ _ (blank_is_no_word c e) ∙ cond-false (c == 59) _ _ (blank_is_no_comment c e)
    ∙ cond-true (is_blank c) _ _ e

-- a sign is one
sign_read : (c : ℕ) (rest : List ℕ) → is_sign c ≡ true → tokens_of (c ∷ rest) ≡ (c ∷ []) ∷ tokens_of rest
sign_read c rest e =
    cond-false (is_in_words c) _ _ (sign_is_no_word c e) ∙ cond-false (c == 59) _ _ (sign_is_no_comment c e)
    ∙ cond-false (is_blank c) _ _ (sign_is_no_blank c e)

-- a comment has none
comment_read : (comment : List ℕ) → IsComment comment → tokens_of comment ≡ []
comment_read [] h = refl
comment_read (c ∷ rest) h = ap (λ (x : ℕ). tokens_of (x ∷ rest)) h

-- ---- words

-- each character is one of words
abbrev AreOfWords : List ℕ → Type 0
AreOfWords text = AllByRecursion (λ c. is_in_words c ≡ true) text

-- a word ends before this text
abbrev pub EndsWord : List ℕ → Type 0
EndsWord [] = Unit {0}
EndsWord (c ∷ rest) = is_in_words c ≡ false

-- the characters of a word join the word
word_on : (front word rest : List ℕ) → AreOfWords word
    → following_tokens front (word ++ rest) ≡ following_tokens (front ++ word) rest
word_on front [] rest h = ap (λ (w : List ℕ). following_tokens w rest) (sym (append-nil front))
word_on front (c ∷ word) rest h =
    cond-true (is_in_words c) _ _ h.0 ∙ word_on (front ++ c ∷ []) word rest h.1
    ∙ ap (λ (w : List ℕ). following_tokens w rest) (append_assoc front (c ∷ []) word)

-- a word that ends is a token, if it has a character
word_ended : (word line : List ℕ) → EndsWord line → following_tokens word line ≡ with_word word (tokens_of line)
word_ended word [] k = refl
word_ended word (c ∷ rest) k =
    cond-false (is_in_words c) _ _ k ∙ ap (with_word word) (sym (cond-false (is_in_words c) _ _ k))

-- as a word has
ended_word : (t : Token) (ts : List Token) → t ≢ [] → with_word t ts ≡ t ∷ ts
ended_word [] ts h = absurd (h refl)
ended_word (c ∷ t) ts h = refl

-- a word is a token
pub word_read : (t : Token) (line : List ℕ) → IsWord t → EndsWord line → tokens_of (t ++ line) ≡ t ∷ tokens_of line
word_read t line h k = word_on [] t line h.1 ∙ word_ended t line k ∙ ended_word t (tokens_of line) h.0

-- ---- from the pieces of a line to its tokens

-- what follows a piece is apart
apart_after : (t : Token) (more : List Piece) → AreApart (Lexeme t ∷ more) → AreApart more
apart_after t [] h = tt
apart_after t (Blank c ∷ more) h = h
apart_after t (Lexeme u ∷ more) h = h.1

-- a word ends before a comment
ends_at_comment : (comment : List ℕ) → IsComment comment → EndsWord comment
ends_at_comment [] h = tt
ends_at_comment (c ∷ rest) h = subst (λ (x : ℕ). is_in_words x ≡ false) (sym h) refl

-- a word ends before the pieces that follow it
ends_at_pieces : (t : Token) (more : List Piece) (comment : List ℕ) → IsWord t → AllByRecursion IsPiece more
    → AreApart (Lexeme t ∷ more) → IsComment comment → EndsWord (flat_map piece_text more ++ comment)
ends_at_pieces t [] comment word proper apart ends = ends_at_comment comment ends
ends_at_pieces t (Blank c ∷ more) comment word proper apart ends = blank_is_no_word c proper.0
ends_at_pieces t (Lexeme u ∷ more) comment word proper apart ends =
    let text : List ℕ = flat_map piece_text more in
    elim proper.0 [
      | inl other ↦ absurd (apart.0 word other)
      | inr sign ↦
          subst (λ (v : Token). EndsWord ((v ++ text) ++ comment)) (sym sign.1) (sign_is_no_word sign.0 sign.2)
    ]

-- the reader finds the tokens of pieces
pieces_read : (pieces : List Piece) (comment : List ℕ) → AllByRecursion IsPiece pieces → AreApart pieces
    → IsComment comment → tokens_of (flat_map piece_text pieces ++ comment) ≡ tokens_in pieces
pieces_read [] comment proper apart ends = comment_read comment ends
pieces_read (Blank c ∷ more) comment proper apart ends =
    blank_read c (flat_map piece_text more ++ comment) proper.0 ∙ pieces_read more comment proper.1 apart ends
pieces_read (Lexeme t ∷ more) comment proper apart ends =
    let text : List ℕ = flat_map piece_text more in
    let after = pieces_read more comment proper.1 (apart_after t more apart) ends in
    elim proper.0 [
      | inl word ↦
          ap tokens_of (append_assoc t text comment)
          ∙ word_read t (text ++ comment) word (ends_at_pieces t more comment word proper.1 apart ends)
          ∙ ap (λ (ts : List Token). t ∷ ts) after
      | inr sign ↦
          ap (λ (u : Token). tokens_of ((u ++ text) ++ comment)) sign.1 ∙ sign_read sign.0 (text ++ comment) sign.2
          ∙ ap (λ (u : Token). u ∷ tokens_of (text ++ comment)) (sym sign.1) ∙ ap (λ (ts : List Token). t ∷ ts) after
    ]

-- the tokens that a line has, the reader finds
pub had_is_found : (line : List ℕ) (ts : List Token) → HasTokens line ts → tokens_of line ≡ ts
had_is_found line ts h =
    ap tokens_of h.spelled ∙ pieces_read h.pieces h.comment h.proper h.apart h.ended ∙ sym h.listed

-- ---- from the reader's tokens to the pieces of a line

-- no word is first
abbrev BeginsOther : List Piece → Type 0
BeginsOther [] = Unit {0}
BeginsOther (Blank c ∷ more) = Unit {0}
BeginsOther (Lexeme t ∷ more) = IsWord t → ⊥

-- before these, any piece is apart
apart_before_other : (t : Token) (more : List Piece) → BeginsOther more → AreApart more → AreApart (Lexeme t ∷ more)
apart_before_other t [] other apart = tt
apart_before_other t (Blank c ∷ more) other apart = apart
apart_before_other t (Lexeme u ∷ more) other apart = ((λ _ word. other word), apart)

-- what is no word is apart from any piece
apart_from_other : (t : Token) (more : List Piece) → (IsWord t → ⊥) → AreApart more → AreApart (Lexeme t ∷ more)
apart_from_other t [] other apart = tt
apart_from_other t (Blank c ∷ more) other apart = apart
apart_from_other t (Lexeme u ∷ more) other apart = ((λ word _. other word), apart)

-- a line that begins with no word has these tokens
abbrev HasOther : List ℕ → List Token → Type 0
HasOther line ts = (h : HasTokens line ts) × BeginsOther h.pieces

-- a comment alone
only_comment : (comment : List ℕ) → IsComment comment → HasOther comment []
only_comment comment h = (
  record {
    pieces = [];
    comment = comment;
    spelled = refl;
    proper = tt;
    apart = tt;
    ended = h;
    listed = refl;
  },
  tt,
)

-- a blank before a line
blank_first : (c : ℕ) (line : List ℕ) (ts : List Token) → is_blank c ≡ true → HasTokens line ts → HasOther (c ∷ line) ts
blank_first c line ts e h = (
  record {
    pieces = Blank c ∷ h.pieces;
    comment = h.comment;
    spelled = ap (λ (text : List ℕ). c ∷ text) h.spelled;
    proper = (e, h.proper);
    apart = h.apart;
    ended = h.ended;
    listed = h.listed;
  },
  tt,
)

-- a sign before a line
sign_first : (c : ℕ) (line : List ℕ) (ts : List Token) → is_in_words c ≡ false → IsSign (c ∷ []) → HasTokens line ts
    → HasOther (c ∷ line) ((c ∷ []) ∷ ts)
sign_first c line ts e sign h =
    let other : IsWord (c ∷ []) → ⊥ = λ word. false≢true (sym e ∙ word.1.0) in (
      record {
        pieces = Lexeme (c ∷ []) ∷ h.pieces;
        comment = h.comment;
        spelled = ap (λ (text : List ℕ). c ∷ text) h.spelled;
        proper = (inr sign, h.proper);
        apart = apart_from_other (c ∷ []) h.pieces other h.apart;
        ended = h.ended;
        listed = ap (λ (us : List Token). (c ∷ []) ∷ us) h.listed;
      },
      other,
    )

-- a word, if it has a character, before a line that begins with none
word_first : (word line : List ℕ) (ts : List Token) → AreOfWords word → HasOther line ts
    → HasTokens (word ++ line) (with_word word ts)
word_first [] line ts h has = has.0
word_first (c ∷ word) line ts h has = record {
  pieces = Lexeme (c ∷ word) ∷ has.0.pieces;
  comment = has.0.comment;
  spelled = ap (λ (text : List ℕ). (c ∷ word) ++ text) has.0.spelled
      ∙ sym (append_assoc (c ∷ word) (flat_map piece_text has.0.pieces) has.0.comment);
  proper = (inl ((λ same. absurd cc), h), has.0.proper);
  apart = apart_before_other (c ∷ word) has.0.pieces has.1 has.0.apart;
  ended = has.0.ended;
  listed = ap (λ (us : List Token). (c ∷ word) ∷ us) has.0.listed;
}

-- the grammar has the tokens after a word
proper_after : (word : Token) (ts : List Token) → AreProper (with_word word ts) → AreProper ts
proper_after [] ts h = h
proper_after (c ∷ word) ts h = h.1

-- a character that is none of words, before a line
other_first : (c : ℕ) (rest : List ℕ) → is_in_words c ≡ false → AreProper (tokens_at c rest)
    → (AreProper (tokens_of rest) → HasTokens rest (tokens_of rest)) → HasOther (c ∷ rest) (tokens_at c rest)
other_first c rest e proper had = elim (cases_Bool (c == 59)) [
  | inl comment ↦
      let is : tokens_at c rest ≡ [] = cond-true (c == 59) _ _ comment in
      subst (HasOther (c ∷ rest)) (sym is) (only_comment (c ∷ rest) (eqb-true c 59 comment))
  | inr none ↦ elim (cases_Bool (is_blank c)) [
    | inl blank ↦
        let is : tokens_at c rest ≡ tokens_of rest =
        cond-false (c == 59) _ _ none ∙ cond-true (is_blank c) _ _ blank in
        let has = had (subst AreProper is proper) in
        subst (HasOther (c ∷ rest)) (sym is) (blank_first c rest (tokens_of rest) blank has)
    | inr other ↦
        let is : tokens_at c rest ≡ (c ∷ []) ∷ tokens_of rest =
        cond-false (c == 59) _ _ none ∙ cond-false (is_blank c) _ _ other in
        let parts : AreProper ((c ∷ []) ∷ tokens_of rest) = subst AreProper is proper in
        elim parts.0 [
          | inl word ↦ absurd (false≢true (sym e ∙ word.1.0))
          | inr sign ↦ subst (HasOther (c ∷ rest)) (sym is) (sign_first c rest (tokens_of rest) e sign (had parts.1))
        ]
  ]
]

-- the tokens after the beginning of a word, the word and the rest of the line have
found_after : (word line : List ℕ) → AreOfWords word → AreProper (following_tokens word line)
    → HasTokens (word ++ line) (following_tokens word line)
found_after word [] h proper = word_first word [] [] h (only_comment [] tt)
found_after word (c ∷ rest) h proper = elim (cases_Bool (is_in_words c)) [
  | inl more ↦
      let is : following_tokens word (c ∷ rest) ≡ following_tokens (word ++ c ∷ []) rest =
      cond-true (is_in_words c) _ _ more in
      let all : AreOfWords (word ++ c ∷ []) = each_append (λ d. is_in_words d ≡ true) word (c ∷ []) h (more, tt) in
      let has = found_after (word ++ c ∷ []) rest all (subst AreProper is proper) in
      subst₂ HasTokens (append_assoc word (c ∷ []) rest) (sym is) has
  | inr other ↦
      let is : following_tokens word (c ∷ rest) ≡ with_word word (tokens_at c rest) = cond-false (is_in_words c) _ _ other in
      let after : AreProper (tokens_at c rest) = proper_after word (tokens_at c rest) (subst AreProper is proper) in
      let has = other_first c rest other after (λ good. found_after [] rest tt good) in
      subst (HasTokens (word ++ c ∷ rest)) (sym is) (word_first word (c ∷ rest) (tokens_at c rest) h has)
]

-- the tokens that the reader finds in a line, the line has, where each is one of the grammar
pub found_is_had : (line : List ℕ) → AreProper (tokens_of line) → HasTokens line (tokens_of line)
found_is_had line proper = found_after [] line tt proper
