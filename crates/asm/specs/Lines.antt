-- Meaning. From a text to its lines, and from a line to its tokens.
use Rattle.std.specs.Prelude.{◌≡◌, ◌≢◌, ℕ, ◌==◌, Bool, true, ◌||◌, ◌⊎◌, List, [], ◌∷◌, ◌++◌, flat_map}
use Rattle.std.specs.List.{slice_split, AllByRecursion}
use Rattle.std.specs.Char.{is_ascii_alphabetic, is_ascii_alphanumeric}

-- ---- lines

-- The lines of a text are the parts between its line feeds. After a line feed at the end comes an empty one.
abbrev pub lines_of : List ℕ → List (List ℕ)
lines_of text = slice_split (λ c. c == 10) text

-- ---- characters

-- space and tab
abbrev pub is_blank : ℕ → Bool
is_blank c = c == 32 || c == 9

-- letters and `_`
abbrev pub begins_name : ℕ → Bool
begins_name c = is_ascii_alphabetic c || c == 95

-- letters, digits and `_`
abbrev pub is_in_names : ℕ → Bool
is_in_names c = is_ascii_alphanumeric c || c == 95

-- letters, digits, `_` and `.`
abbrev pub is_in_words : ℕ → Bool
is_in_words c = is_in_names c || c == 46

-- `,` `[` `]` `+` `-` and `:`
abbrev pub is_sign : ℕ → Bool
is_sign c = c == 44 || c == 91 || c == 93 || c == 43 || c == 45 || c == 58

-- ---- tokens

-- a token is its text
abbrev pub Token : Type 0
Token = List ℕ

abbrev pub IsWord : Token → Type 0
IsWord t = (t ≢ []) × AllByRecursion (λ c. is_in_words c ≡ true) t

abbrev pub IsSign : Token → Type 0
IsSign t = (c : ℕ) × (t ≡ c ∷ []) × (is_sign c ≡ true)

-- a line is made of blanks and tokens
pub data Piece : Type 0 where
  Blank : ℕ → Piece
  Lexeme : List ℕ → Piece

abbrev pub piece_text : Piece → List ℕ
piece_text (Blank c) = c ∷ []
piece_text (Lexeme t) = t

abbrev pub IsPiece : Piece → Type 0
IsPiece (Blank c) = is_blank c ≡ true
IsPiece (Lexeme t) = IsWord t ⊎ IsSign t

-- between two words is something else
abbrev pub AreApart : List Piece → Type 0
AreApart [] = Unit {0}
AreApart (Blank c ∷ more) = AreApart more
AreApart (Lexeme t ∷ []) = Unit {0}
AreApart (Lexeme t ∷ Blank c ∷ more) = AreApart more
AreApart (Lexeme t ∷ Lexeme u ∷ more) = (IsWord t → IsWord u → ⊥) × AreApart (Lexeme u ∷ more)

abbrev pub tokens_in : List Piece → List Token
tokens_in [] = []
tokens_in (Blank c ∷ more) = tokens_in more
tokens_in (Lexeme t ∷ more) = t ∷ tokens_in more

-- nothing, or `;` and whatever follows
abbrev pub IsComment : List ℕ → Type 0
IsComment [] = Unit {0}
IsComment (c ∷ rest) = c ≡ 59

-- a line has these tokens
pub record HasTokens (line : List ℕ) (tokens : List Token) : Type 0 where
  pub pieces : List Piece
  pub comment : List ℕ
  pub spelled : line ≡ flat_map piece_text pieces ++ comment
  pub proper : AllByRecursion IsPiece pieces
  pub apart : AreApart pieces
  pub ended : IsComment comment
  pub listed : tokens ≡ tokens_in pieces
