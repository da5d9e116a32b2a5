-- Internal. The arguments of a spelling: the text of an argument has the tokens that write the argument.
use Rattle.std.proofs.Common.{◌≡◌, ◌<◌, ◌^◌, ℕ, suc, ℤ, pos, negsuc, List, [], ◌∷◌, ◌++◌, map, None, inl, inr, refl, sym, ap, ◌∙◌, subst, append-nil, append_assoc}
use Rattle.std.specs.Prelude.{codes, decimal}
use Rattle.std.specs.Fmt.{signed_decimal}
use Rattle.std.specs.List.{AllByRecursion}
use Rattle.insn.specs.Spelling.{Argument, Register, Integer, Natural, Address, Distance, register_name, with_sign, argument_text, following_arguments}
use Rattle.insn.specs.declared.register.Reg.{Reg}
use Rattle.asm.specs.Lines.{Token, IsWord}
use Rattle.asm.specs.Statements.{IsSigned, IsInteger, Plain, IsWritten, AreWritten, spelling_of}
use Rattle.asm.specs.Reading.{tokens_of}
use Rattle.asm.specs.laws.Grammar.Steps.{each_append}
use Rattle.asm.specs.laws.Grammar.Words.{register_is_word}
use Rattle.asm.specs.laws.Grammar.Tokens.{EndsWord, word_read}
use Rattle.asm.specs.laws.Listing.Words.{HasNoFeed, word_has_no_feed, IsShortNumber, decimal_is_number, decimal_is_word, positive_size, negative_size}

-- ---- definitions

-- the numbers of an argument have at most 64 bits
abbrev pub IsSmall : Argument → Type 0
IsSmall (Register r) = Unit {0}
IsSmall (Integer n) = IsShortNumber n
IsSmall (Natural n) = n < 2 ^ 64
IsSmall (Address base displacement) = IsShortNumber displacement
IsSmall (Distance n) = IsShortNumber n

-- a text has these tokens, where no word continues after it
abbrev Gives : List ℕ → List Token → Type 0
Gives text front = (line : List ℕ) → EndsWord line → tokens_of (text ++ line) ≡ front ++ tokens_of line

-- the tokens of a text spell this
abbrev SpelledBy : (List Token → Type 0) → List ℕ → Type 0
SpelledBy Spells text = (front : List Token) × Gives text front × Spells front

-- ---- the tokens of an argument

-- a word is one token
word_gives : (t : Token) → IsWord t → Gives t (t ∷ [])
word_gives t h = λ line k. word_read t line h k

-- the tokens of two texts, where no word continues in the second
joined : (text more : List ℕ) (front after : List Token) → Gives text front → Gives more after
    → ((line : List ℕ) → EndsWord line → EndsWord (more ++ line)) → Gives (text ++ more) (front ++ after)
joined text more front after h k ends = λ line e.
    ap tokens_of (append_assoc text more line) ∙ h (more ++ line) (ends line e)
    ∙ ap (λ (ts : List Token). front ++ ts) (k line e) ∙ sym (append_assoc front after (tokens_of line))

-- the token of a number
number_gives : (n : ℕ) → n < 2 ^ 64 → Gives (decimal n) (decimal n ∷ [])
number_gives n h = word_gives (decimal n) (decimal_is_word n h)

-- the tokens of a plus and a number
plus_gives : (n : ℕ) → n < 2 ^ 64 → Gives (codes "+" ++ decimal n) (codes "+" ∷ decimal n ∷ [])
plus_gives n h = λ line e. ap (λ (ts : List Token). codes "+" ∷ ts) (number_gives n h line e)

-- the tokens of a minus and a number
minus_gives : (n : ℕ) → n < 2 ^ 64 → Gives (codes "-" ++ decimal n) (codes "-" ∷ decimal n ∷ [])
minus_gives n h = λ line e. ap (λ (ts : List Token). codes "-" ∷ ts) (number_gives n h line e)

-- the tokens of an integer
integer_given : (b : ℤ) → IsShortNumber b → SpelledBy (IsInteger b) (signed_decimal b)
integer_given (pos n) h =
    let small = positive_size n h in
    (decimal n ∷ [], number_gives n small, (n, decimal n, decimal_is_number n small, inl (refl, refl)))
integer_given (negsuc n) h =
    let small = negative_size n h in
    let t : Token = decimal (suc n) in
    let number = decimal_is_number (suc n) small in
    (codes "-" ∷ t ∷ [], minus_gives (suc n) small, (suc n, t, number, inr (refl, refl)))

-- the tokens of a number with its sign
signed_given : (b : ℤ) → IsShortNumber b → SpelledBy (IsSigned b) (with_sign b)
signed_given (pos n) h =
    let small = positive_size n h in
    let t : Token = decimal n in
    (codes "+" ∷ t ∷ [], plus_gives n small, (n, t, decimal_is_number n small, inl (refl, refl)))
signed_given (negsuc n) h =
    let small = negative_size n h in
    let t : Token = decimal (suc n) in
    let number = decimal_is_number (suc n) small in
    (codes "-" ∷ t ∷ [], minus_gives (suc n) small, (suc n, t, number, inr (refl, refl)))

-- a word ends before a sign
ends_at_sign : (b : ℤ) (more : List ℕ) → EndsWord (with_sign b ++ more)
ends_at_sign (pos n) more = refl
ends_at_sign (negsuc n) more = refl

-- the tokens of an address
address_given : (base : Reg) (displacement : ℤ) → IsShortNumber displacement
    → SpelledBy (IsWritten (Plain (Address base displacement))) (argument_text (Address base displacement))
address_given base displacement h =
    let name : List ℕ = register_name base in
    let number = signed_given displacement h in
    let sum : Gives (name ++ with_sign displacement) (name ∷ number.0) =
    joined name (with_sign displacement) (name ∷ []) number.0 (word_gives name (register_is_word base)) number.1
    (λ line e. ends_at_sign displacement line) in
    let closed : Gives (name ++ with_sign displacement ++ codes "]") (name ∷ number.0 ++ codes "]" ∷ []) =
    joined (name ++ with_sign displacement) (codes "]") (name ∷ number.0) (codes "]" ∷ []) sum (λ line e. refl)
    (λ line e. refl) in (
      codes "[" ∷ name ∷ number.0 ++ codes "]" ∷ [],
      (λ line e. ap (λ (ts : List Token). codes "[" ∷ ts) (closed line e)),
      (number.0, number.2, refl),
    )

-- the tokens of an argument
argument_given : (a : Argument) → IsSmall a → SpelledBy (IsWritten (Plain a)) (argument_text a)
argument_given (Register r) h = (register_name r ∷ [], word_gives (register_name r) (register_is_word r), refl)
argument_given (Integer n) h = integer_given n h
argument_given (Natural n) h = (decimal n ∷ [], number_gives n h, (decimal n, refl, decimal_is_number n h))
argument_given (Address base displacement) h = address_given base displacement h
argument_given (Distance n) h = signed_given n h

-- ---- the tokens of some arguments

-- these tokens are a comma and the arguments, or none where there are no arguments
abbrev AreFurther : List Argument → List Token → Type 0
AreFurther [] ts = ts ≡ []
AreFurther (a ∷ more) ts = (rest : List Token) × (ts ≡ codes "," ∷ rest)
    × AreWritten (map (spelling_of None) (a ∷ more)) rest

-- an argument, and the further ones
with_first : (a : Argument) (more : List Argument) (front ts : List Token) → IsWritten (Plain a) front
    → AreFurther more ts → AreWritten (map (spelling_of None) (a ∷ more)) (front ++ ts)
with_first a [] front ts h k =
    let all : front ++ ts ≡ front = ap (λ (us : List Token). front ++ us) k ∙ append-nil front in
    subst (IsWritten (Plain a)) (sym all) h
with_first a (b ∷ more) front ts h (rest, split, k) = (front, rest, ap (λ (us : List Token). front ++ us) split, h, k)

-- a word ends before the further arguments
ends_at_comma : (more : List Argument) → EndsWord (following_arguments (codes ", ") more)
ends_at_comma [] = tt
ends_at_comma (a ∷ more) = refl

-- the tokens of an argument and of the further ones
first_written : (a : Argument) (more : List Argument) → IsSmall a
    → AreFurther more (tokens_of (following_arguments (codes ", ") more))
    → AreWritten (map (spelling_of None) (a ∷ more)) (tokens_of (argument_text a ++ following_arguments (codes ", ") more))
first_written a more small h =
    let text : List ℕ = following_arguments (codes ", ") more in
    let first = argument_given a small in
    subst (AreWritten (map (spelling_of None) (a ∷ more))) (sym (first.1 text (ends_at_comma more)))
    (with_first a more first.0 (tokens_of text) first.2 h)

-- the tokens of the further arguments
further_written : (more : List Argument) → AllByRecursion IsSmall more
    → AreFurther more (tokens_of (following_arguments (codes ", ") more))
further_written [] small = refl
further_written (a ∷ more) small = (
  tokens_of (argument_text a ++ following_arguments (codes ", ") more),
  refl,
  first_written a more small.0 (further_written more small.1),
)

-- the tokens of the arguments after a mnemonic
pub arguments_written : (all : List Argument) → AllByRecursion IsSmall all
    → AreWritten (map (spelling_of None) all) (tokens_of (following_arguments (codes " ") all))
arguments_written [] small = refl
arguments_written (a ∷ more) small = first_written a more small.0 (further_written more small.1)

-- a word ends before them
pub ends_at_arguments : (all : List Argument) → EndsWord (following_arguments (codes " ") all)
ends_at_arguments [] = tt
ends_at_arguments (a ∷ more) = refl

-- ---- line feeds

-- the digits of a number have no line feed
decimal_has_no_feed : (n : ℕ) → n < 2 ^ 64 → HasNoFeed (decimal n)
decimal_has_no_feed n h = word_has_no_feed (decimal n) (decimal_is_word n h)

-- nor has an integer
integer_has_no_feed : (b : ℤ) → IsShortNumber b → HasNoFeed (signed_decimal b)
integer_has_no_feed (pos n) h = decimal_has_no_feed n (positive_size n h)
integer_has_no_feed (negsuc n) h = (refl, decimal_has_no_feed (suc n) (negative_size n h))

-- nor a number with its sign
signed_has_no_feed : (b : ℤ) → IsShortNumber b → HasNoFeed (with_sign b)
signed_has_no_feed (pos n) h = (refl, decimal_has_no_feed n (positive_size n h))
signed_has_no_feed (negsuc n) h = (refl, decimal_has_no_feed (suc n) (negative_size n h))

-- nor the name of a register
register_has_no_feed : (r : Reg) → HasNoFeed (register_name r)
register_has_no_feed r = word_has_no_feed (register_name r) (register_is_word r)

-- nor two texts without one
pub both_have_no_feed : (text more : List ℕ) → HasNoFeed text → HasNoFeed more → HasNoFeed (text ++ more)
both_have_no_feed text more h k = each_append _ text more h k

-- nor an argument
argument_has_no_feed : (a : Argument) → IsSmall a → HasNoFeed (argument_text a)
argument_has_no_feed (Register r) h = register_has_no_feed r
argument_has_no_feed (Integer n) h = integer_has_no_feed n h
argument_has_no_feed (Natural n) h = decimal_has_no_feed n h
argument_has_no_feed (Address base displacement) h =
    let name : List ℕ = register_name base in
    let number : HasNoFeed (with_sign displacement) = signed_has_no_feed displacement h in
    let sum = both_have_no_feed name (with_sign displacement) (register_has_no_feed base) number in
    (refl, both_have_no_feed (name ++ with_sign displacement) (codes "]") sum (refl, tt))
argument_has_no_feed (Distance n) h = signed_has_no_feed n h

-- nor some arguments
pub arguments_have_no_feed : (before : List ℕ) (all : List Argument) → HasNoFeed before → AllByRecursion IsSmall all
    → HasNoFeed (following_arguments before all)
arguments_have_no_feed before [] h small = tt
arguments_have_no_feed before (a ∷ more) h small =
    let further = arguments_have_no_feed (codes ", ") more (refl, (refl, tt)) small.1 in
    let first = both_have_no_feed before (argument_text a) h (argument_has_no_feed a small.0) in
    both_have_no_feed (before ++ argument_text a) (following_arguments (codes ", ") more) first further
