-- Internal. The tokens of a statement: each is a word or a sign, and none among the arguments of an instruction is a
-- `:`.
use Rattle.std.proofs.Common.{◌≡◌, ℕ, ℤ, false, List, [], ◌∷◌, Option, Some, None, ◌⊎◌, inl, inr, refl, sym, subst}
use Rattle.std.specs.Prelude.{codes, bytes_eq}
use Rattle.std.specs.List.{AllByRecursion}
use Rattle.std.proofs.lemmas.Bool.{false_from_ne_true, false≢true}
use Rattle.insn.specs.Spelling.{Register, Integer, Natural, Address, Distance, register_name}
use Rattle.insn.specs.declared.register.Reg.{Reg}
use Rattle.insn.specs.declared.instruction.Insn.{Insn}
use Rattle.asm.specs.Lines.{Token, IsWord, IsSign}
use Rattle.asm.specs.Statements.{Name, IsNumber, IsSigned, IsInteger, WrittenArgument, Plain, Label, IsWritten, AreWritten, Statement, Labelled, Instruction, IsInstruction, Says}
use Rattle.asm.specs.laws.Grammar.Steps.{each_also, each_append}
use Rattle.asm.specs.laws.Grammar.Words.{same_text, register_is_word, name_is_word}
use Rattle.asm.specs.laws.Grammar.Numbers.{number_is_word}
use Rattle.asm.specs.laws.Grammar.Mnemonics.{mnemonic_is_word}
use Rattle.asm.specs.laws.Grammar.Instructions.{mnemonic_of, name_of-mnemonic_of}

-- the grammar has this token
abbrev pub IsProperToken : Token → Type 0
IsProperToken t = IsWord t ⊎ IsSign t

-- the grammar has these tokens
abbrev pub AreProper : List Token → Type 0
AreProper ts = AllByRecursion IsProperToken ts

-- a token that may be among arguments
abbrev IsOfArguments : Token → Type 0
IsOfArguments t = IsProperToken t × (bytes_eq t (codes ":") ≡ false)

-- these tokens may be among arguments
abbrev pub AreOfArguments : List Token → Type 0
AreOfArguments ts = AllByRecursion IsOfArguments ts

-- ---- tokens of arguments

-- no word is a `:`
word_is_no_colon : (t : Token) → IsWord t → bytes_eq t (codes ":") ≡ false
word_is_no_colon t h =
    false_from_ne_true (bytes_eq t (codes ":")) (λ e. false≢true (subst IsWord (same_text t (codes ":") e) h).1.0)

-- a word may be among arguments
word_of_arguments : (t : Token) → IsWord t → IsOfArguments t
word_of_arguments t h = (inl h, word_is_no_colon t h)

-- and so may a comma
comma : IsOfArguments (codes ",")
comma = (inr (44, refl, refl), refl)

-- a plus
plus : IsOfArguments (codes "+")
plus = (inr (43, refl, refl), refl)

-- a minus
minus : IsOfArguments (codes "-")
minus = (inr (45, refl, refl), refl)

-- an opening bracket
opening : IsOfArguments (codes "[")
opening = (inr (91, refl, refl), refl)

-- and a closing one
closing : IsOfArguments (codes "]")
closing = (inr (93, refl, refl), refl)

-- ---- arguments

-- the token of a register
register_token : (r : Reg) → IsOfArguments (register_name r)
register_token r = word_of_arguments (register_name r) (register_is_word r)

-- the token of a number
number_tokens : (a : ℕ) (t : Token) → IsNumber a t → IsOfArguments t
number_tokens a t h = word_of_arguments t (number_is_word a t h)

-- the tokens of a signed number
signed_tokens : (n : ℤ) (ts : List Token) → IsSigned n ts → AreOfArguments ts
signed_tokens n ts (m, t, h, inl positive) = subst AreOfArguments (sym positive.0) (plus, (number_tokens m t h, tt))
signed_tokens n ts (m, t, h, inr negative) = subst AreOfArguments (sym negative.0) (minus, (number_tokens m t h, tt))

-- the tokens of an integer
integer_tokens : (n : ℤ) (ts : List Token) → IsInteger n ts → AreOfArguments ts
integer_tokens n ts (m, t, h, inl positive) = subst AreOfArguments (sym positive.0) (number_tokens m t h, tt)
integer_tokens n ts (m, t, h, inr negative) = subst AreOfArguments (sym negative.0) (minus, (number_tokens m t h, tt))

-- the tokens of an argument
written_tokens : (w : WrittenArgument) (ts : List Token) → IsWritten w ts → AreOfArguments ts
written_tokens (Plain (Register r)) ts h = subst AreOfArguments (sym h) (register_token r, tt)
written_tokens (Plain (Integer n)) ts h = integer_tokens n ts h
written_tokens (Plain (Natural n)) ts (t, is, h) = subst AreOfArguments (sym is) (number_tokens n t h, tt)
written_tokens (Plain (Address base displacement)) ts (signed, h, is) =
    let number = signed_tokens displacement signed h in
    let after = each_append IsOfArguments signed (codes "]" ∷ []) number (closing, tt) in
    subst AreOfArguments (sym is) (opening, (register_token base, after))
written_tokens (Plain (Distance n)) ts h = signed_tokens n ts h
written_tokens (Label name) ts h =
    subst AreOfArguments (sym h.0) (word_of_arguments name (name_is_word name h.1), tt)

-- the tokens of arguments
pub arguments_tokens : (ws : List WrittenArgument) (ts : List Token) → AreWritten ws ts → AreOfArguments ts
arguments_tokens [] ts h = subst AreOfArguments (sym h) tt
arguments_tokens (w ∷ []) ts h = written_tokens w ts h
arguments_tokens (w ∷ v ∷ ws) ts (front, rest, split, h, k) =
    let after : AreOfArguments (codes "," ∷ rest) = (comma, arguments_tokens (v ∷ ws) rest k) in
    subst AreOfArguments (sym split) (each_append IsOfArguments front _ (written_tokens w front h) after)

-- ---- statements

-- the tokens of an instruction
instruction_tokens : (i : Insn) (label : Option Name) (ts : List Token) → IsInstruction i label ts → AreProper ts
instruction_tokens i label ts h =
    let all : AreProper h.rest = each_also (λ t k. k.0) h.rest (arguments_tokens _ h.rest h.written) in
    subst AreProper (sym h.begun) (inl (subst IsWord (name_of-mnemonic_of i) (mnemonic_is_word (mnemonic_of i))), all)

-- the grammar has the tokens of what is said
pub said_tokens : (s : Option Statement) (ts : List Token) → Says s ts → AreProper ts
said_tokens None ts h = subst AreProper (sym h) tt
said_tokens (Some (Labelled name)) ts h =
    subst AreProper (sym h.0) (inl (name_is_word name h.1), (inr (58, refl, refl), tt))
said_tokens (Some (Instruction i label)) ts h = instruction_tokens i label ts h
