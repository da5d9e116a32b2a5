-- Meaning. What the tokens of a line say: nothing, a label, or an instruction.
use Rattle.std.specs.Prelude.{◌≡◌, ℕ, ◌≤◌, true, ◌⊎◌, ℤ, pos, neg_ℤ, List, [], ◌∷◌, ◌++◌, length, codes, map, Option, Some, None, IfSome}
use Rattle.std.specs.List.{AllByRecursion}
use Rattle.std.specs.Str.Parse.{IsNumeral, digits_value}
use Rattle.insn.specs.Spelling.{Argument, Register, Integer, Natural, Address, Distance, register_name, mnemonic, arguments}
use Rattle.insn.specs.declared.instruction.Insn.{Insn}
use Rattle.insn.specs.declared.instruction.Insn.TheVariants.{Jump, LongJump, JumpIf}
use Rattle.asm.specs.declared.parser.TheConstants.{MAX_NAME}
use Rattle.asm.specs.Lines.{Token, begins_name, is_in_names}

-- ---- names and numbers

abbrev pub Name : Type 0
Name = List ℕ

-- a letter or `_`, then letters, digits or `_`, at most 32 characters in all
abbrev pub IsName : Token → Type 0
IsName [] = ⊥
IsName (c ∷ rest) = (begins_name c ≡ true) × AllByRecursion (λ d. is_in_names d ≡ true) rest × (length (c ∷ rest) ≤ MAX_NAME)

-- NUM: decimal digits, or `0x` and hexadecimal digits of either case
abbrev pub IsNumber : ℕ → Token → Type 0
IsNumber value t = (IsNumeral 10 t × (value ≡ digits_value 10 t))
    ⊎ ((digits : List ℕ) × (t ≡ codes "0x" ++ digits) × IsNumeral 16 digits × (value ≡ digits_value 16 digits))

-- a sign and NUM
abbrev pub IsSigned : ℤ → List Token → Type 0
IsSigned n ts = (m : ℕ) × (t : Token) × IsNumber m t
    × (((ts ≡ codes "+" ∷ t ∷ []) × (n ≡ pos m)) ⊎ ((ts ≡ codes "-" ∷ t ∷ []) × (n ≡ neg_ℤ (pos m))))

-- INT: NUM, or `-` and NUM
abbrev pub IsInteger : ℤ → List Token → Type 0
IsInteger n ts = (m : ℕ) × (t : Token) × IsNumber m t
    × (((ts ≡ t ∷ []) × (n ≡ pos m)) ⊎ ((ts ≡ codes "-" ∷ t ∷ []) × (n ≡ neg_ℤ (pos m))))

-- ---- arguments

-- an argument of an instruction; a jump may name a label in the place of its distance
pub data WrittenArgument : Type 0 where
  Plain : Argument → WrittenArgument
  Label : Name → WrittenArgument

abbrev pub IsWritten : WrittenArgument → List Token → Type 0
IsWritten (Plain (Register r)) ts = ts ≡ register_name r ∷ []
IsWritten (Plain (Integer n)) ts = IsInteger n ts
IsWritten (Plain (Natural n)) ts = (t : Token) × (ts ≡ t ∷ []) × IsNumber n t
IsWritten (Plain (Address base displacement)) ts = (signed : List Token) × IsSigned displacement signed
    × (ts ≡ codes "[" ∷ register_name base ∷ signed ++ codes "]" ∷ [])
IsWritten (Plain (Distance n)) ts = IsSigned n ts
IsWritten (Label name) ts = (ts ≡ name ∷ []) × IsName name

-- arguments with `,` between them
abbrev pub AreWritten : List WrittenArgument → List Token → Type 0
AreWritten [] ts = ts ≡ []
AreWritten (a ∷ []) ts = IsWritten a ts
AreWritten (a ∷ b ∷ more) ts = (front rest : List Token) × (ts ≡ front ++ codes "," ∷ rest) × IsWritten a front
    × AreWritten (b ∷ more) rest

abbrev pub spelling_of : Option Name → Argument → WrittenArgument
spelling_of None a = Plain a
spelling_of (Some name) (Register r) = Plain (Register r)
spelling_of (Some name) (Integer n) = Plain (Integer n)
spelling_of (Some name) (Natural n) = Plain (Natural n)
spelling_of (Some name) (Address base displacement) = Plain (Address base displacement)
spelling_of (Some name) (Distance n) = Label name

-- ---- statements

-- a jump whose distance is not yet known has the distance 0
abbrev pub IsUnlinked : Insn → Type 0
IsUnlinked (Jump distance) = distance ≡ pos 0
IsUnlinked (LongJump distance) = distance ≡ pos 0
IsUnlinked (JumpIf width c dst o distance) = distance ≡ pos 0
IsUnlinked _ = ⊥

-- a mnemonic and its arguments
pub record IsInstruction (i : Insn) (target : Option Name) (ts : List Token) : Type 0 where
  pub unlinked : IfSome target (λ _. IsUnlinked i)
  pub rest : List Token
  pub begun : ts ≡ mnemonic i ∷ rest
  pub written : AreWritten (map (spelling_of target) (arguments i)) rest

-- an instruction, with the label to which it jumps, or the label of the instruction that follows
pub data Statement : Type 0 where
  Labelled : Name → Statement
  Instruction : Insn → Option Name → Statement

-- what a line says
abbrev pub Says : Option Statement → List Token → Type 0
Says None ts = ts ≡ []
Says (Some (Labelled name)) ts = (ts ≡ name ∷ codes ":" ∷ []) × IsName name
Says (Some (Instruction i target)) ts = IsInstruction i target ts
