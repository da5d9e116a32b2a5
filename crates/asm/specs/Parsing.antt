-- Internal. What a parser's state and its results stand for, and what its methods do to both.
use Rattle.std.specs.Prelude.{◌≡◌, ℕ, false, ℤ, pos, neg_ℤ, List, [], ◌∷◌, Option, Some, None, option_map, Result, Ok, Err, if◌then◌else◌}
use Rattle.std.specs.Str.Parse.{digits_value}
use Rattle.insn.specs.declared.instruction.Operand.{Operand}
use Rattle.insn.specs.declared.instruction.Operand.TheVariants as operand
use denote.Ref.{Bor}
use Rattle.asm.specs.Lines.{Token, is_blank}
use Rattle.asm.specs.Statements.{Statement, Labelled, Instruction}
use Rattle.asm.specs.Programs.{IsInRange}
use Rattle.asm.specs.Reading.{Parse, tokens_of, MemoryOperand, Target}
use Rattle.asm.specs.declared.refusal.LineError.{LineError}
use Rattle.asm.specs.declared.refusal.LineError.TheVariants.{Syntax, Range}
use Rattle.asm.specs.Radices.{radix_of}
use Rattle.asm.specs.declared.number.Number.{Number}
use Rattle.asm.specs.declared.number.Integer.{Integer}
use Rattle.asm.specs.declared.parser.WrittenOperand.{WrittenOperand}
use Rattle.asm.specs.declared.parser.WrittenOperand.TheVariants as written
use Rattle.asm.specs.declared.parser.WrittenTarget.{WrittenTarget}
use Rattle.asm.specs.declared.parser.WrittenTarget.TheVariants as written_target
use Rattle.asm.specs.declared.parser.WrittenAddress.{WrittenAddress}
use Rattle.asm.specs.declared.parser.Parser.{Parser}
use Rattle.asm.specs.declared.statement.Line.{Line}
use Rattle.asm.specs.declared.statement.Line.TheVariants as line

-- ---- what results stand for

abbrev pub numeral_value : Number → ℕ
numeral_value n = digits_value (radix_of n.radix) n.digits.now

abbrev pub integer_value : Integer → ℤ
integer_value integer = if integer.is_negative then neg_ℤ (pos (numeral_value integer.magnitude)) else pos (numeral_value integer.magnitude)

abbrev pub parsed_operand : WrittenOperand → Operand
parsed_operand (written.Reg r) = operand.Reg r
parsed_operand (written.Integer n) = operand.Imm (integer_value n)

abbrev pub parsed_address : WrittenAddress → MemoryOperand
parsed_address a = record { base = a.base; displacement = integer_value a.displacement }

abbrev pub target_value : WrittenTarget → Target
target_value (written_target.Label name) = record { distance = pos 0; label = Some name.now }
target_value (written_target.Distance n) = record { distance = integer_value n; label = None }

abbrev pub link_value : ℤ × Option (Bor (List ℕ)) → Target
link_value link = record { distance = link.0; label = option_map (λ name. name.now) link.1 }

abbrev pub said_in : Line → Option Statement
said_in line.Empty = None
said_in (line.Label name) = Some (Labelled name.now)
said_in (line.Insn i target) = Some (Instruction i (option_map (λ name. name.now) target))

-- ---- what methods do

-- the tokens that a parser has before it
abbrev pub tokens_ahead : Parser → List Token
tokens_ahead p = tokens_of p.rest.now

-- a method reads what a reader reads, and fails where it fails
abbrev pub Reads : {X Y : Type 0} → (List Token → Option (Parse Y)) → (X → Y) → Parser → Result X LineError → Parser → Type 0
Reads reader value old (Ok x) new = reader (tokens_ahead old) ≡ Some (record { value = value x; rest = tokens_ahead new })
Reads reader value old (Err e) new = (e ≡ Syntax) × (reader (tokens_ahead old) ≡ None)

-- likewise a method that reads no value
abbrev pub Passes : {X : Type 0} → (List Token → Option X) → (Parser → X) → Parser → Result (Unit {0}) LineError → Parser → Type 0
Passes reader left old (Ok x) new = reader (tokens_ahead old) ≡ Some (left new)
Passes reader left old (Err e) new = (e ≡ Syntax) × (reader (tokens_ahead old) ≡ None)

-- a method reads all that is before it
abbrev pub ReadsAll : {X Y : Type 0} → (List Token → Option Y) → (X → Y) → List Token → Result X LineError → Type 0
ReadsAll reader value ts (Ok x) = reader ts ≡ Some (value x)
ReadsAll reader value ts (Err e) = (e ≡ Syntax) × (reader ts ≡ None)

-- a number of this meaning fits, and else it is out of range
abbrev pub Converts : {X Y : Type 0} → (X → Y) → (Y → Type 0) → Y → Result X LineError → Type 0
Converts value Proper y (Ok x) = (value x ≡ y) × Proper y
Converts value Proper y (Err e) = (e ≡ Range) × (Proper y → ⊥)

-- something is said, and a number of it does not fit
abbrev pub IsUnfit : Option (Option Statement) → Type 0
IsUnfit None = ⊥
IsUnfit (Some s) = IsInRange s → ⊥

-- a line is parsed: as the statement that it has, if the numbers of that fit; `Range` where one does not fit; `Syntax`
-- where the line has no statement
abbrev pub UnderstandsLine : Option (Option Statement) → Result Line LineError → Type 0
UnderstandsLine said (Ok l) = (said ≡ Some (said_in l)) × IsInRange (said_in l)
UnderstandsLine said (Err Syntax) = said ≡ None
UnderstandsLine said (Err Range) = IsUnfit said

abbrev pub Understands : Option Statement → Result Line LineError → Type 0
Understands said result = UnderstandsLine (option_map Some said) result

-- no blank is first
abbrev pub StartsUnblank : List ℕ → Type 0
StartsUnblank [] = Unit {0}
StartsUnblank (c ∷ rest) = is_blank c ≡ false
