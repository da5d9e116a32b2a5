-- Internal. The reader of a line as functions on its tokens, which the parser's methods mirror. The laws of
-- laws/Grammar.antt say that it reads the grammar.
use Rattle.std.specs.Prelude.{ℕ, ◌-◌, ◌==◌, nat_le, Bool, false, ◌&&◌, ℤ, pos, neg_ℤ, List, [], ◌∷◌, ◌++◌, length, codes, bytes_eq, find, drop, take, Option, Some, None, option_map, if◌then◌else◌}
use Rattle.std.specs.List.{list_all}
use Rattle.std.specs.Str.Parse.{digits_value}
use Rattle.insn.specs.Codes.{unsigned_size}
use Rattle.insn.specs.Spelling.{width_suffix, operator_name, extension_name, order_name, bits_suffix, condition_name, size_suffix}
use Rattle.insn.specs.declared.width.Width.{Width}
use Rattle.insn.specs.declared.width.Width.TheVariants.{W32, W64}
use Rattle.insn.specs.declared.register.Reg.{Reg}
use Rattle.insn.specs.declared.register.Reg.TheVariants.{R0, R1, R2, R3, R4, R5, R6, R7, R8, R9, R10}
use Rattle.insn.specs.declared.operator.AluOp.{AluOp}
use Rattle.insn.specs.declared.operator.AluOp.TheVariants as operator
use Rattle.insn.specs.declared.operator.Extension.{Extension}
use Rattle.insn.specs.declared.operator.Extension.TheVariants as extension
use Rattle.insn.specs.declared.operator.SwapOp.TheVariants as order
use Rattle.insn.specs.declared.condition.Condition.{Condition}
use Rattle.insn.specs.declared.condition.Condition.TheVariants as condition
use Rattle.insn.specs.declared.size.Size.{Size}
use Rattle.insn.specs.declared.size.Size.TheVariants as size
use Rattle.insn.specs.declared.size.SignedSize.TheVariants as signed
use Rattle.insn.specs.declared.size.SwapSize.TheVariants as swap
use Rattle.insn.specs.declared.instruction.Operand.{Operand}
use Rattle.insn.specs.declared.instruction.Operand.TheVariants as operand
use Rattle.insn.specs.declared.instruction.Insn.{Insn}
use Rattle.insn.specs.declared.instruction.Insn.TheVariants as insn
use Rattle.basics.specs.Options.{◌>>=◌}
use Rattle.asm.specs.declared.parser.TheConstants.{MAX_NAME}
use Rattle.asm.specs.declared.mnemonic.Mnemonic.{Mnemonic}
use Rattle.asm.specs.declared.mnemonic.Mnemonic.TheVariants.{Alu, Mov, Neg, SignExtend, Swap, Jump, LongJump, JumpIf, Load, LoadSigned, StoreImm, StoreReg, LoadImm, Call, Exit}
use Rattle.asm.specs.Radices.{is_numeral}
use Rattle.asm.specs.Lines.{Token, begins_name, is_in_names, is_in_words, is_blank}
use Rattle.asm.specs.Statements.{Name, Statement, Labelled, Instruction}

-- ---- tokens

abbrev pub with_word : Token → List Token → List Token
with_word [] ts = ts
with_word (c ∷ word) ts = (c ∷ word) ∷ ts

-- the tokens of the rest of a line, after the beginning of a word; a character that is none of the grammar's is a token
abbrev pub following_tokens : Token → List ℕ → List Token
following_tokens word [] = with_word word []
following_tokens word (c ∷ rest) = if is_in_words c then following_tokens (word ++ c ∷ []) rest
    else with_word word (if c == 59 then [] else (if is_blank c then following_tokens [] rest else (c ∷ []) ∷ following_tokens [] rest))

abbrev pub tokens_of : List ℕ → List Token
tokens_of line = following_tokens [] line

-- ---- readers

-- what was read, and the tokens after it
pub record Parse (X : Type 0) : Type 0 where
  pub value : X
  pub rest : List Token

-- one sign
abbrev pub sign : Token → List Token → Option (List Token)
sign s [] = None
sign s (t ∷ ts) = if bytes_eq t s then Some ts else None

-- no more tokens
abbrev pub end : List Token → Option (Unit {0})
end [] = Some tt
end (t ∷ ts) = None

-- a word for which there is a meaning
abbrev pub word : {X : Type 0} → (Token → Option X) → List Token → Option (Parse X)
word meaning [] = None
word meaning (t ∷ ts) = option_map (λ x. record { value = x; rest = ts }) (meaning t)

abbrev pub all_registers : List Reg
all_registers = R0 ∷ R1 ∷ R2 ∷ R3 ∷ R4 ∷ R5 ∷ R6 ∷ R7 ∷ R8 ∷ R9 ∷ R10 ∷ []

-- `register_name`, computed
abbrev pub register_text : Reg → Token
register_text R0 = codes "r0"
register_text R1 = codes "r1"
register_text R2 = codes "r2"
register_text R3 = codes "r3"
register_text R4 = codes "r4"
register_text R5 = codes "r5"
register_text R6 = codes "r6"
register_text R7 = codes "r7"
register_text R8 = codes "r8"
register_text R9 = codes "r9"
register_text R10 = codes "r10"

abbrev pub register_named : Token → Option Reg
register_named t = find (λ r. bytes_eq (register_text r) t) all_registers

abbrev pub is_name : Token → Bool
is_name [] = false
is_name (c ∷ rest) = begins_name c && (list_all is_in_names rest && nat_le (length (c ∷ rest)) MAX_NAME)

abbrev pub name_in : Token → Option Name
name_in t = if is_name t then Some t else None

abbrev pub is_hexadecimal : Token → Bool
is_hexadecimal t = bytes_eq (take 2 t) (codes "0x")

abbrev pub number_of_token : Token → Option ℕ
number_of_token t = if is_hexadecimal t
    then (if is_numeral 16 (drop 2 t) then Some (digits_value 16 (drop 2 t)) else None)
    else (if is_numeral 10 t then Some (digits_value 10 t) else None)

abbrev pub register_in : List Token → Option (Parse Reg)
register_in ts = word register_named ts

abbrev pub name : List Token → Option (Parse Name)
name ts = word name_in ts

abbrev pub number : List Token → Option (Parse ℕ)
number ts = word number_of_token ts

abbrev pub as_positive : Parse ℕ → Parse ℤ
as_positive n = record { value = pos n.value; rest = n.rest }

abbrev pub negative : Parse ℕ → Parse ℤ
negative n = record { value = neg_ℤ (pos n.value); rest = n.rest }

-- a sign and a number
abbrev pub signed_number : List Token → Option (Parse ℤ)
signed_number [] = None
signed_number (t ∷ ts) = if bytes_eq t (codes "+") then option_map as_positive (number ts)
    else (if bytes_eq t (codes "-") then option_map negative (number ts) else None)

-- a number, perhaps after a minus
abbrev pub integer : List Token → Option (Parse ℤ)
integer [] = None
integer (t ∷ ts) = if bytes_eq t (codes "-") then option_map negative (number ts) else option_map as_positive (number (t ∷ ts))

abbrev pub as_imm : Parse ℤ → Parse Operand
as_imm parse = record { value = operand.Imm parse.value; rest = parse.rest }

abbrev pub register_or : Option (Parse Reg) → Option (Parse ℤ) → Option (Parse Operand)
register_or (Some r) parse = Some (record { value = operand.Reg r.value; rest = r.rest })
register_or None parse = option_map as_imm parse

abbrev pub operand_in : List Token → Option (Parse Operand)
operand_in ts = register_or (register_in ts) (integer ts)

-- where a jump goes: its distance, or 0 and a label
pub record Target : Type 0 where
  pub distance : ℤ
  pub label : Option Name

abbrev pub as_distance : Parse ℤ → Parse Target
as_distance parse = record { value = record { distance = parse.value; label = None }; rest = parse.rest }

abbrev pub name_or : Option (Parse Name) → Option (Parse ℤ) → Option (Parse Target)
name_or (Some n) d = Some (record { value = record { distance = pos 0; label = Some n.value }; rest = n.rest })
name_or None d = option_map as_distance d

abbrev pub jump_target : List Token → Option (Parse Target)
jump_target ts = name_or (name ts) (signed_number ts)

-- the register and the displacement of an address
pub record MemoryOperand : Type 0 where
  pub base : Reg
  pub displacement : ℤ

abbrev pub address : List Token → Option (Parse MemoryOperand)
address ts = do
  opened ← sign (codes "[") ts
  base ← register_in opened
  displacement ← signed_number base.rest
  closed ← sign (codes "]") displacement.rest
  Some (record { value = record { base = base.value; displacement = displacement.value }; rest = closed })

-- ---- mnemonics

abbrev pub name_of : Mnemonic → Token
name_of (Alu width op) = operator_name op ++ width_suffix width
name_of (Mov width) = codes "mov" ++ width_suffix width
name_of (Neg width) = codes "neg" ++ width_suffix width
name_of (SignExtend e) = extension_name e
name_of (Swap op size) = order_name op ++ bits_suffix size
name_of Jump = codes "ja"
name_of LongJump = codes "ja.32"
name_of (JumpIf width c) = condition_name c ++ width_suffix width
name_of (Load size) = codes "ldx" ++ size_suffix size
name_of (LoadSigned size) = codes "ldxs" ++ size_suffix (unsigned_size size)
name_of (StoreImm size) = codes "st" ++ size_suffix size
name_of (StoreReg size) = codes "stx" ++ size_suffix size
name_of LoadImm = codes "lddw"
name_of Call = codes "call"
name_of Exit = codes "exit"

abbrev pub operators : List AluOp
operators = operator.Add ∷ operator.Sub ∷ operator.Mul ∷ operator.Div ∷ operator.SignedDiv ∷ operator.Or ∷ operator.And ∷ operator.Lsh ∷ operator.Rsh ∷ operator.Mod ∷ operator.SignedMod ∷ operator.Xor ∷ operator.Arsh ∷ []

abbrev pub conditions : List Condition
conditions = condition.Eq ∷ condition.Gt ∷ condition.Ge ∷ condition.Set ∷ condition.Ne ∷ condition.SignedGt ∷ condition.SignedGe ∷ condition.Lt ∷ condition.Le ∷ condition.SignedLt ∷ condition.SignedLe ∷ []

-- sign extensions and byte swaps
abbrev pub conversion_mnemonics : List Mnemonic
conversion_mnemonics = SignExtend extension.ByteTo32 ∷ SignExtend extension.HalfTo32 ∷ SignExtend extension.ByteTo64
    ∷ SignExtend extension.HalfTo64 ∷ SignExtend extension.WordTo64
    ∷ Swap order.ToLittle swap.Half ∷ Swap order.ToLittle swap.Word ∷ Swap order.ToLittle swap.Double
    ∷ Swap order.ToBig swap.Half ∷ Swap order.ToBig swap.Word ∷ Swap order.ToBig swap.Double
    ∷ Swap order.Reverse swap.Half ∷ Swap order.Reverse swap.Word ∷ Swap order.Reverse swap.Double ∷ []

abbrev pub control_mnemonics : List Mnemonic
control_mnemonics = Jump ∷ LongJump ∷ Call ∷ Exit ∷ []

abbrev pub memory_mnemonics : List Mnemonic
memory_mnemonics = Load size.Byte ∷ Load size.Half ∷ Load size.Word ∷ Load size.Double
    ∷ LoadSigned signed.Byte ∷ LoadSigned signed.Half ∷ LoadSigned signed.Word
    ∷ StoreImm size.Byte ∷ StoreImm size.Half ∷ StoreImm size.Word ∷ StoreImm size.Double
    ∷ StoreReg size.Byte ∷ StoreReg size.Half ∷ StoreReg size.Word ∷ StoreReg size.Double ∷ LoadImm ∷ []

abbrev pub mnemonic_among : List Mnemonic → Token → Option Mnemonic
mnemonic_among mnemonics t = find (λ m. bytes_eq (name_of m) t) mnemonics

abbrev pub operator_named : Token → Option AluOp
operator_named t = find (λ op. bytes_eq (operator_name op) t) operators

abbrev pub condition_named : Token → Option Condition
condition_named t = find (λ c. bytes_eq (condition_name c) t) conditions

-- the first that there is
abbrev pub or_else : {X : Type 0} → Option X → Option X → Option X
or_else (Some x) other = Some x
or_else None other = other

abbrev pub of_width : Width → Token → Option Mnemonic
of_width width t = if bytes_eq t (codes "mov") then Some (Mov width) else (if bytes_eq t (codes "neg") then Some (Neg width)
    else or_else (option_map (Alu width) (operator_named t)) (option_map (JumpIf width) (condition_named t)))

-- `.32` after an operator or a condition names the width
abbrev pub by_width : Token → Option Mnemonic
by_width t = if bytes_eq (drop (length t - 3) t) (codes ".32") then of_width W32 (take (length t - 3) t) else of_width W64 t

abbrev pub mnemonic_named : Token → Option Mnemonic
mnemonic_named t = or_else (mnemonic_among conversion_mnemonics t) (or_else (mnemonic_among control_mnemonics t)
    (or_else (mnemonic_among memory_mnemonics t) (by_width t)))

-- ---- statements

-- a register, a comma, and what follows
abbrev pub dst_comma : List Token → Option (Parse Reg)
dst_comma ts = do
  dst ← register_in ts
  rest ← sign (codes ",") dst.rest
  Some (record { value = dst.value; rest = rest })

-- a register and an operand
abbrev pub two : (Reg → Operand → Insn) → List Token → Option Statement
two make ts = do
  dst ← dst_comma ts
  o ← operand_in dst.rest
  done ← end o.rest
  Some (Instruction (make dst.value o.value) None)

abbrev pub only_register : List Token → Option Reg
only_register ts = do
  dst ← register_in ts
  done ← end dst.rest
  Some dst.value

-- one register
abbrev pub one : (Reg → Insn) → List Token → Option Statement
one make ts = option_map (λ dst. Instruction (make dst) None) (only_register ts)

abbrev pub sign_extension : Extension → List Token → Option Statement
sign_extension e ts = do
  dst ← dst_comma ts
  src ← register_in dst.rest
  done ← end src.rest
  Some (Instruction (insn.SignExtend e dst.value src.value) None)

abbrev pub only_target : List Token → Option Target
only_target ts = do
  t ← jump_target ts
  done ← end t.rest
  Some t.value

abbrev pub jump : (ℤ → Insn) → List Token → Option Statement
jump make ts = option_map (λ t. Instruction (make t.distance) t.label) (only_target ts)

abbrev pub jump_if : Width → Condition → List Token → Option Statement
jump_if width c ts = do
  dst ← dst_comma ts
  o ← operand_in dst.rest
  rest ← sign (codes ",") o.rest
  t ← only_target rest
  Some (Instruction (insn.JumpIf width c dst.value o.value t.distance) t.label)

-- a register and an address
abbrev pub load_arguments : List Token → Option (Reg × MemoryOperand)
load_arguments ts = do
  dst ← dst_comma ts
  at ← address dst.rest
  done ← end at.rest
  Some (dst.value, at.value)

abbrev pub load_statement : (Reg → Reg → ℤ → Insn) → List Token → Option Statement
load_statement make ts = option_map (λ a. Instruction (make a.0 a.1.base a.1.displacement) None) (load_arguments ts)

abbrev pub store_imm : Size → List Token → Option Statement
store_imm size ts = do
  at ← address ts
  rest ← sign (codes ",") at.rest
  n ← integer rest
  done ← end n.rest
  Some (Instruction (insn.Store size at.value.base (operand.Imm n.value) at.value.displacement) None)

abbrev pub store_register : Size → List Token → Option Statement
store_register size ts = do
  at ← address ts
  rest ← sign (codes ",") at.rest
  src ← register_in rest
  done ← end src.rest
  Some (Instruction (insn.Store size at.value.base (operand.Reg src.value) at.value.displacement) None)

abbrev pub load_number : List Token → Option Statement
load_number ts = do
  dst ← dst_comma ts
  n ← number dst.rest
  done ← end n.rest
  Some (Instruction (insn.LoadImm dst.value n.value) None)

abbrev pub call : List Token → Option Statement
call ts = do
  n ← integer ts
  done ← end n.rest
  Some (Instruction (insn.Call n.value) None)

abbrev pub exit : List Token → Option Statement
exit ts = do
  done ← end ts
  Some (Instruction insn.Exit None)

-- the arguments of a mnemonic
abbrev pub instruction : Mnemonic → List Token → Option Statement
instruction (Alu width op) ts = two (insn.Alu width op) ts
instruction (Mov width) ts = two (insn.Mov width) ts
instruction (Neg width) ts = one (insn.Neg width) ts
instruction (SignExtend e) ts = sign_extension e ts
instruction (Swap op size) ts = one (insn.Swap op size) ts
instruction Jump ts = jump insn.Jump ts
instruction LongJump ts = jump insn.LongJump ts
instruction (JumpIf width c) ts = jump_if width c ts
instruction (Load size) ts = load_statement (insn.Load size) ts
instruction (LoadSigned size) ts = load_statement (insn.LoadSigned size) ts
instruction (StoreImm size) ts = store_imm size ts
instruction (StoreReg size) ts = store_register size ts
instruction LoadImm ts = load_number ts
instruction Call ts = call ts
instruction Exit ts = exit ts

abbrev pub label : Token → List Token → Option Statement
label t ts = do
  n ← name_in t
  done ← end ts
  Some (Labelled n)

abbrev pub statement : Token → List Token → Option Statement
statement t ts = do
  m ← mnemonic_named t
  instruction m ts

abbrev pub label_or : Option (List Token) → Token → List Token → Option Statement
label_or (Some rest) t ts = label t rest
label_or None t ts = statement t ts

-- what the tokens of a line say
abbrev pub said_by : List Token → Option (Option Statement)
said_by [] = Some None
said_by (t ∷ ts) = option_map Some (label_or (sign (codes ":") ts) t ts)

-- what a line says
abbrev pub line_statement : List ℕ → Option (Option Statement)
line_statement line = said_by (tokens_of line)
