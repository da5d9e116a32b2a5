-- Meaning. The fixed spelling of an instruction: a mnemonic, one space, and the operands with `, ` between them.
-- Numbers are decimal; a displacement and a jump distance have a sign.
use Rattle.std.specs.Prelude.{ℕ, suc, ℤ, pos, negsuc, List, [], ◌∷◌, ◌++◌, codes, decimal}
use Rattle.std.specs.Fmt.{signed_decimal}
use Rattle.std.specs.List.{flat_map}
use Rattle.insn.specs.Register.{number_of}
use Rattle.insn.specs.Codes.{unsigned_size}
use Rattle.insn.specs.declared.width.Width.{Width}
use Rattle.insn.specs.declared.width.Width.TheVariants.{W32, W64}
use Rattle.insn.specs.declared.register.Reg.{Reg}
use Rattle.insn.specs.declared.operator.AluOp.{AluOp}
use Rattle.insn.specs.declared.operator.AluOp.TheVariants as operator
use Rattle.insn.specs.declared.operator.Extension.{Extension}
use Rattle.insn.specs.declared.operator.Extension.TheVariants.{ByteTo32, HalfTo32, ByteTo64, HalfTo64, WordTo64}
use Rattle.insn.specs.declared.operator.SwapOp.{SwapOp}
use Rattle.insn.specs.declared.operator.SwapOp.TheVariants as order
use Rattle.insn.specs.declared.condition.Condition.{Condition}
use Rattle.insn.specs.declared.condition.Condition.TheVariants as condition
use Rattle.insn.specs.declared.size.Size.{Size}
use Rattle.insn.specs.declared.size.Size.TheVariants.{Word, Half, Byte, Double}
use Rattle.insn.specs.declared.size.SwapSize.{SwapSize}
use Rattle.insn.specs.declared.size.SwapSize.TheVariants as swap
use Rattle.insn.specs.declared.instruction.Operand.{Operand}
use Rattle.insn.specs.declared.instruction.Operand.TheVariants as operand
use Rattle.insn.specs.declared.instruction.Insn.{Insn}
use Rattle.insn.specs.declared.instruction.Insn.TheVariants.{Alu, Mov, Neg, SignExtend, Swap, Jump, LongJump, JumpIf, Load, LoadSigned, Store, LoadImm, Call, Exit}

-- ---- mnemonics

abbrev pub width_suffix : Width → List ℕ
width_suffix W32 = codes ".32"
width_suffix W64 = codes ""

abbrev pub operator_name : AluOp → List ℕ
operator_name operator.Add = codes "add"
operator_name operator.Sub = codes "sub"
operator_name operator.Mul = codes "mul"
operator_name operator.Div = codes "div"
operator_name operator.SignedDiv = codes "sdiv"
operator_name operator.Or = codes "or"
operator_name operator.And = codes "and"
operator_name operator.Lsh = codes "lsh"
operator_name operator.Rsh = codes "rsh"
operator_name operator.Mod = codes "mod"
operator_name operator.SignedMod = codes "smod"
operator_name operator.Xor = codes "xor"
operator_name operator.Arsh = codes "arsh"

abbrev pub extension_name : Extension → List ℕ
extension_name ByteTo32 = codes "movsx8.32"
extension_name HalfTo32 = codes "movsx16.32"
extension_name ByteTo64 = codes "movsx8"
extension_name HalfTo64 = codes "movsx16"
extension_name WordTo64 = codes "movsx32"

abbrev pub order_name : SwapOp → List ℕ
order_name order.ToLittle = codes "le"
order_name order.ToBig = codes "be"
order_name order.Reverse = codes "swap"

abbrev pub bits_suffix : SwapSize → List ℕ
bits_suffix swap.Half = codes "16"
bits_suffix swap.Word = codes "32"
bits_suffix swap.Double = codes "64"

abbrev pub condition_name : Condition → List ℕ
condition_name condition.Eq = codes "jeq"
condition_name condition.Gt = codes "jgt"
condition_name condition.Ge = codes "jge"
condition_name condition.Set = codes "jset"
condition_name condition.Ne = codes "jne"
condition_name condition.SignedGt = codes "jsgt"
condition_name condition.SignedGe = codes "jsge"
condition_name condition.Lt = codes "jlt"
condition_name condition.Le = codes "jle"
condition_name condition.SignedLt = codes "jslt"
condition_name condition.SignedLe = codes "jsle"

abbrev pub size_suffix : Size → List ℕ
size_suffix Word = codes "w"
size_suffix Half = codes "h"
size_suffix Byte = codes "b"
size_suffix Double = codes "dw"

-- a store of a register has another mnemonic than one of a number
abbrev pub store_name : Operand → List ℕ
store_name (operand.Reg r) = codes "stx"
store_name (operand.Imm n) = codes "st"

abbrev pub mnemonic : Insn → List ℕ
mnemonic (Alu width op dst o) = operator_name op ++ width_suffix width
mnemonic (Mov width dst o) = codes "mov" ++ width_suffix width
mnemonic (Neg width dst) = codes "neg" ++ width_suffix width
mnemonic (SignExtend e dst src) = extension_name e
mnemonic (Swap op size dst) = order_name op ++ bits_suffix size
mnemonic (Jump distance) = codes "ja"
mnemonic (LongJump distance) = codes "ja.32"
mnemonic (JumpIf width c dst o distance) = condition_name c ++ width_suffix width
mnemonic (Load size dst base displacement) = codes "ldx" ++ size_suffix size
mnemonic (LoadSigned size dst base displacement) = codes "ldxs" ++ size_suffix (unsigned_size size)
mnemonic (Store size base o displacement) = store_name o ++ size_suffix size
mnemonic (LoadImm dst value) = codes "lddw"
mnemonic (Call helper) = codes "call"
mnemonic Exit = codes "exit"

-- ---- operands

-- what follows a mnemonic: a register, a number with or without a sign, the address in a register with a
-- displacement, or a jump distance
pub data Argument : Type 0 where
  Register : Reg → Argument
  Integer : ℤ → Argument
  Natural : ℕ → Argument
  Address : Reg → ℤ → Argument
  Distance : ℤ → Argument

abbrev pub argument_of : Operand → Argument
argument_of (operand.Reg r) = Register r
argument_of (operand.Imm n) = Integer n

abbrev pub arguments : Insn → List Argument
arguments (Alu width op dst o) = Register dst ∷ argument_of o ∷ []
arguments (Mov width dst o) = Register dst ∷ argument_of o ∷ []
arguments (Neg width dst) = Register dst ∷ []
arguments (SignExtend e dst src) = Register dst ∷ Register src ∷ []
arguments (Swap op size dst) = Register dst ∷ []
arguments (Jump distance) = Distance distance ∷ []
arguments (LongJump distance) = Distance distance ∷ []
arguments (JumpIf width c dst o distance) = Register dst ∷ argument_of o ∷ Distance distance ∷ []
arguments (Load size dst base displacement) = Register dst ∷ Address base displacement ∷ []
arguments (LoadSigned size dst base displacement) = Register dst ∷ Address base displacement ∷ []
arguments (Store size base o displacement) = Address base displacement ∷ argument_of o ∷ []
arguments (LoadImm dst value) = Register dst ∷ Natural value ∷ []
arguments (Call helper) = Integer helper ∷ []
arguments Exit = []

-- ---- texts

abbrev pub register_name : Reg → List ℕ
register_name r = codes "r" ++ decimal (number_of r)

-- a decimal number with its sign, which is a plus for zero
abbrev pub with_sign : ℤ → List ℕ
with_sign (pos n) = codes "+" ++ decimal n
with_sign (negsuc n) = codes "-" ++ decimal (suc n)

abbrev pub argument_text : Argument → List ℕ
argument_text (Register r) = register_name r
argument_text (Integer n) = signed_decimal n
argument_text (Natural n) = decimal n
argument_text (Address base displacement) = codes "[" ++ register_name base ++ with_sign displacement ++ codes "]"
argument_text (Distance n) = with_sign n

-- the arguments, each with what comes before it
abbrev pub following_arguments : List ℕ → List Argument → List ℕ
following_arguments before [] = []
following_arguments before (a ∷ more) = before ++ argument_text a ++ following_arguments (codes ", ") more

-- the fixed spelling
abbrev pub spelling : Insn → List ℕ
spelling i = mnemonic i ++ following_arguments (codes " ") (arguments i)

-- the text of a program: one instruction a line, each ended by a line feed
abbrev pub listing : List Insn → List ℕ
listing code = flat_map (λ i. spelling i ++ codes "\n") code
