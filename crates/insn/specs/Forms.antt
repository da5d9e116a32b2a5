-- Internal. The instruction of a slot's fields, as decoding finds it. Where the offset or the imm of a slot selects no
-- instruction, the one here encodes another value there, so that comparing the fields refuses it.
use Rattle.std.specs.Prelude.{◌≡◌, ◌≢◌, ℕ, ◌==◌, ℤ, pos, negsuc, ◌≤◌, ◌<◌, Bool, false, List, ◌++◌, length, take, Option, Some, None, if◌then◌else◌}
use Rattle.insn.specs.Register.{number_of}
use Rattle.insn.specs.Opcode.{byte_of, IsOpcode}
use Rattle.insn.specs.Fields.{HaveRoom, slot_bytes}
use Rattle.insn.specs.Encoding.{fields_of, second_of, optional_bytes, wide_number, Fits}
use Rattle.insn.specs.declared.width.Width.{Width}
use Rattle.insn.specs.declared.width.Width.TheVariants.{W32, W64}
use Rattle.insn.specs.declared.operator.AluOp.{AluOp}
use Rattle.insn.specs.declared.operator.AluOp.TheVariants as operators
use Rattle.insn.specs.declared.operator.Extension.{Extension}
use Rattle.insn.specs.declared.operator.Extension.TheVariants.{ByteTo32, HalfTo32, ByteTo64, HalfTo64, WordTo64}
use Rattle.insn.specs.declared.size.SwapSize.{SwapSize}
use Rattle.insn.specs.declared.size.SwapSize.TheVariants as sizes
use Rattle.insn.specs.declared.fields.Fields.{Fields}
use Rattle.insn.specs.declared.register.Reg.{Reg}
use Rattle.insn.specs.declared.opcode.AluCode.{AluCode}
use Rattle.insn.specs.declared.opcode.AluCode.TheVariants as code
use Rattle.insn.specs.declared.opcode.OperandSource.{OperandSource}
use Rattle.insn.specs.declared.opcode.OperandSource.TheVariants as source
use Rattle.insn.specs.declared.opcode.Opcode.{Opcode}
use Rattle.insn.specs.declared.opcode.Opcode.TheVariants as opcode
use Rattle.insn.specs.declared.instruction.Operand.{Operand}
use Rattle.insn.specs.declared.instruction.Operand.TheVariants as operand
use Rattle.insn.specs.declared.instruction.Insn.{Insn}
use Rattle.insn.specs.declared.instruction.Insn.TheVariants.{Alu, Mov, Neg, SignExtend, Swap, Jump, LongJump, JumpIf, Load, LoadSigned, Store, LoadImm, Call, Exit}
use Rattle.insn.specs.declared.decoding.Head.{Head}
use Rattle.insn.specs.declared.refusal.SlotError.{SlotError}
use Rattle.insn.specs.declared.refusal.SlotError.TheVariants as fault

abbrev pub with_source : OperandSource → Reg → ℤ → Operand
with_source source.Reg src imm = operand.Reg src
with_source source.Imm src imm = operand.Imm imm

abbrev pub is : ℤ → ℕ → Bool
is (pos m) n = m == n
is (negsuc m) n = false

-- the offset 1 chooses the signed operator
abbrev pub operator : AluCode → ℤ → AluOp
operator code.Add offset = operators.Add
operator code.Sub offset = operators.Sub
operator code.Mul offset = operators.Mul
operator code.Div offset = if is offset 1 then operators.SignedDiv else operators.Div
operator code.Or offset = operators.Or
operator code.And offset = operators.And
operator code.Lsh offset = operators.Lsh
operator code.Rsh offset = operators.Rsh
operator code.Mod offset = if is offset 1 then operators.SignedMod else operators.Mod
operator code.Xor offset = operators.Xor
operator code.Arsh offset = operators.Arsh

-- the sign extension that an offset chooses
abbrev pub extension : Width → ℤ → Option Extension
extension W32 offset = if is offset 8 then Some ByteTo32 else (if is offset 16 then Some HalfTo32 else None)
extension W64 offset = if is offset 8 then Some ByteTo64 else (if is offset 16 then Some HalfTo64 else (if is offset 32 then Some WordTo64 else None))

-- the size that an imm chooses
abbrev pub swap_size : ℤ → Option SwapSize
swap_size imm = if is imm 16 then Some sizes.Half else (if is imm 32 then Some sizes.Word else (if is imm 64 then Some sizes.Double else None))

abbrev pub size_or_half : Option SwapSize → SwapSize
size_or_half (Some size) = size
size_or_half None = sizes.Half

abbrev pub move_insn : Width → Reg → Reg → Option Extension → Insn
move_insn width dst src (Some e) = SignExtend e dst src
move_insn width dst src None = Mov width dst (operand.Reg src)

abbrev pub move_form : Width → OperandSource → Reg → Reg → ℤ → ℤ → Insn
move_form width source.Reg dst src offset imm = move_insn width dst src (extension width offset)
move_form width source.Imm dst src offset imm = Mov width dst (operand.Imm imm)

-- the instruction of an opcode with those of the fields that it uses, and the imm of a second slot
abbrev pub form : Opcode → Reg → Reg → ℤ → ℤ → ℤ → Insn
form (opcode.Alu width c s) dst src offset imm high = Alu width (operator c offset) dst (with_source s src imm)
form (opcode.Mov width s) dst src offset imm high = move_form width s dst src offset imm
form (opcode.Neg width) dst src offset imm high = Neg width dst
form (opcode.Swap op) dst src offset imm high = Swap op (size_or_half (swap_size imm)) dst
form (opcode.Jump W32) dst src offset imm high = LongJump imm
form (opcode.Jump W64) dst src offset imm high = Jump offset
form (opcode.JumpIf width condition s) dst src offset imm high = JumpIf width condition dst (with_source s src imm) offset
form opcode.LoadImm dst src offset imm high = LoadImm dst (wide_number imm high)
form opcode.Call dst src offset imm high = Call imm
form opcode.Exit dst src offset imm high = Exit
form (opcode.Load size) dst src offset imm high = Load size dst src offset
form (opcode.LoadSigned size) dst src offset imm high = LoadSigned size dst src offset
form (opcode.Store size s) dst src offset imm high = Store size dst (with_source s src imm) offset

-- the opcode and the registers of a slot
pub record HasHead (f : Fields) (h : Head) : Type 0 where
  pub opcode : byte_of h.opcode ≡ f.opcode
  pub dst : number_of h.dst ≡ f.dst
  pub src : number_of h.src ≡ f.src

-- the first fault of the opcode and the registers of a slot
abbrev pub LacksHead : Fields → SlotError → Type 0
LacksHead f fault.Opcode = IsOpcode f.opcode → ⊥
LacksHead f fault.Register = IsOpcode f.opcode × ((f.dst ≤ 10) × (f.src ≤ 10) → ⊥)
LacksHead f fault.WideCut = ⊥
LacksHead f fault.UnusedField = ⊥

-- the second slot of an opcode, in the bytes after the first
abbrev pub HasSecond : Opcode → List ℕ → Option Fields → Type 0
HasSecond o rest None = o ≢ opcode.LoadImm
HasSecond o rest (Some f) = (o ≡ opcode.LoadImm) × HaveRoom f × (8 ≤ length rest) × (slot_bytes f ≡ take 8 rest)

abbrev pub imm_in : Option Fields → ℤ
imm_in (Some f) = f.imm
imm_in None = pos 0

-- an instruction begins with the fields, and the bytes after them are its second slot, if it has one, and others
pub record IsForm (i : Insn) (f : Fields) (rest : List ℕ) : Type 0 where
  pub fits : Fits i
  pub fields : fields_of i ≡ f
  pub other : List ℕ
  pub second : rest ≡ optional_bytes (second_of i) ++ other

-- the fault of fields whose opcode and registers are good
abbrev pub LacksForm : Opcode → Fields → List ℕ → SlotError → Type 0
LacksForm o f rest fault.Opcode = ⊥
LacksForm o f rest fault.Register = ⊥
LacksForm o f rest fault.WideCut = (o ≡ opcode.LoadImm) × (length rest < 8)
LacksForm o f rest fault.UnusedField = (o ≡ opcode.LoadImm → 8 ≤ length rest) × ((i : Insn) → IsForm i f rest → ⊥)
