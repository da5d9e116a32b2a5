-- No two instructions have one encoding, and none begins another's.
use Rattle.std.proofs.Common.{◌≡◌, ℕ, ◌/◌, ◌%◌, ◌^◌, ◌≤◌, ◌<◌, List, [], ◌∷◌, map, Option, Some, None, inl, refl, sym, ap, ◌∙◌, arith, ℤ, pos}
use Rattle.std.specs.List.{flat_map}
use Rattle.insn.specs.Register.{number_of}
use Rattle.insn.specs.Codes.{code_of, offset_of, extension_offset, swap_bits}
use Rattle.insn.specs.Words.{target_of}
use Rattle.insn.specs.Opcode.{byte_of}
use Rattle.insn.specs.Encoding.{source_of, src_of, imm_of, low_half, high_half, wide_number, fields_of, second_of, Fits}
use Rattle.insn.specs.Forms.{with_source, operator, extension, swap_size, size_or_half, move_insn, imm_in, form}
use Rattle.insn.specs.declared.register.Reg.{Reg}
use Rattle.insn.specs.declared.register.Reg.TheVariants as reg
use Rattle.insn.specs.declared.width.Width.{Width}
use Rattle.insn.specs.declared.width.Width.TheVariants.{W32, W64}
use Rattle.insn.specs.declared.operator.AluOp.{AluOp}
use Rattle.insn.specs.declared.operator.AluOp.TheVariants as operators
use Rattle.insn.specs.declared.operator.Extension.{Extension}
use Rattle.insn.specs.declared.operator.Extension.TheVariants.{ByteTo32, HalfTo32, ByteTo64, HalfTo64, WordTo64}
use Rattle.insn.specs.declared.operator.SwapOp.{SwapOp}
use Rattle.insn.specs.declared.operator.SwapOp.TheVariants.{ToLittle, ToBig, Reverse}
use Rattle.insn.specs.declared.condition.Condition.{Condition}
use Rattle.insn.specs.declared.condition.Condition.TheVariants as condition
use Rattle.insn.specs.declared.size.Size.{Size}
use Rattle.insn.specs.declared.size.Size.TheVariants as size
use Rattle.insn.specs.declared.size.SignedSize.{SignedSize}
use Rattle.insn.specs.declared.size.SignedSize.TheVariants as signed
use Rattle.insn.specs.declared.size.SwapSize.{SwapSize}
use Rattle.insn.specs.declared.size.SwapSize.TheVariants as swap
use Rattle.insn.specs.declared.fields.Fields.{Fields}
use Rattle.insn.specs.declared.opcode.AluCode.{AluCode}
use Rattle.insn.specs.declared.opcode.AluCode.TheVariants as code
use Rattle.insn.specs.declared.opcode.OperandSource.{OperandSource}
use Rattle.insn.specs.declared.opcode.OperandSource.TheVariants as source
use Rattle.insn.specs.declared.opcode.Opcode.{Opcode}
use Rattle.insn.specs.declared.opcode.Opcode.TheVariants as opcode
use Rattle.insn.specs.declared.instruction.Operand.{Operand}
use Rattle.insn.specs.declared.instruction.Operand.TheVariants as operand
use Rattle.insn.specs.declared.instruction.Insn.{Insn}
use Rattle.insn.specs.declared.instruction.Insn.TheVariants.{Alu, Mov, Neg, SignExtend, Swap, Jump, LongJump, JumpIf, Load, LoadSigned, Store, LoadImm, Call, Exit}
use Rattle.std.specs.Int.{w32}
use Rattle.std.proofs.lemmas.Int.{of_z-to_z}
use Rattle.insn.proofs.Tables.{Among, at, among_at, among-map, among-flat_map, one_value, code_below}

-- ---- tables

registers : List Reg
registers = reg.R0 ∷ reg.R1 ∷ reg.R2 ∷ reg.R3 ∷ reg.R4 ∷ reg.R5 ∷ reg.R6 ∷ reg.R7 ∷ reg.R8 ∷ reg.R9 ∷ reg.R10 ∷ []

register_at : (x : Reg) → (k : ℕ) × (at registers k ≡ Some x)
unfolding registers
register_at reg.R0 = (0, refl)
register_at reg.R1 = (1, refl)
register_at reg.R2 = (2, refl)
register_at reg.R3 = (3, refl)
register_at reg.R4 = (4, refl)
register_at reg.R5 = (5, refl)
register_at reg.R6 = (6, refl)
register_at reg.R7 = (7, refl)
register_at reg.R8 = (8, refl)
register_at reg.R9 = (9, refl)
register_at reg.R10 = (10, refl)

widths : List Width
widths = W32 ∷ W64 ∷ []

width_at : (x : Width) → (k : ℕ) × (at widths k ≡ Some x)
unfolding widths
width_at W32 = (0, refl)
width_at W64 = (1, refl)

sources : List OperandSource
sources = source.Imm ∷ source.Reg ∷ []

source_at : (x : OperandSource) → (k : ℕ) × (at sources k ≡ Some x)
unfolding sources
source_at source.Imm = (0, refl)
source_at source.Reg = (1, refl)

codes : List AluCode
codes = code.Add ∷ code.Sub ∷ code.Mul ∷ code.Div ∷ code.Or ∷ code.And ∷ code.Lsh ∷ code.Rsh ∷ code.Mod ∷ code.Xor ∷ code.Arsh ∷ []

code_at : (x : AluCode) → (k : ℕ) × (at codes k ≡ Some x)
unfolding codes
code_at code.Add = (0, refl)
code_at code.Sub = (1, refl)
code_at code.Mul = (2, refl)
code_at code.Div = (3, refl)
code_at code.Or = (4, refl)
code_at code.And = (5, refl)
code_at code.Lsh = (6, refl)
code_at code.Rsh = (7, refl)
code_at code.Mod = (8, refl)
code_at code.Xor = (9, refl)
code_at code.Arsh = (10, refl)

conditions : List Condition
conditions = condition.Eq ∷ condition.Gt ∷ condition.Ge ∷ condition.Set ∷ condition.Ne ∷ condition.SignedGt ∷ condition.SignedGe ∷ condition.Lt ∷ condition.Le ∷ condition.SignedLt ∷ condition.SignedLe ∷ []

condition_at : (x : Condition) → (k : ℕ) × (at conditions k ≡ Some x)
unfolding conditions
condition_at condition.Eq = (0, refl)
condition_at condition.Gt = (1, refl)
condition_at condition.Ge = (2, refl)
condition_at condition.Set = (3, refl)
condition_at condition.Ne = (4, refl)
condition_at condition.SignedGt = (5, refl)
condition_at condition.SignedGe = (6, refl)
condition_at condition.Lt = (7, refl)
condition_at condition.Le = (8, refl)
condition_at condition.SignedLt = (9, refl)
condition_at condition.SignedLe = (10, refl)

swaps : List SwapOp
swaps = ToLittle ∷ ToBig ∷ Reverse ∷ []

swap_at : (x : SwapOp) → (k : ℕ) × (at swaps k ≡ Some x)
unfolding swaps
swap_at ToLittle = (0, refl)
swap_at ToBig = (1, refl)
swap_at Reverse = (2, refl)

sizes : List Size
sizes = size.Word ∷ size.Half ∷ size.Byte ∷ size.Double ∷ []

size_at : (x : Size) → (k : ℕ) × (at sizes k ≡ Some x)
unfolding sizes
size_at size.Word = (0, refl)
size_at size.Half = (1, refl)
size_at size.Byte = (2, refl)
size_at size.Double = (3, refl)

signed_sizes : List SignedSize
signed_sizes = signed.Word ∷ signed.Half ∷ signed.Byte ∷ []

signed_size_at : (x : SignedSize) → (k : ℕ) × (at signed_sizes k ≡ Some x)
unfolding signed_sizes
signed_size_at signed.Word = (0, refl)
signed_size_at signed.Half = (1, refl)
signed_size_at signed.Byte = (2, refl)

module _ {X : Type 0} (all : List X) (found : (x : X) → (k : ℕ) × (at all k ≡ Some x)) where
  stands : (x : X) → Among all x
  stands x = among_at all (found x).0 x (found x).1

register_stands : (r : Reg) → Among registers r
register_stands = stands registers register_at

pub number_of-injective : (r s : Reg) → number_of r ≡ number_of s → r ≡ s
unfolding registers
number_of-injective r s e = one_value number_of registers r s refl (register_stands r) (register_stands s) e

pub number_small : (r : Reg) → number_of r ≤ 10
unfolding registers
number_small r = let small = code_below number_of 11 registers r refl (register_stands r) in omega arith

-- every operation with every width and source
with_sources : {X : Type 0} → (Width → X → OperandSource → Opcode) → List X → List Opcode
with_sources form all = flat_map (λ w. flat_map (λ x. map (form w x) sources) all) widths

with_sources_stands : {X : Type 0} (form : Width → X → OperandSource → Opcode) (all : List X) (w : Width) (x : X) (s : OperandSource) → Among all x → Among (with_sources form all) (form w x s)
unfolding with_sources
with_sources_stands form all w x s h =
    among-flat_map (λ v. flat_map (λ y. map (form v y) sources) all) widths w (form w x s) (stands widths width_at w)
    (among-flat_map (λ y. map (form w y) sources) all x (form w x s) h (among-map (form w x) sources s (stands sources source_at s)))

groups : List (List Opcode)
groups =
    with_sources opcode.Alu codes ∷ flat_map (λ w. map (opcode.Mov w) sources) widths ∷ map opcode.Neg widths ∷ map opcode.Swap swaps ∷ map opcode.Jump widths
    ∷ with_sources opcode.JumpIf conditions ∷ (opcode.Exit ∷ []) ∷ map opcode.Load sizes ∷ map opcode.LoadSigned signed_sizes ∷ (opcode.LoadImm ∷ [])
    ∷ flat_map (λ z. map (opcode.Store z) sources) sizes ∷ (opcode.Call ∷ []) ∷ []

opcodes : List Opcode
opcodes = flat_map (λ g. g) groups

in_group : (k : ℕ) (g : List Opcode) (o : Opcode) → at groups k ≡ Some g → Among g o → Among opcodes o
unfolding opcodes
in_group k g o e h = among-flat_map (λ g. g) groups g o (among_at groups k g e) h

opcode_stands : (o : Opcode) → Among opcodes o
unfolding groups
opcode_stands (opcode.Alu w c s) = in_group 0 _ _ refl (with_sources_stands opcode.Alu codes w c s (stands codes code_at c))
opcode_stands (opcode.Mov w s) = in_group 1 _ _ refl (among-flat_map (λ v. map (opcode.Mov v) sources) widths w _ (stands widths width_at w) (among-map (opcode.Mov w) sources s (stands sources source_at s)))
opcode_stands (opcode.Neg w) = in_group 2 _ _ refl (among-map opcode.Neg widths w (stands widths width_at w))
opcode_stands (opcode.Swap op) = in_group 3 _ _ refl (among-map opcode.Swap swaps op (stands swaps swap_at op))
opcode_stands (opcode.Jump w) = in_group 4 _ _ refl (among-map opcode.Jump widths w (stands widths width_at w))
opcode_stands (opcode.JumpIf w c s) = in_group 5 _ _ refl (with_sources_stands opcode.JumpIf conditions w c s (stands conditions condition_at c))
opcode_stands opcode.Exit = in_group 6 (opcode.Exit ∷ []) opcode.Exit refl (inl refl)
opcode_stands (opcode.Load z) = in_group 7 _ _ refl (among-map opcode.Load sizes z (stands sizes size_at z))
opcode_stands (opcode.LoadSigned z) = in_group 8 _ _ refl (among-map opcode.LoadSigned signed_sizes z (stands signed_sizes signed_size_at z))
opcode_stands opcode.LoadImm = in_group 9 (opcode.LoadImm ∷ []) opcode.LoadImm refl (inl refl)
opcode_stands (opcode.Store z s) = in_group 10 _ _ refl (among-flat_map (λ y. map (opcode.Store y) sources) sizes z _ (stands sizes size_at z) (among-map (opcode.Store z) sources s (stands sources source_at s)))
opcode_stands opcode.Call = in_group 11 (opcode.Call ∷ []) opcode.Call refl (inl refl)

pub byte_of-injective : (o p : Opcode) → byte_of o ≡ byte_of p → o ≡ p
unfolding opcodes groups with_sources codes widths sources conditions swaps sizes signed_sizes
byte_of-injective o p e = one_value byte_of opcodes o p refl (opcode_stands o) (opcode_stands p) e

pub byte_small : (o : Opcode) → byte_of o < 256
unfolding opcodes groups with_sources codes widths sources conditions swaps sizes signed_sizes
byte_small o = code_below byte_of 256 opcodes o refl (opcode_stands o)

-- ---- what an instruction's fields are of

unfoldable pub src_register : Operand → Reg
src_register (operand.Reg r) = r
src_register (operand.Imm n) = reg.R0

pub src_register_is : (x : Operand) → number_of (src_register x) ≡ src_of x
unfolding src_register
src_register_is (operand.Reg r) = refl
src_register_is (operand.Imm n) = refl

-- an opcode and registers of the fields
pub record AreOf (i : Insn) : Type 0 where
  pub opcode : Opcode
  pub dst : Reg
  pub src : Reg
  pub opcode_is : byte_of opcode ≡ (fields_of i).opcode
  pub dst_is : number_of dst ≡ (fields_of i).dst
  pub src_is : number_of src ≡ (fields_of i).src

unfoldable pub are_of : (i : Insn) → AreOf i
are_of (Alu w op dst x) = record { opcode = opcode.Alu w (code_of op) (source_of x); dst = dst; src = src_register x; opcode_is = refl; dst_is = refl; src_is = src_register_is x }
are_of (Mov w dst x) = record { opcode = opcode.Mov w (source_of x); dst = dst; src = src_register x; opcode_is = refl; dst_is = refl; src_is = src_register_is x }
are_of (Neg w dst) = record { opcode = opcode.Neg w; dst = dst; src = reg.R0; opcode_is = refl; dst_is = refl; src_is = refl }
are_of (SignExtend e dst src) = record { opcode = opcode.Mov (target_of e) source.Reg; dst = dst; src = src; opcode_is = refl; dst_is = refl; src_is = refl }
are_of (Swap op z dst) = record { opcode = opcode.Swap op; dst = dst; src = reg.R0; opcode_is = refl; dst_is = refl; src_is = refl }
are_of (Jump distance) = record { opcode = opcode.Jump W64; dst = reg.R0; src = reg.R0; opcode_is = refl; dst_is = refl; src_is = refl }
are_of (LongJump distance) = record { opcode = opcode.Jump W32; dst = reg.R0; src = reg.R0; opcode_is = refl; dst_is = refl; src_is = refl }
are_of (JumpIf w c dst x distance) = record { opcode = opcode.JumpIf w c (source_of x); dst = dst; src = src_register x; opcode_is = refl; dst_is = refl; src_is = src_register_is x }
are_of (Load z dst base displacement) = record { opcode = opcode.Load z; dst = dst; src = base; opcode_is = refl; dst_is = refl; src_is = refl }
are_of (LoadSigned z dst base displacement) = record { opcode = opcode.LoadSigned z; dst = dst; src = base; opcode_is = refl; dst_is = refl; src_is = refl }
are_of (Store z base x displacement) = record { opcode = opcode.Store z (source_of x); dst = base; src = src_register x; opcode_is = refl; dst_is = refl; src_is = src_register_is x }
are_of (LoadImm dst value) = record { opcode = opcode.LoadImm; dst = dst; src = reg.R0; opcode_is = refl; dst_is = refl; src_is = refl }
are_of (Call helper) = record { opcode = opcode.Call; dst = reg.R0; src = reg.R0; opcode_is = refl; dst_is = refl; src_is = refl }
are_of Exit = record { opcode = opcode.Exit; dst = reg.R0; src = reg.R0; opcode_is = refl; dst_is = refl; src_is = refl }

-- ---- the fields choose the instruction

operator_is : (op : AluOp) → operator (code_of op) (offset_of op) ≡ op
operator_is operators.Add = refl
operator_is operators.Sub = refl
operator_is operators.Mul = refl
operator_is operators.Div = refl
operator_is operators.SignedDiv = refl
operator_is operators.Or = refl
operator_is operators.And = refl
operator_is operators.Lsh = refl
operator_is operators.Rsh = refl
operator_is operators.Mod = refl
operator_is operators.SignedMod = refl
operator_is operators.Xor = refl
operator_is operators.Arsh = refl

extension_is : (e : Extension) → extension (target_of e) (extension_offset e) ≡ Some e
extension_is ByteTo32 = refl
extension_is HalfTo32 = refl
extension_is ByteTo64 = refl
extension_is HalfTo64 = refl
extension_is WordTo64 = refl

no_extension : (w : Width) → extension w (pos 0) ≡ None
no_extension W32 = refl
no_extension W64 = refl

swap_size_is : (z : SwapSize) → swap_size (swap_bits z) ≡ Some z
swap_size_is swap.Half = refl
swap_size_is swap.Word = refl
swap_size_is swap.Double = refl

operand_is : (x : Operand) → with_source (source_of x) (src_register x) (imm_of x) ≡ x
unfolding src_register
operand_is (operand.Reg r) = refl
operand_is (operand.Imm n) = refl

-- the halves of a number, and the number of the halves
pub joined_is : (value : ℕ) → value < 2 ^ 64 → wide_number (low_half value) (high_half value) ≡ value
joined_is value lt =
    let low = of_z-to_z w32 (value % 2 ^ 32) (omega arith) in
    let high = of_z-to_z w32 (value / 2 ^ 32) (omega arith) in
    omega arith

-- an instruction is the form of its own fields
own_form : (i : Insn) → Fits i → form (are_of i).opcode (are_of i).dst (are_of i).src (fields_of i).offset (fields_of i).imm (imm_in (second_of i)) ≡ i
unfolding are_of src_register
own_form (Alu w op dst x) fits = λ k. Alu w (operator_is op k) dst (operand_is x k)
own_form (Mov w dst (operand.Reg r)) fits = ap (move_insn w dst r) (no_extension w)
own_form (Mov w dst (operand.Imm n)) fits = refl
own_form (Neg w dst) fits = refl
own_form (SignExtend e dst src) fits = ap (move_insn (target_of e) dst src) (extension_is e)
own_form (Swap op z dst) fits = ap (λ (size : Option SwapSize). Swap op (size_or_half size) dst) (swap_size_is z)
own_form (Jump distance) fits = refl
own_form (LongJump distance) fits = refl
own_form (JumpIf w c dst x distance) fits = ap (λ (y : Operand). JumpIf w c dst y distance) (operand_is x)
own_form (Load z dst base displacement) fits = refl
own_form (LoadSigned z dst base displacement) fits = refl
own_form (Store z base x displacement) fits = ap (λ (y : Operand). Store z base y displacement) (operand_is x)
own_form (LoadImm dst value) fits = ap (LoadImm dst) (joined_is value fits)
own_form (Call helper) fits = refl
own_form Exit fits = refl

-- the instruction with these fields is the form of the opcode, the registers and the numbers that they are of
pub form_is : (i : Insn) (f : Fields) (o : Opcode) (d s : Reg) (high : ℤ) → Fits i → fields_of i ≡ f → byte_of o ≡ f.opcode → number_of d ≡ f.dst → number_of s ≡ f.src → high ≡ imm_in (second_of i) → form o d s f.offset f.imm high ≡ i
form_is i f o d s high fits e eo ed es eh =
    let a = are_of i in
    let opcode_is = byte_of-injective o a.opcode (eo ∙ sym (a.opcode_is ∙ ap (λ (g : Fields). g.opcode) e)) in
    let dst_is = number_of-injective d a.dst (ed ∙ sym (a.dst_is ∙ ap (λ (g : Fields). g.dst) e)) in
    let src_is = number_of-injective s a.src (es ∙ sym (a.src_is ∙ ap (λ (g : Fields). g.src) e)) in
    (λ k. form (opcode_is k) (dst_is k) (src_is k) (sym e k).offset (sym e k).imm (eh k)) ∙ own_form i fits

pub fields_of-injective : (i j : Insn) → Fits i → Fits j → fields_of i ≡ fields_of j → second_of i ≡ second_of j → i ≡ j
fields_of-injective i j p q e same =
    let a = are_of i in
    sym (form_is i (fields_of i) a.opcode a.dst a.src (imm_in (second_of i)) p refl a.opcode_is a.dst_is a.src_is refl)
    ∙ form_is j (fields_of i) a.opcode a.dst a.src (imm_in (second_of i)) q (sym e) a.opcode_is a.dst_is a.src_is (ap imm_in same)
