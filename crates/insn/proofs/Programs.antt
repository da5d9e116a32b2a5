-- Whole programs: their encodings, and the first fault of bytes.
use Rattle.std.proofs.Common.{◌≡◌, ℕ, ◌+◌, ◌*◌, ◌/◌, ◌%◌, ◌^◌, ◌<◌, ◌≤◌, ◌⊎◌, inl, inr, List, [], ◌∷◌, ◌++◌, length, take, drop, slice_index, refl, sym, ap, ◌∙◌, subst, arith, append_assoc, pos, FitsSigned, ℤ, Option, Some, None}
use Rattle.std.specs.Int.{w16, w32}
use Rattle.std.specs.Prelude.{IfOk, IfErr, IsErrAnd, MatchResult, Result, Ok, Err}
use Rattle.std.specs.Global.{Vec}
use Rattle.std.proofs.lemmas.List.{length-append, length-drop, append-nil, get_or-take, take-append-drop, nil_from_length}
use Rattle.std.proofs.Math.Seq.{take-append_seam}
use Rattle.insn.specs.Codes.{code_of, offset_of, extension_offset, swap_bits}
use Rattle.insn.specs.Words.{target_of}
use Rattle.insn.specs.Register.{number_of}
use Rattle.insn.specs.Opcode.{byte_of, IsOpcode}
use Rattle.insn.specs.Fields.{HaveRoom, slot_bytes}
use Rattle.insn.specs.Encoding.{source_of, src_of, imm_of, low_half, fields_of, second_of, optional_bytes, encoding, slots_of, OperandFits, Fits, AllFit, encodings, slot_count, Encodes}
use Rattle.insn.specs.Refusal.{HasRegisters, IsWide, HasFault, FirstFault, refusal_at, IsFaulty, IsWhole, IsRefused}
use Rattle.insn.specs.Forms.{form, imm_in, HasHead, LacksHead, HasSecond, IsForm, LacksForm}
use Rattle.insn.specs.declared.decoding.Head.{Head}
use Rattle.insn.specs.declared.fields.Fields.{Fields}
use Rattle.insn.specs.declared.width.Width.TheVariants.{W32, W64}
use Rattle.insn.specs.declared.register.Reg.{Reg}
use Rattle.insn.specs.declared.register.Reg.TheVariants as reg
use Rattle.insn.specs.declared.operator.AluOp.{AluOp}
use Rattle.insn.specs.declared.operator.AluOp.TheVariants as operators
use Rattle.insn.specs.declared.operator.Extension.{Extension}
use Rattle.insn.specs.declared.operator.Extension.TheVariants.{ByteTo32, HalfTo32, ByteTo64, HalfTo64, WordTo64}
use Rattle.insn.specs.declared.size.SwapSize.{SwapSize}
use Rattle.insn.specs.declared.size.SwapSize.TheVariants as swap
use Rattle.insn.specs.declared.opcode.OperandSource.TheVariants as source
use Rattle.insn.specs.declared.opcode.Opcode.{Opcode}
use Rattle.insn.specs.declared.opcode.Opcode.TheVariants as opcode
use Rattle.insn.specs.declared.instruction.Operand.{Operand}
use Rattle.insn.specs.declared.instruction.Operand.TheVariants as operand
use Rattle.insn.specs.declared.instruction.Insn.{Insn}
use Rattle.insn.specs.declared.instruction.Insn.TheVariants.{Alu, Mov, Neg, SignExtend, Swap, Jump, LongJump, JumpIf, Load, LoadSigned, Store, LoadImm, Call, Exit}
use Rattle.insn.specs.declared.refusal.SlotError.{SlotError}
use Rattle.insn.specs.declared.refusal.SlotError.TheVariants as fault
use Rattle.insn.specs.declared.refusal.DecodeError.{DecodeError}
use Rattle.insn.specs.declared.refusal.DecodeError.TheVariants as error
use Rattle.insn.proofs.Unique.{number_small, byte_small, byte_of-injective, are_of, form_is}
use Rattle.insn.proofs.Slots.{slot_bytes-injective}
use Rattle.insn.proofs.TwoSlots as two
use Rattle.insn.proofs.TwoSlots.{half_fits, length-wide, length-encoding, slots_small, second_is, after_second}

-- ---- one instruction

src_small : (o : Operand) → src_of o ≤ 10
src_small (operand.Reg r) = number_small r
src_small (operand.Imm n) = omega arith

imm_fits : (o : Operand) → OperandFits o → FitsSigned w32 (imm_of o)
imm_fits (operand.Reg r) fits = record { sfits = omega arith }
imm_fits (operand.Imm n) fits = fits

zero16 : FitsSigned w16 (pos 0)
zero16 = record { sfits = omega arith }

zero32 : FitsSigned w32 (pos 0)
zero32 = record { sfits = omega arith }

-- of fields with the same numbers, those of an opcode and of registers have room for them
room_for : (o : Opcode) (d : Reg) (src : ℕ) (offset imm : ℤ) → src ≤ 10 → FitsSigned w16 offset → FitsSigned w32 imm → HaveRoom (record { opcode = byte_of o; dst = number_of d; src = src; offset = offset; imm = imm })
room_for o d src offset imm small p q = record { opcode = byte_small o; dst = omega (arith, number_small d); src = omega arith; offset = p; imm = q }

offset_fits : (op : AluOp) → FitsSigned w16 (offset_of op)
offset_fits operators.SignedDiv = record { sfits = omega arith }
offset_fits operators.SignedMod = record { sfits = omega arith }
offset_fits operators.Add = zero16
offset_fits operators.Sub = zero16
offset_fits operators.Mul = zero16
offset_fits operators.Div = zero16
offset_fits operators.Or = zero16
offset_fits operators.And = zero16
offset_fits operators.Lsh = zero16
offset_fits operators.Rsh = zero16
offset_fits operators.Mod = zero16
offset_fits operators.Xor = zero16
offset_fits operators.Arsh = zero16

extension_fits : (e : Extension) → FitsSigned w16 (extension_offset e)
extension_fits ByteTo32 = record { sfits = omega arith }
extension_fits HalfTo32 = record { sfits = omega arith }
extension_fits ByteTo64 = record { sfits = omega arith }
extension_fits HalfTo64 = record { sfits = omega arith }
extension_fits WordTo64 = record { sfits = omega arith }

swap_fits : (z : SwapSize) → FitsSigned w32 (swap_bits z)
swap_fits swap.Half = record { sfits = omega arith }
swap_fits swap.Word = record { sfits = omega arith }
swap_fits swap.Double = record { sfits = omega arith }

pub have_room : (i : Insn) → Fits i → HaveRoom (fields_of i)
have_room (Alu w op dst o) fits = room_for (opcode.Alu w (code_of op) (source_of o)) dst (src_of o) (offset_of op) (imm_of o) (src_small o) (offset_fits op) (imm_fits o fits)
have_room (Mov w dst o) fits = room_for (opcode.Mov w (source_of o)) dst (src_of o) (pos 0) (imm_of o) (src_small o) zero16 (imm_fits o fits)
have_room (Neg w dst) fits = room_for (opcode.Neg w) dst 0 (pos 0) (pos 0) (omega arith) zero16 zero32
have_room (SignExtend e dst src) fits = room_for (opcode.Mov (target_of e) source.Reg) dst (number_of src) (extension_offset e) (pos 0) (number_small src) (extension_fits e) zero32
have_room (Swap op z dst) fits = room_for (opcode.Swap op) dst 0 (pos 0) (swap_bits z) (omega arith) zero16 (swap_fits z)
have_room (Jump distance) fits = room_for (opcode.Jump W64) reg.R0 0 distance (pos 0) (omega arith) fits zero32
have_room (LongJump distance) fits = room_for (opcode.Jump W32) reg.R0 0 (pos 0) distance (omega arith) zero16 fits
have_room (JumpIf w c dst o distance) fits = room_for (opcode.JumpIf w c (source_of o)) dst (src_of o) distance (imm_of o) (src_small o) fits.1 (imm_fits o fits.0)
have_room (Load z dst base displacement) fits = room_for (opcode.Load z) dst (number_of base) displacement (pos 0) (number_small base) fits zero32
have_room (LoadSigned z dst base displacement) fits = room_for (opcode.LoadSigned z) dst (number_of base) displacement (pos 0) (number_small base) fits zero32
have_room (Store z base o displacement) fits = room_for (opcode.Store z (source_of o)) base (src_of o) displacement (imm_of o) (src_small o) fits.1 (imm_fits o fits.0)
have_room (LoadImm dst value) fits = room_for opcode.LoadImm dst 0 (pos 0) (low_half value) (omega arith) zero16 (half_fits (value % 2 ^ 32) (omega arith))
have_room (Call helper) fits = room_for opcode.Call reg.R0 0 (pos 0) helper (omega arith) zero16 fits
have_room Exit fits = room_for opcode.Exit reg.R0 0 (pos 0) (pos 0) (omega arith) zero16 zero32

-- no encoding begins another
pub encoding-injective : (i j : Insn) (r s : List ℕ) → Fits i → Fits j → encoding i ++ r ≡ encoding j ++ s → (i ≡ j) × (r ≡ s)
encoding-injective i j r s p q e = two.encoding-injective i j r s (have_room i p) (have_room j q) p q e

-- a slot with a fault begins no instruction
registers_of : (i : Insn) → ((fields_of i).dst ≤ 10) × ((fields_of i).src ≤ 10)
registers_of i =
    let a = are_of i in
    let dst : (fields_of i).dst ≤ 10 = subst (λ (n : ℕ). n ≤ 10) a.dst_is (number_small a.dst) in
    let src : (fields_of i).src ≤ 10 = subst (λ (n : ℕ). n ≤ 10) a.src_is (number_small a.src) in
    (dst, src)

nibbles : (n m b : ℕ) → n ≤ 10 → m ≤ 10 → b ≡ n + 16 * m → (b % 16 ≤ 10) × (b / 16 ≤ 10)
nibbles n m b p q e = (omega arith, omega arith)

pub fault_is_no_encoding : (f : SlotError) (bytes rest : List ℕ) (i : Insn) → HasFault bytes f → Fits i → bytes ≡ encoding i ++ rest → ⊥
fault_is_no_encoding fault.Opcode bytes rest i faulty fits e =
    let a = are_of i in
    faulty (a.opcode, a.opcode_is ∙ sym (ap (λ (b : List ℕ). slice_index b 0) e))
fault_is_no_encoding fault.Register bytes rest i faulty fits e =
    let small = registers_of i in
    let byte_is : slice_index bytes 1 ≡ (fields_of i).dst + 16 * (fields_of i).src = ap (λ (b : List ℕ). slice_index b 1) e in
    faulty.1 (nibbles (fields_of i).dst (fields_of i).src (slice_index bytes 1) small.0 small.1 byte_is)
fault_is_no_encoding fault.WideCut bytes rest i faulty fits e =
    let opcode_is : (fields_of i).opcode ≡ byte_of opcode.LoadImm = sym (ap (λ (b : List ℕ). slice_index b 0) e) ∙ faulty.0 in
    omega (arith, faulty.2, ap length e, length-append (encoding i) rest, length-wide i fits opcode_is)
fault_is_no_encoding fault.UnusedField bytes rest i faulty fits e = faulty.3 i rest fits e

fault_unique : (bytes : List ℕ) (f g : SlotError) → HasFault bytes f → HasFault bytes g → f ≡ g
fault_unique bytes fault.Opcode fault.Opcode p q = refl
fault_unique bytes fault.Opcode fault.Register p q = absurd (p q.0)
fault_unique bytes fault.Opcode fault.WideCut p q = absurd (p (opcode.LoadImm, sym q.0))
fault_unique bytes fault.Opcode fault.UnusedField p q = absurd (p q.0)
fault_unique bytes fault.Register fault.Opcode p q = absurd (q p.0)
fault_unique bytes fault.Register fault.Register p q = refl
fault_unique bytes fault.Register fault.WideCut p q = absurd (p.1 q.1)
fault_unique bytes fault.Register fault.UnusedField p q = absurd (p.1 q.1)
fault_unique bytes fault.WideCut fault.Opcode p q = absurd (q (opcode.LoadImm, sym p.0))
fault_unique bytes fault.WideCut fault.Register p q = absurd (q.1 p.1)
fault_unique bytes fault.WideCut fault.WideCut p q = refl
fault_unique bytes fault.WideCut fault.UnusedField p q = absurd (omega (arith, p.2, q.2 p.0))
fault_unique bytes fault.UnusedField fault.Opcode p q = absurd (q p.0)
fault_unique bytes fault.UnusedField fault.Register p q = absurd (q.1 p.1)
fault_unique bytes fault.UnusedField fault.WideCut p q = absurd (omega (arith, q.2, p.2 q.0))
fault_unique bytes fault.UnusedField fault.UnusedField p q = refl

-- ---- whole programs

pub length-encodings : (code : List Insn) → length (encodings code) ≡ 8 * slot_count code
length-encodings [] = refl
length-encodings (i ∷ code) = omega (arith, length-append (encoding i) (encodings code), length-encoding i, length-encodings code)

pub encodings-push : (code : List Insn) (i : Insn) (rest : List ℕ) → encodings (code ++ i ∷ []) ++ rest ≡ encodings code ++ (encoding i ++ rest)
encodings-push [] i rest = ap (λ (b : List ℕ). b ++ rest) (append-nil (encoding i))
encodings-push (j ∷ code) i rest =
    append_assoc (encoding j) (encodings (code ++ i ∷ [])) rest ∙ ap (λ (b : List ℕ). encoding j ++ b) (encodings-push code i rest) ∙ sym (append_assoc (encoding j) (encodings code) (encoding i ++ rest))

pub slot_count-push : (code : List Insn) (i : Insn) → slot_count (code ++ i ∷ []) ≡ slot_count code + slots_of i
slot_count-push [] i = omega arith
slot_count-push (j ∷ code) i = omega (arith, slot_count-push code i)

pub AllFit-push : (code : List Insn) (i : Insn) → AllFit code → Fits i → AllFit (code ++ i ∷ [])
AllFit-push [] i all fits = (fits, tt)
AllFit-push (j ∷ code) i all fits = (all.0, AllFit-push code i all.1 fits)

pub encodings-injective : (p q : List Insn) → AllFit p → AllFit q → encodings p ≡ encodings q → p ≡ q
encodings-injective [] [] all other e = refl
encodings-injective [] (j ∷ q) all other e = absurd (omega (arith, ap length e, length-append (encoding j) (encodings q)))
encodings-injective (i ∷ p) [] all other e = absurd (omega (arith, ap length e, length-append (encoding i) (encodings p)))
encodings-injective (i ∷ p) (j ∷ q) all other e =
    let first = encoding-injective i j (encodings p) (encodings q) all.0 other.0 e in
    let others = encodings-injective p q all.1 other.1 first.1 in
    λ k. first.0 k ∷ others k

-- two first faults are at one place
faults_meet : (p q : List Insn) (r s : List ℕ) (f g : SlotError) → AllFit p → AllFit q → HasFault r f → HasFault s g → encodings p ++ r ≡ encodings q ++ s → (slot_count p ≡ slot_count q) × (r ≡ s)
faults_meet [] [] r s f g all other hf hg e = (refl, e)
faults_meet [] (j ∷ q) r s f g all other hf hg e = absurd (fault_is_no_encoding f r (encodings q ++ s) j hf other.0 (e ∙ append_assoc (encoding j) (encodings q) s))
faults_meet (i ∷ p) [] r s f g all other hf hg e = absurd (fault_is_no_encoding g s (encodings p ++ r) i hg all.0 (sym e ∙ append_assoc (encoding i) (encodings p) r))
faults_meet (i ∷ p) (j ∷ q) r s f g all other hf hg e =
    let first = encoding-injective i j (encodings p ++ r) (encodings q ++ s) all.0 other.0 (sym (append_assoc (encoding i) (encodings p) r) ∙ e ∙ append_assoc (encoding j) (encodings q) s) in
    let others = faults_meet p q r s f g all.1 other.1 hf hg first.1 in
    ((λ k. slots_of (first.0 k) + others.0 k), others.1)

first_fault_unique : (bytes : List ℕ) (n m : ℕ) (f g : SlotError) → FirstFault bytes n f → FirstFault bytes m g → refusal_at f n ≡ refusal_at g m
first_fault_unique bytes n m f g p q =
    let met = faults_meet p.front q.front p.rest q.rest f g p.fit q.fit p.faulty q.faulty (sym p.parts ∙ q.parts) in
    let slots : n ≡ m = sym p.slots ∙ met.0 ∙ q.slots in
    let faults : f ≡ g = fault_unique p.rest f g p.faulty (subst (λ (b : List ℕ). HasFault b g) (sym met.1) q.faulty) in
    λ k. refusal_at (faults k) (slots k)

-- bytes with a first fault are no program
first_fault_is_no_program : (p q : List Insn) (r : List ℕ) (f : SlotError) → AllFit p → AllFit q → HasFault r f → 0 < length r → encodings p ++ r ≡ encodings q → ⊥
first_fault_is_no_program [] [] r f all other hf more e = omega (arith, ap length e)
first_fault_is_no_program [] (j ∷ q) r f all other hf more e = fault_is_no_encoding f r (encodings q) j hf other.0 e
first_fault_is_no_program (i ∷ p) [] r f all other hf more e = omega (arith, ap length e, length-append (encoding i ++ encodings p) r, length-append (encoding i) (encodings p))
first_fault_is_no_program (i ∷ p) (j ∷ q) r f all other hf more e =
    let first = encoding-injective i j (encodings p ++ r) (encodings q) all.0 other.0 (sym (append_assoc (encoding i) (encodings p) r) ∙ e) in
    first_fault_is_no_program p q r f all.1 other.1 hf more first.1

-- ---- refusals

-- what a refusal says
data Shape (bytes : List ℕ) (e : DecodeError) : Type 0 where
  empty : e ≡ error.Empty → length bytes ≡ 0 → Shape bytes e
  not_eights : e ≡ error.NotEights → (length bytes % 8 ≡ 0 → ⊥) → Shape bytes e
  too_long : e ≡ error.TooLong → length bytes % 8 ≡ 0 → 8 * 4096 < length bytes → Shape bytes e
  faulty : (n : ℕ) (f : SlotError) → e ≡ refusal_at f n → IsWhole bytes → FirstFault bytes n f → Shape bytes e

shape_of : (bytes : List ℕ) (e : DecodeError) → IsRefused bytes e → Shape bytes e
shape_of bytes error.Empty h = empty refl h
shape_of bytes error.NotEights h = not_eights refl h
shape_of bytes error.TooLong h = too_long refl h.0 h.1
shape_of bytes (error.Opcode n) h = faulty n fault.Opcode refl h.0 h.1
shape_of bytes (error.Register n) h = faulty n fault.Register refl h.0 h.1
shape_of bytes (error.UnusedField n) h = faulty n fault.UnusedField refl h.0 h.1
shape_of bytes (error.WideCut n) h = faulty n fault.WideCut refl h.0 h.1
shape_of bytes error.Memory h = absurd h

zero_eights : (n : ℕ) → n ≡ 0 → n % 8 ≡ 0
zero_eights n e = omega arith

shapes_agree : (bytes : List ℕ) (d e : DecodeError) → Shape bytes d → Shape bytes e → d ≡ e
shapes_agree bytes d e (empty a p) (empty b q) = a ∙ sym b
shapes_agree bytes d e (empty a p) (not_eights b q) = absurd (q (zero_eights (length bytes) p))
shapes_agree bytes d e (empty a p) (too_long b q r) = absurd (omega arith)
shapes_agree bytes d e (empty a p) (faulty n f b q r) = absurd (omega (arith, q.some))
shapes_agree bytes d e (not_eights a p) (empty b q) = absurd (p (zero_eights (length bytes) q))
shapes_agree bytes d e (not_eights a p) (not_eights b q) = a ∙ sym b
shapes_agree bytes d e (not_eights a p) (too_long b q r) = absurd (p q)
shapes_agree bytes d e (not_eights a p) (faulty n f b q r) = absurd (p q.eights)
shapes_agree bytes d e (too_long a p o) (empty b q) = absurd (omega arith)
shapes_agree bytes d e (too_long a p o) (not_eights b q) = absurd (q p)
shapes_agree bytes d e (too_long a p o) (too_long b q r) = a ∙ sym b
shapes_agree bytes d e (too_long a p o) (faulty n f b q r) = absurd (omega (arith, q.few))
shapes_agree bytes d e (faulty m g a o p) (empty b q) = absurd (omega (arith, o.some))
shapes_agree bytes d e (faulty m g a o p) (not_eights b q) = absurd (q o.eights)
shapes_agree bytes d e (faulty m g a o p) (too_long b q r) = absurd (omega (arith, o.few))
shapes_agree bytes d e (faulty m g a o p) (faulty n f b q r) = a ∙ first_fault_unique bytes m n g f p r ∙ sym b

pub refusal_unique : (bytes : List ℕ) (d e : DecodeError) → IsRefused bytes d → IsRefused bytes e → d ≡ e
refusal_unique bytes d e p q = shapes_agree bytes d e (shape_of bytes d p) (shape_of bytes e q)

eight_times : (n m : ℕ) → n ≡ 8 * m → n % 8 ≡ 0
eight_times n m e = omega arith

shape_is_no_program : (bytes : List ℕ) (e : DecodeError) (code : List Insn) → Shape bytes e → Encodes code bytes → ⊥
shape_is_no_program bytes e code (empty a p) encodes = omega (arith, encodes.some, ap length encodes.spelled, length-encodings code)
shape_is_no_program bytes e code (not_eights a p) encodes = p (eight_times (length bytes) (slot_count code) (ap length encodes.spelled ∙ length-encodings code))
shape_is_no_program bytes e code (too_long a p q) encodes = omega (arith, encodes.few, ap length encodes.spelled, length-encodings code)
shape_is_no_program bytes e code (faulty n f a p q) encodes =
    first_fault_is_no_program q.front code q.rest f q.fit encodes.fit q.faulty q.more (sym q.parts ∙ encodes.spelled)

pub refused_is_no_program : (bytes : List ℕ) (e : DecodeError) (code : List Insn) → IsRefused bytes e → Encodes code bytes → ⊥
refused_is_no_program bytes e code refused encodes = shape_is_no_program bytes e code (shape_of bytes e refused) encodes

at_fault : (bytes : List ℕ) (f : SlotError) (n : ℕ) → IsWhole bytes → FirstFault bytes n f → IsRefused bytes (refusal_at f n)
at_fault bytes fault.Opcode n whole first = (whole, first)
at_fault bytes fault.Register n whole first = (whole, first)
at_fault bytes fault.WideCut n whole first = (whole, first)
at_fault bytes fault.UnusedField n whole first = (whole, first)

pub faulty_is_refused : (bytes : List ℕ) (e : DecodeError) → IsWhole bytes → IsFaulty bytes e → IsRefused bytes e
faulty_is_refused bytes e whole first = subst (IsRefused bytes) (sym first.2) (at_fault bytes first.1 first.0 whole first.3)

-- the code's answer is the program that the bytes encode, if they encode one
pub only_program : (bytes : List ℕ) (r : Result (Vec Insn) DecodeError) → IfOk r (λ v. Encodes v.items bytes) → IfErr r (λ e. (e ≡ error.Memory) ⊎ IsRefused bytes e)
    → (code : List Insn) → Encodes code bytes → MatchResult r (λ v. v.items ≡ code) (λ e. e ≡ error.Memory)
only_program bytes (Ok v) found refused code encodes = encodings-injective v.items code found.fit encodes.fit (sym found.spelled ∙ encodes.spelled)
only_program bytes (Err e) found (inl memory) code encodes = memory
only_program bytes (Err e) found (inr refused) code encodes = absurd (refused_is_no_program bytes e code refused encodes)

-- and its refusal is theirs, if they have one
pub exact_refusal : (bytes : List ℕ) (r : Result (Vec Insn) DecodeError) → IfOk r (λ v. Encodes v.items bytes) → IfErr r (λ e. (e ≡ error.Memory) ⊎ IsRefused bytes e)
    → (e : DecodeError) → IsRefused bytes e → IsErrAnd r (λ f. (f ≡ e) ⊎ (f ≡ error.Memory))
exact_refusal bytes (Ok v) found refused e is = refused_is_no_program bytes e v.items is found
exact_refusal bytes (Err f) found (inl memory) e is = inr memory
exact_refusal bytes (Err f) found (inr refused) e is = inl (refusal_unique bytes f e refused is)

-- ---- one slot, and the loop over all

halves_of : (n m b : ℕ) → n < 16 → n + 16 * m ≡ b → b % 16 ≤ 10 → b / 16 ≤ 10 → (n ≤ 10) × (m ≤ 10)
halves_of n m b p e q r = (omega arith, omega arith)

long_enough : (o : Opcode) (rest : List ℕ) (second : Option Fields) → HasSecond o rest second → o ≡ opcode.LoadImm → 8 ≤ length rest
long_enough o rest None has is = absurd (has is)
long_enough o rest (Some g) has is = has.2

-- an instruction whose slots are not these shows that no instruction has them
pub unused : (rest : List ℕ) (f : Fields) → HaveRoom f → (h : Head) → HasHead f h → (second : Option Fields) → HasSecond h.opcode rest second → (j : Insn) → j ≡ form h.opcode h.dst h.src f.offset f.imm (imm_in second) → (fields_of j ≡ f → second_of j ≡ second → ⊥) → LacksForm h.opcode f rest fault.UnusedField
unused rest f room h head second has j j_is differs = (
  long_enough h.opcode rest second has,
  λ i is.
      let second_are = second_is i h.opcode rest is.other second is.fits (head.opcode ∙ sym (ap (λ (g : Fields). g.opcode) is.fields)) has is.second in
      let same : j ≡ i = j_is ∙ form_is i f h.opcode h.dst h.src (imm_in second) is.fits is.fields head.opcode head.dst head.src (ap imm_in (sym second_are)) in
      differs (ap fields_of same ∙ is.fields) (ap second_of same ∙ second_are),
)

-- the fields of the first slot, with the bytes after it
module _ (bytes rest : List ℕ) (f : Fields) (long : 8 ≤ length bytes) (room : HaveRoom f) (are : slot_bytes f ≡ take 8 bytes) (rest_is : rest ≡ drop 8 bytes) where
  opcode_here : f.opcode ≡ slice_index bytes 0
  opcode_here = ap (λ (b : List ℕ). slice_index b 0) are ∙ get_or-take 8 bytes 0 0 (omega arith)

  byte_here : f.dst + 16 * f.src ≡ slice_index bytes 1
  byte_here = ap (λ (b : List ℕ). slice_index b 1) are ∙ get_or-take 8 bytes 1 0 (omega arith)

  split_here : bytes ≡ slot_bytes f ++ rest
  split_here = sym (take-append-drop 8 bytes) ∙ (λ k. sym are k ++ sym rest_is k)

  longer : length bytes ≡ 8 + length rest
  longer = omega (arith, ap length rest_is, length-drop 8 bytes)

  -- a fault of opcode and registers is the fault of the bytes
  pub head_fault : (e : SlotError) → LacksHead f e → HasFault bytes e
  head_fault fault.Opcode lacks = λ is. lacks (is.0, is.1 ∙ sym opcode_here)
  head_fault fault.Register lacks = ((lacks.0.0, lacks.0.1 ∙ opcode_here), λ h. lacks.1 (halves_of f.dst f.src (slice_index bytes 1) room.dst byte_here h.0 h.1))
  head_fault fault.WideCut lacks = absurd lacks
  head_fault fault.UnusedField lacks = absurd lacks

  module _ (h : Head) (head : HasHead f h) where
    is_opcode : IsOpcode (slice_index bytes 0)
    is_opcode = (h.opcode, head.opcode ∙ opcode_here)

    has_registers : HasRegisters bytes
    has_registers =
        nibbles f.dst f.src (slice_index bytes 1) (subst (λ (n : ℕ). n ≤ 10) head.dst (number_small h.dst)) (subst (λ (n : ℕ). n ≤ 10) head.src (number_small h.src)) (sym byte_here)

    is_load_imm : IsWide bytes → h.opcode ≡ opcode.LoadImm
    is_load_imm wide = byte_of-injective h.opcode opcode.LoadImm (head.opcode ∙ opcode_here ∙ wide)

    begins : (i : Insn) (other : List ℕ) → Fits i → bytes ≡ encoding i ++ other → IsForm i f rest
    begins i other fits e =
        let both = slot_bytes-injective f (fields_of i) rest (optional_bytes (second_of i) ++ other) room (have_room i fits)
        (sym split_here ∙ e ∙ append_assoc (slot_bytes (fields_of i)) (optional_bytes (second_of i)) other) in
        record { fits = fits; fields = sym both.0; other = other; second = both.1 }

    -- and so is a fault of the rest
    pub form_fault : (e : SlotError) → LacksForm h.opcode f rest e → HasFault bytes e
    form_fault fault.Opcode lacks = absurd lacks
    form_fault fault.Register lacks = absurd lacks
    form_fault fault.WideCut lacks = (sym opcode_here ∙ sym head.opcode ∙ ap byte_of lacks.0, has_registers, omega (arith, longer, lacks.1))
    form_fault fault.UnusedField lacks = (is_opcode, has_registers, (λ wide. omega (arith, longer, lacks.0 (is_load_imm wide))), λ i other fits e. lacks.1 i (begins i other fits e))

  -- what is found begins the bytes
  pub form_begins : (i : Insn) → IsForm i f rest → Fits i × (take (8 * slots_of i) bytes ≡ encoding i) × (8 * slots_of i ≤ length bytes)
  form_begins i form =
      let all : bytes ≡ encoding i ++ form.other = split_here ∙ (λ k. slot_bytes (sym form.fields k) ++ form.second k) ∙ sym (append_assoc (slot_bytes (fields_of i)) (optional_bytes (second_of i)) form.other) in
      let count = length-encoding i in
      (form.fits, ap (λ (n : ℕ). take n bytes) (sym count) ∙ ap (take (length (encoding i))) all ∙ take-append_seam (encoding i) form.other, omega (arith, count, ap length all, length-append (encoding i) form.other))

  -- in the answers of the reader of one slot
  pub refused_head : (r : Result Head SlotError) → IfErr r (LacksHead f) → IfErr r (HasFault bytes)
  refused_head (Ok h) lacks = tt
  refused_head (Err e) lacks = head_fault e lacks

  pub refused_slot : (h : Head) → HasHead f h → (r : Result Insn SlotError) → IfErr r (LacksForm h.opcode f rest) → IfErr r (HasFault bytes)
  refused_slot h head (Ok i) lacks = tt
  refused_slot h head (Err e) lacks = form_fault h head e lacks

-- what the decoder's loop keeps: the bytes are the program so far, then the rest
pub record HasRead (bytes : List ℕ) (code : List Insn) (slot : ℕ) (rest : List ℕ) : Type 0 where
  pub fit : AllFit code
  pub slots : slot_count code ≡ slot
  pub parts : bytes ≡ encodings code ++ rest
  pub eights : length rest % 8 ≡ 0

less_slots : (n m k : ℕ) → m + 8 * k ≡ n → n % 8 ≡ 0 → m % 8 ≡ 0
less_slots n m k e h = omega arith

pub at_least_eight : (n : ℕ) → n % 8 ≡ 0 → 0 < n → 8 ≤ n
at_least_eight n h p = omega arith

-- one more instruction
pub HasRead-push : (bytes : List ℕ) (code : List Insn) (slot : ℕ) (rest after : List ℕ) (i : Insn) → HasRead bytes code slot rest → Fits i → take (8 * slots_of i) rest ≡ encoding i → after ≡ drop (8 * slots_of i) rest → 8 * slots_of i ≤ length rest
    → HasRead bytes (code ++ i ∷ []) (slot + slots_of i) after
HasRead-push bytes code slot rest after i read fits is after_is long = record {
  fit = AllFit-push code i read.fit fits;
  slots = slot_count-push code i ∙ ap (λ (n : ℕ). n + slots_of i) read.slots;
  parts = read.parts ∙ ap (λ (r : List ℕ). encodings code ++ r) (sym (take-append-drop (8 * slots_of i) rest) ∙ (λ k. is k ++ sym after_is k)) ∙ sym (encodings-push code i after);
  eights = less_slots (length rest) (length after) (slots_of i) (omega (arith, ap length after_is, length-drop (8 * slots_of i) rest)) read.eights;
}

-- the loop stops at a fault
pub HasRead-fault : (bytes : List ℕ) (code : List Insn) (slot : ℕ) (rest : List ℕ) (f : SlotError) → HasRead bytes code slot rest → 0 < length rest → HasFault rest f → IsFaulty bytes (refusal_at f slot)
HasRead-fault bytes code slot rest f read more fault =
    (slot, f, refl, record { front = code; rest = rest; fit = read.fit; slots = read.slots; parts = read.parts; more = more; faulty = fault })

-- or at the end
pub HasRead-end : (bytes : List ℕ) (code : List Insn) (slot : ℕ) (rest : List ℕ) → HasRead bytes code slot rest → length rest ≤ 0 → AllFit code × (bytes ≡ encodings code)
HasRead-end bytes code slot rest read none =
    let nothing : rest ≡ [] = nil_from_length rest (omega arith) in
    (read.fit, read.parts ∙ ap (λ (r : List ℕ). encodings code ++ r) nothing ∙ append-nil (encodings code))

pub slots_of_bytes : (bytes : List ℕ) (code : List Insn) (slot : ℕ) (rest : List ℕ) → HasRead bytes code slot rest → length bytes ≡ 8 * slot + length rest
slots_of_bytes bytes code slot rest read = omega (arith, ap length read.parts, length-append (encodings code) rest, length-encodings code, read.slots)

-- the answer of the loop is the decoder's, where the bytes have 1 to 4,096 whole slots
pub encodes_whole : (bytes : List ℕ) (code : List Insn) → IsWhole bytes → AllFit code → bytes ≡ encodings code → Encodes code bytes
encodes_whole bytes code whole fit spelled = record {
  fit = fit;
  some = omega (arith, whole.some, ap length spelled, length-encodings code);
  few = omega (arith, whole.few, ap length spelled, length-encodings code);
  spelled = spelled;
}

pub found_whole : (bytes : List ℕ) (r : Result (Vec Insn) DecodeError) → IsWhole bytes → IfOk r (λ v. AllFit v.items × (bytes ≡ encodings v.items)) → IfOk r (λ v. Encodes v.items bytes)
found_whole bytes (Ok v) whole found = encodes_whole bytes v.items whole found.0 found.1
found_whole bytes (Err e) whole found = tt

pub refused_whole : (bytes : List ℕ) (r : Result (Vec Insn) DecodeError) → IsWhole bytes → IfErr r (λ e. (e ≡ error.Memory) ⊎ IsFaulty bytes e) → IfErr r (λ e. (e ≡ error.Memory) ⊎ IsRefused bytes e)
refused_whole bytes (Ok v) whole refused = tt
refused_whole bytes (Err e) whole (inl memory) = inl memory
refused_whole bytes (Err e) whole (inr first) = inr (faulty_is_refused bytes e whole first)

-- what was encoded is what the decoder answers
pub read_back_is : (bytes : List ℕ) (code : List Insn) (r : Result (Vec Insn) DecodeError) → ((p : List Insn) → Encodes p bytes → MatchResult r (λ v. v.items ≡ p) (λ e. e ≡ error.Memory)) → AllFit code → 1 ≤ slot_count code → slot_count code ≤ 4096 → bytes ≡ encodings code
    → MatchResult r (λ v. v.items ≡ code) (λ e. e ≡ error.Memory)
read_back_is bytes code r only fit some few spelled = only code (record { fit = fit; some = some; few = few; spelled = spelled })
