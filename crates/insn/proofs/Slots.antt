-- The fields of a slot are those of its bytes, and of no other.
use Rattle.std.proofs.Common.{◌≡◌, ℕ, zero, suc, ◌+◌, ◌*◌, ◌/◌, ◌%◌, ◌<◌, ◌≤◌, ◌^◌, List, [], ◌∷◌, ◌++◌, length, take, drop, slice_index, true, nat_eq, ◌&&◌, rules, subst, refl, sym, ap, ◌∙◌, arith, ℤ, pos, negsuc, FitsSigned, Option, Some, None}
use mir.Val.{bits}
use Rattle.std.specs.Int as int
use Rattle.std.specs.Int.{w16, w32, cast_unsigned, cast_signed}
use Rattle.std.specs.Ordering.{int_eq}
use Rattle.std.proofs.lemmas.Bool.{eq-eqb}
use Rattle.std.proofs.lemmas.Cmp.{int_eq_equiv}
use Rattle.std.proofs.lemmas.Int.{of_z-to_z, to_z-of_z}
use Rattle.byteorder.specs.Endian.{little_bytes, little_number}
use Rattle.byteorder.specs.Numbers.{little_number-reads_back}
use Rattle.insn.specs.Fields.{HaveRoom, slot_bytes}
use Rattle.insn.specs.Encoding.{Fits}
use Rattle.insn.specs.Forms.{extension, move_insn, form}
use Rattle.insn.specs.declared.width.Width.{Width}
use Rattle.insn.specs.declared.width.Width.TheVariants.{W32, W64}
use Rattle.insn.specs.declared.operator.Extension.{Extension}
use Rattle.insn.specs.declared.fields.Fields.{Fields}
use Rattle.insn.specs.declared.register.Reg.{Reg}
use Rattle.insn.specs.declared.opcode.OperandSource.TheVariants as source
use Rattle.insn.specs.declared.opcode.Opcode.{Opcode}
use Rattle.insn.specs.declared.opcode.Opcode.TheVariants as opcode

-- the low and the high four bits of a byte
halves : (b : ℕ) → b % 16 + 16 * (b / 16) ≡ b
halves b = omega arith

-- the two numbers after the register byte, as their bytes
bytes_of_2 : (n c d : ℕ) → c < 256 → d < 256 → n ≡ c + 256 * d → little_bytes 2 n ≡ c ∷ d ∷ []
bytes_of_2 n c d hc hd e =
    let low : n % 256 ≡ c = omega arith in
    let high : n / 256 % 256 ≡ d = omega arith in
    λ i. low i ∷ high i ∷ []

bytes_of_4 : (n c d e f : ℕ) → c < 256 → d < 256 → e < 256 → f < 256 → n ≡ c + 256 * (d + 256 * (e + 256 * f)) → little_bytes 4 n ≡ c ∷ d ∷ e ∷ f ∷ []
bytes_of_4 n c d e f hc hd he hf q =
    let b0 : n % 256 ≡ c = omega arith in
    let b1 : n / 256 % 256 ≡ d = omega arith in
    let b2 : n / 65536 % 256 ≡ e = omega arith in
    let b3 : n / 16777216 % 256 ≡ f = omega arith in
    λ i. b0 i ∷ b1 i ∷ b2 i ∷ b3 i ∷ []

-- a number that is stored and passed on keeps its bits
bits_through : (w : int.Width) (n k : ℕ) → n ≡ k → n < 2 ^ bits w → (z : ℤ) → z ≡ cast_signed w n → cast_unsigned w (cast_signed w (cast_unsigned w z)) ≡ k
bits_through w n k e fits z is =
    ap (λ (y : ℤ). cast_unsigned w (cast_signed w (cast_unsigned w y))) is ∙ ap (λ (m : ℕ). cast_unsigned w (cast_signed w m)) (of_z-to_z w n fits) ∙ of_z-to_z w n fits ∙ e

slot_is_here : (bytes : List ℕ) (offset imm : ℤ) → 8 ≤ length bytes → ((k : ℕ) → slice_index bytes k < 256)
    → offset ≡ cast_signed w16 (little_number 2 (drop 2 bytes)) → imm ≡ cast_signed w32 (little_number 4 (drop 2 (drop 2 bytes)))
    → slice_index bytes 0 ∷ (slice_index bytes 1 % 16 + 16 * (slice_index bytes 1 / 16)) ∷ little_bytes 2 (cast_unsigned w16 (cast_signed w16 (cast_unsigned w16 offset))) ++ little_bytes 4 (cast_unsigned w32 (cast_signed w32 (cast_unsigned w32 imm))) ≡ take 8 bytes
slot_is_here [] offset imm long fits eo ei = absurd (omega arith)
slot_is_here (b0 ∷ []) offset imm long fits eo ei = absurd (omega arith)
slot_is_here (b0 ∷ b1 ∷ []) offset imm long fits eo ei = absurd (omega arith)
slot_is_here (b0 ∷ b1 ∷ b2 ∷ []) offset imm long fits eo ei = absurd (omega arith)
slot_is_here (b0 ∷ b1 ∷ b2 ∷ b3 ∷ []) offset imm long fits eo ei = absurd (omega arith)
slot_is_here (b0 ∷ b1 ∷ b2 ∷ b3 ∷ b4 ∷ []) offset imm long fits eo ei = absurd (omega arith)
slot_is_here (b0 ∷ b1 ∷ b2 ∷ b3 ∷ b4 ∷ b5 ∷ []) offset imm long fits eo ei = absurd (omega arith)
slot_is_here (b0 ∷ b1 ∷ b2 ∷ b3 ∷ b4 ∷ b5 ∷ b6 ∷ []) offset imm long fits eo ei = absurd (omega arith)
slot_is_here (b0 ∷ b1 ∷ b2 ∷ b3 ∷ b4 ∷ b5 ∷ b6 ∷ b7 ∷ rest) offset imm long fits eo ei =
    let h2 : b2 < 256 = fits 2 in
    let h3 : b3 < 256 = fits 3 in
    let h4 : b4 < 256 = fits 4 in
    let h5 : b5 < 256 = fits 5 in
    let h6 : b6 < 256 = fits 6 in
    let h7 : b7 < 256 = fits 7 in
    let n : ℕ = little_number 2 (b2 ∷ b3 ∷ b4 ∷ b5 ∷ b6 ∷ b7 ∷ rest) in
    let m : ℕ = little_number 4 (b4 ∷ b5 ∷ b6 ∷ b7 ∷ rest) in
    let n_is : n ≡ b2 + 256 * b3 = omega arith in
    let m_is : m ≡ b4 + 256 * (b5 + 256 * (b6 + 256 * b7)) = omega arith in
    let n_fits : n < 2 ^ 16 = omega arith in
    let m_fits : m < 2 ^ 32 = omega arith in
    let kept_offset : ℕ = cast_unsigned w16 (cast_signed w16 (cast_unsigned w16 offset)) in
    let kept_imm : ℕ = cast_unsigned w32 (cast_signed w32 (cast_unsigned w32 imm)) in
    let offset_is : kept_offset ≡ b2 + 256 * b3 = bits_through w16 n (b2 + 256 * b3) n_is n_fits offset eo in
    let imm_is : kept_imm ≡ b4 + 256 * (b5 + 256 * (b6 + 256 * b7)) = bits_through w32 m (b4 + 256 * (b5 + 256 * (b6 + 256 * b7))) m_is m_fits imm ei in
    let register_is = halves b1 in
    let offset_bytes = bytes_of_2 kept_offset b2 b3 h2 h3 offset_is in
    let imm_bytes = bytes_of_4 kept_imm b4 b5 b6 b7 h4 h5 h6 h7 imm_is in
    λ i. b0 ∷ register_is i ∷ offset_bytes i ++ imm_bytes i

-- offset and imm as they are read from the bytes, and then kept
pub slot_is : (bytes numbers last : List ℕ) (offset imm : ℤ) → 8 ≤ length bytes → ((k : ℕ) → slice_index bytes k < 256)
    → numbers ≡ drop 2 bytes → last ≡ drop 2 numbers
    → offset ≡ cast_signed w16 (little_number 2 numbers) → imm ≡ cast_signed w32 (little_number 4 last)
    → slice_index bytes 0 ∷ (slice_index bytes 1 % 16 + 16 * (slice_index bytes 1 / 16)) ∷ little_bytes 2 (cast_unsigned w16 (cast_signed w16 (cast_unsigned w16 offset))) ++ little_bytes 4 (cast_unsigned w32 (cast_signed w32 (cast_unsigned w32 imm))) ≡ take 8 bytes
slot_is bytes numbers last offset imm long fits en el eo ei =
    slot_is_here bytes offset imm long fits (eo ∙ ap (λ (b : List ℕ). cast_signed w16 (little_number 2 b)) en) (ei ∙ ap (λ (b : List ℕ). cast_signed w32 (little_number 4 b)) (el ∙ ap (drop 2) en))

-- the bits of a number that fits
bits_of_2 : (z : ℤ) → FitsSigned w16 z → cast_unsigned w16 z < 256 ^ 2
bits_of_2 (pos n) fits = let h = fits.sfits in omega arith
bits_of_2 (negsuc n) fits = let h = fits.sfits in omega arith

bits_of_4 : (z : ℤ) → FitsSigned w32 z → cast_unsigned w32 z < 256 ^ 4
bits_of_4 (pos n) fits = let h = fits.sfits in omega arith
bits_of_4 (negsuc n) fits = let h = fits.sfits in omega arith

same_number : (n : ℕ) (x y : ℕ) → x < 256 ^ n → y < 256 ^ n → little_bytes n x ≡ little_bytes n y → x ≡ y
same_number n x y hx hy e =
    sym (little_number-reads_back n x [] hx) ∙ ap (λ (b : List ℕ). little_number n (b ++ [])) e ∙ little_number-reads_back n y [] hy

-- an instruction made of fields fits as they do
move_fits : (w : Width) (d s : Reg) (e : Option Extension) → Fits (move_insn w d s e)
move_fits w d s (Some e) = tt
move_fits w d s None = tt

pub form_fits : (o : Opcode) (d s : Reg) (offset imm high : ℤ) → FitsSigned w16 offset → FitsSigned w32 imm → FitsSigned w32 high → Fits (form o d s offset imm high)
form_fits (opcode.Alu w c source.Imm) d s offset imm high p q r = q
form_fits (opcode.Alu w c source.Reg) d s offset imm high p q r = tt
form_fits (opcode.Mov w source.Imm) d s offset imm high p q r = q
form_fits (opcode.Mov w source.Reg) d s offset imm high p q r = move_fits w d s (extension w offset)
form_fits (opcode.Neg w) d s offset imm high p q r = tt
form_fits (opcode.Swap op) d s offset imm high p q r = tt
form_fits (opcode.Jump W32) d s offset imm high p q r = q
form_fits (opcode.Jump W64) d s offset imm high p q r = p
form_fits (opcode.JumpIf w c source.Imm) d s offset imm high p q r = (q, p)
form_fits (opcode.JumpIf w c source.Reg) d s offset imm high p q r = (tt, p)
form_fits opcode.Call d s offset imm high p q r = q
form_fits opcode.Exit d s offset imm high p q r = tt
form_fits (opcode.Load z) d s offset imm high p q r = p
form_fits (opcode.LoadSigned z) d s offset imm high p q r = p
form_fits (opcode.Store z source.Imm) d s offset imm high p q r = (q, p)
form_fits (opcode.Store z source.Reg) d s offset imm high p q r = (tt, p)
form_fits opcode.LoadImm d s offset imm high p q r = omega (arith, bits_of_4 imm q, bits_of_4 high r)

-- ---- the code's `==` on fields

int_self : (z : ℤ) → int_eq z z ≡ true
int_self z = search (rules, int_eq_equiv)

pub same_fields : (f g : Fields) → f ≡ g → nat_eq f.opcode g.opcode && (nat_eq f.dst g.dst && (nat_eq f.src g.src && (int_eq f.offset g.offset && int_eq f.imm g.imm))) ≡ true
same_fields f g e =
    subst (λ (h : Fields). nat_eq f.opcode h.opcode && (nat_eq f.dst h.dst && (nat_eq f.src h.src && (int_eq f.offset h.offset && int_eq f.imm h.imm))) ≡ true) e
    (rw (eq-eqb f.opcode f.opcode refl, eq-eqb f.dst f.dst refl, eq-eqb f.src f.src refl, int_self f.offset, int_self f.imm) refl)

-- ---- no two slots have the same bytes

little_bytes_length : (x y : ℕ) (r s : List ℕ) → little_bytes 2 x ++ r ≡ little_bytes 2 y ++ s → (little_bytes 2 x ≡ little_bytes 2 y) × (r ≡ s)
little_bytes_length x y r s e = (ap (take 2) e, ap (drop 2) e)

-- the first bytes of two slots, whatever follows them
pub slot_bytes-injective : (f g : Fields) (r s : List ℕ) → HaveRoom f → HaveRoom g → slot_bytes f ++ r ≡ slot_bytes g ++ s → (f ≡ g) × (r ≡ s)
slot_bytes-injective f g r s p q e =
    let opcode_is : f.opcode ≡ g.opcode = ap (λ (b : List ℕ). slice_index b 0) e in
    let register_is : f.dst + 16 * f.src ≡ g.dst + 16 * g.src = ap (λ (b : List ℕ). slice_index b 1) e in
    let fd = p.dst in
    let gd = q.dst in
    let dst_is : f.dst ≡ g.dst = omega arith in
    let src_is : f.src ≡ g.src = omega arith in
    let offset_bytes : little_bytes 2 (cast_unsigned w16 f.offset) ≡ little_bytes 2 (cast_unsigned w16 g.offset) = ap (λ (b : List ℕ). take 2 (drop 2 b)) e in
    let imm_bytes : little_bytes 4 (cast_unsigned w32 f.imm) ≡ little_bytes 4 (cast_unsigned w32 g.imm) = ap (λ (b : List ℕ). take 4 (drop 4 b)) e in
    let offset_bits = same_number 2 (cast_unsigned w16 f.offset) (cast_unsigned w16 g.offset) (bits_of_2 f.offset p.offset) (bits_of_2 g.offset q.offset) offset_bytes in
    let imm_bits = same_number 4 (cast_unsigned w32 f.imm) (cast_unsigned w32 g.imm) (bits_of_4 f.imm p.imm) (bits_of_4 g.imm q.imm) imm_bytes in
    let offset_is : f.offset ≡ g.offset = sym (to_z-of_z w16 f.offset p.offset) ∙ ap (cast_signed w16) offset_bits ∙ to_z-of_z w16 g.offset q.offset in
    let imm_is : f.imm ≡ g.imm = sym (to_z-of_z w32 f.imm p.imm) ∙ ap (cast_signed w32) imm_bits ∙ to_z-of_z w32 g.imm q.imm in
    (λ i. record { opcode = opcode_is i; dst = dst_is i; src = src_is i; offset = offset_is i; imm = imm_is i }, ap (drop 8) e)

-- a bit is 0 or 1
bit_cases : (b : ℕ) → b < 2 → (0 ≡ b → ⊥) → (1 ≡ b → ⊥) → ⊥
bit_cases zero lt p q = p refl
bit_cases (suc zero) lt p q = q refl
bit_cases (suc (suc b)) lt p q = omega arith

pub neither_bit : (n : ℕ) → (0 ≡ n % 2 → ⊥) → (1 ≡ n % 2 → ⊥) → ⊥
neither_bit n p q = bit_cases (n % 2) (omega arith) p q
