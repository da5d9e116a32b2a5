-- Instructions of one slot and of two: which opcode has a second slot, and what it is.
use Rattle.std.proofs.Common.{◌≡◌, ℕ, ◌+◌, ◌*◌, ◌/◌, ◌^◌, ◌<◌, ◌≤◌, Bool, true, false, List, [], ◌++◌, length, take, drop, Option, Some, None, refl, sym, ap, ◌∙◌, arith, append_assoc, FitsSigned}
use Rattle.std.specs.Int.{w32, cast_signed}
use Rattle.std.proofs.Math.Facts.{sfits_to_z}
use Rattle.std.proofs.lemmas.Bool.{false≢true}
use Rattle.std.proofs.lemmas.List.{take-append-drop}
use Rattle.insn.specs.Opcode.{byte_of}
use Rattle.insn.specs.Fields.{HaveRoom, of_imm, slot_bytes}
use Rattle.insn.specs.Encoding.{high_half, fields_of, second_of, optional_bytes, encoding, optional_slots, slots_of, Fits}
use Rattle.insn.specs.Forms.{HasSecond}
use Rattle.insn.specs.declared.fields.Fields.{Fields}
use Rattle.insn.specs.declared.opcode.Opcode.{Opcode}
use Rattle.insn.specs.declared.opcode.Opcode.TheVariants as opcode
use Rattle.insn.specs.declared.instruction.Insn.{Insn}
use Rattle.insn.specs.declared.instruction.Insn.TheVariants.{Alu, Mov, Neg, SignExtend, Swap, Jump, LongJump, JumpIf, Load, LoadSigned, Store, LoadImm, Call, Exit}
use Rattle.insn.proofs.Unique.{are_of, byte_of-injective, fields_of-injective}
use Rattle.insn.proofs.Slots.{slot_bytes-injective}

pub is_wide : Opcode → Bool
is_wide opcode.LoadImm = true
is_wide _ = false

-- an instruction of one slot, or LDDW with its second one
pub data Slots (i : Insn) : Type 0 where
  narrow : is_wide (are_of i).opcode ≡ false → second_of i ≡ None → Slots i
  wide : (are_of i).opcode ≡ opcode.LoadImm → (g : Fields) → second_of i ≡ Some g → HaveRoom g → Slots i

pub half_fits : (n : ℕ) → n < 2 ^ 32 → FitsSigned w32 (cast_signed w32 n)
half_fits n lt = sfits_to_z (record { fits = lt })

pub slots_in : (i : Insn) → Fits i → Slots i
unfolding are_of is_wide
slots_in (LoadImm dst value) fits =
    wide refl (of_imm (high_half value)) refl (record { opcode = omega arith; dst = omega arith; src = omega arith; offset = record { sfits = omega arith }; imm = half_fits (value / 2 ^ 32) (omega arith) })
slots_in (Alu w op dst x) fits = narrow refl refl
slots_in (Mov w dst x) fits = narrow refl refl
slots_in (Neg w dst) fits = narrow refl refl
slots_in (SignExtend e dst src) fits = narrow refl refl
slots_in (Swap op z dst) fits = narrow refl refl
slots_in (Jump distance) fits = narrow refl refl
slots_in (LongJump distance) fits = narrow refl refl
slots_in (JumpIf w c dst x distance) fits = narrow refl refl
slots_in (Load z dst base displacement) fits = narrow refl refl
slots_in (LoadSigned z dst base displacement) fits = narrow refl refl
slots_in (Store z base x displacement) fits = narrow refl refl
slots_in (Call helper) fits = narrow refl refl
slots_in Exit fits = narrow refl refl

not_both : (o : Opcode) → is_wide o ≡ false → o ≡ opcode.LoadImm → ⊥
unfolding is_wide
not_both o isnt is = false≢true (sym isnt ∙ ap is_wide is)

-- the opcode of an instruction's fields
opcode_in : (i : Insn) (o : Opcode) → byte_of o ≡ (fields_of i).opcode → (are_of i).opcode ≡ o
opcode_in i o e = byte_of-injective (are_of i).opcode o ((are_of i).opcode_is ∙ sym e)

none_after : (o : Opcode) (rest : List ℕ) (s : Option Fields) → HasSecond o rest s → (o ≡ opcode.LoadImm → ⊥) → s ≡ None
none_after o rest None has not = refl
none_after o rest (Some f) has not = absurd (not has.0)

some_after : (o : Opcode) (rest other : List ℕ) (s : Option Fields) (g : Fields) → HasSecond o rest s → o ≡ opcode.LoadImm → HaveRoom g → rest ≡ slot_bytes g ++ other → Some g ≡ s
some_after o rest other None g has wide_is room is = absurd (has wide_is)
some_after o rest other (Some f) g has wide_is room is =
    let same : slot_bytes f ++ [] ≡ slot_bytes g ++ [] = has.3 ∙ ap (take 8) is in
    ap Some (sym (slot_bytes-injective f g [] [] has.1 room same).0)

-- bytes after the first slot begin with the second one that the opcode asks for, and with no other
pub second_is : (i : Insn) (o : Opcode) (rest other : List ℕ) (s : Option Fields) → Fits i → byte_of o ≡ (fields_of i).opcode → HasSecond o rest s → rest ≡ optional_bytes (second_of i) ++ other → second_of i ≡ s
second_is i o rest other s fits e has is = elim (slots_in i fits) [
  | narrow isnt none ↦ none ∙ sym (none_after o rest s has (λ load. not_both (are_of i).opcode isnt (opcode_in i o e ∙ load)))
  | wide is_load g some room ↦ some ∙ some_after o rest other s g has (sym (opcode_in i o e) ∙ is_load) room (is ∙ ap (λ (t : Option Fields). optional_bytes t ++ other) some)
]

-- what the bytes hold after a second slot
pub after_second : (o : Opcode) (rest : List ℕ) (s : Option Fields) → HasSecond o rest s → (other : List ℕ) × (rest ≡ optional_bytes s ++ other)
after_second o rest None has = (rest, refl)
after_second o rest (Some f) has = (drop 8 rest, sym (take-append-drop 8 rest) ∙ ap (λ (b : List ℕ). b ++ drop 8 rest) (sym has.3))

-- an instruction with the opcode of LDDW has two slots
pub length-wide : (i : Insn) → Fits i → (fields_of i).opcode ≡ byte_of opcode.LoadImm → length (encoding i) ≡ 16
length-wide i fits e = elim (slots_in i fits) [
  | narrow isnt none ↦ absurd (not_both (are_of i).opcode isnt (opcode_in i opcode.LoadImm (sym e)))
  | wide is_load g some room ↦ ap (λ (s : Option Fields). length (slot_bytes (fields_of i) ++ optional_bytes s)) some
]

length-slots : (f : Fields) (s : Option Fields) → length (slot_bytes f ++ optional_bytes s) ≡ 8 * (1 + optional_slots s)
length-slots f None = refl
length-slots f (Some g) = refl

pub length-encoding : (i : Insn) → length (encoding i) ≡ 8 * slots_of i
length-encoding i = length-slots (fields_of i) (second_of i)

optional_slots_small : (s : Option Fields) → optional_slots s ≤ 1
optional_slots_small None = omega arith
optional_slots_small (Some g) = omega arith

-- an instruction takes one slot or two
pub slots_small : (i : Insn) → slots_of i ≤ 2
slots_small i = omega (arith, optional_slots_small (second_of i))

-- two instructions with one opcode have one second slot, or none both
same_second : (i j : Insn) (r s : List ℕ) → Fits i → Fits j → (are_of i).opcode ≡ (are_of j).opcode → optional_bytes (second_of i) ++ r ≡ optional_bytes (second_of j) ++ s → (second_of i ≡ second_of j) × (r ≡ s)
same_second i j r s p q e is = elim (slots_in i p) [
  | narrow isnt none ↦ elim (slots_in j q) [
    | narrow isnt' none' ↦ (none ∙ sym none', sym (ap (λ (t : Option Fields). optional_bytes t ++ r) none) ∙ is ∙ ap (λ (t : Option Fields). optional_bytes t ++ s) none')
    | wide is_load' g' some' room' ↦ absurd (not_both (are_of i).opcode isnt (e ∙ is_load'))
  ]
  | wide is_load g some room ↦ elim (slots_in j q) [
    | narrow isnt' none' ↦ absurd (not_both (are_of j).opcode isnt' (sym e ∙ is_load))
    | wide is_load' g' some' room' ↦
        let bytes_are : slot_bytes g ++ r ≡ slot_bytes g' ++ s = sym (ap (λ (t : Option Fields). optional_bytes t ++ r) some) ∙ is ∙ ap (λ (t : Option Fields). optional_bytes t ++ s) some' in
        let both = slot_bytes-injective g g' r s room room' bytes_are in
        (some ∙ ap Some both.0 ∙ sym some', both.1)
  ]
]

-- no encoding begins another
pub encoding-injective : (i j : Insn) (r s : List ℕ) → HaveRoom (fields_of i) → HaveRoom (fields_of j) → Fits i → Fits j → encoding i ++ r ≡ encoding j ++ s → (i ≡ j) × (r ≡ s)
encoding-injective i j r s room_i room_j p q e =
    let first = slot_bytes-injective (fields_of i) (fields_of j) (optional_bytes (second_of i) ++ r) (optional_bytes (second_of j) ++ s) room_i room_j
    (sym (append_assoc (slot_bytes (fields_of i)) (optional_bytes (second_of i)) r) ∙ e ∙ append_assoc (slot_bytes (fields_of j)) (optional_bytes (second_of j)) s) in
    let opcodes_are : (are_of i).opcode ≡ (are_of j).opcode = opcode_in i (are_of j).opcode ((are_of j).opcode_is ∙ sym (ap (λ (f : Fields). f.opcode) first.0)) in
    let second = same_second i j r s p q opcodes_are first.1 in
    (fields_of-injective i j p q first.0 second.0, second.1)
