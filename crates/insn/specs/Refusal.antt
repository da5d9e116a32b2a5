-- Meaning. Why bytes encode no program: the first fault from the left, and its text.
use Rattle.std.specs.Prelude.{◌≡◌, ◌≢◌, ℕ, ◌*◌, ◌/◌, ◌%◌, ◌<◌, ◌≤◌, List, ◌++◌, length, slice_index, codes, decimal}
use Rattle.insn.specs.Opcode.{byte_of, IsOpcode}
use Rattle.insn.specs.declared.opcode.Opcode.TheVariants.{LoadImm}
use Rattle.insn.specs.Encoding.{encoding, encodings, slot_count, Fits, AllFit}
use Rattle.insn.specs.declared.decoding.TheConstants.{MAX_SLOTS}
use Rattle.insn.specs.declared.instruction.Insn.{Insn}
use Rattle.insn.specs.declared.refusal.SlotError.{SlotError}
use Rattle.insn.specs.declared.refusal.SlotError.TheVariants as fault
use Rattle.insn.specs.declared.refusal.DecodeError.{DecodeError}
use Rattle.insn.specs.declared.refusal.DecodeError.TheVariants.{Empty, NotEights, TooLong, Opcode, Register, UnusedField, WideCut, Memory}

-- both numbers of the register byte are registers
abbrev pub HasRegisters : List ℕ → Type 0
HasRegisters bytes = (slice_index bytes 1 % 16 ≤ 10) × (slice_index bytes 1 / 16 ≤ 10)

-- the first slot is that of an instruction that takes two
abbrev pub IsWide : List ℕ → Type 0
IsWide bytes = slice_index bytes 0 ≡ byte_of LoadImm

-- the fault of the instruction that begins the bytes: each one where none before it holds
abbrev pub HasFault : List ℕ → SlotError → Type 0
HasFault bytes fault.Opcode = IsOpcode (slice_index bytes 0) → ⊥
HasFault bytes fault.Register = IsOpcode (slice_index bytes 0) × (HasRegisters bytes → ⊥)
HasFault bytes fault.WideCut = IsWide bytes × HasRegisters bytes × (length bytes < 16)
HasFault bytes fault.UnusedField = IsOpcode (slice_index bytes 0) × HasRegisters bytes × (IsWide bytes → 16 ≤ length bytes)
    × ((i : Insn) (rest : List ℕ) → Fits i → bytes ≢ encoding i ++ rest)

-- after whole instructions of n slots comes a slot that has the fault
pub record FirstFault (bytes : List ℕ) (n : ℕ) (fault : SlotError) : Type 0 where
  pub front : List Insn
  pub rest : List ℕ
  pub fit : AllFit front
  pub slots : slot_count front ≡ n
  pub parts : bytes ≡ encodings front ++ rest
  pub more : 0 < length rest
  pub faulty : HasFault rest fault

-- the fault of the slot n, as the refusal of the bytes
abbrev pub refusal_at : SlotError → ℕ → DecodeError
refusal_at fault.Opcode n = Opcode n
refusal_at fault.Register n = Register n
refusal_at fault.WideCut n = WideCut n
refusal_at fault.UnusedField n = UnusedField n

-- the bytes have a first fault, and this is its refusal
abbrev pub IsFaulty : List ℕ → DecodeError → Type 0
IsFaulty bytes e = (n : ℕ) × (f : SlotError) × (e ≡ refusal_at f n) × FirstFault bytes n f

-- whole slots, 1 to 4,096 of them
pub record IsWhole (bytes : List ℕ) : Type 0 where
  pub some : 0 < length bytes
  pub eights : length bytes % 8 ≡ 0
  pub few : length bytes ≤ 8 * MAX_SLOTS

-- the refusals in their order
abbrev pub IsRefused : List ℕ → DecodeError → Type 0
IsRefused bytes Empty = length bytes ≡ 0
IsRefused bytes NotEights = length bytes % 8 ≢ 0
IsRefused bytes TooLong = (length bytes % 8 ≡ 0) × (8 * MAX_SLOTS < length bytes)
IsRefused bytes (Opcode n) = IsWhole bytes × FirstFault bytes n fault.Opcode
IsRefused bytes (Register n) = IsWhole bytes × FirstFault bytes n fault.Register
IsRefused bytes (UnusedField n) = IsWhole bytes × FirstFault bytes n fault.UnusedField
IsRefused bytes (WideCut n) = IsWhole bytes × FirstFault bytes n fault.WideCut
IsRefused bytes Memory = ⊥

-- the text of a refusal: its code, and the slot where it has one
abbrev pub decode_error_text : DecodeError → List ℕ
decode_error_text Empty = codes "E1"
decode_error_text NotEights = codes "E2"
decode_error_text TooLong = codes "E3"
decode_error_text (Opcode slot) = codes "E4 at " ++ decimal slot
decode_error_text (Register slot) = codes "E5 at " ++ decimal slot
decode_error_text (UnusedField slot) = codes "E6 at " ++ decimal slot
decode_error_text (WideCut slot) = codes "E7 at " ++ decimal slot
decode_error_text Memory = codes "E8"
