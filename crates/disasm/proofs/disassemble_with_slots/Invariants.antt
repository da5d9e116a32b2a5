use Rattle.std.proofs.Common.{◌≡◌, string_bytes, take}
use Rattle.insn.specs.Encoding.{slot_count}
use Rattle.disasm.specs.Slots.{listing_with_slots}
use Rattle.disasm.proofs.disassemble_with_slots.Given as goal

abbrev pub invariant-loop-insn : goal.invariant-loop-insn
invariant-loop-insn l = record {
  text : string_bytes l.text ≡ listing_with_slots (take l.insn-index l.code);
  slot : l.slot ≡ slot_count (take l.insn-index l.code);
}
