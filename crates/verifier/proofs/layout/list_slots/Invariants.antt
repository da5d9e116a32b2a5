use Rattle.std.proofs.Common.{◌≡◌, take}
use Rattle.insn.specs.Encoding.{slot_count}
use Rattle.verifier.specs.Layout.{ListsSlots}
use Rattle.verifier.proofs.layout.list_slots.Given as goal

abbrev pub invariant-loop-insn : goal.invariant-loop-insn
invariant-loop-insn l =
    record {
      at : l.at ≡ slot_count (take l.insn-index l.code);
      lists : ListsSlots (take l.insn-index l.code) l.slots;
    }
