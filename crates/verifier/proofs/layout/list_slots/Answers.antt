use Rattle.std.proofs.Common.{take, sym, arith}
use Rattle.insn.specs.declared.decoding.TheConstants.{MAX_SLOTS}
use Rattle.verifier.proofs.Slots.{none_yet, has_room, at_after, lists_after}
use Rattle.verifier.proofs.layout.list_slots.Goals as goal

pub loop-insn-init : goal.loop-insn-init
loop-insn-init c = record { at = omega arith; lists = λ slot. none_yet MAX_SLOTS slot }

pub put_slots-at-requires : goal.put_slots-at-requires
put_slots-at-requires c = has_room _ _ _ _ _ c.loop-insn.invariant.at c.loop-insn-test.true (omega (arith, c.requires, c.loop-insn-test.array_long))

pub loop-insn-preserved : goal.loop-insn-preserved
loop-insn-preserved c =
    record {
      at = at_after _ _ _ _ _ c.put_slots-at.ensures.next c.loop-insn.invariant.at c.loop-insn-test.true;
      lists = lists_after _ _ _ _ (c.put_slots-at.ensures.put (take c.loop-insn.insn-index c.args.code.now) (sym c.loop-insn.invariant.at) c.loop-insn.invariant.lists) c.loop-insn-test.true;
    }
