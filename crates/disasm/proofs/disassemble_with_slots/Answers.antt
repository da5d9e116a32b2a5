use Rattle.std.proofs.Common.{◌≡◌, ◌++◌, arith, get_or, string_bytes}
use Rattle.std.proofs.lemmas.Grind.{common_steps}
use Rattle.insn.specs.declared.instruction.Insn.TheVariants.{Exit}
use Rattle.disasm.specs.Slots.{line_with_slot}
use Rattle.disasm.proofs.Slots.{next_slot, next_text, slot_fits}
use Rattle.disasm.proofs.disassemble_with_slots.Goals as goal

pub overflow_add-slot : goal.overflow_add-slot
overflow_add-slot c =
    let loop = c.loop-insn in
    slot_fits c.args.code.now loop.insn-index _ loop.slot c.slots.result loop.invariant.slot c.requires c.slots.ensures

pub loop-insn-preserved : goal.loop-insn-preserved
loop-insn-preserved c =
    let code = c.args.code.now in
    let loop = c.loop-insn in
    let insn = get_or code loop.insn-index Exit in
    let within = c.loop-insn-test.true in
    let listed = loop.invariant in
    let old = string_bytes loop.text in
    let new = string_bytes c.writeln.new.self in
    let written : new ≡ old ++ line_with_slot loop.slot insn = grind (arith, common_steps) in
    record {
      text = next_text code loop.insn-index Exit loop.slot old new within listed.slot listed.text written;
      slot = next_slot code loop.insn-index _ loop.slot c.slots.result within listed.slot c.slots.ensures;
    }
