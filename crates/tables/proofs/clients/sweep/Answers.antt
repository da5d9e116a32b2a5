use Rattle.std.proofs.Common.{None, ◌<◌, length, get_or, ap, ◌∙◌, arith}
use Rattle.std.proofs.lemmas.List.{length-set, get_or_default}
use Rattle.std.proofs.lemmas.List.Edits.{map_over_more}
use Rattle.tables.specs.Stored.{left_at}
use Rattle.tables.proofs.clients.sweep.Goals as goal

pub loop-slot-preserved : goal.loop-slot-preserved
loop-slot-preserved c =
    let slots = c.args.slots.now.items in
    let i = c.loop-slot.slot in
    let inside : i < length c.loop-slot.slots.items = omega (arith, c.loop-slot-test.true, c.len-slot-end.ensures, c.loop-slot.invariant.long) in
    let x = get_or c.loop-slot.slots.items i None in
    record {
      long = ap length c.sweep_slot.ensures ∙ length-set c.loop-slot.slots.items i (left_at c.args.moment x) ∙ c.loop-slot.invariant.long;
      swept = c.sweep_slot.ensures ∙ map_over_more (left_at c.args.moment) slots c.loop-slot.slots.items i x (omega (arith, c.loop-slot-test.true, c.len-slot-end.ensures)) c.loop-slot.invariant.swept (get_or_default c.loop-slot.slots.items i None x inside);
    }
