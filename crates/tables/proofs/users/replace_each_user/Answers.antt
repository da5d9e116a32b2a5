use Rattle.std.proofs.Common.{None, ◌<◌, length, get_or, ap, ◌∙◌, arith, option_and_then}
use Rattle.std.proofs.lemmas.List.{length-set, get_or_default}
use Rattle.std.proofs.lemmas.List.Edits.{map_over_more}
use Rattle.tables.specs.Users.{held_of_user}
use Rattle.tables.specs.NewUsers.{user_after}
use Rattle.tables.proofs.users.replace_each_user.Goals as goal

pub loop-slot-preserved : goal.loop-slot-preserved
loop-slot-preserved c =
    let slots = c.args.slots.now.items in
    let i = c.loop-slot.slot in
    let left = option_and_then (held_of_user (user_after c.args.users)) in
    let inside : i < length c.loop-slot.slots.items = omega (arith, c.loop-slot-test.true, c.len-slot-end.ensures, c.loop-slot.invariant.long) in
    let x = get_or c.loop-slot.slots.items i None in
    record {
      long = ap length c.replace_user.ensures ∙ length-set c.loop-slot.slots.items i (left x) ∙ c.loop-slot.invariant.long;
      replaced = c.replace_user.ensures ∙ map_over_more left slots c.loop-slot.slots.items i x (omega (arith, c.loop-slot-test.true, c.len-slot-end.ensures)) c.loop-slot.invariant.replaced (get_or_default c.loop-slot.slots.items i None x inside);
    }
