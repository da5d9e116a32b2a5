use Rattle.std.proofs.Common.{List, ℕ, sym, subst, rules}
use Rattle.insn.specs.declared.instruction.Insn.{Insn}
use Rattle.verifier.specs.Layout.{HasGoodJumps}
use Rattle.ordering.specs.Orders.{KeepsMeaningBy, HasNoLoop}
use Rattle.ordering.specs.declared.places.Places.TheVariants.{Kept}
use Rattle.ordering.specs.Searches.{ArePlaces}
use Rattle.ordering.specs.Tails.{tail_list}
use Rattle.ordering.proofs.Forwards.{has_good_jumps, keeps_itself}
use Rattle.ordering.proofs.Loops.{none_forward, none_placed}
use Rattle.ordering.proofs.Meaning.{keeps_meaning}
use Rattle.ordering.proofs.pass.order_with_places.Goals as goal

pub returns-then-is_forward-clause-meaning : goal.returns-then-is_forward-clause-meaning
returns-then-is_forward-clause-meaning c =
    let jumps : HasGoodJumps c.args.code.now = search rules in
    subst (KeepsMeaningBy Kept c.args.code.now) (sym c.in_ok-from_slice.ensures.items) (keeps_itself c.args.code.now jumps)

pub returns-then-is_forward-clause-loopless : goal.returns-then-is_forward-clause-loopless
returns-then-is_forward-clause-loopless c =
    let jumps : HasGoodJumps c.args.code.now = search rules in
    none_forward c.args.code.now jumps

pub returns-clause-forward : goal.returns-clause-forward
returns-clause-forward c =
    subst HasGoodJumps (sym c.in_ok-into_order.ensures.code)
    (has_good_jumps (tail_list c.in_ok-ordered.field-0.tail) c.in_ok-ordered.ensures.ok.0.jumps)

pub returns-clause-meaning : goal.returns-clause-meaning
returns-clause-meaning c =
    let search = c.in_ok-ordered.field-0 in
    let found = c.in_ok-into_order.field-0 in
    subst (KeepsMeaningBy found.places c.args.code.now) (sym c.in_ok-into_order.ensures.code)
    (subst (λ (code : List Insn). KeepsMeaningBy found.places code (tail_list search.tail)) c.in_ok-program.ensures
    (keeps_meaning c.in_ok-program.program (tail_list search.tail) search.marks.items c.in_ok-ordered.ensures.ok.1 found.places
    (subst (λ (n : ℕ). ArePlaces n search.marks.items found.places) c.in_ok-ordered.ensures.ok.0.count c.in_ok-into_order.ensures.places)))

pub returns-clause-loopless : goal.returns-clause-loopless
returns-clause-loopless c =
    let search = c.in_ok-ordered.field-0 in
    subst HasNoLoop c.in_ok-program.ensures
    (none_placed c.in_ok-program.program (tail_list search.tail) search.marks.items c.in_ok-ordered.ensures.ok.1)
