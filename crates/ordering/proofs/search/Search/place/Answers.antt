use Rattle.std.proofs.Common.{ℕ, ◌<◌, List, length, sym, subst, rules, arith}
use Rattle.std.specs.Prelude.{slice_set}
use Rattle.insn.specs.Encoding.{slot_count}
use Rattle.insn.specs.declared.decoding.TheConstants.{MAX_SLOTS}
use Rattle.insn.specs.declared.instruction.Insn.{Insn}
use Rattle.ordering.specs.Orders.{IsOrderFault}
use Rattle.ordering.specs.Searches.{path_of, IsSearch}
use Rattle.ordering.specs.Tails.{tail_list}
use Rattle.ordering.specs.declared.search.Mark.TheVariants.{Placed}
use Rattle.ordering.proofs.Fitting.{fits_at}
use Rattle.ordering.proofs.BranchTargets.{visit_inside}
use Rattle.ordering.proofs.Placing.{taken_place, next_place}
use Rattle.ordering.proofs.Searching.{left, no_room}
use Rattle.ordering.proofs.search.Search.place.Goals as goal

pub put-requires-clause-fits : goal.put-requires-clause-fits
put-requires-clause-fits c = fits_at c.args.program.now c.args.at.slot c.args.at.insn c.requires.fit c.requires.visits.search.chain.0

pub put-requires-clause-taken : goal.put-requires-clause-taken
put-requires-clause-taken c =
    taken_place c.args.program.now c.args.self.now.marks.items (tail_list c.args.self.now.tail) c.args.at c.requires.visits.search.placed c.args.taken c.requires.taken

pub put-requires-clause-next : goal.put-requires-clause-next
put-requires-clause-next c =
    next_place c.args.program.now c.args.self.now.marks.items (tail_list c.args.self.now.tail) c.args.at c.requires.visits.search.placed c.args.next c.requires.next

pub returns-clause-ok : goal.returns-clause-ok
returns-clause-ok c =
    let marks = c.args.self.now.marks.items in
    let path = path_of c.args.self.now in
    let lt : c.args.at.slot < length marks = omega (arith, visit_inside c.args.program.now c.args.at MAX_SLOTS c.requires.visits.search.chain.0 c.requires.few, c.requires.visits.search.count) in
    record {
      tail = c.in_ok-place.ensures.tail;
      search = subst (λ (n : ℕ). IsSearch c.args.program.now (slice_set marks c.args.at.slot (Placed n)) path (tail_list c.put.new.self)) (sym c.in_ok-place.ensures.place)
          (subst (λ (l : List Insn). IsSearch c.args.program.now (slice_set marks c.args.at.slot (Placed (slot_count l))) path l) (sym c.in_ok-place.ensures.list)
          (left c.args.program.now marks c.args.at path (tail_list c.args.self.now.tail) c.requires.visits.search c.args.taken c.args.next c.requires.taken c.requires.next lt));
    }

pub returns-in_err-place-clause-err : goal.returns-in_err-place-clause-err
returns-in_err-place-clause-err c =
    let marks = c.args.self.now.marks.items in
    let lt : c.args.at.slot < length marks = omega (arith, visit_inside c.args.program.now c.args.at MAX_SLOTS c.requires.visits.search.chain.0 c.requires.few, c.requires.visits.search.count) in
    let fault : IsOrderFault c.args.program.now c.in_err-place.field-0.0 =
    no_room c.args.program.now marks c.args.at (path_of c.args.self.now) (tail_list c.args.self.now.tail) c.requires.visits.search lt c.args.taken c.args.next c.in_err-place.field-0.0 c.in_err-place.ensures.err in
    search (rules, fault)
