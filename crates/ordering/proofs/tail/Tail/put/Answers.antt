use Rattle.std.proofs.Common.{List, sym, subst}
use Rattle.insn.specs.declared.instruction.Insn.{Insn}
use Rattle.ordering.specs.Tails.{tail_list, bridged, HasPlace}
use Rattle.ordering.proofs.Placing.{bridges, has_place}
use Rattle.ordering.proofs.tail.Tail.put.Goals as goal

pub put_jump-requires-clause-taken : goal.put_jump-requires-clause-taken
put_jump-requires-clause-taken c =
    let rest : List Insn = tail_list c.args.self.now in
    subst (λ (l : List Insn). HasPlace l c.args.insn c.args.taken) (sym c.in_ok-bridge_if.ensures.list)
    (has_place rest (bridged rest c.args.next) c.args.insn c.args.taken (bridges rest c.args.next c.requires.next).extends c.requires.taken)
