use Rattle.std.proofs.Common.{◌≡◌, ◌-◌, ◌*◌}
use Rattle.absstate.specs.AbstractStates.{unmarked_from}
use Rattle.absstate.proofs.abstract_state.InitialisedBytes.unset_group.Given as goal

abbrev pub invariant-loop-i : goal.invariant-loop-i
invariant-loop-i l = unmarked_from l.self l.i (l.i-end - l.i) ≡ unmarked_from l.initial.self (8 * l.fn.group) 8
