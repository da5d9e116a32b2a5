use Rattle.std.proofs.Common.{◌≡◌, ◌-◌}
use Rattle.absstate.specs.AbstractStates.{marks_from}
use Rattle.absstate.proofs.abstract_state.InitialisedBytes.set_all.Given as goal

abbrev pub invariant-loop-i : goal.invariant-loop-i
invariant-loop-i l = marks_from l.self l.i (l.i-end - l.i) ≡ marks_from l.initial.self l.index l.fn.n
