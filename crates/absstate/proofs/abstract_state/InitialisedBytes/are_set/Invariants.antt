use Rattle.std.proofs.Common.{◌≡◌, ◌-◌}
use Rattle.absstate.specs.AbstractStates.{are_marked}
use Rattle.absstate.proofs.abstract_state.InitialisedBytes.are_set.Given as goal

abbrev pub invariant-loop-i : goal.invariant-loop-i
invariant-loop-i l = are_marked l.self l.index l.n ≡ are_marked l.self l.i (l.i-end - l.i)
