use Rattle.std.proofs.Common.{◌≡◌}
use Rattle.std.specs.Prelude.{map}
use Rattle.absstate.specs.AbstractStates.{raised_value}
use Rattle.absstate.proofs.Raising.{map_from}
use Rattle.absstate.proofs.abstract_state.raise.Given as goal

abbrev pub invariant-loop-i : goal.invariant-loop-i
invariant-loop-i g l = map_from (raised_value l.id l.least) l.i l.values ≡ map (raised_value l.id l.least) l.initial.values
