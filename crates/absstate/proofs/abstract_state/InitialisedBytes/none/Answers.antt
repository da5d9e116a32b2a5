use Rattle.std.proofs.Common.{refl}
use Rattle.absstate.specs.AbstractStates.{no_marks}
use Rattle.absstate.proofs.abstract_state.InitialisedBytes.none.Goals as goal

pub returns : goal.returns
unfolding no_marks
returns c = refl
