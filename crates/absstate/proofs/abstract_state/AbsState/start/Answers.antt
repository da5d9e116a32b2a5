use Rattle.std.proofs.Common.{rules}
use Rattle.absstate.specs.AbstractStates.{no_marks, no_groups}
use Rattle.absstate.proofs.abstract_state.AbsState.start.Goals as goal

pub returns : goal.returns
unfolding no_marks no_groups
returns c = search rules
