use Rattle.std.proofs.Common.{rules}
use Rattle.absstate.proofs.abstract_state.AbsState.change.Goals as goal

pub returns-in-Numbers : goal.returns-in-Numbers
returns-in-Numbers c = search rules
