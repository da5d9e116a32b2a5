use Rattle.std.proofs.Common.{rules}
use Rattle.absstate.proofs.branching.data_implies.Goals as goal

pub returns-in-Gt : goal.returns-in-Gt
returns-in-Gt c = search rules
