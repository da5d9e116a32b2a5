use Rattle.std.proofs.Common.{rules}
use Rattle.absstate.proofs.branching.end_implies.Goals as goal

pub returns-in-Ge : goal.returns-in-Ge
returns-in-Ge c = search rules
