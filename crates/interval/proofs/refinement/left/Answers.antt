use Rattle.std.proofs.Common.{rules}
use Rattle.interval.proofs.refinement.left.Goals as goal

pub returns-in-Fails : goal.returns-in-Fails
returns-in-Fails c = search rules
