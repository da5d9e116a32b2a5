use Rattle.std.proofs.Common.{rules}
use Rattle.absstate.proofs.branching.fork.Goals as goal

pub returns-in-Scalar-Scalar : goal.returns-in-Scalar-Scalar
returns-in-Scalar-Scalar g c = search rules
