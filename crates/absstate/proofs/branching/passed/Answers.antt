use Rattle.std.proofs.Common.{rules}
use Rattle.absstate.proofs.branching.passed.Goals as goal

pub returns : goal.returns
returns g c = search rules
