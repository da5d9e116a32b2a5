use Rattle.std.proofs.Common.{rules}
use Rattle.absstate.proofs.branching.places_fork.Goals as goal

pub returns : goal.returns
returns g c = search rules
