use Rattle.std.proofs.Common.{rules}
use Rattle.absstate.proofs.loading.number_of_size.Goals as goal

pub returns-in-Half : goal.returns-in-Half
returns-in-Half c = search rules
