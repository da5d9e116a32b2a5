use Rattle.std.proofs.Common.{rules}
use Rattle.absstate.proofs.loading.field_known.Goals as goal

pub returns-in-Side : goal.returns-in-Side
returns-in-Side c = search rules
