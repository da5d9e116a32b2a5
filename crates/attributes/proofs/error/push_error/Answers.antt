use Rattle.std.proofs.Common.{rules}
use Rattle.attributes.proofs.error.push_error.Goals as goal

pub returns-clause-appends : goal.returns-clause-appends
returns-clause-appends c = search rules
