use Rattle.std.proofs.Common.{rules}
use Rattle.tables.proofs.moment.moment_of.Goals as goal

pub returns : goal.returns
returns c = search rules
