use Rattle.std.proofs.Common.{rules}
use Rattle.control.proofs.responding.refused_credentials.Goals as goal

pub returns-in-Incomplete : goal.returns-in-Incomplete
returns-in-Incomplete c = search rules
