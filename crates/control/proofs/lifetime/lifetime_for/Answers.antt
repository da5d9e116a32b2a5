use Rattle.std.proofs.Common.{rules}
use Rattle.control.proofs.lifetime.lifetime_for.Goals as goal

pub returns-in-Some : goal.returns-in-Some
returns-in-Some c = search rules
