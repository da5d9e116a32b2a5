use Rattle.std.proofs.Common.{rules}
use Rattle.stun.proofs.building.Builder.push.Goals as goal

pub returns-clause-appends : goal.returns-clause-appends
returns-clause-appends g c = search rules
