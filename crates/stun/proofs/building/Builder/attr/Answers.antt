use Rattle.std.proofs.Common.{rules}
use Rattle.stun.proofs.building.Builder.attr.Goals as goal

pub returns-clause-appends : goal.returns-clause-appends
returns-clause-appends c = search rules
