use Rattle.std.proofs.Common.{rules}
use Rattle.stun.specs.Building.{building_parts}
use Rattle.stun.proofs.building.Builder.written.Goals as goal

pub returns-clause-bytes : goal.returns-clause-bytes
unfolding building_parts
returns-clause-bytes c = search rules
