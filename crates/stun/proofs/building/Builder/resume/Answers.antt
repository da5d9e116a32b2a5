use Rattle.std.proofs.Common.{refl}
use Rattle.stun.proofs.building.Builder.resume.Goals as goal

pub returns-clause-bytes : goal.returns-clause-bytes
returns-clause-bytes c = refl

pub returns-clause-parts : goal.returns-clause-parts
returns-clause-parts c = refl

pub returns-clause-used : goal.returns-clause-used
returns-clause-used c = refl
