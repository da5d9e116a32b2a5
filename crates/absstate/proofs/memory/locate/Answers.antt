use Rattle.std.proofs.Common.{rules}
use Rattle.absstate.specs.AbstractSteps.{access_region}
use Rattle.absstate.proofs.memory.locate.Goals as goal

pub returns-in-End-clause-region : goal.returns-in-End-clause-region
unfolding access_region
returns-in-End-clause-region g c = search rules

pub returns-in-Data-clause-region : goal.returns-in-Data-clause-region
unfolding access_region
returns-in-Data-clause-region g c = search rules
