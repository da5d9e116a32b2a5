use Rattle.std.proofs.Common.{rules}
use Rattle.absstate.proofs.abstract_step.moved.Goals as goal

pub returns : goal.returns
returns c = search rules
