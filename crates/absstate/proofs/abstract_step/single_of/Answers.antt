use Rattle.std.proofs.Common.{rules}
use Rattle.absstate.proofs.abstract_step.single_of.Goals as goal

pub returns-then-lo-hi : goal.returns-then-lo-hi
returns-then-lo-hi c = search rules
