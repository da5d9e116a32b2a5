use Rattle.std.proofs.Common.{length}
use Rattle.absstate.proofs.packed.+first_uncovered.Given as goal

abbrev pub decreases-first_uncovered : goal.decreases-first_uncovered
decreases-first_uncovered g l = length l.values.now
