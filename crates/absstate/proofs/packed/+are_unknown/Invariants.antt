use Rattle.std.proofs.Common.{length}
use Rattle.absstate.proofs.packed.+are_unknown.Given as goal

abbrev pub decreases-are_unknown : goal.decreases-are_unknown
decreases-are_unknown g l = length l.values.now
