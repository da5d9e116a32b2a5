use Rattle.std.proofs.Common.{length}
use Rattle.absstate.proofs.margins.+margins_of.Given as goal

abbrev pub decreases-margins_of : goal.decreases-margins_of
decreases-margins_of g l = length l.values.now
