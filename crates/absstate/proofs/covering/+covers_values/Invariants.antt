use Rattle.std.proofs.Common.{length}
use Rattle.absstate.proofs.covering.+covers_values.Given as goal

abbrev pub decreases-covers_values : goal.decreases-covers_values
decreases-covers_values g l = length l.values.now
