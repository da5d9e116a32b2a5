use Rattle.std.proofs.Common.{length}
use Rattle.absstate.proofs.signature.+values_hash.Given as goal

abbrev pub decreases-values_hash : goal.decreases-values_hash
decreases-values_hash g l = length l.values.now
