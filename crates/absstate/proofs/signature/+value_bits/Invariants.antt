use Rattle.std.proofs.Common.{length}
use Rattle.absstate.proofs.signature.+value_bits.Given as goal

abbrev pub decreases-value_bits : goal.decreases-value_bits
decreases-value_bits g l = length l.values.now
