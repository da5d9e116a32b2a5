use Rattle.std.proofs.Common.{length}
use Rattle.absstate.proofs.signature.+mark_bits.Given as goal

abbrev pub decreases-mark_bits : goal.decreases-mark_bits
decreases-mark_bits l = length l.words.now
