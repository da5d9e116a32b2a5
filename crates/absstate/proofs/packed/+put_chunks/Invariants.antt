use Rattle.std.proofs.Common.{length}
use Rattle.absstate.proofs.packed.+put_chunks.Given as goal

abbrev pub decreases-put_chunks : goal.decreases-put_chunks
decreases-put_chunks g l = length l.chunks.now
