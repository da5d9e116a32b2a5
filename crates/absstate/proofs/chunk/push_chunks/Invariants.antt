-- The chunks so far, and the values that are left, are those of before and all values.
use Rattle.std.proofs.Common.{◌≡◌, ◌++◌, length}
use Rattle.absstate.specs.Packing.{joined}
use Rattle.absstate.proofs.chunk.push_chunks.Given as goal

abbrev pub invariant-loop-rest : goal.invariant-loop-rest
invariant-loop-rest g l = joined l.chunks.items ++ l.rest ≡ joined l.initial.chunks.items ++ l.values

abbrev pub decreases-loop-rest : goal.decreases-loop-rest
decreases-loop-rest g l = length l.rest
