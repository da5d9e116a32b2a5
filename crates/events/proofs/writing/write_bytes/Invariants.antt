-- What the chunks so far have was written, as digits.
use Rattle.std.proofs.Common.{◌≡◌, ℕ, List, ◌++◌, false}
use Rattle.std.specs.Slice.Iter.{chunks_rest, chunks_size}
use Rattle.std.specs.Io.KnownBytes.{Appends}
use Rattle.hex.specs.Hex.{encode_lower}
use Rattle.events.proofs.writing.write_bytes.Given as goal

abbrev pub invariant-loop-chunk : goal.invariant-loop-chunk
invariant-loop-chunk g l =
    (goal.iterator-loop-chunk g).can_next l.chunk-iterator
    × (goal.iterator-loop-chunk g).is_finite l.chunk-iterator
    × (chunks_size l.chunk-iterator ≡ 512)
    × ((done : List ℕ) × Appends l.initial.output.contents l.output.contents done × (done ++ encode_lower (chunks_rest l.chunk-iterator) ≡ encode_lower l.fn.bytes))
    × (l.output.failed ≡ false)
