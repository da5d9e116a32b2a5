use Rattle.std.proofs.Common.{◌≡◌, ℕ, ◌+◌, ◌-◌, None, length, slice_index_or}
use Rattle.verifier.proofs.kept.lengthen.Given as goal

abbrev pub invariant-loop-by_slot : goal.invariant-loop-by_slot
invariant-loop-by_slot g l = (n : ℕ) → slice_index_or l.by_slot.items n None ≡ slice_index_or l.initial.by_slot.items n None

abbrev pub decreases-loop-by_slot : goal.decreases-loop-by_slot
decreases-loop-by_slot g l = l.slot + 1 - length l.by_slot.items
