use Rattle.std.proofs.Common.{◌≡◌, ◌<◌, ℕ, Ok}
use Rattle.semantics.specs.Slots.{fetch}
use Rattle.verifier.specs.Layout.{fetched_checked}
use Rattle.ordering.proofs.forward.is_forward.Given as goal

abbrev pub invariant-loop-slot : goal.invariant-loop-slot
invariant-loop-slot l = (k : ℕ) → k < l.slot → fetched_checked l.program k (fetch l.program k) ≡ Ok tt
