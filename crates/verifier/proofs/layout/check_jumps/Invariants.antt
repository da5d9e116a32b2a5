use Rattle.std.proofs.Common.{◌≡◌, ℕ, ◌<◌, Ok}
use Rattle.verifier.specs.Layout.{slot_checked}
use Rattle.verifier.proofs.layout.check_jumps.Given as goal

abbrev pub invariant-loop-slot : goal.invariant-loop-slot
invariant-loop-slot l = (k : ℕ) → k < l.slot → slot_checked l.code k ≡ Ok tt
