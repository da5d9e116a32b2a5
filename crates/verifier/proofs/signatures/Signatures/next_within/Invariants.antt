-- The signatures that are passed over, from the first index on, don't lie within the other one.
use Rattle.std.proofs.Common.{◌≡◌, ℕ, ◌-◌, ◌<◌, ◌≤◌, false}
use Rattle.std.specs.Prelude.{slice_index_or}
use Rattle.absstate.specs.Signatures.{lies_within}
use Rattle.absstate.specs.declared.signature.StateSignature.{StateSignature}
use Rattle.verifier.proofs.signatures.Signatures.next_within.Given as goal

abbrev pub invariant-loop-next : goal.invariant-loop-next
invariant-loop-next l = record {
  after : l.from ≤ l.next;
  inside : l.next ≤ l.end;
  none : (i : ℕ) → (s : StateSignature) → l.from ≤ i → i < l.next → slice_index_or l.self i s ≡ s → lies_within s l.other ≡ false;
}

abbrev pub decreases-loop-next : goal.decreases-loop-next
decreases-loop-next l = l.end - l.next
