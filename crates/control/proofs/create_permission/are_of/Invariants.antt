use Rattle.std.proofs.Common.{◌≡◌}
use Rattle.control.specs.Control.{addresses_in}
use Rattle.control.specs.Serving.{are_of}
use Rattle.control.proofs.Peers.{combined}
use Rattle.control.proofs.create_permission.are_of.Given as goal

abbrev pub invariant-loop-value : goal.invariant-loop-value
invariant-loop-value l = record {
  can : (goal.iterator-loop-value).can_next l.value-iterator;
  finite : (goal.iterator-loop-value).is_finite l.value-iterator;
  same : combined l.family l.found (addresses_in l.message.tx l.value-iterator) ≡ are_of l.family l.message;
}
