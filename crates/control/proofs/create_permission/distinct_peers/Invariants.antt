use Rattle.std.proofs.Common.{◌≡◌, true, filter_map}
use Rattle.std.specs.List.{list_all}
use Rattle.attributes.specs.Addresses.{address_in}
use Rattle.addresses.specs.Addresses.{is_of_family}
use Rattle.addresses.specs.declared.address.Family.{Family}
use Rattle.control.specs.Peers.{peers_of}
use Rattle.control.proofs.Peers.{AreOf, Collected}
use Rattle.control.proofs.create_permission.distinct_peers.Given as goal

abbrev pub invariant-loop-value : goal.invariant-loop-value
invariant-loop-value l = record {
  can : (goal.iterator-loop-value).can_next l.value-iterator;
  finite : (goal.iterator-loop-value).is_finite l.value-iterator;
  collected : Collected l.peers.items (filter_map (address_in l.message.tx) l.value-iterator) (peers_of l.message);
  families : (f : Family) → list_all (is_of_family f) (peers_of l.message) ≡ true → AreOf f l.peers.items (filter_map (address_in l.message.tx) l.value-iterator);
}
