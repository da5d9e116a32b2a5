use Rattle.std.proofs.Common.{ap, sym, ◌∙◌}
use Rattle.attributes.specs.Addresses.{address_in}
use Rattle.control.specs.Peers.{peers_of}
use Rattle.control.proofs.Peers.{collected_value, collected_end, family_value, read_families}
use Rattle.control.proofs.create_permission.distinct_peers.Goals as goal

pub loop-value-preserved-in-Some-address_in : goal.loop-value-preserved-in-Some-address_in
loop-value-preserved-in-Some-address_in c = record {
  can = tt;
  finite = tt;
  collected = collected_value c.args.message.now.tx c.loop-value.peers.items c.add_peer.new.peers.items c.in-Some-address_in.peer c.in-Some.value.now c.next.new.self c.loop-value.value-iterator (peers_of c.args.message.now)
      c.in-Some.ensures.steps
      (ap (λ tx. address_in tx c.in-Some.value.now) (sym c.tx-tx.ensures) ∙ sym c.address_in.ensures ∙ c.in-Some-address_in.is)
      c.add_peer.ensures
      c.loop-value.invariant.collected;
  families = λ f all. family_value f c.args.message.now.tx c.loop-value.peers.items c.add_peer.new.peers.items c.in-Some-address_in.peer c.in-Some.value.now c.next.new.self c.loop-value.value-iterator
      c.in-Some.ensures.steps
      (ap (λ tx. address_in tx c.in-Some.value.now) (sym c.tx-tx.ensures) ∙ sym c.address_in.ensures ∙ c.in-Some-address_in.is)
      c.add_peer.ensures
      (c.loop-value.invariant.families f all);
}

pub returns-clause-families : goal.returns-clause-families
returns-clause-families c = λ f read. (c.loop-value.invariant.families f (read_families f c.args.message.now _ read)).collected

pub returns-clause-same : goal.returns-clause-same
returns-clause-same c = collected_end c.args.message.now.tx c.loop-value.peers.items c.loop-value.value-iterator (peers_of c.args.message.now) c.in-None.ensures.steps.0 c.loop-value.invariant.collected
