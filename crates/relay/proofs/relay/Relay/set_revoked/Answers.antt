use Rattle.std.proofs.Common.{length, ap, ◌∙◌}
use Rattle.std.proofs.lemmas.List.{length-map}
use Rattle.tables.specs.Rows.{Rows}
use Rattle.relay.proofs.relay.Relay.set_revoked.Goals as goal

pub invariant_of-self : goal.invariant_of-self
invariant_of-self c = record {
  shipped = c.self.invariant.shipped;
  valid = c.self.invariant.valid;
  slots = ap (λ (r : Rows). length r.slots) c.end_owned.ensures ∙ length-map c.self.inside.tables.slots _ ∙ c.self.invariant.slots;
  latest = c.self.invariant.latest;
  room = c.self.invariant.room;
}
