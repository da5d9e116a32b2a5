use Rattle.std.proofs.Common.{rules, None, ap, length, ◌∙◌}
use Rattle.std.proofs.lemmas.List.{length-replicate}
use Rattle.tables.specs.Rows.{Rows}
use Rattle.relay.proofs.relay.Relay.new.Goals as goal

pub invariant_of-result : goal.invariant_of-result
invariant_of-result c = record {
  shipped = c.in-Ok-are_shipped.ensures;
  valid = search rules;
  slots = ap (λ (t : Rows). length t.slots) c.in-Ok.ensures ∙ length-replicate c.args.config.slots None;
  latest = search rules;
  room = search (rules, c.in-Ok-vec.ensures);
}
