use Rattle.std.proofs.Common.{◌≡◌, option_map, ap, ◌∙◌, rules}
use Rattle.tables.specs.Retained.{value_if}
use Rattle.tables.specs.laws.Row.{is_live_binding}
use Rattle.tables.proofs.Found.{bound_peer-live}
use Rattle.tables.proofs.live_slot.LiveSlot.peer_of.Goals as goal

pub returns-clause-peer : goal.returns-clause-peer
returns-clause-peer g c =
    let live : c.filter.result ≡ value_if (is_live_binding c.self.inside.moment) c.binding_of.result = search rules in
    let peer : c.map.result ≡ option_map (λ b. b.peer) c.filter.result = search rules in
    peer ∙ ap (option_map (λ b. b.peer)) (live ∙ ap (value_if (is_live_binding c.self.inside.moment)) c.binding_of.ensures.binding)
    ∙ bound_peer-live c.self.inside.moment c.self.inside.held.now c.args.self.now c.self.view_is c.args.number
