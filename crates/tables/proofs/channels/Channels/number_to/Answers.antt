use Rattle.std.proofs.Common.{◌≡◌, option_map, ap, ◌∙◌, sym, arith, rules}
use Rattle.tables.specs.Channels.{number_to}
use Rattle.tables.proofs.ChannelRows.{searchable_by_peer, number_to-channels}
use Rattle.tables.proofs.channels.Channels.number_to.Goals as goal

pub row_of-requires : goal.row_of-requires
row_of-requires c = (omega arith, searchable_by_peer c.args.peer.now c.self.inside.by_peer.items c.self.invariant.peers)

pub returns : goal.returns
returns c =
    let number : c.map.result ≡ option_map (λ row. row.number) c.row_of.result = search rules in
    number ∙ ap (option_map (λ row. row.number)) c.row_of.ensures.row
    ∙ sym (number_to-channels c.self.inside.rows.items c.self.inside.by_peer.items c.self.invariant c.args.peer.now) ∙ ap (number_to c.args.peer.now) c.self.view_is
