use Rattle.std.proofs.Common.{◌≡◌, IfSome, option_map, ap, ◌∙◌, sym, subst, arith, rules}
use Rattle.tables.specs.Channels.{IsChannelNumber, channels_at, number_to}
use Rattle.tables.specs.Retained.{value_if}
use Rattle.tables.proofs.ChannelRows.{is_live_row, searchable_by_peer, number_at-channels, number_at-range}
use Rattle.tables.proofs.channels.Channels.number_at.Goals as goal

pub row_of-requires : goal.row_of-requires
row_of-requires g c = (omega arith, searchable_by_peer c.args.peer.now c.self.inside.by_peer.items c.self.invariant.peers)

pub returns-clause-number : goal.returns-clause-number
returns-clause-number g c =
    let live : c.filter.result ≡ value_if (is_live_row c.args.moment) c.row_of.result = search rules in
    let number : c.map.result ≡ option_map (λ row. row.number) c.filter.result = search rules in
    number ∙ ap (option_map (λ row. row.number)) (live ∙ ap (value_if (is_live_row c.args.moment)) c.row_of.ensures.row)
    ∙ sym (number_at-channels c.self.inside.rows.items c.self.inside.by_peer.items c.self.invariant c.args.moment c.args.peer.now) ∙ ap (λ m. number_to c.args.peer.now (channels_at c.args.moment m)) c.self.view_is

pub returns-clause-range : goal.returns-clause-range
returns-clause-range g c =
    let number = returns-clause-number g c ∙ ap (λ m. number_to c.args.peer.now (channels_at c.args.moment m)) (sym c.self.view_is) in
    subst (λ n. IfSome n IsChannelNumber) (sym number) (number_at-range c.self.inside.rows.items c.self.inside.by_peer.items c.self.invariant c.args.moment c.args.peer.now)

pub returns-clause-keys : goal.returns-clause-keys
returns-clause-keys g c = c.row_of.ensures.count 7 (omega arith)
