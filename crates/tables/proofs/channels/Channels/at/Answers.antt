use Rattle.std.proofs.Common.{nat_lt, filter, ap, ◌∙◌, sym, subst, rules}
use Rattle.tables.specs.Channels.{channels_at}
use Rattle.tables.specs.RowLists.{channels_of}
use Rattle.tables.specs.SortedRows.{AreChannelLists}
use Rattle.tables.specs.declared.channels.Channel.{Channel}
use Rattle.tables.proofs.ChannelRows.{filtered_lists, channels_of-filtered}
use Rattle.tables.proofs.channels.Channels.at.Goals as goal

pub invariant_of-result : goal.invariant_of-result
invariant_of-result c =
    let live = λ (row : Channel). nat_lt c.args.moment row.binding.end in
    let left = c.filtered.ensures.rows live (λ row is k. search rules) in
    let left_by_peer = c.filtered-2.ensures.rows live (λ row is k. search rules) in
    subst (λ rows. AreChannelLists rows c.filtered-2.result.items) (sym left)
    (subst (AreChannelLists (filter live c.self.inside.rows.items)) (sym left_by_peer) (filtered_lists c.self.inside.rows.items c.self.inside.by_peer.items c.self.invariant c.args.moment))

pub returns : goal.returns
returns c =
    let left = c.filtered.ensures.rows (λ row. nat_lt c.args.moment row.binding.end) (λ row is k. search rules) in
    ap channels_of left ∙ channels_of-filtered c.self.inside.rows.items c.self.inside.by_peer.items c.self.invariant c.args.moment ∙ ap (channels_at c.args.moment) c.self.view_is
