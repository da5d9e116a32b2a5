use Rattle.std.proofs.Common.{◌<◌, ◌≤◌, List, IsTrue, length, ap, ◌∙◌, sym, subst, arith}
use Rattle.std.specs.FinMap.{insert, len}
use Rattle.tables.specs.Channels.{may_bind}
use Rattle.tables.specs.RowLists.{channels_of}
use Rattle.tables.specs.Search.{put_row}
use Rattle.tables.specs.SortedRows.{AreChannelLists}
use Rattle.tables.specs.declared.channels.Channel.{Channel}
use Rattle.tables.specs.declared.channels.TheConstants.{MAX_CHANNELS}
use Rattle.tables.proofs.Lists.{on_err, made_where_room}
use Rattle.tables.proofs.ChannelRows.{by_number, by_peer, searchable_by_number, searchable_by_peer, same_length, put_map, put_lists, len-put}
use Rattle.tables.proofs.channels.Channels.insert.Goals as goal

pub insert-requires : goal.insert-requires
insert-requires c = (omega arith, searchable_by_number c.args.number c.self.inside.rows.items c.self.invariant.numbers)

pub insert-requires-2 : goal.insert-requires-2
insert-requires-2 c = (omega arith, searchable_by_peer c.args.binding.peer c.self.inside.by_peer.items c.self.invariant.peers)

pub returns-in_err-insert-clause-full : goal.returns-in_err-insert-clause-full
returns-in_err-insert-clause-full c =
    let free = subst (λ m. IsTrue (may_bind m c.args.number c.args.binding.peer)) (sym c.self.view_is) c.requires.free in
    let long = len-put c.args.number c.args.binding c.self.inside.rows.items c.self.inside.by_peer.items c.self.invariant free c.requires.range in
    on_err c.from_residual.result (subst (λ m. MAX_CHANNELS < len (insert m c.args.number c.args.binding)) c.self.view_is (omega (arith, c.in_err-insert.ensures.full, long)))

pub invariant_of-self-2 : goal.invariant_of-self-2
invariant_of-self-2 c =
    let rows = c.self.inside.rows.items in
    let others = c.self.inside.by_peer.items in
    let free = subst (λ m. IsTrue (may_bind m c.args.number c.args.binding.peer)) (sym c.self.view_is) c.requires.free in
    let lists = put_lists c.args.number c.args.binding rows others c.self.invariant free c.requires.range in
    let row : Channel = record { number = c.args.number; binding = c.args.binding } in
    let new_rows : List Channel = put_row (by_number c.args.number) row rows in
    let new_others : List Channel = put_row (by_peer c.args.binding.peer) row others in
    let inserted = c.in_ok-insert.ensures {u = tt} in
    let few : length new_others ≤ MAX_CHANNELS = omega (arith, same_length new_rows new_others lists, ap length inserted.inserted, inserted.few) in
    let made = made_where_room c.insert-2.result (length new_others) MAX_CHANNELS few c.insert-2.ensures.inserted c.insert-2.ensures.full in
    subst (λ rows. AreChannelLists rows c.insert-2.new.rows.items) (sym inserted.inserted) (subst (AreChannelLists new_rows) (sym made) lists)

pub returns-clause-inserted : goal.returns-clause-inserted
returns-clause-inserted c =
    let free = subst (λ m. IsTrue (may_bind m c.args.number c.args.binding.peer)) (sym c.self.view_is) c.requires.free in
    ap channels_of (c.in_ok-insert.ensures {u = tt}).inserted ∙ put_map c.args.number c.args.binding c.self.inside.rows.items c.self.inside.by_peer.items c.self.invariant free
    ∙ ap (λ m. insert m c.args.number c.args.binding) c.self.view_is

pub returns-clause-few : goal.returns-clause-few
returns-clause-few c =
    let rows = c.self.inside.rows.items in
    let others = c.self.inside.by_peer.items in
    let free = subst (λ m. IsTrue (may_bind m c.args.number c.args.binding.peer)) (sym c.self.view_is) c.requires.free in
    let inserted = c.in_ok-insert.ensures {u = tt} in
    let long = len-put c.args.number c.args.binding rows others c.self.invariant free c.requires.range in
    omega (arith, ap len (ap channels_of inserted.inserted ∙ put_map c.args.number c.args.binding rows others c.self.invariant free), long, ap length inserted.inserted, inserted.few)
