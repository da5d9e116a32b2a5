use Rattle.std.proofs.Common.{IsTrue, sym, subst}
use Rattle.tables.specs.Channels.{channels_at, may_bind}
use Rattle.tables.proofs.ChannelRows.{free_later}
use Rattle.tables.proofs.channels.Channels.law_stay_free.Goals as goal

pub returns : goal.returns
returns c = λ t.
    let free = subst (λ m. IsTrue (may_bind m c.args.number c.args.peer.now)) (sym c.self.view_is) c.requires in
    subst (λ m. IsTrue (may_bind (channels_at t m) c.args.number c.args.peer.now)) c.self.view_is
    (free_later c.self.inside.rows.items c.self.inside.by_peer.items c.self.invariant c.args.number c.args.peer.now t free)
