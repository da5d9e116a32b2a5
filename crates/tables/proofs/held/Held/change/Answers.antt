use Rattle.std.proofs.Common.{◌+◌, refl, ap, ◌∙◌}
use Rattle.tables.specs.Rows.{held_at}
use Rattle.tables.specs.Stored.{with_end}
use Rattle.tables.proofs.SlotChanges.{left-end}
use Rattle.tables.proofs.held.Held.change.Goals as goal

pub returns-in-Refresh-clause-follows : goal.returns-in-Refresh-clause-follows
returns-in-Refresh-clause-follows c =
    let t = c.args.moment in
    let held = c.args.self.now in
    rw c.in-Refresh.is (refl, ap (held_at t) (c.refresh.ensures ∙ ap (λ n. with_end (t + n) held) c.from.ensures) ∙ left-end t held (t + c.in-Refresh.lifetime))
