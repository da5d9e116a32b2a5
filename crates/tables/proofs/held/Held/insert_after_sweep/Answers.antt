use Rattle.std.proofs.Common.{sym, subst}
use Rattle.tables.proofs.SlotChanges.{bind-left, bound-at}
use Rattle.tables.specs.WellFormed.{IsHeldAt}
use Rattle.tables.specs.laws.WellFormed.{live-held_at}
use Rattle.tables.proofs.held.Held.insert_after_sweep.Goals as goal

pub returns-clause-follows : goal.returns-clause-follows
returns-clause-follows c =
    let inserted = c.in_ok-insert.ensures {u = tt} in
    bind-left c.args.moment c.args.self.now c.args.number c.args.peer c.at-left.result c.insert.new.self c.at-left.ensures inserted.made inserted.of (inserted.free c.args.moment) inserted.few.0 inserted.few.1

pub returns-clause-held_at : goal.returns-clause-held_at
returns-clause-held_at c = λ slot is.
    let inserted = c.in_ok-insert.ensures {u = tt} in
    bound-at slot c.args.moment c.args.number c.args.peer c.at-left.result c.insert.new.self inserted.made c.requires.range inserted.address inserted.few.0 inserted.few.1
    (subst (IsHeldAt slot) (sym c.at-left.ensures) (live-held_at c.args.moment slot c.args.self.now is))
