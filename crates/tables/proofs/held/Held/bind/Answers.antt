use Rattle.std.proofs.Common.{sym, ◌∙◌, subst}
use Rattle.tables.proofs.HeldRows.{on_made, on_refused}
use Rattle.tables.proofs.SlotChanges.{bind-beside, bound-at}
use Rattle.tables.specs.laws.Row.{live_held}
use Rattle.tables.specs.Stored.{LeavesHeld, bind_held}
use Rattle.tables.specs.WellFormed.{IsHeldAt}
use Rattle.tables.proofs.held.Held.bind.Goals as goal

pub returns-then-is_ok-clause-follows : goal.returns-then-is_ok-clause-follows
returns-then-is_ok-clause-follows c =
    let ok = sym c.is_ok.ensures.value ∙ c.if-is_ok.true in
    let few = on_made c.insert.result ok c.insert.ensures.few in
    bind-beside c.args.moment c.args.self.now c.args.number c.args.peer c.insert.new.self (on_made c.insert.result ok c.insert.ensures.made) (on_made c.insert.result ok c.insert.ensures.of)
    (on_made c.insert.result ok c.insert.ensures.free c.args.moment) few.0 few.1

pub returns-then-is_ok-clause-held_at : goal.returns-then-is_ok-clause-held_at
returns-then-is_ok-clause-held_at c = λ slot is.
    let ok = sym c.is_ok.ensures.value ∙ c.if-is_ok.true in
    let few = on_made c.insert.result ok c.insert.ensures.few in
    bound-at slot c.args.moment c.args.number c.args.peer c.args.self.now c.insert.new.self (on_made c.insert.result ok c.insert.ensures.made) c.requires.range c.insert.ensures.address few.0 few.1 is

pub returns-clause-follows : goal.returns-clause-follows
returns-clause-follows c =
    let unchanged = on_refused c.insert.result (sym c.is_ok.ensures.value ∙ c.if-is_ok.false) c.insert.ensures.unchanged in
    subst (λ held. LeavesHeld (bind_held c.args.moment c.args.number c.args.peer (live_held c.args.moment held)) c.args.moment held c.insert_after_sweep.result c.insert_after_sweep.new.self) unchanged c.insert_after_sweep.ensures.follows

pub returns-clause-held_at : goal.returns-clause-held_at
returns-clause-held_at c = λ slot is.
    let unchanged = on_refused c.insert.result (sym c.is_ok.ensures.value ∙ c.if-is_ok.false) c.insert.ensures.unchanged in
    c.insert_after_sweep.ensures.held_at slot (subst (IsHeldAt slot) (sym unchanged) is)
