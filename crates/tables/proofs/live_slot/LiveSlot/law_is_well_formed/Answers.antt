use Rattle.std.proofs.Common.{subst}
use Rattle.tables.specs.WellFormed.{IsHeldAt}
use Rattle.tables.specs.laws.WellFormed.{live-held_at}
use Rattle.tables.specs.declared.held.Held.{Held}
use Rattle.tables.proofs.live_slot.LiveSlot.law_is_well_formed.Goals as goal

pub returns : goal.returns
returns c =
    let held = c.self.inside.held.now in
    subst (λ (h : Held). IsHeldAt h.allocation.slot h) c.self.view_is (live-held_at c.self.inside.moment held.allocation.slot held c.self.invariant.held_at)
