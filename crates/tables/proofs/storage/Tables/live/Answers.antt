use Rattle.std.proofs.Common.{Some, option_and_then, ap, ◌∙◌, sym, subst}
use Rattle.std.specs.Option.{option_flatten}
use Rattle.std.proofs.lemmas.Bool.{le-ltb, lt-ltb}
use Rattle.tables.specs.Rows.{held_at}
use Rattle.tables.specs.WellFormed.{IsHeldAt}
use Rattle.tables.specs.declared.held.Held.{Held}
use Rattle.tables.specs.laws.Row.{held_at-live, held_at-ended}
use Rattle.tables.proofs.Slots.{held_in-stored, slot_shown}
use Rattle.tables.proofs.storage.Tables.live.Goals as goal

pub returns-in_default-slot-clause-live : goal.returns-in_default-slot-clause-live
returns-in_default-slot-clause-live c =
    let slots = c.self.inside.slots.items in
    let at = slot_shown c.deref.result.now slots c.args.slot c.in-Some.slot.now c.deref.ensures.value c.in-Some.ensures.lookup.0 c.in-Some.ensures.lookup.1 in
    sym (held_in-stored c.self.inside.moment slots c.args.self.now c.self.view_is c.args.moment c.requires.later c.args.slot
    ∙ ap (λ o. option_and_then (held_at c.args.moment) (option_flatten o)) (at ∙ ap Some c.in_default-slot.is))

pub returns-then-moment-held-clause-live : goal.returns-then-moment-held-clause-live
returns-then-moment-held-clause-live c =
    let slots = c.self.inside.slots.items in
    let at = slot_shown c.deref.result.now slots c.args.slot c.in-Some.slot.now c.deref.ensures.value c.in-Some.ensures.lookup.0 c.in-Some.ensures.lookup.1 in
    let held = c.in-Some-slot.held in
    ap Some c.new.ensures
    ∙ sym (held_in-stored c.self.inside.moment slots c.args.self.now c.self.view_is c.args.moment c.requires.later c.args.slot
    ∙ ap (λ o. option_and_then (held_at c.args.moment) (option_flatten o)) (at ∙ ap Some c.in-Some-slot.is)
    ∙ held_at-live c.args.moment held (lt-ltb c.args.moment held.allocation.end c.if-moment-held.true))

pub returns-else-moment-held-clause-live : goal.returns-else-moment-held-clause-live
returns-else-moment-held-clause-live c =
    let slots = c.self.inside.slots.items in
    let at = slot_shown c.deref.result.now slots c.args.slot c.in-Some.slot.now c.deref.ensures.value c.in-Some.ensures.lookup.0 c.in-Some.ensures.lookup.1 in
    sym (held_in-stored c.self.inside.moment slots c.args.self.now c.self.view_is c.args.moment c.requires.later c.args.slot
    ∙ ap (λ o. option_and_then (held_at c.args.moment) (option_flatten o)) (at ∙ ap Some c.in-Some-slot.is)
    ∙ held_at-ended c.args.moment c.in-Some-slot.held (le-ltb c.args.moment c.in-Some-slot.held.allocation.end c.if-moment-held.false))

pub new-requires-clause-held_at : goal.new-requires-clause-held_at
new-requires-clause-held_at c =
    let slots = c.self.inside.slots.items in
    let at = slot_shown c.deref.result.now slots c.args.slot c.in-Some.slot.now c.deref.ensures.value c.in-Some.ensures.lookup.0 c.in-Some.ensures.lookup.1 in
    let held = c.in-Some-slot.held in
    let formed = c.self.invariant.rows.held c.args.slot held (ap option_flatten (at ∙ ap Some c.in-Some-slot.is)) in
    subst (λ slot. IsHeldAt slot held) (sym formed.at_slot) formed

pub returns-then-moment-held-clause-at_slot : goal.returns-then-moment-held-clause-at_slot
returns-then-moment-held-clause-at_slot c =
    let slots = c.self.inside.slots.items in
    let at = slot_shown c.deref.result.now slots c.args.slot c.in-Some.slot.now c.deref.ensures.value c.in-Some.ensures.lookup.0 c.in-Some.ensures.lookup.1 in
    ap (λ (h : Held). h.allocation.slot) c.new.ensures
    ∙ (c.self.invariant.rows.held c.args.slot c.in-Some-slot.held (ap option_flatten (at ∙ ap Some c.in-Some-slot.is))).at_slot
