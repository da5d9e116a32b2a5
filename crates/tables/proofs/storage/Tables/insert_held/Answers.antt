use Rattle.std.proofs.Common.{◌<◌, ◌≤◌, length, map, set, Some, sym, ap, ◌∙◌, subst, arith, option_and_then}
use Rattle.std.proofs.lemmas.List.{length-map}
use Rattle.std.proofs.lemmas.Option.{same_Some}
use Rattle.tables.specs.Changes.{with_held}
use Rattle.tables.specs.Rows.{Rows, held_at, slots_at}
use Rattle.tables.specs.Search.{AreAscending, put_row}
use Rattle.tables.specs.Stored.{left_at, AreClients}
use Rattle.tables.specs.WellFormed.{IsHeldAt, AreWellFormed}
use Rattle.tables.specs.laws.WellFormed.{set-well_formed}
use Rattle.tables.specs.declared.clients.Client.{Client}
use Rattle.tables.proofs.ClientRows.{by_client, searchable_by_client, swept_are, with_slots_in, few-admitted, are-admitted, slots_at-admitted, swept-well_formed}
use Rattle.tables.proofs.Lists.{made_where_room}
use Rattle.tables.proofs.Slots.{live-stored, held_in-stored, held_by-stored}
use Rattle.tables.proofs.storage.Tables.insert_held.Goals as goal

pub insert-requires : goal.insert-requires
insert-requires c =
    let t = c.args.moment in
    let client = c.args.held.allocation.client in
    let slots = c.self.inside.slots.items in
    let clients = c.self.inside.clients.items in
    let swept = map (left_at t) slots in
    let left = c.with_slots-clients.ensures ∙ ap (with_slots_in clients) (c.deref.ensures.value ∙ c.sweep.ensures) in
    (omega arith, subst (AreAscending (by_client client)) (sym left) (searchable_by_client client swept (with_slots_in clients swept) (swept_are t slots clients c.self.invariant.listed)))

pub invariant_of-self : goal.invariant_of-self
invariant_of-self c =
    let t = c.args.moment in
    let slot = c.args.slot in
    let client = c.args.held.allocation.client in
    let slots = c.self.inside.slots.items in
    let clients = c.self.inside.clients.items in
    let row : Client = record { address = client; slot = slot } in
    let within : slot < length slots = omega (arith, c.requires.inside, ap (λ (r : Rows). length r.slots) c.self.view_is, length-map slots (option_and_then (held_at c.self.inside.moment))) in
    let free = sym (held_in-stored c.self.inside.moment slots c.args.self.now c.self.view_is t c.requires.later slot) ∙ c.requires.free in
    let none = sym (held_by-stored c.self.inside.moment slots c.args.self.now c.self.view_is t c.requires.later client) ∙ c.requires.new_client in
    let left = c.with_slots-clients.ensures ∙ ap (with_slots_in clients) (c.deref.ensures.value ∙ c.sweep.ensures) in
    let all = put_row (by_client client) row c.with_slots-clients.result.items in
    let few : length all ≤ 256 =
    omega (arith, ap (λ rows. length (put_row (by_client client) row rows)) left, few-admitted t slots clients c.self.invariant.listed slot c.args.held within free none, c.self.invariant.rows.few) in
    let made = made_where_room c.insert.result (length all) 256 few c.insert.ensures.inserted c.insert.ensures.full in
    record {
      rows = subst (λ s. AreWellFormed (record { moment = t; slots = set s slot (Some c.args.held) })) (sym c.sweep.ensures)
          (set-well_formed t slot (Some c.args.held) (record { moment = t; slots = map (left_at t) slots }) c.requires.latest (swept-well_formed c.self.inside.moment t slots c.requires.latest c.self.invariant.rows)
          (λ held same. subst (IsHeldAt slot) (same_Some _ _ same) c.requires.held_at));
      listed = subst (λ s. AreClients (set s slot (Some c.args.held)) c.insert.new.rows.items) (sym c.sweep.ensures)
          (subst (AreClients (set (map (left_at t) slots) slot (Some c.args.held))) (sym (made ∙ ap (put_row (by_client client) row) left))
          (are-admitted t slots clients c.self.invariant.listed slot c.args.held within free none));
    }

pub returns-clause-held : goal.returns-clause-held
returns-clause-held c =
    let t = c.args.moment in
    let slot = c.args.slot in
    let client = c.args.held.allocation.client in
    let slots = c.self.inside.slots.items in
    let clients = c.self.inside.clients.items in
    let within : slot < length slots = omega (arith, c.requires.inside, ap (λ (r : Rows). length r.slots) c.self.view_is, length-map slots (option_and_then (held_at c.self.inside.moment))) in
    let free = sym (held_in-stored c.self.inside.moment slots c.args.self.now c.self.view_is t c.requires.later slot) ∙ c.requires.free in
    let shown = ap (λ s. slots_at t (set s slot (Some c.args.held))) c.sweep.ensures ∙ slots_at-admitted t slots clients c.self.invariant.listed slot c.args.held within free in
    (λ i. record { moment = t; slots = shown i })
    ∙ ap (λ (r : Rows). with_held r slot c.args.held) (sym (live-stored c.self.inside.moment slots c.args.self.now c.self.view_is t c.requires.later))
