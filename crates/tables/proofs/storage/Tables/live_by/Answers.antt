use Rattle.std.proofs.Common.{◌≡◌, ℕ, Option, Some, None, IfSome, option_and_then, sym, ap, ◌∙◌, arith}
use Rattle.tables.specs.LookUps.{held_in}
use Rattle.tables.specs.Rows.{Rows, held_at, live_rows}
use Rattle.tables.specs.Stored.{stored_at}
use Rattle.tables.specs.declared.clients.Client.{Client}
use Rattle.tables.specs.declared.held.Held.{Held}
use Rattle.tables.proofs.ClientRows.{searchable_by_client, held_by-row_of}
use Rattle.tables.proofs.Slots.{held_in-stored, held_by-stored}
use Rattle.tables.proofs.storage.Tables.live_by.Goals as goal

pub row_of-requires : goal.row_of-requires
row_of-requires g c = (omega arith, searchable_by_client c.args.client.now c.self.inside.slots.items c.self.inside.clients.items c.self.invariant.listed)

pub returns-in_err-client-clause-live : goal.returns-in_err-client-clause-live
returns-in_err-client-clause-live g c =
    let slots = c.self.inside.slots.items in
    c.from_residual.ensures
    ∙ ap (option_and_then (λ (row : Client). option_and_then (held_at c.args.moment) (stored_at slots row.slot))) (sym c.in_err-client.was ∙ c.row_of.ensures.row)
    ∙ sym (held_by-stored c.self.inside.moment slots c.args.self.now c.self.view_is c.args.moment c.requires.later c.args.client.now
    ∙ held_by-row_of slots c.self.inside.clients.items c.self.invariant.listed c.args.client.now c.args.moment)

pub returns-clause-live : goal.returns-clause-live
returns-clause-live g c =
    let slots = c.self.inside.slots.items in
    c.live.ensures.live ∙ held_in-stored c.self.inside.moment slots c.args.self.now c.self.view_is c.args.moment c.requires.later c.in_ok-client.client.slot
    ∙ ap (option_and_then (λ (row : Client). option_and_then (held_at c.args.moment) (stored_at slots row.slot))) (sym c.in_ok-client.was ∙ c.row_of.ensures.row)
    ∙ sym (held_by-stored c.self.inside.moment slots c.args.self.now c.self.view_is c.args.moment c.requires.later c.args.client.now
    ∙ held_by-row_of slots c.self.inside.clients.items c.self.invariant.listed c.args.client.now c.args.moment)

pub returns-in_err-client-clause-keys : goal.returns-in_err-client-clause-keys
returns-in_err-client-clause-keys g c = c.row_of.ensures.count 9 (omega arith)

pub returns-clause-keys : goal.returns-clause-keys
returns-clause-keys g c = c.row_of.ensures.count 9 (omega arith)

-- what is found is in the slot that it names
in_its_slot : (rows : Rows) (slot : ℕ) (live : Option Held) → live ≡ held_in rows slot → IfSome live (λ l. l.allocation.slot ≡ slot) → IfSome live (λ l. held_in rows l.allocation.slot ≡ Some l)
in_its_slot rows slot None is at = tt
in_its_slot rows slot (Some l) is at = ap (held_in rows) at ∙ sym is

pub returns-clause-at_slot : goal.returns-clause-at_slot
returns-clause-at_slot g c = in_its_slot (live_rows c.args.moment c.args.self.now) c.in_ok-client.client.slot c.live.result c.live.ensures.live c.live.ensures.at_slot
