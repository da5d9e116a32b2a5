use Rattle.std.proofs.Common.{List, Option, map, option_and_then, sym, ap, ◌∙◌, subst}
use Rattle.tables.specs.Rows.{live_rows}
use Rattle.tables.specs.Stored.{AreStored}
use Rattle.tables.specs.Users.{held_of_user, rows_for}
use Rattle.tables.specs.NewUsers.{user_after}
use Rattle.tables.specs.declared.held.Held.{Held}
use Rattle.tables.proofs.ClientRows.{with_slots_in}
use Rattle.tables.proofs.UserRows.{live-users, stored-users}
use Rattle.tables.proofs.storage.Tables.replace_each.Goals as goal

pub invariant_of-self : goal.invariant_of-self
invariant_of-self c =
    let t = c.self.inside.moment in
    let slots = c.self.inside.slots.items in
    let clients = c.self.inside.clients.items in
    let user = user_after c.args.users in
    let left : List (Option Held) = map (option_and_then (held_of_user user)) slots in
    let kept = c.with_slots-self-inside.ensures ∙ ap (with_slots_in clients) (c.deref.ensures.value ∙ c.replace_each_user.ensures) in
    subst (λ s. AreStored t s c.with_slots-self-inside.result.items) (sym c.replace_each_user.ensures)
    (subst (AreStored t left) (sym kept) (stored-users user t slots clients c.self.invariant))

pub returns : goal.returns
returns c =
    let t = c.self.inside.moment in
    let user = user_after c.args.users in
    (λ i. live_rows t (record { moment = t; slots = c.replace_each_user.ensures i }))
    ∙ live-users user t (record { moment = t; slots = c.self.inside.slots.items })
    ∙ ap (rows_for user) c.self.view_is
