use Rattle.std.proofs.Common.{◌+◌, ◌≤◌, sym, ap, ◌∙◌, subst}
use Rattle.std.specs.FinMap.{len}
use Rattle.std.proofs.lemmas.Bool.{OnTrue_at}
use Rattle.tables.specs.Permissions.{permissions_at, with_all}
use Rattle.tables.specs.declared.permissions.TheConstants.{PERMISSION_LIFETIME, MAX_PERMISSIONS}
use Rattle.tables.proofs.SlotChanges.{few_live, permissions_at-with_all, permit-leaves}
use Rattle.tables.proofs.held.Held.permit.Goals as goal

pub returns-then-have_room-clause-follows : goal.returns-then-have_room-clause-follows
returns-then-have_room-clause-follows c =
    let t = c.args.moment in
    let held = c.args.self.now in
    let ips = c.args.ips.now in
    let end = t + PERMISSION_LIFETIME in
    permit-leaves t held ips c.insert_each.new.self (sym c.are_of.ensures ∙ c.if-not-are_of.false)
    (few_live t held.permissions ips end MAX_PERMISSIONS (OnTrue_at c.if-have_room.true c.have_room.ensures end))
    (ap (permissions_at t) c.insert_each.ensures ∙ permissions_at-with_all t held.permissions ips end)

pub returns-clause-follows : goal.returns-clause-follows
returns-clause-follows c =
    let t = c.args.moment in
    let held = c.args.self.now in
    let ips = c.args.ips.now in
    let same = (c.in_ok-insert_all.ensures {u = tt}).inserted ∙ ap (λ m. with_all m ips (t + PERMISSION_LIFETIME)) c.at-permissions.ensures.left in
    permit-leaves t held ips c.insert_all.new.self (sym c.are_of.ensures ∙ c.if-not-are_of.false)
    (subst (λ m. len m ≤ MAX_PERMISSIONS) same (c.in_ok-insert_all.ensures {u = tt}).few)
    (ap (permissions_at t) same)
