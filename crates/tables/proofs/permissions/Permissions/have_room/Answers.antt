use Rattle.std.proofs.Common.{◌≡◌, ◌+◌, is_none, nat_le, ap, arith, rules}
use Rattle.std.specs.FinMap.{get, len}
use Rattle.std.specs.List.{count_by}
use Rattle.std.proofs.lemmas.Bool.{OnTrue_from, leb-true}
use Rattle.addresses.specs.Addresses.{ip_of}
use Rattle.tables.specs.declared.permissions.TheConstants.{MAX_PERMISSIONS}
use Rattle.tables.proofs.PermissionRows.{len-permissions, len-with_all-le}
use Rattle.tables.proofs.permissions.Permissions.have_room.Goals as goal

pub returns : goal.returns
returns c =
    let now = c.args.self.now in
    let new : c.count-new.result ≡ count_by (λ ip. is_none (get now (ip_of ip))) c.args.ips.now = search rules in
    let rows = c.self.inside.rows.items in
    OnTrue_from (nat_le (c.len.result + c.count-new.result) MAX_PERMISSIONS) _ (λ fits end.
    omega (arith, new, len-with_all-le now now c.args.ips.now end (λ ip there. there), leb-true _ _ fits, c.len.ensures.value, len-permissions rows c.self.invariant, ap len c.self.view_is))
