use Rattle.std.proofs.Common.{nat_lt, ap, ◌∙◌, sym, subst, arith, rules}
use Rattle.tables.specs.Permissions.{permissions_at}
use Rattle.tables.specs.RowLists.{permissions_of}
use Rattle.tables.specs.SortedRows.{AreSortedPermissions}
use Rattle.tables.proofs.PermissionRows.{len-permissions, sorted-filtered, permissions_of-filtered}
use Rattle.tables.proofs.permissions.Permissions.at.Goals as goal

pub invariant_of-result : goal.invariant_of-result
invariant_of-result c =
    let left = c.filtered-rows.ensures.rows (λ row. nat_lt c.args.moment row.end) (λ row is k. search rules) in
    subst AreSortedPermissions (sym left) (sorted-filtered c.self.inside.rows.items c.self.invariant c.args.moment)

pub returns-clause-left : goal.returns-clause-left
returns-clause-left c =
    let left = c.filtered-rows.ensures.rows (λ row. nat_lt c.args.moment row.end) (λ row is k. search rules) in
    ap permissions_of left ∙ permissions_of-filtered c.self.inside.rows.items c.self.invariant c.args.moment ∙ ap (permissions_at c.args.moment) c.self.view_is

pub returns-clause-few : goal.returns-clause-few
returns-clause-few c =
    let left = c.filtered-rows.ensures.rows (λ row. nat_lt c.args.moment row.end) (λ row is k. search rules) in
    let sorted = subst AreSortedPermissions (sym left) (sorted-filtered c.self.inside.rows.items c.self.invariant c.args.moment) in
    omega (arith, len-permissions c.filtered-rows.result.items sorted, c.filtered-rows.ensures.few)
