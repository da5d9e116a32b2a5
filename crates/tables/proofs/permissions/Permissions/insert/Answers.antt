use Rattle.std.proofs.Common.{◌<◌, ap, ◌∙◌, subst, arith}
use Rattle.std.specs.FinMap.{insert, len}
use Rattle.std.proofs.lemmas.Result.{on_ok_weaker, on_err_weaker}
use Rattle.addresses.specs.Addresses.{ip_of}
use Rattle.tables.specs.RowLists.{permissions_of}
use Rattle.tables.specs.SortedRows.{AreSortedPermissions}
use Rattle.tables.specs.declared.permissions.TheConstants.{MAX_PERMISSIONS}
use Rattle.tables.proofs.Lists.{either_value}
use Rattle.tables.proofs.PermissionRows.{searchable_by, sorted-put, permissions_of-put, len-permissions, len-put}
use Rattle.tables.proofs.permissions.Permissions.insert.Goals as goal

pub insert-requires : goal.insert-requires
insert-requires c = (omega arith, searchable_by c.self.inside.rows.items c.self.invariant (ip_of c.args.ip))

pub invariant_of-self : goal.invariant_of-self
invariant_of-self c =
    either_value AreSortedPermissions c.insert.result c.insert.new.rows.items _ c.self.inside.rows.items c.insert.ensures.inserted c.insert.ensures.unchanged
    (sorted-put c.self.inside.rows.items c.self.invariant (record { ip = c.args.ip; end = c.args.end })) c.self.invariant

pub returns-clause-inserted : goal.returns-clause-inserted
returns-clause-inserted c = on_ok_weaker c.insert.result (λ made.
    ap permissions_of made ∙ permissions_of-put c.self.inside.rows.items c.self.invariant (record { ip = c.args.ip; end = c.args.end }) ∙ ap (λ m. insert m (ip_of c.args.ip) c.args.end) c.self.view_is)
    c.insert.ensures.inserted

pub returns-clause-few : goal.returns-clause-few
returns-clause-few c = on_ok_weaker c.insert.result (λ few. omega (arith, few, len-permissions c.insert.new.rows.items (invariant_of-self c))) c.insert.ensures.few

pub returns-clause-full : goal.returns-clause-full
returns-clause-full c = on_err_weaker c.insert.result (λ full.
    subst (λ m. MAX_PERMISSIONS < len (insert m (ip_of c.args.ip) c.args.end)) c.self.view_is (omega (arith, full, len-put c.self.inside.rows.items c.self.invariant (record { ip = c.args.ip; end = c.args.end }))))
    c.insert.ensures.full

pub returns-clause-unchanged : goal.returns-clause-unchanged
returns-clause-unchanged c = on_err_weaker c.insert.result (λ same. ap permissions_of same ∙ c.self.view_is) c.insert.ensures.unchanged
