use Rattle.tables.proofs.PermissionRows.{are_permissions}
use Rattle.tables.proofs.permissions.Permissions.into_rows.Goals as goal

pub returns-clause-distinct : goal.returns-clause-distinct
returns-clause-distinct c = are_permissions c.self.inside.rows.items c.self.invariant
