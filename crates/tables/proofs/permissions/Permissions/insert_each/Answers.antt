use Rattle.std.proofs.Common.{arith}
use Rattle.tables.proofs.PermissionRows.{len-with_all-ge}
use Rattle.tables.proofs.permissions.Permissions.insert_each.Goals as goal

pub insert_all-requires : goal.insert_all-requires
insert_all-requires c = omega (arith, c.requires, len-with_all-ge c.args.self.now c.args.ips.now c.args.end)
