use Rattle.std.proofs.Common.{nat_le, ap, ◌∙◌, arith}
use Rattle.std.specs.FinMap.{insert, len}
use Rattle.addresses.specs.Addresses.{ip_of}
use Rattle.tables.specs.declared.permissions.TheConstants.{MAX_PERMISSIONS}
use Rattle.tables.proofs.PermissionRows.{searchable_by, len-put}
use Rattle.tables.proofs.permissions.Permissions.has_room_for.Goals as goal

pub has_room-requires : goal.has_room-requires
has_room-requires c = (omega arith, searchable_by c.self.inside.rows.items c.self.invariant (ip_of c.args.ip.now))

pub returns : goal.returns
returns c = λ end.
    c.has_room.ensures (record { ip = c.args.ip.now; end = end })
    ∙ ap (λ n. nat_le n MAX_PERMISSIONS) (len-put c.self.inside.rows.items c.self.invariant (record { ip = c.args.ip.now; end = end }))
    ∙ ap (λ m. nat_le (len (insert m (ip_of c.args.ip.now) end)) MAX_PERMISSIONS) c.self.view_is
