-- Meaning. The permissions of an allocation (RFC 8656, section 9).
use Rattle.std.specs.Prelude.{ℕ, List, [], ◌∷◌}
use Rattle.std.specs.FinMap.{FinMap, get, insert, retain_keys}
use Rattle.addresses.specs.Addresses.{ip_of}
use Rattle.addresses.specs.AddressOrder.{ip_cmp}
use Rattle.addresses.specs.declared.address.Addr.{Addr}
use Rattle.tables.specs.Moments.{is_live_at}

-- the end of the permission of each IP address that has one
abbrev pub PermissionMap : Type 0
PermissionMap = FinMap ip_cmp ℕ

-- those that are live at a moment
abbrev pub permissions_at : ℕ → PermissionMap → PermissionMap
permissions_at t permissions = retain_keys permissions (λ ip. is_live_at t (get permissions ip))

-- with permissions for all of these IP addresses
abbrev pub with_all : PermissionMap → List Addr → ℕ → PermissionMap
with_all permissions [] end = permissions
with_all permissions (ip ∷ ips) end = with_all (insert permissions (ip_of ip) end) ips end
