-- Interface. Permissions and channels as lists of rows, in any order.
use Rattle.std.specs.Prelude.{◌≢◌, ◌≤◌, IsFalse, List, map, All, AllPairs}
use Rattle.std.specs.FinMap.{from_entries}
use Rattle.addresses.specs.Addresses.{ip_of}
use Rattle.addresses.specs.AddressOrder.{is_same_address}
use Rattle.tables.specs.Channels.{ChannelMap}
use Rattle.tables.specs.Permissions.{PermissionMap}
use Rattle.tables.specs.declared.channels.Channel.{Channel}
use Rattle.tables.specs.declared.channels.TheConstants.{FIRST_CHANNEL, LAST_CHANNEL}
use Rattle.tables.specs.declared.permissions.Permission.{Permission}

abbrev pub permissions_of : List Permission → PermissionMap
permissions_of rows = from_entries (map (λ row. (ip_of row.ip, row.end)) rows)

-- each IP address is in it once
pub record ArePermissions (rows : List Permission) : Type 0 where
  pub distinct : AllPairs (λ a b. ip_of a.ip ≢ ip_of b.ip) rows

abbrev pub channels_of : List Channel → ChannelMap
channels_of rows = from_entries (map (λ row. (row.number, row.binding)) rows)

-- each number and each peer is in it once, and the numbers are those of channels
pub record AreChannels (rows : List Channel) : Type 0 where
  pub distinct : AllPairs (λ a b. a.number ≢ b.number) rows
  pub peers : AllPairs (λ a b. IsFalse (is_same_address a.binding.peer b.binding.peer)) rows
  pub low : All (λ row. FIRST_CHANNEL ≤ row.number) rows
  pub high : All (λ row. row.number ≤ LAST_CHANNEL) rows
