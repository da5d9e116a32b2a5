-- Internal. Rows as they are stored, in ascending order of their keys.
use Rattle.std.specs.Prelude.{◌≡◌, ◌≢◌, List, All, AllPairs}
use Rattle.std.specs.Ordering.{nat_cmp}
use Rattle.std.specs.declared.cmp.Ordering.TheVariants.{Less}
use Rattle.addresses.specs.Addresses.{ip_of}
use Rattle.addresses.specs.AddressOrder.{ip_order, order_by_parts}
use Rattle.tables.specs.Channels.{IsChannelNumber}
use Rattle.tables.specs.RowLists.{channels_of}
use Rattle.tables.specs.declared.channels.Channel.{Channel}
use Rattle.tables.specs.declared.permissions.Permission.{Permission}

-- by IP address
abbrev pub AreSortedPermissions : List Permission → Type 0
AreSortedPermissions rows = AllPairs (λ a b. ip_order (ip_of a.ip) (ip_of b.ip) ≡ Less) rows

-- by number
abbrev pub AreSortedByNumber : List Channel → Type 0
AreSortedByNumber rows = AllPairs (λ a b. nat_cmp a.number b.number ≡ Less) rows

-- by peer
abbrev pub AreSortedByPeer : List Channel → Type 0
AreSortedByPeer rows = AllPairs (λ a b. order_by_parts a.binding.peer b.binding.peer ≡ Less) rows

-- the same channels in both orders
pub record AreChannelLists (rows by_peer : List Channel) : Type 0 where
  pub numbers : AreSortedByNumber rows
  pub peers : AreSortedByPeer by_peer
  pub distinct : AllPairs (λ a b. a.number ≢ b.number) by_peer
  pub range : All (λ row. IsChannelNumber row.number) rows
  pub range_by_peer : All (λ row. IsChannelNumber row.number) by_peer
  pub same : channels_of by_peer ≡ channels_of rows
