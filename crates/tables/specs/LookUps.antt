-- Meaning. Look-ups in the live rows.
use Rattle.std.specs.Prelude.{ℕ, Bool, false, Option, None, Some, slice_get, is_some, find}
use Rattle.std.specs.Option.{option_map, option_and_then, option_flatten}
use Rattle.std.specs.FinMap.{empty, get}
use Rattle.addresses.specs.Addresses.{ip_of}
use Rattle.addresses.specs.AddressOrder.{is_same_address}
use Rattle.addresses.specs.declared.address.Addr.{Addr}
use Rattle.tables.specs.Channels.{ChannelMap, number_to}
use Rattle.tables.specs.Permissions.{PermissionMap}
use Rattle.tables.specs.Rows.{Rows}
use Rattle.tables.specs.declared.allocation.Allocation.{Allocation}
use Rattle.tables.specs.declared.held.Held.{Held}

-- what a slot holds; a slot that isn't there holds nothing
abbrev pub held_in : Rows → ℕ → Option Held
held_in rows slot = option_flatten (slice_get rows.slots slot)

abbrev pub is_of : Addr → Option Held → Bool
is_of client None = false
is_of client (Some held) = is_same_address client held.allocation.client

-- what the slot of a client holds
abbrev pub held_by : Addr → Rows → Option Held
held_by client rows = option_flatten (find (is_of client) rows.slots)

-- ---- in what a slot holds

-- the peer that a channel is bound to
abbrev pub bound_peer : ℕ → Held → Option Addr
bound_peer number held = option_map (λ b. b.peer) (get held.channels number)

-- the channel that is bound to a peer
abbrev pub bound_channel : Addr → Held → Option ℕ
bound_channel peer held = number_to peer held.channels

-- the end of the permission of an IP address
abbrev pub permission_of : Addr → Held → Option ℕ
permission_of ip held = get held.permissions (ip_of ip)

-- ---- in the rows

-- the allocation of a client
abbrev pub allocation_of : Addr → Rows → Option Allocation
allocation_of client rows = option_map (λ held. held.allocation) (held_by client rows)

-- the allocation at a slot
abbrev pub allocation_at : ℕ → Rows → Option Allocation
allocation_at slot rows = option_map (λ held. held.allocation) (held_in rows slot)

-- the peer that a channel of a slot is bound to
abbrev pub peer_of : ℕ → ℕ → Rows → Option Addr
peer_of slot number rows = option_and_then (bound_peer number) (held_in rows slot)

-- the channel of a slot that is bound to a peer
abbrev pub channel_of : ℕ → Addr → Rows → Option ℕ
channel_of slot peer rows = option_and_then (bound_channel peer) (held_in rows slot)

-- whether an IP address has a permission at a slot
abbrev pub has_permission : ℕ → Addr → Rows → Bool
has_permission slot ip rows = is_some (option_and_then (permission_of ip) (held_in rows slot))

-- the permissions and the channels of what a slot holds
abbrev pub permissions_held : Option Held → PermissionMap
permissions_held None = empty
permissions_held (Some held) = held.permissions

abbrev pub channels_held : Option Held → ChannelMap
channels_held None = empty
channels_held (Some held) = held.channels

abbrev pub permissions_at_slot : ℕ → Rows → PermissionMap
permissions_at_slot slot rows = permissions_held (held_in rows slot)

abbrev pub channels_at_slot : ℕ → Rows → ChannelMap
channels_at_slot slot rows = channels_held (held_in rows slot)
