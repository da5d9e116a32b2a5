-- Meaning. Rows that are well formed. The rows of tables always are.
use Rattle.std.specs.Prelude.{◌≡◌, ℕ, ◌≤◌, length, Some}
use Rattle.std.specs.FinMap.{get, len}
use Rattle.addresses.specs.Addresses.{IsAddress, IsIpv4Address}
use Rattle.tables.specs.Channels.{IsChannelNumber}
use Rattle.tables.specs.LookUps.{held_in}
use Rattle.tables.specs.Rows.{Rows}
use Rattle.tables.specs.declared.channels.Binding.{Binding}
use Rattle.tables.specs.declared.channels.TheConstants.{MAX_CHANNELS}
use Rattle.tables.specs.declared.held.Held.{Held}
use Rattle.tables.specs.declared.moment.TheConstants.{LATEST}
use Rattle.tables.specs.declared.permissions.TheConstants.{MAX_PERMISSIONS}
use Rattle.tables.specs.declared.storage.TheConstants.{MAX_ALLOCATIONS}

-- a channel has one of the numbers of channels, and is bound to an address
pub record IsChannel (number : ℕ) (binding : Binding) : Type 0 where
  pub in_range : IsChannelNumber number
  pub peer : IsAddress binding.peer

-- an allocation names its slot, its client has an IPv4 address, and there is room for its permissions and channels
pub record IsHeldAt (slot : ℕ) (held : Held) : Type 0 where
  pub at_slot : held.allocation.slot ≡ slot
  pub client : IsIpv4Address held.allocation.client
  pub channels : (number : ℕ) (binding : Binding) → get held.channels number ≡ Some binding → IsChannel number binding
  pub few_permissions : len held.permissions ≤ MAX_PERMISSIONS
  pub few_channels : len held.channels ≤ MAX_CHANNELS

pub record AreWellFormed (rows : Rows) : Type 0 where
  pub latest : rows.moment ≤ LATEST
  pub few : length rows.slots ≤ MAX_ALLOCATIONS
  pub held : (slot : ℕ) (held : Held) → held_in rows slot ≡ Some held → IsHeldAt slot held
