-- Internal. What is stored: slots, the clients that have one in ascending order of their addresses, and the changes of what a
-- slot holds.
use Rattle.std.specs.Prelude.{◌≡◌, ◌≢◌, ℕ, ◌+◌, ◌<◌, List, slice_get, Option, None, Some, Result, Ok, Err, ok_or, All, AllPairs, nat_lt, nat_le, if◌then◌else◌}
use Rattle.std.specs.Option.{option_map, option_flatten}
use Rattle.std.specs.FinMap.{insert, len}
use Rattle.std.specs.List.{list_all}
use Rattle.std.specs.declared.cmp.Ordering.TheVariants.{Less}
use Rattle.basics.specs.Fallible.{◌>>=◌, check}
use Rattle.addresses.specs.Addresses.{ip_of, is_of_family}
use Rattle.addresses.specs.declared.address.Addr.{Addr}
use Rattle.addresses.specs.AddressOrder.{order_by_parts}
use Rattle.tables.specs.Changes.{Change, with_held}
use Rattle.tables.specs.Channels.{IsChannelNumber, may_bind}
use Rattle.tables.specs.LookUps.{held_in}
use Rattle.tables.specs.Permissions.{with_all}
use Rattle.tables.specs.Rows.{Rows, held_at}
use Rattle.tables.specs.WellFormed.{AreWellFormed, IsHeldAt}
use Rattle.tables.specs.declared.channels.TheConstants.{CHANNEL_LIFETIME, MAX_CHANNELS}
use Rattle.tables.specs.declared.clients.Client.{Client}
use Rattle.tables.specs.declared.held.Held.{Held}
use Rattle.tables.specs.declared.held.HeldChange.{HeldChange}
use Rattle.tables.specs.declared.held.HeldChange.TheVariants.{Refresh, Permit, Bind}
use Rattle.tables.specs.declared.permissions.TheConstants.{PERMISSION_LIFETIME, MAX_PERMISSIONS}
use Rattle.tables.specs.declared.refusal.TableError.{TableError}
use Rattle.tables.specs.declared.refusal.TableError.TheVariants as refusal
use Rattle.tables.specs.declared.refusal.TableError.TheVariants.{Capacity, Conflict, NoAllocation}

abbrev pub stored_at : List (Option Held) → ℕ → Option Held
stored_at slots slot = option_flatten (slice_get slots slot)

abbrev pub client_in : Option Held → Option Addr
client_in slot = option_map (λ held. held.allocation.client) slot

-- each client has the slot that its row names, and each slot that holds something has a row
pub record AreClients (slots : List (Option Held)) (clients : List Client) : Type 0 where
  pub ascending : AllPairs (λ a b. order_by_parts a.address b.address ≡ Less) clients
  pub held : All (λ row. client_in (stored_at slots row.slot) ≡ Some row.address) clients
  pub listed : (slot : ℕ) (held : Held) → stored_at slots slot ≡ Some held → All (λ row. row.slot ≢ slot) clients → ⊥

pub record AreStored (moment : ℕ) (slots : List (Option Held)) (clients : List Client) : Type 0 where
  pub rows : AreWellFormed (record { moment = moment; slots = slots })
  pub listed : AreClients slots clients

-- what a slot holds whose allocation is live at a moment; of the permissions and channels some may have ended
pub record IsLiveSlot (moment : ℕ) (held : Held) : Type 0 where
  pub live : moment < held.allocation.end
  pub held_at : IsHeldAt held.allocation.slot held

-- what a slot holds, unless its allocation has ended
abbrev pub left_at : ℕ → Option Held → Option Held
left_at t None = None
left_at t (Some held) = if nat_lt t held.allocation.end then Some held else None

-- ---- what a slot holds, changed

-- with a new end of the allocation
abbrev pub with_end : ℕ → Held → Held
with_end end held = record held { allocation = record held.allocation { end = end } }

-- with permissions for these IP addresses
abbrev pub with_permissions : ℕ → List Addr → Held → Held
with_permissions end ips held = record held { permissions = with_all held.permissions ips end }

-- with a channel, and a permission for its peer's IP address
abbrev pub with_binding : ℕ → ℕ → Addr → Held → Held
with_binding t number peer held = record held {
  channels = insert held.channels number (record { peer = peer; end = t + CHANNEL_LIFETIME });
  permissions = insert held.permissions (ip_of peer) (t + PERMISSION_LIFETIME);
}

-- ---- the changes of what a slot holds

abbrev pub permit_held : ℕ → List Addr → Held → Result Held TableError
permit_held t ips held = do
  _ ← check (list_all (is_of_family held.allocation.family) ips) refusal.Family
  _ ← check (nat_le (len (with_all held.permissions ips (t + PERMISSION_LIFETIME))) MAX_PERMISSIONS) Capacity
  Ok (with_permissions (t + PERMISSION_LIFETIME) ips held)

abbrev pub bind_held : ℕ → ℕ → Addr → Held → Result Held TableError
bind_held t number peer held = do
  _ ← check (is_of_family held.allocation.family peer) refusal.Family
  _ ← check (may_bind held.channels number peer) Conflict
  _ ← check (nat_le (len (insert held.channels number (record { peer = peer; end = t + CHANNEL_LIFETIME }))) MAX_CHANNELS) Capacity
  _ ← check (nat_le (len (insert held.permissions (ip_of peer) (t + PERMISSION_LIFETIME))) MAX_PERMISSIONS) Capacity
  Ok (with_binding t number peer held)

-- after a change that is made, what is live is what it makes; a refused one leaves what is stored
abbrev pub LeavesHeld : Result Held TableError → ℕ → Held → Result (Unit {0}) TableError → Held → Type 0
LeavesHeld (Ok made) t old result new = (result ≡ Ok tt) × (held_at t new ≡ held_at t made)
LeavesHeld (Err refused) t old result new = (result ≡ Err refused) × (new ≡ old)

-- ---- the changes in one definition

-- a channel that is bound has one of the numbers of channels
abbrev pub HasChannelNumber : HeldChange → Type 0
HasChannelNumber (Refresh lifetime) = Unit {0}
HasChannelNumber (Permit ips) = Unit {0}
HasChannelNumber (Bind number peer) = IsChannelNumber number

-- at a moment
abbrev pub change_held : HeldChange → ℕ → Held → Result Held TableError
change_held (Refresh lifetime) t held = Ok (with_end (t + lifetime) held)
change_held (Permit ips) t held = permit_held t ips.now held
change_held (Bind number peer) t held = bind_held t number peer held

-- the rows where what a slot holds is changed
abbrev pub slot_change : ℕ → HeldChange → Rows → Change (Unit {0})
slot_change slot change rows = do
  held ← ok_or (held_in rows slot) NoAllocation
  made ← change_held change rows.moment held
  Ok (tt, with_held rows slot made)
