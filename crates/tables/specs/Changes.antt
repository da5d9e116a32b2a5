-- Meaning. Changes of the live rows at the moment of the change, or the first refusal that applies.
use Rattle.std.specs.Prelude.{◌≡◌, ℕ, ◌+◌, List, Option, Result, Ok, Err, ok_or, slice_set, position, nat_le, is_none}
use Rattle.std.specs.FinMap.{insert, empty, len}
use Rattle.basics.specs.Fallible.{◌>>=◌, check}
use Rattle.std.specs.List.{list_all}
use Rattle.addresses.specs.Addresses.{ip_of, is_of_family}
use Rattle.addresses.specs.declared.address.Family.{Family}
use Rattle.addresses.specs.declared.address.Addr.{Addr}
use Rattle.tables.specs.Permissions.{PermissionMap, with_all}
use Rattle.tables.specs.Channels.{ChannelMap, may_bind}
use Rattle.tables.specs.Rows.{Rows, held_at}
use Rattle.tables.specs.LookUps.{held_in, allocation_of}
use Rattle.tables.specs.declared.allocation.Allocation.{Allocation}
use Rattle.tables.specs.declared.channels.TheConstants.{CHANNEL_LIFETIME, MAX_CHANNELS}
use Rattle.tables.specs.declared.held.Held.{Held}
use Rattle.tables.specs.declared.permissions.TheConstants.{PERMISSION_LIFETIME, MAX_PERMISSIONS}
use Rattle.tables.specs.declared.refusal.TableError.{TableError}
use Rattle.tables.specs.declared.refusal.TableError.TheVariants as refusal
use Rattle.tables.specs.declared.refusal.TableError.TheVariants.{Mismatch, Capacity, Conflict, NoAllocation}

-- an answer with the new rows, or a refusal
abbrev pub Change : Type 0 → Type 0
Change A = Result (A × Rows) TableError

-- A change that is made gives its answer and leaves its rows; a refused one leaves the rows as they were.
abbrev pub Follows : {A : Type 0} → Change A → Rows → Result A TableError → Rows → Type 0
Follows (Ok made) old result new = (result ≡ Ok made.0) × (new ≡ made.1)
Follows (Err refused) old result new = (result ≡ Err refused) × (new ≡ old)

-- the rows where a slot holds this, as far as that is live
abbrev pub with_held : Rows → ℕ → Held → Rows
with_held rows slot held = record rows { slots = slice_set rows.slots slot (held_at rows.moment held) }

-- ---- allocations

-- the lowest slot that holds nothing
abbrev pub first_free : Rows → Option ℕ
first_free rows = position is_none rows.slots

-- an allocation as it is made: it has no permissions and no channels
abbrev pub fresh : Allocation → Held
fresh allocation = record { allocation = allocation; permissions = empty; channels = empty }

abbrev pub allocation_change : Addr → ℕ → List ℕ → List ℕ → Family → ℕ → Rows → Change ℕ
allocation_change client user owner tx family lifetime rows = do
  _ ← check (is_none (allocation_of client rows)) Mismatch
  slot ← ok_or (first_free rows) Capacity
  Ok (slot, with_held rows slot (fresh (record { slot = slot; client = client; family = family; user = user; owner = owner; tx = tx; lifetime = lifetime; end = rows.moment + lifetime })))

-- a new end; with a lifetime of 0 the allocation has ended
abbrev pub refresh_change : ℕ → ℕ → Rows → Change (Unit {0})
refresh_change slot lifetime rows = do
  held ← ok_or (held_in rows slot) NoAllocation
  Ok (tt, with_held rows slot (record held { allocation = record held.allocation { end = rows.moment + lifetime } }))

-- ---- permissions

abbrev pub permission_end : Rows → ℕ
permission_end rows = rows.moment + PERMISSION_LIFETIME

abbrev pub permit_change : ℕ → List Addr → Rows → Change (Unit {0})
permit_change slot ips rows = do
  held ← ok_or (held_in rows slot) NoAllocation
  _ ← check (list_all (is_of_family held.allocation.family) ips) refusal.Family
  _ ← check (nat_le (len (with_all held.permissions ips (permission_end rows))) MAX_PERMISSIONS) Capacity
  Ok (tt, with_held rows slot (record held { permissions = with_all held.permissions ips (permission_end rows) }))

-- ---- channels

abbrev pub with_channel : ChannelMap → ℕ → Addr → Rows → ChannelMap
with_channel channels number peer rows = insert channels number (record { peer = peer; end = rows.moment + CHANNEL_LIFETIME })

abbrev pub with_peer : PermissionMap → Addr → Rows → PermissionMap
with_peer permissions peer rows = insert permissions (ip_of peer) (permission_end rows)

-- binding a channel also permits its peer's IP address
abbrev pub bind_change : ℕ → ℕ → Addr → Rows → Change (Unit {0})
bind_change slot number peer rows = do
  held ← ok_or (held_in rows slot) NoAllocation
  _ ← check (is_of_family held.allocation.family peer) refusal.Family
  _ ← check (may_bind held.channels number peer) Conflict
  _ ← check (nat_le (len (with_channel held.channels number peer rows)) MAX_CHANNELS) Capacity
  _ ← check (nat_le (len (with_peer held.permissions peer rows)) MAX_PERMISSIONS) Capacity
  Ok (tt, with_held rows slot (record held { channels = with_channel held.channels number peer rows; permissions = with_peer held.permissions peer rows }))
