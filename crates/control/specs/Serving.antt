-- Internal. What the functions give that `respond` calls.
use Rattle.std.specs.Prelude.{◌≡◌, ℕ, ◌+◌, ◌<◌, ◌≤◌, Bool, List, drop, Result, Ok, Err}
use Rattle.std.specs.List.{list_all}
use Rattle.basics.specs.Fallible.{◌>>=◌}
use Rattle.stun.specs.Builders.{bytes_of, parts_of, used_of, capacity_of, SameBuffer}
use Rattle.stun.specs.Messages.{Attribute, Parts}
use Rattle.stun.specs.declared.building.Builder.{Builder}
use Rattle.stun.specs.declared.registry.ErrorCode.{ErrorCode}
use Rattle.addresses.specs.Addresses.{is_of_family}
use Rattle.addresses.specs.declared.address.Family.{Family}
use Rattle.tables.specs.Rows.{Rows}
use Rattle.control.specs.Control.{Decision, rows_after, peers_in}
use Rattle.control.specs.Replies.{with_attributes}
use Rattle.control.specs.declared.config.Config.{Config}
use Rattle.control.specs.declared.reply.Grant.{Grant}
use Rattle.control.specs.declared.reply.Grant.TheVariants as grant

-- A grant comes with its rows; an error leaves the rows as they were.
abbrev pub Gives : Decision → Rows → Result Grant ErrorCode → Rows → Type 0
Gives (Ok granted) old result new = (result ≡ Ok granted.0) × (new ≡ rows_after old granted.1)
Gives (Err error) old result new = (result ≡ Err error) × (new ≡ old)

-- a granted slot is below `slots`
abbrev pub HasSlotBelow : ℕ → Grant → Type 0
HasSlotBelow slots grant.Mapped = Unit {0}
HasSlotBelow slots (grant.Allocated family slot lifetime) = slot < slots
HasSlotBelow slots (grant.Refreshed lifetime) = Unit {0}
HasSlotBelow slots grant.Done = Unit {0}

-- the port of a relayed address is at most 65,535
abbrev pub HasPort : Config → Grant → Type 0
HasPort config grant.Mapped = Unit {0}
HasPort config (grant.Allocated family slot lifetime) = config.first_port + slot < 0x10000
HasPort config (grant.Refreshed lifetime) = Unit {0}
HasPort config grant.Done = Unit {0}

-- whether all addresses of a request are of a family
abbrev pub are_of : Family → Parts → Result Bool ErrorCode
are_of family p = do
  peers ← peers_in p
  Ok (list_all (is_of_family family) peers)

-- from an index on the bytes are as before
abbrev pub IsKeptFrom : ℕ → List ℕ → List ℕ → Type 0
IsKeptFrom from old new = (n : ℕ) → from ≤ n → drop n new ≡ drop n old

-- appends these attributes, at most `most` bytes
pub record Pushes (attributes : List Attribute) (most : ℕ) (old new : Builder) : Type 0 where
  pub parts : parts_of new ≡ with_attributes (parts_of old) attributes
  pub used : used_of new ≤ used_of old + most
  pub room : capacity_of new ≡ capacity_of old
  pub same_buffer : SameBuffer old new
  pub longer : used_of old ≤ used_of new
  pub kept : IsKeptFrom (used_of new) (bytes_of old) (bytes_of new)
