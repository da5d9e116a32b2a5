-- Meaning. What a client has permitted (RFC 8656, sections 9, 11 and 12): to which peers the data of its datagrams may go, and
-- from which peers data may come to it.
use Rattle.std.specs.Prelude.{◌≡◌, ℕ, List, Bool, true, ◌||◌, ◌&&◌, bytes_eq, is_some, Some}
use Rattle.std.specs.List.{list_any}
use Rattle.addresses.specs.Addresses.{ip_of, is_of_family, port_of}
use Rattle.addresses.specs.declared.address.Addr.{Addr}
use Rattle.addresses.specs.declared.address.Addr.TheVariants.{V4, V6}
use Rattle.tables.specs.LookUps.{allocation_of, channel_of, has_permission}
use Rattle.tables.specs.Rows.{Rows}
use Rattle.tables.specs.declared.allocation.Allocation.{Allocation}
use Rattle.events.specs.Events.{Sending, ToPeer, ToClient}
use Rattle.events.specs.declared.meta.Source.{Source}
use Rattle.events.specs.declared.meta.Source.TheVariants.{Client, Peer}
use Rattle.rules.specs.Rules.{client_at}
use Rattle.rules.specs.declared.confinement.Alias.{Alias}

-- ---- peers by another name

-- an IP address with another port
abbrev pub at_port : Addr → ℕ → Addr
at_port (V4 ip port) other = V4 ip other
at_port (V6 ip port) other = V6 ip other

-- whether an alias is one of a peer's IP address
abbrev pub is_alias_of : Addr → Alias → Bool
is_alias_of peer alias = bytes_eq (ip_of alias.address) (ip_of peer)

-- the address that a peer has by an alias; the port stays the peer's
abbrev pub counted_as : Addr → Alias → Addr
counted_as peer alias = at_port alias.counts_as (port_of peer)

-- whether a test holds of a peer, or of an address that it counts as
abbrev pub holds_as : List Alias → (Addr → Bool) → Addr → Bool
holds_as aliases test peer = test peer || list_any (λ alias. is_alias_of peer alias && test (counted_as peer alias)) aliases

-- ---- what is permitted

-- a peer to which data may go from a slot: its IP address has a permission, or a channel is bound to exactly this peer
abbrev pub is_permitted_peer : ℕ → Rows → Addr → Bool
is_permitted_peer slot rows peer = has_permission slot peer rows || is_some (channel_of slot peer rows)

-- data of a client goes to a peer: from the slot of its live allocation, to a permitted peer of the allocation's family
pub record MayReach (aliases : List Alias) (client : Addr) (slot : ℕ) (peer : Addr) (rows : Rows) : Type 0 where
  pub allocation : Allocation
  pub of_client : allocation_of client rows ≡ Some allocation
  pub from_slot : allocation.slot ≡ slot
  pub family : is_of_family allocation.family peer ≡ true
  pub permitted : holds_as aliases (is_permitted_peer slot rows) peer ≡ true

-- data of a peer goes to a client: that of the live allocation of the slot that it came to, where the peer's IP address has a
-- permission
pub record MayBeReached (aliases : List Alias) (client : Addr) (slot : ℕ) (peer : Addr) (rows : Rows) : Type 0 where
  pub at_slot : client_at slot rows ≡ Some client
  pub permitted : holds_as aliases (λ name. has_permission slot name rows) peer ≡ true

-- What may be sent for a datagram of a source, over the live rows. A reply goes to the client that it answers.
abbrev pub IsPermitted : List Alias → Source → Rows → Sending → Type 0
IsPermitted aliases (Client client) rows (ToPeer slot peer bytes) = MayReach aliases client slot peer rows
IsPermitted aliases (Client client) rows (ToClient to bytes) = to ≡ client
IsPermitted aliases (Peer slot peer) rows (ToPeer from to bytes) = ⊥
IsPermitted aliases (Peer slot peer) rows (ToClient client bytes) = MayBeReached aliases client slot peer rows

-- the look-ups that decide it of what a program sends, whose slot, client and family are right by definition
abbrev pub is_permitted : List Alias → Source → Rows → Sending → Bool
is_permitted aliases (Client client) rows (ToPeer slot peer bytes) = holds_as aliases (is_permitted_peer slot rows) peer
is_permitted aliases (Client client) rows (ToClient to bytes) = true
is_permitted aliases (Peer slot peer) rows sending = holds_as aliases (λ name. has_permission slot name rows) peer
