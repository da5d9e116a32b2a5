-- Meaning. The rules of relaying (RFC 8656, sections 11 and 12): what is sent for a datagram, over look-ups, and over the
-- live rows.
use Rattle.std.specs.Prelude.{ℕ, List, Bool, length, nat_le, Option, Some, None, option_map}
use Rattle.stun.specs.Channels.{channel_bytes}
use Rattle.stun.specs.Datagrams.{channel_in}
use Rattle.stun.specs.Messages.{Parts, parts_bytes, empty_message, with_attribute}
use Rattle.stun.specs.Types.{type_number}
use Rattle.stun.specs.declared.registry.Class.TheVariants as class
use Rattle.stun.specs.declared.registry.Method.TheVariants as method
use Rattle.stun.specs.declared.registry.attribute.TheConstants.{XOR_PEER_ADDRESS, DATA}
use Rattle.attributes.specs.Addresses.{address_in, address_value}
use Rattle.addresses.specs.Addresses.{is_of_family}
use Rattle.addresses.specs.declared.address.Addr.{Addr}
use Rattle.credentials.specs.Checks.{first_value}
use Rattle.control.specs.Control.{all_understood}
use Rattle.tables.specs.Rows.{Rows}
use Rattle.tables.specs.LookUps.{allocation_of, allocation_at, peer_of, channel_of, has_permission}
use Rattle.semantics.specs.declared.limits.TheConstants.{MAX_DATAGRAM}
use Rattle.tables.specs.declared.allocation.Allocation.{Allocation}
use Rattle.events.specs.Events.{Sending, ToPeer, ToClient}
use Rattle.basics.specs.Options.{◌>>=◌, guard}

-- the type of a Send indication, and of a Data indication
abbrev pub send_indication : ℕ
send_indication = type_number (record { method = method.Send; class = class.Indication })

abbrev pub data_indication : ℕ
data_indication = type_number (record { method = method.Data; class = class.Indication })

-- ---- from a client, over look-ups in the slot of its allocation: the peer that is sent to, and the bytes

-- the data of a channel goes to the peer that its number is bound to; no permission is asked for
abbrev pub channel_data : (ℕ → Option Addr) → List ℕ → Option (Addr × List ℕ)
channel_data peer datagram = do
  m ← channel_in datagram
  to ← peer m.number
  Some (to, m.bytes)

-- DATA of a Send indication, whose attributes are all understood, goes to its address, if that has a permission
abbrev pub send : (Addr → Bool) → Parts → Option (Addr × List ℕ)
send permits p = do
  _ ← guard (all_understood p)
  value ← first_value p XOR_PEER_ADDRESS
  content ← first_value p DATA
  to ← address_in p.tx value
  _ ← guard (permits to)
  Some (to, content)

-- ---- from a peer, over look-ups in the slot that it sent to: the bytes for the client

-- ChannelData where a channel is bound to exactly this peer, and else a Data indication
abbrev pub message_to_client : Option ℕ → Addr → List ℕ → List ℕ → List ℕ
message_to_client (Some number) peer tx content = channel_bytes (record { number = number; bytes = content })
message_to_client None peer tx content = parts_bytes (with_attribute (with_attribute (empty_message data_indication tx) XOR_PEER_ADDRESS (address_value peer tx)) DATA content)

-- the data of a peer that has a permission, if what carries it is no longer than a datagram may be
abbrev pub peer_data : Bool → Option ℕ → Addr → List ℕ → List ℕ → Option (List ℕ)
peer_data permits number peer tx content = do
  _ ← guard permits
  _ ← guard (nat_le (length (message_to_client number peer tx content)) MAX_DATAGRAM)
  Some (message_to_client number peer tx content)

-- ---- over the live rows

-- the slot of a client's allocation
abbrev pub client_slot : Addr → Rows → Option ℕ
client_slot client rows = option_map (λ a. a.slot) (allocation_of client rows)

-- the client of a slot's allocation
abbrev pub client_at : ℕ → Rows → Option Addr
client_at slot rows = option_map (λ a. a.client) (allocation_at slot rows)

-- from the relayed address of an allocation, to a peer of its family
abbrev pub to_peer : Allocation → Addr × List ℕ → Option Sending
to_peer a pair = do
  _ ← guard (is_of_family a.family pair.0)
  Some (ToPeer a.slot pair.0 pair.1)

abbrev pub channel_data_from : Addr → Rows → List ℕ → Option Sending
channel_data_from client rows datagram = do
  a ← allocation_of client rows
  pair ← channel_data (λ number. peer_of a.slot number rows) datagram
  to_peer a pair

abbrev pub send_from : Addr → Rows → Parts → Option Sending
send_from client rows p = do
  a ← allocation_of client rows
  pair ← send (λ to. has_permission a.slot to rows) p
  to_peer a pair

abbrev pub peer_data_to : ℕ → Addr → List ℕ → Rows → List ℕ → Option Sending
peer_data_to slot peer tx rows content = do
  client ← client_at slot rows
  option_map (ToClient client) (peer_data (has_permission slot peer rows) (channel_of slot peer rows) peer tx content)
