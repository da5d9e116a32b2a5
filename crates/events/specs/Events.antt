-- Meaning. What comes to a relay, and what it sends.
use Rattle.std.specs.Prelude.{ℕ, List}
use Rattle.addresses.specs.declared.address.Addr.{Addr}
use Rattle.events.specs.declared.meta.Meta.{Meta}

-- a datagram with what is known of it, or a new nonce
pub data Event : Type 0 where
  Datagram : (given : Meta) (bytes : List ℕ) → Event
  Nonce : (text : List ℕ) → Event

-- a datagram to a peer, from the relayed address of a slot, or to a client
pub data Sending : Type 0 where
  ToPeer : (slot : ℕ) (peer : Addr) (bytes : List ℕ) → Sending
  ToClient : (client : Addr) (bytes : List ℕ) → Sending
