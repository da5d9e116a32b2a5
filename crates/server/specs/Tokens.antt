-- Meaning. The sockets of a server, in the order of their tokens.
use Rattle.std.specs.Prelude.{ℕ, List, ◌∷◌, ◌++◌, map}
use Rattle.std.specs.List.{range_with_len, slice_index_or}
use Rattle.addresses.specs.declared.address.Family.TheVariants.{Ipv4, Ipv6}
use Rattle.server.specs.declared.link.Place.{Place}
use Rattle.server.specs.declared.link.Place.TheVariants as endpoint
use Rattle.server.specs.declared.tokens.SocketId.{SocketId}
use Rattle.server.specs.declared.tokens.SocketId.TheVariants.{Clients, ClientOf, PeerOf, Slot}

-- those of slots, of a kind, in order
abbrev pub of_slots : (ℕ → SocketId) → ℕ → List SocketId
of_slots kind slots = map kind (range_with_len 0 slots)

-- that of all clients, those of the clients of so many slots in order, those of the slots' peers, those of IPv4 of the slots, and
-- then those of IPv6 of as many slots as have one
abbrev pub sockets : ℕ → ℕ → List SocketId
sockets slots slots6 =
    Clients ∷ (of_slots ClientOf slots ++ (of_slots PeerOf slots ++ (of_slots (λ slot. Slot slot Ipv4) slots ++ of_slots (λ slot. Slot slot Ipv6) slots6)))

-- the one with a token, which is less than their number
abbrev pub socket_at : ℕ → ℕ → ℕ → SocketId
socket_at slots slots6 token = slice_index_or (sockets slots slots6) token Clients

-- the endpoint at which its datagrams come
abbrev pub endpoint_of : SocketId → Place
endpoint_of Clients = endpoint.Client
endpoint_of (ClientOf slot) = endpoint.Client
endpoint_of (PeerOf slot) = endpoint.Slot slot
endpoint_of (Slot slot family) = endpoint.Slot slot
