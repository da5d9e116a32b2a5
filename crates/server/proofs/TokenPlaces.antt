-- The sockets of a server, by their tokens.
use Rattle.std.proofs.Common.{◌≡◌, ℕ, suc, ◌-◌, ◌<◌, ◌≤◌, List, ◌∷◌, ◌++◌, length, ap, ◌∙◌, arith}
use Rattle.std.proofs.lemmas.List.{get_or_append_left, get_or-append_right, length-append}
use Rattle.std.proofs.lemmas.List.FromFn.{get_or-map-range_with_len, length-map-range_with_len}
use Rattle.std.specs.List.{slice_index_or}
use Rattle.addresses.specs.declared.address.Family.TheVariants.{Ipv4, Ipv6}
use Rattle.server.specs.Tokens.{of_slots, sockets, socket_at}
use Rattle.server.specs.declared.tokens.SocketId.{SocketId}
use Rattle.server.specs.declared.tokens.SocketId.TheVariants.{Clients, ClientOf, PeerOf, Slot}

module _ (slots : ℕ) (kind : ℕ → SocketId) (rest : List SocketId) where
  -- a socket of the first kind of those that are left
  at_kind : (index : ℕ) → index < slots → slice_index_or (of_slots kind slots ++ rest) index Clients ≡ kind index
  at_kind index inside =
      let few = length-map-range_with_len kind 0 slots in
      get_or_append_left (of_slots kind slots) rest Clients index (omega (arith, few, inside))
      ∙ get_or-map-range_with_len kind 0 slots index index Clients inside (omega (arith))

  -- one of the further kinds
  past_kind : (index : ℕ) → slots ≤ index → slice_index_or (of_slots kind slots ++ rest) index Clients ≡ slice_index_or rest (index - slots) Clients
  past_kind index past = get_or-append_right (of_slots kind slots) rest slots index Clients (length-map-range_with_len kind 0 slots) past

module _ (slots slots6 : ℕ) where
  abbrev at4 : ℕ → SocketId
  at4 slot = Slot slot Ipv4

  abbrev at6 : ℕ → SocketId
  at6 slot = Slot slot Ipv6

  abbrev from6 : List SocketId
  from6 = of_slots at6 slots6

  abbrev from4 : List SocketId
  from4 = of_slots at4 slots ++ from6

  abbrev from_peers : List SocketId
  from_peers = of_slots PeerOf slots ++ from4

  pub at_client : (token client : ℕ) → token ≡ suc client → client < slots → socket_at slots slots6 token ≡ ClientOf client
  at_client token client is inside = ap (socket_at slots slots6) is ∙ at_kind slots ClientOf from_peers client inside

  -- after those of clients
  past_clients : (token client : ℕ) → token ≡ suc client → slots ≤ client → socket_at slots slots6 token ≡ slice_index_or from_peers (client - slots) Clients
  past_clients token client is past = ap (socket_at slots slots6) is ∙ past_kind slots ClientOf from_peers client past

  pub at_peer : (token client : ℕ) → token ≡ suc client → slots ≤ client → client - slots < slots → socket_at slots slots6 token ≡ PeerOf (client - slots)
  at_peer token client is past inside = past_clients token client is past ∙ at_kind slots PeerOf from4 (client - slots) inside

  -- after those of peers
  past_peers : (token client : ℕ) → token ≡ suc client → slots ≤ client → slots ≤ client - slots → socket_at slots slots6 token ≡ slice_index_or from4 (client - slots - slots) Clients
  past_peers token client is past further = past_clients token client is past ∙ past_kind slots PeerOf from4 (client - slots) further

  pub at_slot4 : (token client : ℕ) → token ≡ suc client → slots ≤ client → slots ≤ client - slots → client - slots - slots < slots → socket_at slots slots6 token ≡ Slot (client - slots - slots) Ipv4
  at_slot4 token client is past further inside = past_peers token client is past further ∙ at_kind slots at4 from6 (client - slots - slots) inside

  pub at_slot6 : (token client : ℕ) → token ≡ suc client → slots ≤ client → slots ≤ client - slots → slots ≤ client - slots - slots → token < length (sockets slots slots6) → socket_at slots slots6 token ≡ Slot (client - slots - slots - slots) Ipv6
  at_slot6 token client is past further last inside =
      let clients_few = length-map-range_with_len ClientOf 0 slots in
      let peers_few = length-map-range_with_len PeerOf 0 slots in
      let few = length-map-range_with_len at4 0 slots in
      let few6 = length-map-range_with_len at6 0 slots6 in
      let both = length-append (of_slots at4 slots) from6 in
      let three = length-append (of_slots PeerOf slots) from4 in
      let all = length-append (of_slots ClientOf slots) from_peers in
      past_peers token client is past further
      ∙ past_kind slots at4 from6 (client - slots - slots) last
      ∙ get_or-map-range_with_len at6 0 slots6 (client - slots - slots - slots) (client - slots - slots - slots) Clients (omega (arith, is, past, further, last, inside, clients_few, peers_few, few, few6, both, three, all)) (omega (arith))
