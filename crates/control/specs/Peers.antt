-- Internal. The well-formed addresses of a CreatePermission request, and one step of collecting those that differ.
use Rattle.std.specs.Prelude.{◌||◌, List, [], ◌∷◌, ◌++◌, length, nat_le, bytes_eq, filter_map, if◌then◌else◌}
use Rattle.std.specs.List.{list_any}
use Rattle.stun.specs.Attributes.{values_of}
use Rattle.stun.specs.Messages.{Parts, message_of}
use Rattle.stun.specs.declared.registry.attribute.TheConstants.{XOR_PEER_ADDRESS}
use Rattle.addresses.specs.Addresses.{ip_of}
use Rattle.attributes.specs.Addresses.{address_in}
use Rattle.addresses.specs.declared.address.Addr.{Addr}
use Rattle.control.specs.declared.create_permission.TheConstants.{MAX_PEERS}

-- the addresses that are well formed
abbrev pub peers_of : Parts → List Addr
peers_of p = filter_map (address_in p.tx) (values_of XOR_PEER_ADDRESS (message_of p).attributes)

-- an address after others, if its IP address isn't among them and there is room
abbrev pub peers_with : List Addr → Addr → List Addr
peers_with peers peer = if list_any (λ known. bytes_eq (ip_of known) (ip_of peer)) peers || nat_le MAX_PEERS (length peers) then peers else peers ++ peer ∷ []
