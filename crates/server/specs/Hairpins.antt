-- Meaning. Data between two relayed addresses of one server, which a NAT before it may not send back to it (hairpinning; RFC 4787,
-- section 6).
use Rattle.std.specs.Prelude.{◌≡◌, ℕ, Bool, true, ◌&&◌, nat_le, bytes_eq, if◌then◌else◌}
use Rattle.addresses.specs.Addresses.{ip_of, port_of}
use Rattle.addresses.specs.declared.address.Addr.{Addr}
use Rattle.rules.specs.Permitted.{at_port}
use Rattle.server.specs.declared.hairpin.Hairpin.{Hairpin}

-- an address with this IP address and a port of a slot
abbrev pub is_of_slot : Hairpin → Addr → Addr → Bool
is_of_slot h ip a = bytes_eq (ip_of ip) (ip_of a) && (nat_le h.first (port_of a) && nat_le (port_of a) h.last)

-- where data to an address is sent: a relayed address stands for that of the socket
abbrev pub outward : Hairpin → Addr → Addr
outward h to = if is_of_slot h h.relayed to then at_port h.bound (port_of to) else to

-- from where data of an address comes: the address of a socket stands for the relayed one
abbrev pub inward : Hairpin → Addr → Addr
inward h from = if is_of_slot h h.bound from then at_port h.relayed (port_of from) else from

-- data to a relayed address goes to a socket whose address stands for that one
abbrev pub ComesBack : Hairpin → Addr → Type 0
ComesBack h a = is_of_slot h h.relayed a ≡ true → inward h (outward h a) ≡ a
