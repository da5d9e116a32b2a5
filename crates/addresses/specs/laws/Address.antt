-- Interface. Laws of addresses.
use Rattle.addresses.specs.Addresses.{IsAddress, IsIpv4Address}
use Rattle.addresses.specs.declared.address.Addr.{Addr}
use Rattle.addresses.specs.declared.address.Addr.TheVariants.{V4, V6}

-- an IPv4 address has the bytes of its family
pub ipv4-is_address : (address : Addr) → IsIpv4Address address → IsAddress address
ipv4-is_address (V4 ip port) is = is
ipv4-is_address (V6 ip port) is = absurd is
