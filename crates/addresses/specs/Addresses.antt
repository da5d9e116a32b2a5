-- Meaning. Transport addresses: their bytes, their ports and their families.
use Rattle.std.specs.Prelude.{◌≡◌, ℕ, ◌<◌, Bool, true, false, List, length, slice_index}
use Rattle.addresses.specs.declared.address.Addr.{Addr}
use Rattle.addresses.specs.declared.address.Addr.TheVariants.{V4, V6}
use Rattle.addresses.specs.declared.address.Family.{Family}
use Rattle.addresses.specs.declared.address.Family.TheVariants.{Ipv4, Ipv6}

-- an address has the bytes of its family, and a port of 16 bits
pub record HasWidth (n : ℕ) (ip : List ℕ) (port : ℕ) : Type 0 where
  pub long : length ip ≡ n
  pub bytes : (i : ℕ) → slice_index ip i < 256
  pub small : port < 0x10000

abbrev pub IsAddress : Addr → Type 0
IsAddress (V4 ip port) = HasWidth 4 ip port
IsAddress (V6 ip port) = HasWidth 16 ip port

abbrev pub IsIpv4Address : Addr → Type 0
IsIpv4Address (V4 ip port) = HasWidth 4 ip port
IsIpv4Address (V6 ip port) = ⊥

-- whether an address is one of a family
abbrev pub is_of_family : Family → Addr → Bool
is_of_family Ipv4 (V4 ip port) = true
is_of_family Ipv4 (V6 ip port) = false
is_of_family Ipv6 (V4 ip port) = false
is_of_family Ipv6 (V6 ip port) = true

-- the bytes of the IP address, and the port
abbrev pub ip_of : Addr → List ℕ
ip_of (V4 ip port) = ip
ip_of (V6 ip port) = ip

abbrev pub port_of : Addr → ℕ
port_of (V4 ip port) = port
port_of (V6 ip port) = port
