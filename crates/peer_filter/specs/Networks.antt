-- Meaning. Networks: which addresses they contain (RFC 4632, section 3.1; RFC 4291, section 2.3), and their texts.
use Rattle.std.specs.Prelude.{◌≡◌, ℕ, ◌-◌, ◌/◌, ◌%◌, ◌^◌, ◌<◌, ◌≤◌, Bool, true, false, ◌==◌, List, length, Option, Some, None, Result, Ok, Err}
use Rattle.std.specs.Int.{from_be_bytes, w32, w128}
use Rattle.std.specs.List.{list_any, before_first, after_first}
use Rattle.std.specs.Net.Addr.{ipv4_bits, ipv6_bits}
use Rattle.std.specs.Net.Grammar.{IsIpv4Text, IsIpv6Text}
use Rattle.std.specs.Str.Parse.{IsNumeral, digits_value}
use Rattle.std.specs.declared.net.ipv4_addr.Ipv4Addr.{Ipv4Addr}
use Rattle.std.specs.declared.net.ipv6_addr.Ipv6Addr.{Ipv6Addr}
use Rattle.addresses.specs.declared.address.Addr.{Addr}
use Rattle.addresses.specs.declared.address.Addr.TheVariants as addr
use Rattle.addresses.specs.declared.address.Family.{Family}
use Rattle.addresses.specs.declared.address.Family.TheVariants.{Ipv4, Ipv6}
use Rattle.peer_filter.specs.declared.network.Network.{Network}
use Rattle.peer_filter.specs.declared.network.Network.TheVariants.{V4, V6}
use Rattle.peer_filter.specs.declared.network.NetworkError.{NetworkError}
use Rattle.peer_filter.specs.declared.network.NetworkError.TheVariants.{NotANetwork, Bits, HostBits}

-- the first bits of an address of this width, as a number
abbrev pub prefix : ℕ → ℕ → ℕ → ℕ
prefix width bits address = address / 2 ^ (width - bits)

-- the bytes of an IP address, as a big-endian number
unfoldable pub ip_number : Addr → ℕ
ip_number (addr.V4 ip port) = from_be_bytes w32 ip
ip_number (addr.V6 ip port) = from_be_bytes w128 ip

-- whether an address is of the family, and begins with the bits of the network's
abbrev pub network_contains : Network → Addr → Bool
network_contains (V4 address bits) (addr.V4 ip port) = prefix 32 bits address == prefix 32 bits (ip_number (addr.V4 ip port))
network_contains (V4 address bits) (addr.V6 ip port) = false
network_contains (V6 address bits) (addr.V4 ip port) = false
network_contains (V6 address bits) (addr.V6 ip port) = prefix 128 bits address == prefix 128 bits (ip_number (addr.V6 ip port))

-- whether the addresses of a network are of a family
abbrev pub is_network_of : Family → Network → Bool
is_network_of Ipv4 (V4 address bits) = true
is_network_of Ipv6 (V6 address bits) = true
is_network_of family network = false

-- the bits of an address of a family
abbrev pub address_width : Family → ℕ
address_width Ipv4 = 32
address_width Ipv6 = 128

-- the network of a family with the first bits of an address
abbrev pub network_in : Family → ℕ → ℕ → Network
network_in Ipv4 address bits = V4 address bits
network_in Ipv6 address bits = V6 address bits

-- the bits of an address of the network's family, the network's address, and the bits of its prefix
abbrev pub width_of : Network → ℕ
width_of (V4 address bits) = 32
width_of (V6 address bits) = 128

abbrev pub network_address : Network → ℕ
network_address (V4 address bits) = address
network_address (V6 address bits) = address

abbrev pub prefix_bits : Network → ℕ
prefix_bits (V4 address bits) = bits
prefix_bits (V6 address bits) = bits

-- the bits after the prefix, as a number
abbrev pub host_bits : Network → ℕ
host_bits network = network_address network % 2 ^ (width_of network - prefix_bits network)

-- ---- texts

abbrev pub is_slash : ℕ → Bool
is_slash byte = byte == 0x2f

-- one to three decimal digits, leading zeros among them, have this number
abbrev pub AreBits : List ℕ → ℕ → Type 0
AreBits text bits = (IsNumeral 10 text × (length text ≤ 3)) × (digits_value 10 text ≡ bits)

abbrev pub AreBitsIn : List ℕ → Option ℕ → Type 0
AreBitsIn text (Some bits) = AreBits text bits
AreBitsIn text None = (bits : ℕ) → ¬ (AreBits text bits)

-- the number of an address that a text writes
abbrev pub IsIpv4 : List ℕ → ℕ → Type 0
IsIpv4 text number = (a : Ipv4Addr) × (IsIpv4Text text a × (number ≡ ipv4_bits a))

abbrev pub IsIpv4In : List ℕ → Option ℕ → Type 0
IsIpv4In text (Some number) = IsIpv4 text number
IsIpv4In text None = (number : ℕ) → ¬ (IsIpv4 text number)

abbrev pub IsIpv6 : List ℕ → ℕ → Type 0
IsIpv6 text number = (a : Ipv6Addr) × (IsIpv6Text text a × (number ≡ ipv6_bits a))

abbrev pub IsIpv6In : List ℕ → Option ℕ → Type 0
IsIpv6In text (Some number) = IsIpv6 text number
IsIpv6In text None = (number : ℕ) → ¬ (IsIpv6 text number)

-- a text writes the address of a network
abbrev pub IsAddressText : List ℕ → Network → Type 0
IsAddressText text (V4 address bits) = IsIpv4 text address
IsAddressText text (V6 address bits) = IsIpv6 text address

-- an address, a slash and the number of bits, which may be more than the address has
pub record IsNetworkText (text : List ℕ) (network : Network) : Type 0 where
  pub slash : list_any is_slash text ≡ true
  pub address : IsAddressText (before_first is_slash text) network
  pub bits : AreBits (after_first is_slash text) (prefix_bits network)

-- a network that is written so is accepted, or refused by its first fault
abbrev pub IsAccepted : Network → Result Network NetworkError → Type 0
IsAccepted network (Ok accepted) = (accepted ≡ network) × ((prefix_bits network ≤ width_of network) × (host_bits network ≡ 0))
IsAccepted network (Err NotANetwork) = ⊥
IsAccepted network (Err Bits) = width_of network < prefix_bits network
IsAccepted network (Err HostBits) = (prefix_bits network ≤ width_of network) × (0 < host_bits network)

-- the network that a text writes, or the first fault
abbrev pub IsParsed : List ℕ → Result Network NetworkError → Type 0
IsParsed text (Err NotANetwork) = (network : Network) → ¬ (IsNetworkText text network)
IsParsed text result = (network : Network) × (IsNetworkText text network × IsAccepted network result)
