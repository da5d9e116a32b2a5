-- Meaning. The values of XOR addresses (RFC 8489, section 14.2).
use Rattle.std.specs.Prelude.{◌≡◌, ℕ, ◌/◌, Bool, ◌&&◌, List, ◌∷◌, ◌++◌, length, drop, slice_index, bit_xor, nat_eq, Option, Some, None, if◌then◌else◌}
use Rattle.stun.specs.Endian.{big_bytes, big_number}
use Rattle.stun.specs.Registry.{magic_cookie}
use Rattle.stun.specs.declared.registry.family.TheConstants.{IPV4, IPV6}
use Rattle.stun.specs.Builders.{parts_of}
use Rattle.stun.specs.declared.building.Builder.{Builder}
use Rattle.addresses.specs.Addresses.{IsAddress}
use Rattle.addresses.specs.declared.address.Addr.{Addr}
use Rattle.addresses.specs.declared.address.Addr.TheVariants.{V4, V6}

-- the upper 16 bits of the cookie
abbrev pub cookie_half : ℕ
cookie_half = magic_cookie / 0x10000

-- the cookie, followed by the transaction id
unfoldable pub ipv6_mask : List ℕ → ℕ
ipv6_mask tx = big_number 16 (big_bytes 4 magic_cookie ++ tx)

-- n bytes, as a number xored with a mask
unfoldable pub xor_bytes : ℕ → List ℕ → ℕ → List ℕ
xor_bytes n bytes mask = big_bytes n (bit_xor (big_number n bytes) mask)

-- after the first byte: the family, the port xored with half the cookie, and the address xored with the cookie, for
-- IPv6 with the cookie followed by the transaction id
abbrev pub address_tail : Addr → List ℕ → List ℕ
address_tail (V4 ip port) tx = IPV4 ∷ big_bytes 2 (bit_xor port cookie_half) ++ xor_bytes 4 ip magic_cookie
address_tail (V6 ip port) tx = IPV6 ∷ big_bytes 2 (bit_xor port cookie_half) ++ xor_bytes 16 ip (ipv6_mask tx)

-- the first byte is ignored
pub record IsAddressValue (address : Addr) (tx value : List ℕ) : Type 0 where
  pub fits : IsAddress address
  pub first : ℕ
  pub spelled : value ≡ first ∷ address_tail address tx

-- whether a value has this length and this family
abbrev pub has_family : ℕ → ℕ → List ℕ → Bool
has_family size family value = nat_eq (length value) size && nat_eq (slice_index value 1) family

abbrev pub port_in : List ℕ → ℕ
port_in value = bit_xor (big_number 2 (drop 2 value)) cookie_half

-- the address of a value, if it has one
abbrev pub address_in : List ℕ → List ℕ → Option Addr
address_in tx value =
    if has_family 8 IPV4 value then Some (V4 (xor_bytes 4 (drop 4 value) magic_cookie) (port_in value))
    else if has_family 20 IPV6 value then Some (V6 (xor_bytes 16 (drop 4 value) (ipv6_mask tx)) (port_in value))
    else None

-- it is written as zero
unfoldable pub address_value : Addr → List ℕ → List ℕ
address_value address tx = 0 ∷ address_tail address tx

-- the value under the transaction id of a builder's message
abbrev pub address_value_in : Builder → Addr → List ℕ
address_value_in builder address = address_value address (parts_of builder).tx
