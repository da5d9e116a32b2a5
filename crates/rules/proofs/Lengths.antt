-- The length of the value of an XOR address.
use Rattle.std.proofs.Common.{◌≡◌, ℕ, List, length, refl}
use Rattle.attributes.specs.Addresses.{address_value, xor_bytes}
use Rattle.addresses.specs.declared.address.Addr.TheVariants.{V4, V6}

pub length_of_ipv4 : (ip : List ℕ) (port : ℕ) (tx : List ℕ) → length (address_value (V4 ip port) tx) ≡ 8
unfolding address_value xor_bytes
length_of_ipv4 ip port tx = refl

pub length_of_ipv6 : (ip : List ℕ) (port : ℕ) (tx : List ℕ) → length (address_value (V6 ip port) tx)
    ≡ 20
unfolding address_value xor_bytes
length_of_ipv6 ip port tx = refl
