-- Internal. Helpers that know one peer, 192.0.2.7:5000, bound to the channel 0x4001, with a permission, and in wide records one
-- of IPv6, port 5000 of 2001:db8::7, bound to the channel 0x4002.
use Rattle.std.specs.Prelude.{ℕ, Bool, List, ◌&&◌, ◌||◌, ◌==◌, [], ◌∷◌, ◌++◌, replicate, slice_index, if◌then◌else◌}
use Rattle.semantics.specs.Calls.{no_address}
use Rattle.semantics.specs.Machine.{AddressRecord}

-- a record's address is 192.0.2.7
abbrev pub is_host : AddressRecord → Bool
is_host r = slice_index r 4 == 192 && slice_index r 5 == 0 && slice_index r 6 == 2 && slice_index r 7 == 7

-- and its port 5000
abbrev pub is_peer : AddressRecord → Bool
is_peer r = slice_index r 2 == 0x13 && slice_index r 3 == 0x88 && is_host r

-- zero, the family, the port, and the bytes of the address up to the zeros in it
abbrev pub first_bytes : List ℕ
first_bytes = 0 ∷ 1 ∷ 0x13 ∷ 0x88 ∷ 192 ∷ 0 ∷ 2 ∷ 7 ∷ []

abbrev pub first_ipv6_bytes : List ℕ
first_ipv6_bytes = 0 ∷ 2 ∷ 0x13 ∷ 0x88 ∷ 0x20 ∷ 1 ∷ 0x0d ∷ 0xb8 ∷ []

abbrev pub record_of_peer : AddressRecord
record_of_peer = first_bytes ++ replicate 12 0

abbrev pub record_of_ipv6_peer : AddressRecord
record_of_ipv6_peer = first_ipv6_bytes ++ replicate 11 0 ++ 7 ∷ []

abbrev pub one_peer : ℕ → ℕ → AddressRecord → ℕ × AddressRecord
one_peer id number address =
    if (id == 1 || id == 6) && number == 0x4001 then (1, record_of_peer)
    else (if id == 6 && number == 0x4002 then (1, record_of_ipv6_peer)
    else (if (id == 2 || id == 7) && is_peer address then (0x4001, no_address)
    else (if (id == 3 || id == 8) && is_host address then (1, no_address) else (0, no_address))))
