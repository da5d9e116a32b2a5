-- Interface. The order of addresses: those of IPv4 before those of IPv6, then by the bytes of the IP address, then by the
-- port; the same order by the bytes alone; and which addresses are the same.
use Rattle.std.specs.Prelude.{ℕ, Bool, ◌&&◌, List, length, nat_eq}
use Rattle.std.specs.Ordering.{nat_cmp, eq_by_cmp, on, then_cmp, ordering_then}
use Rattle.std.specs.declared.cmp.Ordering.{Ordering}
use Rattle.std.specs.Cmp.Lexicographic.{slice_cmp}
use Rattle.addresses.specs.declared.order.TheConstants.{IPV4, IPV6}
use Rattle.addresses.specs.Addresses.{ip_of, port_of}
use Rattle.addresses.specs.declared.address.Addr.{Addr}
use Rattle.addresses.specs.declared.address.Addr.TheVariants.{V4, V6}

-- the order of IP addresses of one family, each as its bytes
abbrev pub ip_cmp : List ℕ → List ℕ → Ordering
ip_cmp = slice_cmp nat_cmp

-- the number of the family
abbrev pub family_of : Addr → ℕ
family_of (V4 ip port) = IPV4
family_of (V6 ip port) = IPV6

-- by family, by IP address and by port
abbrev pub address_order : Addr → Addr → Ordering
address_order = then_cmp (on family_of nat_cmp) (then_cmp (on ip_of ip_cmp) (on port_of nat_cmp))

-- ---- the same order by the bytes alone

-- whether two addresses have the same IP address and the same port
abbrev pub is_same_address : Addr → Addr → Bool
is_same_address a b = eq_by_cmp ip_cmp (ip_of a) (ip_of b) && nat_eq (port_of a) (port_of b)

-- an address of IPv4 has fewer bytes
abbrev pub ip_order : List ℕ → List ℕ → Ordering
ip_order = then_cmp (on length nat_cmp) ip_cmp

-- the IP address and the port
abbrev pub address_parts : Addr → List ℕ × ℕ
address_parts address = (ip_of address, port_of address)

abbrev pub parts_order : List ℕ × ℕ → List ℕ × ℕ → Ordering
parts_order p q = ordering_then (ip_order p.0 q.0) (nat_cmp p.1 q.1)

abbrev pub order_by_parts : Addr → Addr → Ordering
order_by_parts a b = parts_order (address_parts a) (address_parts b)
