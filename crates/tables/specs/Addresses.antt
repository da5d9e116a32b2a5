-- Meaning. Which addresses are of IPv4.
use Rattle.std.specs.Prelude.{Bool, true, false}
use Rattle.addresses.specs.declared.address.Addr.{Addr}
use Rattle.addresses.specs.declared.address.Addr.TheVariants.{V4, V6}

abbrev pub is_ipv4 : Addr → Bool
is_ipv4 (V4 ip port) = true
is_ipv4 (V6 ip port) = false
