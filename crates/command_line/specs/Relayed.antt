-- Meaning. The relayed addresses of a server.
use Rattle.std.specs.Prelude.{◌≡◌, ◌≢◌, ◌⊎◌, ℕ, List, Option, Some, None}
use Rattle.std.specs.Net.Addr.{IsUnspecifiedV4, ipv6_octets}
use Rattle.std.specs.declared.net.ipv4_addr.Ipv4Addr.{Ipv4Addr}
use Rattle.std.specs.declared.net.ipv6_addr.Ipv6Addr.{Ipv6Addr}
use Rattle.command_line.specs.declared.Options.{Options}
use Rattle.command_line.specs.declared.ServerOptions.{ServerOptions}
use Rattle.command_line.specs.declared.relayed.RelayedError.{RelayedError}
use Rattle.command_line.specs.declared.relayed.RelayedError.TheVariants.{NoRelayIp, NoListen6}

-- the relayed address is the one that is given, and else the one that sockets are bound to, unless that is 0.0.0.0
abbrev pub IsRelayedIp : ServerOptions → Options → Ipv4Addr → Type 0
IsRelayedIp s o ip = (o.relay_ip ≡ Some ip) ⊎ ((o.relay_ip ≡ None) × (ip ≡ s.listen) × ¬ (IsUnspecifiedV4 ip))

-- none is given, and sockets are bound to 0.0.0.0
abbrev pub IsNoRelayedIp : ServerOptions → Options → RelayedError → Type 0
IsNoRelayedIp s o e = (e ≡ NoRelayIp) × (o.relay_ip ≡ None) × IsUnspecifiedV4 s.listen

-- the relayed IPv6 address that is given beside one that sockets are bound to, and else that one, if there is one
abbrev pub relayed_ip6_of : Option (List ℕ) → Option Ipv6Addr → Option (List ℕ)
relayed_ip6_of given None = None
relayed_ip6_of None (Some listen) = Some (ipv6_octets listen)
relayed_ip6_of (Some ip) (Some listen) = Some ip

abbrev pub IsRelayedIp6 : ServerOptions → Options → Option (List ℕ) → Type 0
IsRelayedIp6 s o ip = (ip ≡ relayed_ip6_of o.relay_ip6 s.listen6) × ((o.relay_ip6 ≡ None) ⊎ (s.listen6 ≢ None))

-- one is given, and sockets are bound to none
abbrev pub IsNoRelayedIp6 : ServerOptions → Options → RelayedError → Type 0
IsNoRelayedIp6 s o e = (e ≡ NoListen6) × (o.relay_ip6 ≢ None) × (s.listen6 ≡ None)
