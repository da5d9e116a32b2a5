-- Meaning. The filter of a server, by where it listens and from where it relays.
use Rattle.std.specs.Prelude.{◌≡◌, ◌↔◌, ◌⊎◌, IsTrue, Bool, false, not, ◌&&◌, List, [], ◌∷◌, ◌++◌, filter, Option, Some, None, Result, Ok, Err}
use Rattle.std.specs.Net.Addr.{ipv4_octets, ipv6_octets, IsUnspecifiedV4, IsUnspecifiedV6, IsLoopbackV4, IsLoopbackV6}
use Rattle.std.specs.declared.net.ipv4_addr.Ipv4Addr.{Ipv4Addr}
use Rattle.std.specs.declared.net.ipv6_addr.Ipv6Addr.{Ipv6Addr}
use Rattle.std.specs.Option.{option_to_list}
use Rattle.addresses.specs.declared.address.Addr.{Addr}
use Rattle.addresses.specs.declared.address.Addr.TheVariants as addr
use Rattle.addresses.specs.declared.address.Family.TheVariants.{Ipv4}
use Rattle.peer_filter.specs.Filters.{Filter, IsMade, default_rules, is_for}
use Rattle.peer_filter.specs.Networks.{network_contains}
use Rattle.peer_filter.specs.declared.filter.FilterError.{FilterError}
use Rattle.peer_filter.specs.declared.rule.Loopback.{Loopback}
use Rattle.peer_filter.specs.declared.rule.Rule.{Rule}
use Rattle.peer_filter.specs.declared.rule.ServerEndpoint.{ServerEndpoint}
use Rattle.peer_filter.specs.declared.rule.ServerEndpoint.TheVariants.{At, Port, Outside}
use Rattle.peer_filter.specs.declared.server.ServerAddresses.{ServerAddresses}

-- it listens at the loopback address of IPv6
abbrev pub IsLoopbackAt6 : Option Ipv6Addr → Type 0
IsLoopbackAt6 None = ⊥
IsLoopbackAt6 (Some ip) = IsLoopbackV6 ip

abbrev pub IsLoopbackOf : ServerAddresses → Loopback → Type 0
IsLoopbackOf server loopback = (IsTrue loopback.ipv4 ↔ IsLoopbackV4 server.listen) × (IsTrue loopback.ipv6 ↔ IsLoopbackAt6 server.listen6)

-- an IPv4 address with the clients' port
abbrev pub clients_at : ServerAddresses → Ipv4Addr → ServerEndpoint
clients_at server ip = At (addr.V4 (ipv4_octets ip) server.port)

-- the clients' port of any address where it listens at all of them, and else of the one that it listens at and of the relayed one
abbrev pub IsClientPort : ServerAddresses → List ServerEndpoint → Type 0
IsClientPort server own = (IsUnspecifiedV4 server.listen × (own ≡ Port server.port ∷ []))
    ⊎ (¬ (IsUnspecifiedV4 server.listen) × (own ≡ clients_at server server.listen ∷ clients_at server server.relayed ∷ []))

-- the ports of an IP address but those at which the server relays
abbrev pub outside : ServerAddresses → Addr → ServerEndpoint
outside server ip = Outside ip server.relayed_ports.0 server.relayed_ports.1

-- those of an address of the server, none of a loopback address, where other peers are, and none where it is all addresses
abbrev pub IsOutsideV4 : ServerAddresses → Ipv4Addr → Option ServerEndpoint → Type 0
IsOutsideV4 server ip None = IsLoopbackV4 ip ⊎ IsUnspecifiedV4 ip
IsOutsideV4 server ip (Some own) = (¬ (IsLoopbackV4 ip) × ¬ (IsUnspecifiedV4 ip)) × (own ≡ outside server (addr.V4 (ipv4_octets ip) 0))

abbrev pub IsOutsideAt6 : ServerAddresses → Ipv6Addr → Option ServerEndpoint → Type 0
IsOutsideAt6 server ip None = IsLoopbackV6 ip ⊎ IsUnspecifiedV6 ip
IsOutsideAt6 server ip (Some own) = (¬ (IsLoopbackV6 ip) × ¬ (IsUnspecifiedV6 ip)) × (own ≡ outside server (addr.V6 (ipv6_octets ip) 0))

abbrev pub IsOutsideV6 : ServerAddresses → Option Ipv6Addr → Option ServerEndpoint → Type 0
IsOutsideV6 server None own = own ≡ None
IsOutsideV6 server (Some ip) own = IsOutsideAt6 server ip own

-- the server's own endpoints: those of clients, and of its addresses all ports at which it doesn't relay
pub record AreOwn (server : ServerAddresses) (own : List ServerEndpoint) : Type 0 where
  pub clients : List ServerEndpoint
  pub is_client_port : IsClientPort server clients
  pub listen : Option ServerEndpoint
  pub is_listen : IsOutsideV4 server server.listen listen
  pub relayed : Option ServerEndpoint
  pub is_relayed : IsOutsideV4 server server.relayed relayed
  pub listen6 : Option ServerEndpoint
  pub is_listen6 : IsOutsideV6 server server.listen6 listen6
  pub relayed6 : Option ServerEndpoint
  pub is_relayed6 : IsOutsideV6 server server.relayed6 relayed6
  pub own_is : own ≡ (((clients ++ option_to_list listen) ++ option_to_list relayed) ++ option_to_list listen6) ++ option_to_list relayed6

-- whether a rule is for a network of IPv4 that a server doesn't listen in
abbrev pub is_foreign : ServerAddresses → Rule → Bool
is_foreign server rule = is_for Ipv4 rule && not (network_contains rule.network (addr.V4 (ipv4_octets server.listen) 0))

-- the rules for clients: of those that hold without options, the ones for networks that the server isn't in; none where it listens
-- at all addresses
abbrev pub AreForClients : ServerAddresses → List Rule → Type 0
AreForClients server rules = (IsUnspecifiedV4 server.listen × (rules ≡ []))
    ⊎ (¬ (IsUnspecifiedV4 server.listen) × (rules ≡ filter (is_foreign server) (default_rules (record { ipv4 = false; ipv6 = false }))))

-- the filter that is made, with rules for clients
abbrev pub with_clients : List Rule → Result Filter FilterError → Result Filter FilterError
with_clients rules (Ok f) = Ok (record f { clients = rules })
with_clients rules (Err error) = Err error

-- the filter that is made of these
pub record IsFilterOf (server : ServerAddresses) (rules : List Rule) (result : Result Filter FilterError) : Type 0 where
  pub loopback : Loopback
  pub is_loopback : IsLoopbackOf server loopback
  pub own : List ServerEndpoint
  pub are_own : AreOwn server own
  pub made : Result Filter FilterError
  pub is_made : IsMade loopback own rules made
  pub clients : List Rule
  pub for_clients : AreForClients server clients
  pub result_is : result ≡ with_clients clients made
