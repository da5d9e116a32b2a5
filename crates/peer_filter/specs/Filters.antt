-- Meaning. Which rule decides on an address, and which peers a filter allows.
use Rattle.std.specs.Prelude.{◌≡◌, ◌<◌, ◌≤◌, Bool, true, false, not, ◌&&◌, ◌||◌, nat_eq, nat_lt, List, [], ◌∷◌, ◌++◌, length, Option, Some, None, Result, Ok, Err, if◌then◌else◌, ⊤, filter}
use Rattle.std.specs.List.{list_any}
use Rattle.std.specs.Ordering.{eq_by_cmp}
use Rattle.addresses.specs.AddressOrder.{ip_cmp, is_same_address}
use Rattle.addresses.specs.Addresses.{ip_of, port_of}
use Rattle.addresses.specs.declared.address.Addr.{Addr}
use Rattle.addresses.specs.declared.address.Addr.TheVariants.{V4, V6}
use Rattle.addresses.specs.declared.address.Family.{Family}
use Rattle.addresses.specs.declared.address.Family.TheVariants.{Ipv4, Ipv6}
use Rattle.peer_filter.specs.Networks.{is_network_of, network_contains, prefix_bits}
use Rattle.peer_filter.specs.declared.defaults.TheConstants.{ALLOWED_LOOPBACK_V6, ALWAYS_DENIED, LOOPBACK_V4, LOOPBACK_V6}
use Rattle.peer_filter.specs.declared.filter.FilterError.{FilterError}
use Rattle.peer_filter.specs.declared.filter.FilterError.TheVariants.{Rules, Endpoints}
use Rattle.peer_filter.specs.declared.filter.TheConstants.{MAX_RULES, MAX_ENDPOINTS}
use Rattle.peer_filter.specs.declared.rule.RuleAction.{RuleAction}
use Rattle.peer_filter.specs.declared.rule.RuleAction.TheVariants.{Deny, Allow}
use Rattle.peer_filter.specs.declared.rule.ServerEndpoint.{ServerEndpoint}
use Rattle.peer_filter.specs.declared.rule.ServerEndpoint.TheVariants.{At, Port, Outside}
use Rattle.peer_filter.specs.declared.rule.Loopback.{Loopback}
use Rattle.peer_filter.specs.declared.rule.Rule.{Rule}

-- whether two addresses have the same IP address
abbrev pub is_same_ip : Addr → Addr → Bool
is_same_ip a b = eq_by_cmp ip_cmp (ip_of a) (ip_of b)

-- whether a peer is at an endpoint of the server
abbrev pub is_at : Addr → ServerEndpoint → Bool
is_at peer (At address) = is_same_address address peer
is_at peer (Port port) = nat_eq port (port_of peer)
is_at peer (Outside ip first last) = is_same_ip ip peer && (nat_lt (port_of peer) first || nat_lt last (port_of peer))

-- ---- rules

-- whether a rule allows the addresses of its network
abbrev pub is_allow : RuleAction → Bool
is_allow Deny = false
is_allow Allow = true

-- whether the network of a rule contains an address
abbrev pub covers_peer : Addr → Rule → Bool
covers_peer peer rule = network_contains rule.network peer

-- the rule that decides where one more rule comes before others, of which one decides or none: the first one only where it
-- contains the address and has more bits
abbrev pub before_others : Addr → Rule → Option Rule → Option Rule
before_others peer rule None = if covers_peer peer rule then Some rule else None
before_others peer rule (Some other) =
    if covers_peer peer rule && nat_lt (prefix_bits other.network) (prefix_bits rule.network) then Some rule else Some other

-- the rule that decides on an address; `DecidesOn` says which it is
abbrev pub deciding_rule : List Rule → Addr → Option Rule
deciding_rule [] peer = None
deciding_rule (rule ∷ rules) peer = before_others peer rule (deciding_rule rules peer)

-- whether an address is allowed by the rule that decides: it is where no rule contains it
abbrev pub is_allowed_by : Option Rule → Bool
is_allowed_by None = true
is_allowed_by (Some rule) = is_allow rule.action

-- each rule of a list that contains the address has a property
abbrev pub EachCovering : Addr → (Rule → Type 0) → List Rule → Type 0
EachCovering peer P [] = ⊤
EachCovering peer P (rule ∷ rules) = (covers_peer peer rule ≡ true → P rule) × EachCovering peer P rules

-- the rule is one of the list, and contains the address; each other one that does has fewer bits, or as many and comes
-- before it
pub record DecidesOn (rules : List Rule) (peer : Addr) (rule : Rule) : Type 0 where
  pub before : List Rule
  pub after : List Rule
  pub member : rules ≡ before ++ rule ∷ after
  pub covers : covers_peer peer rule ≡ true
  pub not_shorter : EachCovering peer (λ other. prefix_bits other.network ≤ prefix_bits rule.network) before
  pub longer : EachCovering peer (λ other. prefix_bits other.network < prefix_bits rule.network) after

-- the rule that decides, or none where no rule contains the address
abbrev pub IsDecision : List Rule → Addr → Option Rule → Type 0
IsDecision rules peer (Some rule) = DecidesOn rules peer rule
IsDecision rules peer None = EachCovering peer (λ _. ⊥) rules

-- ---- filters

-- the rules for the addresses of each family, the endpoints of the server, and the rules for the addresses of clients
pub record Filter : Type 0 where
  pub ipv4 : List Rule
  pub ipv6 : List Rule
  pub endpoints : List ServerEndpoint
  pub clients : List Rule

-- whether a rule is for the addresses of a family
abbrev pub is_for : Family → Rule → Bool
is_for family rule = is_network_of family rule.network

-- the rules for the addresses of a peer's family
abbrev pub rules_for : Addr → Filter → List Rule
rules_for (V4 ip port) f = f.ipv4
rules_for (V6 ip port) f = f.ipv6

-- nothing is sent to port 0, to an endpoint of the server, or to an address that is denied
abbrev pub allows : Filter → Addr → Bool
allows f peer = not (nat_eq (port_of peer) 0)
    && (not (list_any (is_at peer) f.endpoints) && is_allowed_by (deciding_rule (rules_for peer f) peer))

-- nothing is sent to a client at an address that is denied to clients
abbrev pub allows_client : Filter → Addr → Bool
allows_client f client = is_allowed_by (deciding_rule f.clients client)

-- the rules that hold without options
abbrev pub default_rules : Loopback → List Rule
default_rules loopback = ALWAYS_DENIED
    ++ (if loopback.ipv4 then [] else LOOPBACK_V4 ∷ []) ++ (if loopback.ipv6 then ALLOWED_LOOPBACK_V6 else LOOPBACK_V6) ∷ []

-- the filter of some rules: of each family those for its addresses, in their order, and none for clients
abbrev pub filter_of : List ServerEndpoint → List Rule → Filter
filter_of endpoints rules = record { ipv4 = filter (is_for Ipv4) rules; ipv6 = filter (is_for Ipv6) rules; endpoints = endpoints; clients = [] }

-- the filter that is made, or the first limit that is passed
abbrev pub IsMade : Loopback → List ServerEndpoint → List Rule → Result Filter FilterError → Type 0
IsMade loopback endpoints rules (Ok f) = (f ≡ filter_of endpoints (default_rules loopback ++ rules))
    × ((length rules ≤ MAX_RULES) × (length endpoints ≤ MAX_ENDPOINTS))
IsMade loopback endpoints rules (Err Rules) = MAX_RULES < length rules
IsMade loopback endpoints rules (Err Endpoints) = (length rules ≤ MAX_RULES) × (MAX_ENDPOINTS < length endpoints)
