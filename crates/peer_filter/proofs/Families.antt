-- The rules for the addresses of a family decide on them as all rules do.
use Rattle.std.proofs.Common.{◌≡◌, ◌∙◌, sym, ap, Bool, true, false, ◌&&◌, cond, refl, List, [], ◌∷◌, Option, Some, None, nat_lt, filter}
use Rattle.addresses.specs.declared.address.Addr.{Addr}
use Rattle.addresses.specs.declared.address.Addr.TheVariants as addr
use Rattle.addresses.specs.declared.address.Family.{Family}
use Rattle.addresses.specs.declared.address.Family.TheVariants.{Ipv4, Ipv6}
use Rattle.peer_filter.specs.Networks.{is_network_of, network_contains, prefix_bits}
use Rattle.peer_filter.specs.Filters.{covers_peer, before_others, deciding_rule, is_for, filter_of, rules_for}
use Rattle.peer_filter.specs.declared.network.Network.{Network}
use Rattle.peer_filter.specs.declared.network.Network.TheVariants.{V4, V6}
use Rattle.peer_filter.specs.declared.rule.Rule.{Rule}
use Rattle.peer_filter.specs.declared.rule.ServerEndpoint.{ServerEndpoint}

-- a rule that doesn't contain the address changes no decision
pub uncovered : (peer : Addr) (rule : Rule) (o : Option Rule) → covers_peer peer rule ≡ false → before_others peer rule o ≡ o
uncovered peer rule None e = ap (λ b. cond b (Some rule) None) e
uncovered peer rule (Some other) e = ap (λ b. cond (b && nat_lt (prefix_bits other.network) (prefix_bits rule.network)) (Some rule) (Some other)) e

abbrev pub family_of : Addr → Family
family_of (addr.V4 ip port) = Ipv4
family_of (addr.V6 ip port) = Ipv6

-- a network contains no address of the other family
elsewhere : (peer : Addr) (network : Network) → is_network_of (family_of peer) network ≡ false → network_contains network peer ≡ false
elsewhere (addr.V4 ip port) (V4 address bits) apart = absurd cc
elsewhere (addr.V4 ip port) (V6 address bits) apart = refl
elsewhere (addr.V6 ip port) (V4 address bits) apart = refl
elsewhere (addr.V6 ip port) (V6 address bits) apart = absurd cc

one_more : (peer : Addr) (rule : Rule) (own rules : List Rule) (b : Bool) → is_network_of (family_of peer) rule.network ≡ b → deciding_rule own peer ≡ deciding_rule rules peer
    → deciding_rule (cond b (rule ∷ own) own) peer ≡ before_others peer rule (deciding_rule rules peer)
one_more peer rule own rules true is same = ap (before_others peer rule) same
one_more peer rule own rules false is same = same ∙ sym (uncovered peer rule (deciding_rule rules peer) (elsewhere peer rule.network is))

pub of_the_family : (peer : Addr) (rules : List Rule) → deciding_rule (filter (is_for (family_of peer)) rules) peer ≡ deciding_rule rules peer
of_the_family peer [] = refl
of_the_family peer (rule ∷ rules) = one_more peer rule (filter (is_for (family_of peer)) rules) rules (is_network_of (family_of peer) rule.network) refl (of_the_family peer rules)

pub families_apart : (endpoints : List ServerEndpoint) (rules : List Rule) (peer : Addr) → deciding_rule (rules_for peer (filter_of endpoints rules)) peer ≡ deciding_rule rules peer
families_apart endpoints rules (addr.V4 ip port) = of_the_family (addr.V4 ip port) rules
families_apart endpoints rules (addr.V6 ip port) = of_the_family (addr.V6 ip port) rules
