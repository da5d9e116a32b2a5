-- Meaning. Aliases as texts.
use Rattle.std.specs.Prelude.{◌≡◌, ◌⊎◌, ℕ, Bool, false, List, Option, Some, None, ◌==◌}
use Rattle.std.specs.List.{list_any, before_first, after_first}
use Rattle.std.specs.Net.Addr.{ipv4_octets, ipv6_octets}
use Rattle.std.specs.Net.Grammar.{IsIpv4Text, IsIpv6Text}
use Rattle.std.specs.declared.net.ipv4_addr.Ipv4Addr.{Ipv4Addr}
use Rattle.std.specs.declared.net.ipv6_addr.Ipv6Addr.{Ipv6Addr}
use Rattle.addresses.specs.declared.address.Addr.{Addr}
use Rattle.addresses.specs.declared.address.Addr.TheVariants.{V4, V6}
use Rattle.rules.specs.declared.confinement.Alias.{Alias}

-- the text of an IP address, which has the port 0
abbrev pub IsTextOfIp : List ℕ → Addr → Type 0
IsTextOfIp text (V4 ip port) = (a : Ipv4Addr) × (IsIpv4Text text a × ((ip ≡ ipv4_octets a) × (port ≡ 0)))
IsTextOfIp text (V6 ip port) = (a : Ipv6Addr) × (IsIpv6Text text a × ((ip ≡ ipv6_octets a) × (port ≡ 0)))

-- the text of none
abbrev pub IsNoIpText : List ℕ → Type 0
IsNoIpText text = (a : Addr) → ¬ (IsTextOfIp text a)

abbrev pub is_equals_sign : ℕ → Bool
is_equals_sign byte = byte == 0x3d

-- the address before the first equals sign counts as the one after it; or there is none, or one of the two is no address
abbrev pub IsAliasIn : List ℕ → Option Alias → Type 0
IsAliasIn text (Some alias) =
    IsTextOfIp (before_first is_equals_sign text) alias.address × IsTextOfIp (after_first is_equals_sign text) alias.counts_as
IsAliasIn text None =
    (list_any is_equals_sign text ≡ false)
    ⊎ (IsNoIpText (before_first is_equals_sign text) ⊎ IsNoIpText (after_first is_equals_sign text))
