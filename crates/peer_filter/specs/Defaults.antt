-- Meaning. Which addresses the rules that hold without options deny, from the first to the last of each network.
use Rattle.std.specs.Prelude.{ℕ, Bool, not, ◌&&◌, ◌||◌, ◌==◌, nat_le, List, [], ◌∷◌}
use Rattle.std.specs.List.{list_any}
use Rattle.std.specs.Int.{is_in_range}
use Rattle.peer_filter.specs.declared.rule.Loopback.{Loopback}

-- of IPv4, by the first two bytes: 0.0.0.0/8, 127.0.0.0/8 where the server doesn't listen on it, 169.254.0.0/16 and
-- 224.0.0.0/3
abbrev pub is_denied_v4 : Loopback → ℕ → ℕ → Bool
is_denied_v4 loopback a b = a == 0 || ((a == 127 && not loopback.ipv4) || ((a == 169 && b == 254) || nat_le 224 a))

-- of IPv6, from the first to the last number of each network: ::/96, ::ffff:0:0/96, 64:ff9b::/96, 64:ff9b:1::/48,
-- 2001::/32, 2002::/16, fd00:ec2::254/128, fe80::/10 and ff00::/8
abbrev pub denied_v6 : List (ℕ × ℕ)
denied_v6 = (0, 0xffffffff)
    ∷ (0xffff00000000, 0xffffffffffff)
    ∷ (0x64ff9b000000000000000000000000, 0x64ff9b0000000000000000ffffffff)
    ∷ (0x64ff9b000100000000000000000000, 0x64ff9b0001ffffffffffffffffffff)
    ∷ (0x20010000000000000000000000000000, 0x20010000ffffffffffffffffffffffff)
    ∷ (0x20020000000000000000000000000000, 0x2002ffffffffffffffffffffffffffff)
    ∷ (0xfd000ec2000000000000000000000254, 0xfd000ec2000000000000000000000254)
    ∷ (0xfe800000000000000000000000000000, 0xfebfffffffffffffffffffffffffffff)
    ∷ (0xff000000000000000000000000000000, 0xffffffffffffffffffffffffffffffff) ∷ []

-- but ::1, where the server listens at it
abbrev pub is_denied_v6 : Loopback → ℕ → Bool
is_denied_v6 loopback address = list_any (λ network. is_in_range network.0 network.1 address) denied_v6
    && not (address == 1 && loopback.ipv6)
