-- Meaning. The nonces that a server draws.
use Rattle.std.specs.Prelude.{ℕ, Bool, ◌||◌}
use Rattle.stun.specs.Ranges.{is_between}

-- 0 to 9 and a to f
abbrev pub is_digit : ℕ → Bool
is_digit c = is_between 0x30 0x39 c || is_between 0x61 0x66 c
