-- Meaning. Texts of printable bytes, and nonces.
use Rattle.std.specs.Prelude.{ℕ, Bool, ◌&&◌, List, length}
use Rattle.std.specs.List.{list_all}
use Rattle.stun.specs.Ranges.{is_between}

-- printable bytes from the lowest on, at least one of them
abbrev pub is_text : ℕ → ℕ → List ℕ → Bool
is_text lowest longest text = is_between 1 longest (length text) && list_all (is_between lowest 0x7e) text

-- a nonce has no blank
abbrev pub is_nonce : List ℕ → Bool
is_nonce nonce = is_text 0x21 64 nonce
