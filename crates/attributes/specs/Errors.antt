-- Meaning. The values of the attributes of an error response (RFC 8489, sections 14.8 and 14.13).
use Rattle.std.specs.Prelude.{ℕ, ◌/◌, ◌%◌, List, ◌∷◌}
use Rattle.std.specs.List.{flat_map}
use Rattle.stun.specs.Endian.{big_bytes}
use Rattle.stun.specs.ErrorCodes.{number_of_error, phrase_of}
use Rattle.stun.specs.declared.registry.ErrorCode.{ErrorCode}

-- ERROR-CODE: two zero bytes, the hundreds of the code, the code modulo 100, the phrase
abbrev pub error_value : ErrorCode → List ℕ
error_value e = 0 ∷ 0 ∷ number_of_error e / 100 ∷ number_of_error e % 100 ∷ phrase_of e

-- UNKNOWN-ATTRIBUTES: the types, 16 bits each
abbrev pub unknown_value : List ℕ → List ℕ
unknown_value kinds = flat_map (big_bytes 2) kinds
