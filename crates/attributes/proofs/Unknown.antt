-- How long a list of types is.
use Rattle.std.proofs.Common.{◌≡◌, ℕ, ◌*◌, List, [], ◌∷◌, length, refl, arith}
use Rattle.attributes.specs.Errors.{unknown_value}

pub unknown_length : (kinds : List ℕ) → 2 * length kinds ≡ length (unknown_value kinds)
unknown_length [] = refl
unknown_length (kind ∷ kinds) = omega (arith, unknown_length kinds)
