-- Meaning. The values of a request's attributes: a malformed one is a bad request.
use Rattle.std.specs.Prelude.{ℕ, List, Option, None, Some, Result, Ok, Err, ok_or, option_map}
use Rattle.stun.specs.declared.registry.ErrorCode.{ErrorCode}
use Rattle.stun.specs.declared.registry.ErrorCode.TheVariants.{BadRequest}

-- the value of an attribute that may be missing
abbrev pub optional_value : {A : Type 0} → (List ℕ → Option A) → Option (List ℕ) → Result (Option A) ErrorCode
optional_value parse None = Ok None
optional_value parse (Some value) = ok_or (option_map Some (parse value)) BadRequest

-- the value of an attribute that must be there
abbrev pub required_value : {A : Type 0} → (List ℕ → Option A) → Option (List ℕ) → Result A ErrorCode
required_value parse None = Err BadRequest
required_value parse (Some value) = ok_or (parse value) BadRequest
