-- Meaning. The errors of a new relay.
use Rattle.std.specs.Prelude.{◌≡◌, Option, None, Some}
use Rattle.control.specs.declared.config.Field.{Field}
use Rattle.relay.specs.declared.error.RelayError.{RelayError}
use Rattle.relay.specs.declared.error.RelayError.TheVariants.{BadConfig, Memory}

-- a field is named where it is the first that lies outside its limits, and memory runs out where none does
abbrev pub IsFault : Option Field → RelayError → Type 0
IsFault fault (BadConfig field) = fault ≡ Some field
IsFault fault Memory = fault ≡ None
