-- Meaning. How many keys the look-ups of a step compare at most, beside those of the helpers and of a request.
use Rattle.std.specs.Prelude.{ℕ, ◌+◌, ◌*◌, max, Option, Some, None, length}
use Rattle.rules.specs.declared.confinement.Confinement.{Confinement}

-- whether data may go to a peer, or come from one: 7 of permissions and 7 of channels, for the peer and for each alias
abbrev pub keys_of_permitting : Option Confinement → ℕ
keys_of_permitting None = 0
keys_of_permitting (Some confinement) = 14 * (1 + length confinement.aliases.items)

-- a step: 9 of clients, and then what its verdict asks for: the rules, which look up the client again, and a channel or a
-- permission; or whether what the program sends is permitted
abbrev pub keys_of_step : Option Confinement → ℕ
keys_of_step confinement = 9 + max 16 (keys_of_permitting confinement)
