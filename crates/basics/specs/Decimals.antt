-- Meaning. Decimal numbers.
use Rattle.std.specs.Prelude.{ℕ, ◌&&◌, List, decimal, bytes_eq, nat_lt, Option, None, Some, if◌then◌else◌}
use Rattle.std.specs.Str.Parse.{digits_value}

-- a decimal number below a limit, without needless zeros
abbrev pub decimal_in : ℕ → List ℕ → Option ℕ
decimal_in limit text =
    if nat_lt (digits_value 10 text) limit && bytes_eq (decimal (digits_value 10 text)) text then Some (digits_value 10 text) else None
