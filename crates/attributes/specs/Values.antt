-- Meaning. Values with one number (RFC 8656, section 18): the bytes of the number, then bytes that are ignored, four in
-- all.
use Rattle.std.specs.Prelude.{◌≡◌, ℕ, ◌<◌, ◌^◌, List, ◌++◌, length, nat_eq, Option, Some, None, if◌then◌else◌}
use Rattle.stun.specs.Endian.{big_bytes, big_number}

pub record IsNumberValue (n number : ℕ) (value : List ℕ) : Type 0 where
  pub fits : number < 256 ^ n
  pub four : length value ≡ 4
  pub rest : List ℕ
  pub spelled : value ≡ big_bytes n number ++ rest

-- the number of a value, if it has one
abbrev pub number_of_value : ℕ → List ℕ → Option ℕ
number_of_value n value = if nat_eq (length value) 4 then Some (big_number n value) else None
