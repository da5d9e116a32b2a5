-- Meaning. What is left of an input, and whether it has failed.
use Rattle.std.specs.Prelude.{ℕ, Bool, true, false, List, Option, Result, Ok, Err}
use Rattle.basics.specs.declared.streams.input.InputError.{InputError}
use Rattle.basics.specs.declared.streams.input.InputError.TheVariants.{Failed, Memory}

-- the bytes that its reader has left, where they are known; how many calls of the reader were made; and whether one has failed
pub record InputState : Type 0 where
  pub remaining : Option (List ℕ)
  pub calls : ℕ
  pub failed : Bool

-- whether an error says that the input has failed
abbrev pub is_failure : {T : Type 0} → Result T InputError → Bool
is_failure (Ok x) = false
is_failure (Err Failed) = true
is_failure (Err Memory) = false
