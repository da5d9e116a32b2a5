-- Meaning. What an output holds, and whether it has failed.
use Rattle.std.specs.Prelude.{ℕ, Bool, List, take, Option}
use Rattle.std.specs.Io.KnownBytes.{Appends}

-- the bytes that its writer holds, where they are known, and whether a call of the writer has failed
pub record OutputState : Type 0 where
  pub contents : Option (List ℕ)
  pub failed : Bool

-- of some bytes a beginning was appended
abbrev pub AppendsBeginning : Option (List ℕ) → Option (List ℕ) → List ℕ → Type 0
AppendsBeginning held holds bytes = (count : ℕ) × Appends held holds (take count bytes)
