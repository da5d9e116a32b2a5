-- Interface. What an input shows of a line.
use Rattle.std.specs.Prelude.{◌≡◌, ℕ, List, ◌++◌, length, Option}
use Rattle.std.specs.Io.{StopsAt}
use Rattle.std.specs.Io.KnownBytes.{Consumes, IsAtEnd}

-- what a reader showed of a line was appended and dropped: at most to its line feed, and nothing only at the end
pub record HasShown (read left : Option (List ℕ)) (old new : List ℕ) (count : ℕ) : Type 0 where
  pub shown : List ℕ
  pub appended : new ≡ old ++ shown
  pub counted : length shown ≡ count
  pub stops : StopsAt shown 10
  pub consumed : Consumes read left shown
  pub at_end : count ≡ 0 → IsAtEnd read
