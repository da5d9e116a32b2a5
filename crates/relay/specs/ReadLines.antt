-- Interface. What is read of a line.
use Rattle.std.specs.Prelude.{◌≡◌, ℕ, ◌<◌, ◌⊎◌, List, ◌++◌, length}
use Rattle.std.specs.Io.BufRead.{first_piece}
use Rattle.relay.specs.declared.lines.TheConstants.{MAX_LINE}

-- a line that was read: the first one, without its line feed; or a beginning of it that is too long for an event's
abbrev pub IsLine : List ℕ → List ℕ → Type 0
IsLine line bytes = (line ≡ first_piece 10 bytes) ⊎ ((MAX_LINE < length line) × ((rest : List ℕ) × (first_piece 10 bytes ≡ line ++ rest)))
