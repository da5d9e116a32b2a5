use Rattle.std.proofs.Common.{◌≡◌, length, take}
use Rattle.std.specs.Prelude.{Some}
use Rattle.semantics.specs.Access.{cells_bytes}
use Rattle.semantics.proofs.helper.bytes_of_cells.Given as goal

abbrev pub invariant-loop-i : goal.invariant-loop-i
invariant-loop-i g l = (length l.bytes ≡ g.row.N) × (cells_bytes (take l.i l.cells) ≡ Some (take l.i l.bytes))
