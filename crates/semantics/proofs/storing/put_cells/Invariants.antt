use Rattle.std.proofs.Common.{◌≡◌, take}
use Rattle.std.specs.Prelude.{Some, map}
use Rattle.semantics.specs.Access.{overlay}
use Rattle.semantics.proofs.storing.put_cells.Given as goal

abbrev pub invariant-loop-i : goal.invariant-loop-i
invariant-loop-i l = l.cells ≡ overlay l.index (map Some (take l.i l.bytes)) l.initial.cells
