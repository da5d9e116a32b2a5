use Rattle.std.proofs.Common.{◌≡◌, None, replicate}
use Rattle.semantics.specs.Access.{overlay}
use Rattle.semantics.proofs.stack.clear_cells.Given as goal

abbrev pub invariant-loop-i : goal.invariant-loop-i
invariant-loop-i l = l.cells ≡ overlay l.index (replicate l.i None) l.initial.cells
