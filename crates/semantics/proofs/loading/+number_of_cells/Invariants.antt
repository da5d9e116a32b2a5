use Rattle.std.proofs.Common.{length}
use Rattle.semantics.proofs.loading.+number_of_cells.Given as goal

abbrev pub decreases-number_of_cells : goal.decreases-number_of_cells
decreases-number_of_cells l = length l.cells.now
