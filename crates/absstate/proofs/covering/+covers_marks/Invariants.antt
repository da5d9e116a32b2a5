use Rattle.std.proofs.Common.{length}
use Rattle.absstate.proofs.covering.+covers_marks.Given as goal

abbrev pub decreases-covers_marks : goal.decreases-covers_marks
decreases-covers_marks l = length l.marks.now
