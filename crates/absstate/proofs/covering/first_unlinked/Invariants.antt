-- The values so far share their anchors as the others do, and each anchor that was met is listed.
use Rattle.absstate.proofs.Linking.{AreLinked}
use Rattle.absstate.proofs.covering.first_unlinked.Given as goal

abbrev pub invariant-loop-i : goal.invariant-loop-i
invariant-loop-i g l = AreLinked l.values l.others l.firsts l.met l.i
