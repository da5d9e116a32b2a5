use Rattle.ordering.specs.Searches.{Searches, work_of}
use Rattle.ordering.proofs.search.ordered.Given as goal

abbrev pub invariant-loop-at : goal.invariant-loop-at
invariant-loop-at l = Searches l.program l.search

abbrev pub decreases-loop-at : goal.decreases-loop-at
decreases-loop-at l = work_of l.search
