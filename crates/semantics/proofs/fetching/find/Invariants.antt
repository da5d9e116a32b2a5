use Rattle.std.proofs.Common.{◌≤◌, ◌-◌, length}
use Rattle.semantics.specs.Slots.{IsAt}
use Rattle.semantics.proofs.fetching.find.Given as goal

abbrev pub invariant-loop-at : goal.invariant-loop-at
invariant-loop-at l = record {
  at : IsAt l.code l.at;
  before : l.at.slot ≤ l.slot;
  further : l.fn.at.index ≤ l.at.index;
}

abbrev pub decreases-loop-at : goal.decreases-loop-at
decreases-loop-at l = length l.code - l.at.index
