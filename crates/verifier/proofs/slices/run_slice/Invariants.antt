-- So much work was done, and so much is left of the slice; where some is, none was done beyond it.
use Rattle.std.proofs.Common.{◌≡◌, ℕ, ◌+◌, ◌<◌, ◌≤◌}
use Rattle.verifier.specs.Slices.{HasWorked}
use Rattle.verifier.specs.declared.weights.TheConstants.{HEAVIEST}
use Rattle.verifier.proofs.slices.run_slice.Given as goal

abbrev pub invariant-loop-left : goal.invariant-loop-left
invariant-loop-left g l = record {
  weight : ℕ;
  worked : HasWorked g.D.Domain.ops g.D.Domain.Member l.program l.budget l.initial.at l.at weight l.initial.steps l.steps;
  sum : l.initial.at.ahead + weight + l.left ≡ l.initial.left + l.at.ahead;
  few : l.steps + l.left ≤ l.initial.steps + l.initial.left;
  light : l.at.ahead ≤ HEAVIEST;
  none : 0 < l.left → l.at.ahead ≡ 0;
}

abbrev pub decreases-loop-left : goal.decreases-loop-left
decreases-loop-left g l = l.left
