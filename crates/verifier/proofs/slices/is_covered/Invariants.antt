-- So far none covers the state, and nothing else has changed.
use Rattle.std.proofs.Common.{◌≡◌, ◌-◌, length}
use Rattle.verifier.specs.Keeping.{kept_at}
use Rattle.verifier.specs.Searches.{HasPassed}
use Rattle.verifier.proofs.slices.is_covered.Given as goal

abbrev pub invariant-loop-passed : goal.invariant-loop-passed
invariant-loop-passed g l = record {
  path : l.at.path ≡ l.initial.at.path;
  here : l.at.here ≡ l.initial.at.here;
  pending : l.at.pending ≡ l.initial.at.pending;
  kept : l.at.kept ≡ l.initial.at.kept;
  made : l.at.made ≡ l.initial.at.made;
  ahead : l.at.ahead ≡ l.initial.at.ahead;
  has_passed : HasPassed g.D.Domain.ops (kept_at l.initial.at.kept l.initial.at.here.value.slot) l.at.passed l.initial.at.here.value.state;
}

abbrev pub decreases-loop-passed : goal.decreases-loop-passed
decreases-loop-passed g l = length (kept_at l.at.kept l.at.here.value.slot) - l.at.passed
