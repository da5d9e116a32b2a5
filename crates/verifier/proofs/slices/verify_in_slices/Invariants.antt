use Rattle.std.proofs.Common.{◌≡◌, ◌+◌}
use Rattle.verifier.specs.Slices.{work_left}
use Rattle.verifier.proofs.slices.verify_in_slices.Given as goal

abbrev pub invariant-loop-next : goal.invariant-loop-next
invariant-loop-next g l = record {
  code_is : l.walk.code ≡ l.code;
  budget_is : l.walk.budget ≡ l.budget;
  count : l.steps ≡ l.initial.steps + l.walk.made;
}

abbrev pub decreases-loop-next : goal.decreases-loop-next
decreases-loop-next g l = work_left l.walk
