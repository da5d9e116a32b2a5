use Rattle.std.proofs.Common.{◌≡◌, ◌+◌}
use Rattle.verifier.specs.Slices.{work_left}
use Rattle.explaining.specs.Trails.{IsTrail}
use Rattle.explaining.proofs.searching.search.Given as goal

abbrev pub invariant-units : goal.invariant-units
invariant-units g l = record {
  trail : IsTrail l.code l.walk.waits l.trail;
  code_is : l.walk.code ≡ l.code;
  budget_is : l.walk.budget ≡ l.budget;
  count : l.steps ≡ l.initial.steps + l.walk.made;
}

abbrev pub decreases-units : goal.decreases-units
decreases-units g l = work_left l.walk
