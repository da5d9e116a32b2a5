use Rattle.interval.specs.laws.Interval.{interval_precise}
use Rattle.interval.specs.laws.Interval.Narrow.{end_is_upper, ends_are_results, unary_below, unchanged_operand}
use Rattle.interval.specs.laws.Interval.Passing.{refinement_passes}
use Rattle.interval.proofs.narrowness.law_intervals_are_narrow.Goals as goal

pub returns-clause-ends : goal.returns-clause-ends
returns-clause-ends c op w x y a b exact = ends_are_results w x y a b op exact

pub returns-clause-upper : goal.returns-clause-upper
returns-clause-upper c = end_is_upper

pub returns-clause-unchanged : goal.returns-clause-unchanged
returns-clause-unchanged c = unchanged_operand

pub returns-clause-below : goal.returns-clause-below
returns-clause-below c = unary_below

pub returns-clause-passing : goal.returns-clause-passing
returns-clause-passing c test w x y a b refines = refinement_passes w x y a b test refines

pub returns-clause-precise : goal.returns-clause-precise
returns-clause-precise c = interval_precise
