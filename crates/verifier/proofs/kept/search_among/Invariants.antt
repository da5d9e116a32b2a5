-- The states are as they were, of those so far none covers the state, and they are counted.
use Rattle.std.proofs.Common.{◌≡◌, ◌+◌, ◌-◌, ◌*◌, ◌≤◌, length}
use Rattle.verifier.specs.Searches.{HasPassed}
use Rattle.verifier.specs.declared.weights.TheConstants.{KEPT_STATE, SEARCH}
use Rattle.verifier.proofs.kept.search_among.Given as goal

abbrev pub invariant-loop-at : goal.invariant-loop-at
invariant-loop-at g l = record {
  same : l.states.items ≡ l.initial.states.items;
  has_passed : HasPassed g.D.Domain.ops l.initial.states.items l.at l.state;
  after : l.passed ≤ l.at;
  counted : l.at ≤ l.passed + l.weight;
  each : l.weight + KEPT_STATE * l.passed ≤ KEPT_STATE * l.at;
  most : l.weight ≤ SEARCH + KEPT_STATE;
}

abbrev pub decreases-loop-at : goal.decreases-loop-at
decreases-loop-at g l = length l.states.items - l.at
