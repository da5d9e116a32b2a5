use Rattle.std.proofs.Common.{◌≡◌, ◌≤◌, length, filter, take}
use Rattle.peer_filter.specs.Filters.{is_for}
use Rattle.peer_filter.proofs.filter.of_family.Given as goal

abbrev pub invariant-loop-rule : goal.invariant-loop-rule
invariant-loop-rule l = (l.own.items ≡ filter (is_for l.family) (take l.rule-index l.rules)) × (length l.own.items ≤ l.rule-index)
