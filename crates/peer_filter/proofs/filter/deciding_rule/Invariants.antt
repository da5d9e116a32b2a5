use Rattle.std.proofs.Common.{◌≡◌, take}
use Rattle.peer_filter.specs.Filters.{deciding_rule}
use Rattle.peer_filter.proofs.filter.deciding_rule.Given as goal

abbrev pub invariant-loop-rule : goal.invariant-loop-rule
invariant-loop-rule l = l.deciding ≡ deciding_rule (take l.rule-index l.rules) l.peer
