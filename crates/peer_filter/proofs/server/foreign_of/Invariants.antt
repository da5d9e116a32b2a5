use Rattle.std.proofs.Common.{◌≡◌, ◌≤◌, length, filter, take}
use Rattle.peer_filter.specs.Servers.{is_foreign}
use Rattle.peer_filter.proofs.server.foreign_of.Given as goal

abbrev pub invariant-loop-rule : goal.invariant-loop-rule
invariant-loop-rule l = (l.foreign.items ≡ filter (is_foreign l.server) (take l.rule-index l.rules)) × (length l.foreign.items ≤ l.rule-index)
