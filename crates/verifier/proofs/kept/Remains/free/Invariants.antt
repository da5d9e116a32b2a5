use Rattle.std.proofs.Common.{◌≡◌, ◌+◌}
use Rattle.verifier.proofs.kept.Remains.free.Given as goal

abbrev pub invariant-loop : goal.invariant-loop
invariant-loop g l = l.self + l.counter ≡ l.initial.self
