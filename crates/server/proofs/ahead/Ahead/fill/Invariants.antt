-- What was received so far, at most one datagram a receive.
use Rattle.std.proofs.Common.{◌≤◌, length}
use Rattle.server.specs.Filling.{HasFilledSoFar}
use Rattle.server.proofs.ahead.Ahead.fill.Given as goal

abbrev pub invariant-loop : goal.invariant-loop
invariant-loop g l = record {
  so_far : HasFilledSoFar l.endpoint (g.L.Link.calls l.initial.link) (g.L.Link.calls l.link) l.self;
  few : length l.self ≤ l.counter;
}
