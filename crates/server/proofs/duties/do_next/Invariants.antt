-- The kinds so far were asked in turn, and nothing of them was due.
use Rattle.std.proofs.Common.{◌≡◌}
use Rattle.server.specs.Calls.{HasReported}
use Rattle.server.specs.Duties.{duty_after, none_due}
use Rattle.server.proofs.duties.do_next.Given as goal

abbrev pub invariant-loop : goal.invariant-loop
invariant-loop g l =
    (l.duty ≡ duty_after l.counter l.fn.last)
    × HasReported (g.W.Work.asked l.initial.work) (g.W.Work.asked l.work) (none_due l.counter l.fn.last)
