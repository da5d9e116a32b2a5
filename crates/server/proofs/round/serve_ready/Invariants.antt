-- How many endpoints are still to be served.
use Rattle.std.proofs.Common.{[], true}
use Rattle.server.specs.RoundSteps.{HasGone}
use Rattle.server.specs.Schedules.{due_count}
use Rattle.server.proofs.round.serve_ready.Given as goal

abbrev pub invariant-loop-token : goal.invariant-loop-token
invariant-loop-token g l = HasGone true l.initial.schedule l.schedule [] (g.E.Endpoints.turns l.initial.endpoints) (g.E.Endpoints.turns l.endpoints)

abbrev pub decreases-loop-token : goal.decreases-loop-token
decreases-loop-token g l = due_count l.schedule
