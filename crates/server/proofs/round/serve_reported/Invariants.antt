-- The endpoints that are reported so far have had their turns.
use Rattle.std.proofs.Common.{take, false}
use Rattle.server.specs.RoundSteps.{HasGone}
use Rattle.server.proofs.round.serve_reported.Given as goal

abbrev pub invariant-loop-token : goal.invariant-loop-token
invariant-loop-token g l =
    HasGone false l.initial.schedule l.schedule (take l.token-index l.reports) (g.E.Endpoints.turns l.initial.endpoints) (g.E.Endpoints.turns l.endpoints)
