use Rattle.std.proofs.Common.{false, subst}
use Rattle.server.specs.RoundSteps.{HasGone}
use Rattle.server.proofs.Rounds.{serves_round}
use Rattle.server.proofs.round.serve_round.Goals as goal

pub returns : goal.returns
returns g c =
    serves_round c.args.schedule.now c.serve_reported.new.schedule c.serve_ready.new.schedule c.args.reports.now (g.E.Endpoints.turns c.args.endpoints.now) (g.E.Endpoints.turns c.serve_reported.new.endpoints) (g.E.Endpoints.turns c.serve_ready.new.endpoints)
    (subst (λ old. HasGone false old c.serve_reported.new.schedule c.args.reports.now (g.E.Endpoints.turns c.args.endpoints.now) (g.E.Endpoints.turns c.serve_reported.new.endpoints)) c.begin.ensures c.serve_reported.ensures)
    c.serve_ready.ensures.gone c.serve_ready.ensures.over
