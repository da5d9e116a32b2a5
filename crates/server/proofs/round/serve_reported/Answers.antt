use Rattle.std.proofs.Common.{◌≡◌, ℕ, ◌+◌, false, List, ◌∷◌, [], ◌++◌, take, get_or, sym, subst, ◌∙◌}
use Rattle.std.specs.Prelude.{Option}
use Rattle.std.proofs.lemmas.List.{take_more}
use Rattle.server.specs.RoundSteps.{HasGone}
use Rattle.server.specs.Rounds.{EndpointTurn}
use Rattle.server.specs.declared.schedule.Status.{Status}
use Rattle.server.proofs.Walks.{gone_on, reports_new, reports_old}
use Rattle.server.proofs.round.serve_reported.Goals as goal
use Rattle.server.proofs.round.serve_reported.Goals.{then-report, else-report}

pub loop-token-preserved : goal.loop-token-preserved
loop-token-preserved g c =
    let token : ℕ = get_or c.args.reports.now c.loop-token.token-index 0 in
    let first : Option (List EndpointTurn) = g.E.Endpoints.turns c.args.endpoints.now in
    let before : Option (List EndpointTurn) = g.E.Endpoints.turns c.loop-token.endpoints in
    let To : List Status → Option (List EndpointTurn) → Type 0 = λ new latter. HasGone false c.args.schedule.now new (take (c.loop-token.token-index + 1) c.args.reports.now) first latter in
    let on : (new : List Status) (latter : Option (List EndpointTurn)) → HasGone false c.loop-token.schedule new (token ∷ []) before latter → To new latter = λ new latter step.
    subst (λ reports. HasGone false c.args.schedule.now new reports first latter) (sym (take_more c.args.reports.now c.loop-token.token-index 0 c.loop-token-test.true))
    (gone_on false c.args.schedule.now c.loop-token.schedule new (take c.loop-token.token-index c.args.reports.now) (token ∷ []) first before latter c.loop-token.invariant step) in
    elim c.if-report.branch [
      | then-report w ↦
          subst (λ s. To s (g.E.Endpoints.turns c.if-report.endpoints)) (sym w.schedule-is)
          (subst (λ e. To w.served.new.self (g.E.Endpoints.turns e)) (sym w.endpoints-is)
          (on w.served.new.self (g.E.Endpoints.turns w.serve-more.new.self)
          (reports_new c.loop-token.schedule c.report.new.self w.served.new.self token w.serve-more.result before _ (sym c.report.ensures.now ∙ w.if-report.true) c.report.ensures.after
          w.served.ensures.after w.serve-more.ensures)))
      | else-report w ↦
          subst (λ s. To s (g.E.Endpoints.turns c.if-report.endpoints)) (sym w.schedule-is)
          (subst (λ e. To c.report.new.self (g.E.Endpoints.turns e)) (sym w.endpoints-is)
          (on c.report.new.self before (reports_old c.loop-token.schedule c.report.new.self token before (sym c.report.ensures.now ∙ w.if-report.false) c.report.ensures.after)))
    ]
