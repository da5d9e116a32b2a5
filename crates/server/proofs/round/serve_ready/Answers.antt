use Rattle.std.proofs.Common.{◌≡◌, [], ◌∷◌, length, true, rules, ap, sym, subst, ◌∙◌}
use Rattle.std.specs.Prelude.{Some}
use Rattle.std.specs.List.{position, position_or_len}
use Rattle.server.specs.Schedules.{is_due}
use Rattle.server.proofs.Walks.{gone_on, hands_out}
use Rattle.server.proofs.round.serve_ready.Goals as goal

pub loop-token-preserved : goal.loop-token-preserved
loop-token-preserved g c =
    let found : position is_due c.loop-token.schedule ≡ Some c.in-Some.token = search rules in
    gone_on true c.args.schedule.now c.loop-token.schedule c.served.new.self [] [] (g.E.Endpoints.turns c.args.endpoints.now) (g.E.Endpoints.turns c.loop-token.endpoints) (g.E.Endpoints.turns c.serve-more.new.self)
    c.loop-token.invariant
    (hands_out c.loop-token.schedule c.next_ready.new.self c.served.new.self c.in-Some.token c.serve-more.result (g.E.Endpoints.turns c.loop-token.endpoints) (g.E.Endpoints.turns c.serve-more.new.self)
    found c.next_ready.ensures.after c.served.ensures.after c.serve-more.ensures)
