use Rattle.std.proofs.Common.{◌≡◌, rules, subst}
use Rattle.std.specs.Prelude.{None, Some, Ok, Err}
use Rattle.server.specs.Serving.{IsServed}
use Rattle.server.specs.declared.serving.ServeError.TheVariants as error
use Rattle.server.proofs.Unfiltered.{served_as, serves}
use Rattle.server.proofs.serving.serve_once.Goals as goal

pub returns-in-Ok-None : goal.returns-in-Ok-None
returns-in-Ok-None g c =
    let is : served_as c.take.result ≡ Ok None = search rules in
    subst (IsServed c.args.endpoint c.args.now c.args.tx c.args.relay.now c.take.new.relay (g.L.Link.calls c.args.link.now) (g.L.Link.calls c.take.new.link)) is
    (serves _ _ _ _ _ _ _ _ c.take.ensures)

pub returns-in-Done : goal.returns-in-Done
returns-in-Done g c =
    let is : served_as c.take.result ≡ Ok (Some c.in-Done.disposition) = search rules in
    subst (IsServed c.args.endpoint c.args.now c.args.tx c.args.relay.now c.take.new.relay (g.L.Link.calls c.args.link.now) (g.L.Link.calls c.take.new.link)) is
    (serves _ _ _ _ _ _ _ _ c.take.ensures)

pub returns-in-SendFailed : goal.returns-in-SendFailed
returns-in-SendFailed g c =
    let is : served_as c.take.result ≡ Err error.Send = search rules in
    subst (IsServed c.args.endpoint c.args.now c.args.tx c.args.relay.now c.take.new.relay (g.L.Link.calls c.args.link.now) (g.L.Link.calls c.take.new.link)) is
    (serves _ _ _ _ _ _ _ _ c.take.ensures)
