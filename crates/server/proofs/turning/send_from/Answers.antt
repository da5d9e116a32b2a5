use Rattle.std.proofs.Common.{sym, ap}
use Rattle.server.specs.Turns.{outcome_of_send}
use Rattle.server.proofs.turning.send_from.Goals as goal

pub returns-in-Ok : goal.returns-in-Ok
returns-in-Ok g c = (c.send.result, c.send.ensures, ap (outcome_of_send c.args.done) (sym c.in-Ok.is))

pub returns-in-Err : goal.returns-in-Err
returns-in-Err g c = (c.send.result, c.send.ensures, ap (outcome_of_send c.args.done) (sym c.in-Err.is))
