use Rattle.std.proofs.Common.{◌≤◌, sym, subst}
use Rattle.server.specs.Schedules.{due_count}
use Rattle.server.proofs.EndpointEntries.{due_no_more}
use Rattle.server.proofs.schedule.Schedule.served.Goals as goal

pub returns-clause-no_more : goal.returns-clause-no_more
returns-clause-no_more c =
    subst (λ p. due_count p ≤ due_count c.args.self.now) (sym c.put.ensures) (due_no_more c.args.self.now c.args.token c.args.more)
