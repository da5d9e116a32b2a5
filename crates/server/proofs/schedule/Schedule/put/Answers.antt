use Rattle.std.proofs.Common.{cond, ap, ◌∙◌, arith}
use Rattle.server.specs.Schedules.{put}
use Rattle.server.proofs.EndpointEntries.{was_counted, schedule_put, statuses_put}
use Rattle.server.proofs.schedule.Schedule.put.Goals as goal

pub overflow_sub-self : goal.overflow_sub-self
overflow_sub-self c =
    was_counted c.self.inside.round c.self.inside.entries.items c.self.inside.ready c.self.inside.next c.args.token c.count_of.result c.index.result.now c.self.invariant
    (omega (arith, c.if-token-len.false, c.len.ensures)) (c.count_of.ensures ∙ ap (λ e. cond e.is_ready 1 0) c.index.ensures)

pub invariant_of-self : goal.invariant_of-self
invariant_of-self c =
    schedule_put c.self.inside.round c.self.inside.entries.items c.self.inside.ready c.self.inside.next c.args.token c.count_of.result c.count_of-2.result c.args.is_ready c.index.result.now c.self.invariant
    (omega (arith, c.if-token-len.false, c.len.ensures)) (c.count_of.ensures ∙ ap (λ e. cond e.is_ready 1 0) c.index.ensures) c.count_of-2.ensures

pub returns : goal.returns
returns c = statuses_put c.self.inside.round c.self.inside.entries.items c.args.token c.args.is_ready ∙ ap (λ p. put p c.args.token c.args.is_ready) c.self.view_is
