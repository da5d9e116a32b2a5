use Rattle.std.proofs.Common.{◌<◌, length, true, arith, ap, sym, subst, ◌∙◌}
use Rattle.std.specs.List.{position_or_len}
use Rattle.server.specs.Schedules.{is_due, put, due_count}
use Rattle.server.proofs.EndpointEntries.{schedule_at, due_fewer, length_endpoints}
use Rattle.server.proofs.schedule.Schedule.next_ready.Goals as goal

pub invariant_of-self : goal.invariant_of-self
invariant_of-self c =
    schedule_at c.self.inside.round c.self.inside.entries.items c.self.inside.ready c.self.inside.next c.find-token.result c.args.self.now c.self.invariant c.self.view_is c.find-token.ensures

pub invariant_of-self-2 : goal.invariant_of-self-2
invariant_of-self-2 c =
    schedule_at c.self.inside.round c.self.inside.entries.items c.self.inside.ready c.self.inside.next c.find-token.result c.args.self.now c.self.invariant c.self.view_is c.find-token.ensures

pub returns-clause-fewer : goal.returns-clause-fewer
returns-clause-fewer c =
    let same = length_endpoints c.self.inside.round c.self.inside.entries.items c.args.self.now c.self.view_is in
    let inside : position_or_len is_due c.args.self.now < length c.args.self.now =
    omega (arith, same, c.if-token-len.false, c.find-token.ensures, c.len.ensures, c.self.inside.entries.ok.0) in
    let now = c.put.ensures ∙ ap (λ p. put p c.find-token.result true) c.self.view_is ∙ ap (λ t. put c.args.self.now t true) c.find-token.ensures in
    subst (λ p. due_count p < due_count c.args.self.now) (sym now) (due_fewer c.args.self.now true inside)
