use Rattle.std.proofs.Common.{arith, ap, sym, ◌∙◌}
use Rattle.server.specs.Schedules.{is_due}
use Rattle.server.proofs.EndpointEntries.{none_due_at_all, first_due, length_endpoints}
use Rattle.server.proofs.schedule.Schedule.find.Goals as goal

pub returns-then-self-eq0 : goal.returns-then-self-eq0
returns-then-self-eq0 c =
    none_due_at_all c.self.inside.round c.self.inside.entries.items c.self.inside.ready c.self.inside.next c.len-count.result c.args.self.now c.self.invariant c.self.view_is
    c.if-self-eq0.true (c.len-count.ensures ∙ c.self.inside.entries.ok.0)

pub returns-then-is_due : goal.returns-then-is_due
returns-then-is_due c =
    let same = length_endpoints c.self.inside.round c.self.inside.entries.items c.args.self.now c.self.view_is in
    first_due c.args.self.now c.loop-token.token (omega (arith, same, c.loop-token-test.true, c.len-count.ensures, c.self.inside.entries.ok.0)) c.loop-token.invariant
    (λ _. ap is_due (sym c.status.ensures) ∙ sym c.is_due.ensures ∙ c.if-is_due.true)

pub returns : goal.returns
returns c =
    let same = length_endpoints c.self.inside.round c.self.inside.entries.items c.args.self.now c.self.view_is in
    first_due c.args.self.now c.len-count.result (omega (arith, same, c.len-count.ensures, c.self.inside.entries.ok.0))
    (λ k h. c.loop-token.invariant k (omega (arith, h, c.loop-token-test.false))) (λ inside. absurd (omega (arith, inside, same, c.len-count.ensures, c.self.inside.entries.ok.0)))
