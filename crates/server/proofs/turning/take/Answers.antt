use Rattle.std.proofs.Common.{◌≡◌, List, rules, refl, length, ap, ◌∙◌, sym, subst}
use Rattle.std.specs.Prelude.{Option, Some, Result, Ok}
use Rattle.machine.specs.Contents.{room_of}
use Rattle.semantics.specs.declared.limits.TheConstants.{MAX_DATAGRAM}
use Rattle.events.specs.Actions.{sending_of}
use Rattle.events.specs.Events.{Event}
use Rattle.server.specs.Turns.{IsReceived}
use Rattle.server.specs.declared.link.LinkFault.{LinkFault}
use Rattle.server.specs.declared.turning.Arrived.{Arrived}
use Rattle.server.proofs.Handled.{takes}
use Rattle.server.proofs.turning.take.Goals as goal

pub returns : goal.returns
returns g c =
    let had : length (room_of c.args.relay.now.frame) ≡ MAX_DATAGRAM = ap length (sym c.area.ensures.value) ∙ c.area.ensures.len in
    let is : c.receive.result ≡ Ok (Some c.in-Some.arrived) = search rules in
    let Received : Option (List Event) → Result (Option Arrived) LinkFault → Type 0 = λ latter came. IsReceived c.args.arrival c.receive.new.room (g.L.Link.calls c.args.link.now) (g.L.Link.calls c.receive.new.link) (g.R.Recorder.events c.args.recorder.now) latter came in
    takes c.args.filter.now c.args.arrival c.args.relay.now c.receive.new.room had c.receive.ensures.room c.in-Some.arrived
    c.step.follows.lender-at-none (sending_of c.step.result.action) c.step.result.disposition _ (g.L.Link.calls c.receive.new.link) _ _ _ c.answer-outcome.result c.step.result.verdict _
    (subst (λ latter. Received latter (Ok (Some c.in-Some.arrived))) (sym (c.after_step.ensures ∙ c.before_step.ensures)) (subst (Received (g.R.Recorder.events c.receive.new.recorder)) is c.receive.ensures.received)) c.step.follows.holds-at-none c.step.ensures.answer c.step.ensures.disposition c.answer-outcome.ensures c.step.ensures.verdict refl
    c.step.ensures.rules c.step.ensures.harmless
