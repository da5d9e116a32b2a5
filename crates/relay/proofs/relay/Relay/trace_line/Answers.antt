use Rattle.std.proofs.Common.{◌≡◌, List, ℕ, Option, Some, length, take, rules, sym, subst, ap, ◌∙◌}
use Rattle.machine.specs.Tracing.{EndsWith, Reports}
use Rattle.machine.specs.laws.Frame.{room_written}
use Rattle.events.specs.Events.{Event, Datagram}
use Rattle.events.specs.Parsing.{event_of}
use Rattle.events.specs.Reading.{event_in}
use Rattle.relay.specs.EventRuns.{run_of_datagram, run_of_event, IsTraced}
use Rattle.relay.proofs.relay.Relay.trace_line.Goals as goal

pub returns-in-Some-Datagram-clause-traced : goal.returns-in-Some-Datagram-clause-traced
returns-in-Some-Datagram-clause-traced g c =
    let old = c.args.self.now in
    let room = c.parse.new.room in
    let given = c.in-Some-Datagram.meta in
    let n = c.in-Some-Datagram.n in
    let before = g.S.Sink.log c.args.sink.now in
    let after = g.S.Sink.log c.traced-end.new.sink in
    let written = room_written old.frame room (ap length (sym c.area.ensures.value) ∙ c.area.ensures.len) (search rules) in
    let is_event : Some (Datagram given (take n room)) ≡ event_in old.config.slots c.args.line.now =
    (λ i. Some (event_of room (sym c.in-Some-Datagram.field-0-is i))) ∙ c.in-Some-Datagram.ensures.reads
    ∙ ap (λ s. event_in s c.args.line.now) c.slots-slots.ensures in
    let ends = subst (λ (l : List ℕ). EndsWith c.traced-end.result (run_of_datagram old given (take n l))) written c.traced-end.ensures.end in
    let reported = subst (λ (l : List ℕ). Reports g.S.Sink.Logs before (run_of_datagram old given (take n l)).path after) written c.traced-end.ensures.reported in
    subst (λ (e : Option Event). IsTraced g.S.Sink.Logs before after (run_of_event old e) (Some (c.side_of.result, c.traced-end.result))) is_event
    (c.side_of.ensures, ends, reported)
