use Rattle.std.proofs.Common.{ℕ, List, Bool, length, take, rules, sym, ap, ◌∙◌}
use Rattle.std.specs.Prelude.{None, Some, if◌then◌else◌}
use Rattle.machine.specs.laws.Frame.{room_written}
use Rattle.events.specs.Parsing.{event_of}
use Rattle.events.specs.Reading.{event_in}
use Rattle.relay.specs.Evidence.{evidence_of, evidence_of_line}
use Rattle.relay.proofs.relay.Relay.evidence_of_line.Goals as goal

pub returns-in-Some-Datagram-clause-evidence : goal.returns-in-Some-Datagram-clause-evidence
returns-in-Some-Datagram-clause-evidence c = λ config.
    let old = c.args.self.now in
    let room = c.parse.new.room in
    let given = c.in-Some-Datagram.meta in
    let bytes : List ℕ = take c.in-Some-Datagram.n room in
    let written = room_written old.frame room (ap length (sym c.area.ensures.value) ∙ c.area.ensures.len) (search rules) in
    ap Some (c.evidence.ensures.evidence config
    ∙ ap (λ (l : List ℕ). evidence_of config old given (take c.in-Some-Datagram.n l)) written)
    ∙ ap (λ (b : Bool). if b then Some (evidence_of config old given bytes) else None) (sym c.if-not-explains.false)
    ∙ ap (evidence_of_line c.args.explains config old)
    ((λ i. Some (event_of room (sym c.in-Some-Datagram.field-0-is i))) ∙ c.in-Some-Datagram.ensures.reads
    ∙ ap (λ s. event_in s c.args.line.now) c.slots-slots.ensures)
