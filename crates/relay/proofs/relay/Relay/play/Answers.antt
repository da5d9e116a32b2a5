use Rattle.std.proofs.Common.{◌++◌, length, rules, sym, subst, ap, ◌∙◌}
use Rattle.std.specs.Prelude.{Option}
use Rattle.std.specs.Io.KnownBytes.{Appends}
use Rattle.events.specs.Actions.{sending_of}
use Rattle.events.specs.Lines.{answer_line}
use Rattle.events.specs.Reading.{event_in}
use Rattle.basics.specs.Outputs.{AppendsBeginning}
use Rattle.relay.specs.ReasonTexts.{line_ending}
use Rattle.relay.specs.declared.reason.StepReason.{StepReason}
use Rattle.rules.specs.Systems.{with_nonce}
use Rattle.relay.proofs.Played.{for_err}
use Rattle.relay.proofs.Plays.{state_is, answer_is, cut_is, read_is}
use Rattle.relay.proofs.relay.Relay.play.Goals as goal

pub returns-in_err-write_with-in-Some-Datagram-clause-state : goal.returns-in_err-write_with-in-Some-Datagram-clause-state
returns-in_err-write_with-in-Some-Datagram-clause-state g c =
    state_is c.args.self.now c.evidence_of_line-evidence.new.self c.parse.new.room c.in-Some-Datagram.meta c.in-Some-Datagram.n
    (event_in c.args.self.now.config.slots c.args.line.now) c.evidence_of_line-evidence.ensures.rest
    (ap length (sym c.area.ensures.value) ∙ c.area.ensures.len) (search rules)
    (read_is c.args.self.now c.evidence_of_line-evidence.new.self c.args.line.now c.parse.new.room _ _
    c.in-Some-Datagram.meta c.in-Some-Datagram.n c.in-Some-Datagram.field-0-is c.in-Some-Datagram.ensures.reads
    c.slots-slots.ensures c.evidence_of_line-evidence.ensures.rest) c.step.follows.lender-at-none c.step.follows.holds-at-none

pub returns-in_ok-write_with-in-Some-Datagram-clause-state : goal.returns-in_ok-write_with-in-Some-Datagram-clause-state
returns-in_ok-write_with-in-Some-Datagram-clause-state g c =
    state_is c.args.self.now c.evidence_of_line-evidence.new.self c.parse.new.room c.in-Some-Datagram.meta c.in-Some-Datagram.n
    (event_in c.args.self.now.config.slots c.args.line.now) c.evidence_of_line-evidence.ensures.rest
    (ap length (sym c.area.ensures.value) ∙ c.area.ensures.len) (search rules)
    (read_is c.args.self.now c.evidence_of_line-evidence.new.self c.args.line.now c.parse.new.room _ _
    c.in-Some-Datagram.meta c.in-Some-Datagram.n c.in-Some-Datagram.field-0-is c.in-Some-Datagram.ensures.reads
    c.slots-slots.ensures c.evidence_of_line-evidence.ensures.rest) c.step.follows.lender-at-none c.step.follows.holds-at-none

pub returns-in_err-write_with-in-Some-Datagram-clause-cut : goal.returns-in_err-write_with-in-Some-Datagram-clause-cut
returns-in_err-write_with-in-Some-Datagram-clause-cut g c =
    let old = c.args.self.now in
    let sent = sending_of c.step.result.action in
    let P : Option StepReason → Type 0 = λ reason. AppendsBeginning c.args.output.now.contents
    c.write_with-in-Some-Datagram.new.output.contents (answer_line sent ++ line_ending reason) in
    for_err c.from_residual-in_err-write_with-in-Some-Datagram.result (λ e.
    cut_is old c.evidence_of_line-evidence.new.self c.parse.new.room c.in-Some-Datagram.meta c.in-Some-Datagram.n
    (event_in old.config.slots c.args.line.now) c.evidence_of_line-evidence.ensures.rest
    (ap length (sym c.area.ensures.value) ∙ c.area.ensures.len) (search rules)
    (read_is c.args.self.now c.evidence_of_line-evidence.new.self c.args.line.now c.parse.new.room _ _
    c.in-Some-Datagram.meta c.in-Some-Datagram.n c.in-Some-Datagram.field-0-is c.in-Some-Datagram.ensures.reads
    c.slots-slots.ensures c.evidence_of_line-evidence.ensures.rest) c.args.explains sent c.step.result.disposition
    c.evidence_of_line-evidence.result c.step.ensures.answer
    c.step.ensures.disposition (c.evidence_of_line-evidence.ensures.evidence (with_nonce old.config old.config.nonce.bytes))
    c.args.output.now.contents c.write_with-in-Some-Datagram.new.output.contents
    (subst P c.reason_by.ensures c.in_err-write_with-in-Some-Datagram.ensures.err))

pub returns-in_ok-write_with-in-Some-Datagram-clause-written : goal.returns-in_ok-write_with-in-Some-Datagram-clause-written
returns-in_ok-write_with-in-Some-Datagram-clause-written g c =
    let old = c.args.self.now in
    let sent = sending_of c.step.result.action in
    subst (Appends c.args.output.now.contents c.write_with-in-Some-Datagram.new.output.contents)
    (ap (λ (reason : Option StepReason). answer_line sent ++ line_ending reason) c.reason_by.ensures
    ∙ answer_is old c.evidence_of_line-evidence.new.self c.parse.new.room c.in-Some-Datagram.meta c.in-Some-Datagram.n
    (event_in old.config.slots c.args.line.now) c.evidence_of_line-evidence.ensures.rest
    (ap length (sym c.area.ensures.value) ∙ c.area.ensures.len) (search rules)
    (read_is c.args.self.now c.evidence_of_line-evidence.new.self c.args.line.now c.parse.new.room _ _
    c.in-Some-Datagram.meta c.in-Some-Datagram.n c.in-Some-Datagram.field-0-is c.in-Some-Datagram.ensures.reads
    c.slots-slots.ensures c.evidence_of_line-evidence.ensures.rest) c.args.explains sent c.step.result.disposition
    c.evidence_of_line-evidence.result c.step.ensures.answer
    c.step.ensures.disposition (c.evidence_of_line-evidence.ensures.evidence (with_nonce old.config old.config.nonce.bytes)))
    c.in_ok-write_with-in-Some-Datagram.ensures.ok
