use Rattle.std.proofs.Common.{◌≡◌, ℕ, List, subst}
use Rattle.insn.specs.declared.instruction.Insn.{Insn}
use Rattle.machine.specs.Tracing.{EndsWith, Reports, run_of}
use Rattle.relay.specs.Forwarding.{answers_of_look_up}
use Rattle.relay.proofs.Frames.{ends_over, ends_with, reports_over}
use Rattle.relay.proofs.running.trace_over.Goals as goal

pub returns-clause-end : goal.returns-clause-end
returns-clause-end g c =
    let answers = answers_of_look_up c.args.helpers.now in
    let P : List Insn → Type 0 = λ code. EndsWith c.trace.result (run_of code c.start.new.self answers) in
    ends_over c.args.program.now answers c.args.frame.now c.start.new.self c.args.context.now c.args.n
    c.law_room.ensures c.requires c.start.ensures c.trace.result
    (subst P c.code.ensures.code (ends_with c.trace.result (run_of c.code.result.now c.start.new.self answers) c.trace.ensures.ok c.trace.ensures.err))

pub returns-clause-reported : goal.returns-clause-reported
returns-clause-reported g c =
    let answers = answers_of_look_up c.args.helpers.now in
    let P : List Insn → Type 0 = λ code. Reports g.S.Sink.Logs (g.S.Sink.log c.args.sink.now) (run_of code c.start.new.self answers).path (g.S.Sink.log c.trace.new.sink) in
    reports_over c.args.program.now answers c.args.frame.now c.start.new.self c.args.context.now c.args.n
    c.law_room.ensures c.requires c.start.ensures g.S.Sink.Logs (g.S.Sink.log c.args.sink.now) (g.S.Sink.log c.trace.new.sink)
    (subst P c.code.ensures.code c.trace.ensures.reported)
