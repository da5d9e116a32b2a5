use Rattle.std.proofs.Common.{rules, ◌≡◌, ap}
use Rattle.insn.specs.Encoding.{Encodes}
use Rattle.semantics.specs.Machine.{Context}
use Rattle.semantics.specs.Nothing.{empty_answer}
use Rattle.machine.specs.Contents.{datagram_of}
use Rattle.machine.specs.Contexts.{environment_around}
use Rattle.machine.specs.Tracing.{run_of, run_over}
use Rattle.report.specs.Traces.{traced_run}
use Rattle.report.proofs.Printed.{trace_printed, trace_written}
use Rattle.report.proofs.reporting.report_trace.Goals as goal

pub returns-clause-printed : goal.returns-clause-printed
returns-clause-printed g c =
    let code = c.deref.result.now in
    let datagram = datagram_of c.prepare.new.frame in
    let run = run_of code c.prepare.new.frame empty_answer in
    let encodes : Encodes code c.args.file.now = search rules in
    let same : run ≡ traced_run code datagram = ap (λ (q : Context). run_over (environment_around q empty_answer) code datagram) c.in_ok-code.ensures.context in
    trace_printed c.args.hex c.args.file.now code datagram run encodes c.in_ok-code.ensures.datagram same c.report_run.result c.report_run.ensures.ended

pub returns-clause-written : goal.returns-clause-written
returns-clause-written g c =
    let code = c.deref.result.now in
    let datagram = datagram_of c.prepare.new.frame in
    let run = run_of code c.prepare.new.frame empty_answer in
    let encodes : Encodes code c.args.file.now = search rules in
    let same : run ≡ traced_run code datagram = ap (λ (q : Context). run_over (environment_around q empty_answer) code datagram) c.in_ok-code.ensures.context in
    trace_written c.args.hex c.args.file.now code datagram run encodes c.in_ok-code.ensures.datagram same _ _ c.report_run.result c.report_run.ensures.ended c.report_run.ensures.written
