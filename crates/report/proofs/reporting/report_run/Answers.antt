use Rattle.std.proofs.Common.{rules, ◌≡◌, false, OnOk}
use Rattle.std.specs.Io.KnownBytes.{Appends}
use Rattle.machine.specs.Lines.{lines_written, step_lines}
use Rattle.machine.specs.Tracing.{run_of}
use Rattle.report.specs.Texts.{end_text}
use Rattle.report.proofs.Printed.{run_ended, run_written}
use Rattle.report.proofs.reporting.report_run.Goals as goal

pub returns-clause-ended : goal.returns-clause-ended
returns-clause-ended g c =
    run_ended (run_of c.args.code.now c.args.frame.now (g.H.Helpers.answers c.args.helpers.now)) c.trace-ended.result c.report_end.result
    c.trace-ended.ensures.ok c.trace-ended.ensures.err c.report_end.ensures.printed

pub returns-clause-written : goal.returns-clause-written
returns-clause-written g c =
    let run = run_of c.args.code.now c.args.frame.now (g.H.Helpers.answers c.args.helpers.now) in
    let lines = lines_written _ run.path _ c.trace-ended.ensures.reported in
    let going : c.trace-ended.new.sink.failed ≡ false = search rules in
    let steps : Appends c.args.out.now.contents c.trace-ended.new.sink.contents (step_lines run.path) = lines.written going in
    let ending : OnOk c.report_end.result (Appends c.trace-ended.new.sink.contents c.report_end.new.out.contents (end_text c.trace-ended.result)) = search rules in
    run_written run _ _ _ c.trace-ended.result c.report_end.result c.trace-ended.ensures.ok c.trace-ended.ensures.err steps ending
