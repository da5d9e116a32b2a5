use Rattle.std.proofs.Common.{sym, ◌∙◌, subst}
use Rattle.semantics.specs.Runs.{IsSafe}
use Rattle.machine.specs.Contents.{Contents, datagram_of}
use Rattle.machine.specs.Contexts.{HelperAnswers}
use Rattle.machine.specs.Tracing.{environment_of}
use Rattle.machine.proofs.Frames.{written}
use Rattle.machine.proofs.FlatFrames.{contents_of, lays_out, is_start, runs_flat, frame_after}
use Rattle.machine.proofs.verified_run.run_area.Goals as goal

pub run_flat-exit-requires-clause-start : goal.run_flat-exit-requires-clause-start
run_flat-exit-requires-clause-start g c =
    let answers : HelperAnswers = g.H.Helpers.answers c.args.helpers.now in
    let laid = lays_out answers c.frame.inside c.frame.view_is c.frame.invariant c.requires c.datagram-size.ensures.bytes c.datagram-size.ensures.short (c.from.ensures ∙ c.side_number.ensures)
    c.deref_mut.ensures.value c.lay_out_context.ensures (c.lay_out_context.auto.area ∙ c.deref_mut.ensures.len) c.deref_mut-2.ensures.value in
    let f : Contents = contents_of c.frame.inside in
    (environment_of f answers, datagram_of f, is_start answers (g.H.Helpers.lawful c.args.helpers.now) c.args.program.now laid)

pub invariant_of-frame : goal.invariant_of-frame
invariant_of-frame g c =
    let answers : HelperAnswers = g.H.Helpers.answers c.args.helpers.now in
    let laid = lays_out answers c.frame.inside c.frame.view_is c.frame.invariant c.requires c.datagram-size.ensures.bytes c.datagram-size.ensures.short (c.from.ensures ∙ c.side_number.ensures)
    c.deref_mut.ensures.value c.lay_out_context.ensures (c.lay_out_context.auto.area ∙ c.deref_mut.ensures.len) c.deref_mut-2.ensures.value in
    let kept = written c.run_flat-exit.new.area _ c.frame.inside.flat.len (c.run_flat-exit.auto.area ∙ c.deref_mut-2.ensures.len) in
    frame_after answers (g.H.Helpers.lawful c.args.helpers.now) c.args.program.now laid c.run_flat-exit.result c.translation.ensures.code c.run_flat-exit.ensures kept

pub returns : goal.returns
returns g c =
    let answers : HelperAnswers = g.H.Helpers.answers c.args.helpers.now in
    let laid = lays_out answers c.frame.inside c.frame.view_is c.frame.invariant c.requires c.datagram-size.ensures.bytes c.datagram-size.ensures.short (c.from.ensures ∙ c.side_number.ensures)
    c.deref_mut.ensures.value c.lay_out_context.ensures (c.lay_out_context.auto.area ∙ c.deref_mut.ensures.len) c.deref_mut-2.ensures.value in
    let kept = written c.run_flat-exit.new.area _ c.frame.inside.flat.len (c.run_flat-exit.auto.area ∙ c.deref_mut-2.ensures.len) in
    runs_flat answers (g.H.Helpers.lawful c.args.helpers.now) c.args.program.now laid c.run_flat-exit.result c.translation.ensures.code c.run_flat-exit.ensures kept

pub run_flat-exit-requires-clause-safe : goal.run_flat-exit-requires-clause-safe
run_flat-exit-requires-clause-safe g c = subst IsSafe (sym c.translation.ensures.code) c.translation.ensures.safe
