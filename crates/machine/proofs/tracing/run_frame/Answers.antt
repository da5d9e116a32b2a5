use Rattle.std.proofs.Common.{◌≡◌, ◌+◌, ◌++◌, ◌≤◌, ℕ, Bool, List, Option, Some, None, true, false, length, take, drop, sym, ap, ◌∙◌, subst, arith}
use Rattle.std.specs.Prelude.{IfSome}
use Rattle.semantics.specs.Calls.{IsWindow}
use Rattle.semantics.specs.Machine.{empty_stack}
use Rattle.semantics.specs.declared.stack.StackMemory.{StackMemory}
use Rattle.semantics.specs.Views.{memory_with}
use Rattle.semantics.specs.declared.plan.Plan.{Plan}
use Rattle.flat.specs.declared.layout.TheConstants.{AREA_BYTES, HEADROOM_INDEX}
use Rattle.semantics.specs.declared.limits.TheConstants.{HEADROOM, MAX_DATAGRAM, TAILROOM}
use Rattle.machine.specs.Contents.{Contents, datagram_of, frame_area_size}
use Rattle.machine.specs.FrameFields.{HoldsDatagram}
use Rattle.machine.specs.Execution.{IsWholeRun, RunsOver}
use Rattle.machine.specs.Tracing.{environment_of}
use Rattle.machine.proofs.Frames.{written, datagram_length, frame_run, is_unstarted}
use Rattle.machine.proofs.tracing.run_frame.Goals as goal

in_area : (window : Option (ℕ × ℕ)) (n : ℕ) → n ≤ MAX_DATAGRAM → IfSome window (IsWindow n) → IfSome window (λ w. w.0 + w.1 ≤ frame_area_size)
in_area None n short h = tt
in_area (Some w) n short h = omega (arith, h.0, short)

pub execute_in-end-requires-clause-room : goal.execute_in-end-requires-clause-room
execute_in-end-requires-clause-room g c =
    let size : length c.datagram-length.result.now ≡ length (datagram_of c.args.frame.now) = ap length c.datagram-length.ensures.bytes in
    let laid = written c.traced_record-record.new.area c.frame.inside.flat.items c.frame.inside.flat.len (c.traced_record-record.auto.area ∙ c.deref_mut.ensures.len) in
    let long : length c.deref_mut-2.result.now ≡ AREA_BYTES = ap length (c.deref_mut-2.ensures.value ∙ laid) ∙ c.traced_record-record.auto.area ∙ ap length c.deref_mut.ensures.value ∙ c.frame.invariant.long in
    omega (arith, long, size, c.datagram-length.ensures.short.short)

pub invariant_of-frame : goal.invariant_of-frame
invariant_of-frame g c =
    let size : length c.datagram-length.result.now ≡ length (datagram_of c.args.frame.now) = ap length c.datagram-length.ensures.bytes in
    let items : List ℕ = c.frame.inside.flat.items in
    let len : ℕ = c.frame.inside.flat.len in
    let laid = written c.traced_record-record.new.area items len (c.traced_record-record.auto.area ∙ c.deref_mut.ensures.len) in
    let long : length c.deref_mut-2.result.now ≡ AREA_BYTES = ap length (c.deref_mut-2.ensures.value ∙ laid) ∙ c.traced_record-record.auto.area ∙ ap length c.deref_mut.ensures.value ∙ c.frame.invariant.long in
    let flat = written c.execute_in-end.new.flat (take len (c.traced_record-record.new.area ++ drop (length c.traced_record-record.new.area) items)) len (c.execute_in-end.auto.flat ∙ c.deref_mut-2.ensures.len) in
    is_unstarted items _ c.frame.inside.stack _ c.frame.inside.length c.frame.inside.is_started c.frame.inside.window c.execute_in-end.new.plan.window c.frame.inside.context
    (ap length flat ∙ c.execute_in-end.auto.flat ∙ long)
    (in_area c.execute_in-end.new.plan.window (length c.datagram-length.result.now) (omega (arith, size, c.datagram-length.ensures.short.short)) c.execute_in-end.ensures.inside) c.frame.invariant

pub returns-clause-run : goal.returns-clause-run
returns-clause-run g c =
    let flat : List ℕ = c.frame.inside.flat.items in
    let len : ℕ = c.frame.inside.flat.len in
    let area : List ℕ = drop HEADROOM_INDEX flat in
    let stack : StackMemory = c.frame.inside.stack in
    let laid : List ℕ = c.traced_record-record.new.area in
    let laid_flat : List ℕ = take len (laid ++ drop (length laid) flat) in
    let left_flat : List ℕ = c.execute_in-end.new.flat in
    let left : List ℕ = drop HEADROOM_INDEX left_flat in
    let plan : Plan = c.execute_in-end.new.plan in
    let size : ℕ = length c.datagram-length.result.now in
    let answers = g.H.Helpers.answers c.args.helpers.now in
    let frame : Contents = record { area = area; length = c.frame.inside.length; is_started = c.frame.inside.is_started; context = c.frame.inside.context; window = c.frame.inside.window } in
    let started : c.frame.inside.is_started ≡ true = ap (λ (f : Contents). f.is_started) c.frame.view_is ∙ c.requires.started in
    let holds : HoldsDatagram area stack frame.length true frame.window = subst (λ (b : Bool). HoldsDatagram area stack frame.length b frame.window) started c.frame.invariant.holds in
    let same : size ≡ frame.length = ap length (c.datagram-length.ensures.bytes ∙ sym (ap datagram_of c.frame.view_is)) ∙ datagram_length area frame.length holds.long holds.short in
    let from_headroom : drop HEADROOM_INDEX c.deref_mut-2.result.now ≡ area =
    ap (drop HEADROOM_INDEX) (c.deref_mut-2.ensures.value ∙ written laid flat len (c.traced_record-record.auto.area ∙ c.deref_mut.ensures.len))
    ∙ c.traced_record-record.ensures.after ∙ ap (drop HEADROOM_INDEX) c.deref_mut.ensures.value in
    let Walks : StackMemory → List ℕ → ℕ → Type 0 = λ s a n. IsWholeRun g.S.Sink.Logs (environment_of frame answers) c.args.code.now (memory_with s (take (HEADROOM + TAILROOM + n) a) n) (memory_with c.execute_in-end.new.stack (take (HEADROOM + TAILROOM + n) left) n) plan (g.S.Sink.log c.args.sink.now) (g.S.Sink.log c.execute_in-end.new.sink) c.execute_in-end.result in
    let empty : c.clear_stack.new.stack ≡ empty_stack = c.clear_stack.ensures in
    let walked : Walks c.clear_stack.new.stack area frame.length =
    subst (λ (n : ℕ). Walks c.clear_stack.new.stack area n) same
    (subst (λ (a : List ℕ). Walks c.clear_stack.new.stack a size) from_headroom c.execute_in-end.ensures.run) in
    let after : drop (HEADROOM + TAILROOM + frame.length) left ≡ drop (HEADROOM + TAILROOM + frame.length) area =
    ap (λ (n : ℕ). drop (HEADROOM + TAILROOM + n) left) (sym same) ∙ c.execute_in-end.ensures.beyond ∙ ap (drop (HEADROOM + TAILROOM + size)) from_headroom ∙ ap (λ (n : ℕ). drop (HEADROOM + TAILROOM + n) area) same in
    let whole = written left_flat laid_flat len (c.execute_in-end.auto.flat ∙ c.deref_mut-2.ensures.len) in
    let Runs : Contents → List ℕ → Type 0 = λ f a. RunsOver g.S.Sink.Logs answers c.args.code.now f (record frame { area = drop HEADROOM_INDEX a; is_started = false; window = plan.window }) plan (g.S.Sink.log c.args.sink.now) (g.S.Sink.log c.execute_in-end.new.sink) c.execute_in-end.result in
    let runs : Runs frame (take len (left_flat ++ drop (length left_flat) laid_flat)) =
    subst (λ (a : List ℕ). Runs frame a) (sym whole) (frame_run g.S.Sink.Logs c.args.code.now answers frame stack c.clear_stack.new.stack c.execute_in-end.new.stack left plan _ _ _ holds empty walked after) in
    subst (λ (f : Contents). Runs f (take len (left_flat ++ drop (length left_flat) laid_flat))) c.frame.view_is runs
