-- The flat run over a started frame.
use Rattle.std.proofs.Common.{◌≡◌, ℕ, ◌+◌, ◌≤◌, Bool, true, false, List, ◌++◌, length, take, drop, Option, None, Some, refl, sym, ap, ◌∙◌, subst, arith}
use Rattle.std.specs.Prelude.{IfSome}
use Rattle.insn.specs.declared.instruction.Insn.{Insn}
use Rattle.semantics.specs.Access.{overlay}
use Rattle.semantics.specs.Calls.{IsWindow}
use Rattle.semantics.specs.Extents.{start_extent, run_extent}
use Rattle.semantics.specs.Machine.{Environment, context_bytes, start, datagram_area}
use Rattle.semantics.specs.Runs.{IsDatagram, IsLawful}
use Rattle.semantics.specs.declared.limits.TheConstants.{STACK_BYTES, HEADROOM, TAILROOM}
use Rattle.semantics.specs.declared.plan.Plan.{Plan}
use Rattle.flat.specs.declared.layout.TheConstants.{HEADROOM_INDEX, POINTERS_BYTES}
use Rattle.flat.specs.Layout.{IsFlat, pointers}
use Rattle.flat.specs.FlatSteps.{FlatEnvironment}
use Rattle.flat.specs.Following.{flat_environment_of}
use Rattle.flat.specs.FlatRuns.{IsStart, IsRun}
use Rattle.flat.specs.laws.Flat.{laid_out_is_flat, laid_out_after, rest_from_headroom}
use Rattle.flat.specs.declared.flat_run.FlatExit as flat_run
use Rattle.machine.specs.declared.frame.Frame.TheInside.{Inside}
use Rattle.machine.specs.Contents.{Contents, datagram_of, frame_area_size}
use Rattle.machine.specs.FrameFields.{IsFrame}
use Rattle.machine.specs.Contexts.{HelperAnswers, context_of, side_number}
use Rattle.machine.specs.Execution.{RunsFlat}
use Rattle.machine.specs.Tracing.{environment_of, safe_run_of}
use Rattle.machine.proofs.Frames.{datagram_length, frame_left, written, is_unstarted}

-- ---- the area that a run begins from

-- the contents of a frame with these fields
abbrev pub contents_of : Inside → Contents
contents_of x = record { area = drop HEADROOM_INDEX x.flat.items; length = x.length; is_started = x.is_started; context = x.context; window = x.window }

-- its bytes with the context record of a datagram of n bytes, as the code lays it out
abbrev pub laid_out : Inside → ℕ → List ℕ
laid_out x n = overlay STACK_BYTES (pointers n ++ drop POINTERS_BYTES (context_bytes (context_of x.context) n)) x.flat.items

-- a started frame and its fields, the environment of a run over it, and the area that the run begins from
pub record IsLaidOut (answers : HelperAnswers) (before : Contents) (x : Inside) (g : FlatEnvironment) (area : List ℕ) : Type 0 where
  pub contents : contents_of x ≡ before
  pub frame : IsFrame x.flat.items x.stack x.length true x.window x.context
  pub is_datagram : IsDatagram (datagram_of (contents_of x))
  pub environment : flat_environment_of (environment_of (contents_of x) answers) (length (datagram_of (contents_of x))) ≡ g
  pub laid : area ≡ laid_out x (length (datagram_of (contents_of x)))

-- what the code reads of a started frame, the slice of its bytes, and the same slice once the context record is in it
pub lays_out : (answers : HelperAnswers) (x : Inside) {before : Contents} {datagram slice laid area : List ℕ} {side : ℕ}
    → contents_of x ≡ before → IsFrame x.flat.items x.stack x.length x.is_started x.window x.context → before.is_started ≡ true
    → datagram ≡ datagram_of before → IsDatagram (datagram_of before) → side ≡ side_number x.context.side
    → slice ≡ x.flat.items
    → laid ≡ overlay STACK_BYTES (pointers (length datagram) ++ drop POINTERS_BYTES (context_bytes (context_of x.context) (length datagram))) slice
    → length laid ≡ x.flat.len → area ≡ take x.flat.len (laid ++ drop (length laid) x.flat.items)
    → IsLaidOut answers before x (record { answer = answers; size = length datagram; side = side }) area
lays_out answers x {laid = laid} view frame started bytes short side_is sliced laid_is long area_is =
    let size = ap length (bytes ∙ sym (ap datagram_of view)) in
    record {
      contents = view;
      frame = subst (λ (b : Bool). IsFrame x.flat.items x.stack x.length b x.window x.context) (ap (λ (f : Contents). f.is_started) view ∙ started) frame;
      is_datagram = subst (λ (f : Contents). IsDatagram (datagram_of f)) (sym view) short;
      environment = λ i. record { answer = answers; size = sym size i; side = sym side_is i };
      laid = area_is ∙ written laid x.flat.items x.flat.len long ∙ laid_is ∙ (λ i. overlay STACK_BYTES (pointers (size i) ++ drop POINTERS_BYTES (context_bytes (context_of x.context) (size i))) (sliced i));
    }

-- ---- the run over it

module _ (answers : HelperAnswers) (lawful : IsLawful answers) (program : List Insn) {before : Contents} {x : Inside} {g : FlatEnvironment} {area : List ℕ} (is : IsLaidOut answers before x g area) where
  abbrev f : Contents
  f = contents_of x

  abbrev w : Environment
  w = environment_of f answers

  abbrev d : List ℕ
  d = datagram_of f

  size_is : length d ≡ f.length
  size_is = datagram_length f.area f.length is.frame.holds.long is.frame.holds.short

  -- headroom, datagram and tailroom in the area
  held : take (HEADROOM + length d + TAILROOM) f.area ≡ datagram_area d
  held =
      let same : HEADROOM + length d + TAILROOM ≡ HEADROOM + TAILROOM + f.length = omega (arith, size_is) in
      (λ i. take (same i) f.area) ∙ is.frame.holds.ready refl

  pub is_start : IsStart g w d area
  is_start = record {
    environment = is.environment;
    possible = record { context = is.frame.is_context; helpers = lawful };
    is_datagram = is.is_datagram;
    memory = subst (λ (bytes : List ℕ). IsFlat (context_of f.context) (start d).memory bytes) (sym is.laid) (laid_out_is_flat (context_of f.context) is.frame.is_context x.flat.items d is.frame.long is.is_datagram.short held);
  }

  -- the run of the code over this area, the area that it leaves, and the bytes of the frame afterwards, which are that area
  module _ (exit : flat_run.FlatExit) {code : List Insn} {left kept : List ℕ} (code_is : code ≡ program) (runs : (v : Environment) (datagram : List ℕ) → IsStart g v datagram area → IsRun v code datagram area left exit) (kept_is : kept ≡ left) where
    run : IsRun w program d area left exit
    run = subst (λ (c : List Insn). IsRun w c d area left exit) code_is (runs w d is_start)

    after_is : drop HEADROOM_INDEX area ≡ f.area
    after_is = ap (drop HEADROOM_INDEX) is.laid ∙ laid_out_after (context_of f.context) is.frame.is_context (length d) x.flat.items

    count_is : HEADROOM + length d + TAILROOM ≡ HEADROOM + TAILROOM + f.length
    count_is = omega (arith, size_is)

    rest_is : drop (HEADROOM + TAILROOM + f.length) (drop HEADROOM_INDEX left) ≡ drop (HEADROOM + TAILROOM + f.length) f.area
    rest_is =
        ap (λ (k : ℕ). drop k (drop HEADROOM_INDEX left)) (sym count_is)
        ∙ rest_from_headroom (length d) left ∙ run.rest ∙ sym (rest_from_headroom (length d) area)
        ∙ (λ i. drop (count_is i) (after_is i))

    bytes_are : (safe_run_of program f answers).state.memory.bytes ≡ take (HEADROOM + TAILROOM + f.length) (drop HEADROOM_INDEX left)
    bytes_are =
        let extent = run_extent w program (length d) (length program) (start d) (start_extent d) in
        sym run.memory.bytes ∙ ap (λ (k : ℕ). take k (drop HEADROOM_INDEX left)) ((λ i. HEADROOM + extent.length_is i + TAILROOM) ∙ count_is)

    -- the frame afterwards, of its bytes
    abbrev frame_from : List ℕ → Contents
    frame_from bytes = record f { area = drop HEADROOM_INDEX bytes; is_started = false; window = exit.plan.window }

    pub runs_flat : RunsFlat answers program before (record f { area = drop HEADROOM_INDEX kept; is_started = false; window = exit.plan.window }) exit
    runs_flat =
        let over : RunsFlat answers program f (frame_from left) exit = record {
          is_datagram = is.is_datagram;
          length_is = size_is;
          is_context = is.frame.is_context;
          ending = run.ending;
          steps = run.steps;
          plan_is = run.plan;
          left = frame_left f (drop HEADROOM_INDEX left) exit.plan (safe_run_of program f answers) bytes_are rest_is run.plan;
        } in
        subst (λ (b : Contents). RunsFlat answers program b (frame_from kept) exit) is.contents
        (subst (λ (bytes : List ℕ). RunsFlat answers program f (frame_from bytes) exit) (sym kept_is) over)

    window_inside : (window : Option (ℕ × ℕ)) → IfSome window (IsWindow (length d)) → IfSome window (λ x. x.0 + x.1 ≤ frame_area_size)
    window_inside None h = tt
    window_inside (Some x) h = omega (arith, h.0, is.is_datagram.short)

    pub frame_after : IsFrame kept x.stack x.length false exit.plan.window x.context
    frame_after =
        let extent = run_extent w program (length d) (length program) (start d) (start_extent d) in
        let window = subst (λ (p : Plan). IfSome p.window (IsWindow (length d))) run.plan extent.plan.window in
        is_unstarted x.flat.items kept x.stack x.stack x.length true x.window exit.plan.window x.context (ap length kept_is ∙ run.memory.long) (window_inside exit.plan.window window) is.frame
