-- The bytes of a frame that was started.
use borrow.Rule.Slice.PartMut.{put_mid}
use Rattle.semantics.specs.declared.stack.StackMemory.{StackMemory}
use Rattle.std.proofs.Common.{◌≡◌, ℕ, ◌+◌, ◌-◌, ◌≤◌, Bool, true, false, List, [], ◌∷◌, ◌++◌, length, take, drop, replicate, Option, None, Some, Result, Ok, Err, refl, sym, ap, ◌∙◌, subst, arith, append_assoc}
use Rattle.std.proofs.lemmas.List.{length-append, length-take-le, length-drop, take_at, drop_at, drop-take, take-append-drop, drop-drop, drop_all, take_all, append-nil, drop-append-le, take-append-le}
use Rattle.std.specs.Prelude.{option_map, IfSome}
use Rattle.std.proofs.lemmas.Slice.{drop-append-drop, between-put_mid, drop-put_mid}
use Rattle.std.proofs.Math.Seq.{take-append-add, take-add}
use Rattle.insn.specs.declared.instruction.Insn.{Insn}
use Rattle.semantics.specs.Machine.{Memory, headroom, datagram_area, empty_stack, start}
use Rattle.semantics.specs.declared.plan.Plan.{Plan}
use Rattle.semantics.specs.Runs.{Run}
use Rattle.semantics.specs.Calls.{IsWindow}
use Rattle.semantics.specs.Extents.{HasExtent, start_extent, run_extent}
use Rattle.semantics.specs.laws.Start.{length-headroom, length-surrounded}
use Rattle.semantics.specs.declared.limits.TheConstants.{HEADROOM, MAX_DATAGRAM, TAILROOM}
use Rattle.flat.specs.declared.layout.TheConstants.{HEADROOM_INDEX, AREA_BYTES}
use Rattle.machine.specs.Contents.{Contents, frame_area_size, datagram_of, window_of, with_room}
use Rattle.machine.specs.FrameFields.{HoldsDatagram, IsFrame}
use Rattle.machine.specs.declared.context.Context.{Context}
use Rattle.machine.specs.laws.Frame.{datagram_inside}
use Rattle.semantics.specs.Views.{memory_with}
use Rattle.semantics.specs.declared.fetching.Visit.{Visit}
use Rattle.semantics.specs.Records.{address_of}
use Rattle.machine.specs.Contexts.{HelperAnswers}
use Rattle.machine.specs.Execution.{IsWholeRun, RunsOver}
use Rattle.machine.specs.Tracing.{environment_of, run_of, left_by, IsFrameRun, Shows}
use Rattle.addresses.specs.declared.address.Addr.{Addr}
use Rattle.machine.specs.declared.execution.Exit.{Exit}
use Rattle.machine.specs.declared.outcome.Stuck.{Stuck}

-- zeros before the datagram, and then after it
surround_is : (h z old middle new : List ℕ) (n : ℕ) → length h ≡ HEADROOM → length z ≡ 3 → HEADROOM + TAILROOM + n ≤ length old → middle ≡ take 0 old ++ h ++ drop (0 + HEADROOM) old → new ≡ take (HEADROOM + n) middle ++ z ++ drop (HEADROOM + n + TAILROOM) middle
    → new ≡ (h ++ take n (drop HEADROOM old) ++ z) ++ drop (HEADROOM + TAILROOM + n) old
surround_is h z old middle new n lh lz long e f =
    let front : middle ≡ h ++ drop HEADROOM old = e in
    let taken : take (HEADROOM + n) middle ≡ h ++ take n (drop HEADROOM old) =
    ap (take (HEADROOM + n)) front ∙ ap (λ (k : ℕ). take (k + n) (h ++ drop HEADROOM old)) (sym lh) ∙ take-append-add h (drop HEADROOM old) n in
    let same : HEADROOM + n + TAILROOM ≡ HEADROOM + TAILROOM + n = omega arith in
    let dropped : drop (HEADROOM + n + TAILROOM) middle ≡ drop (HEADROOM + TAILROOM + n) old =
    ap (drop (HEADROOM + n + TAILROOM)) front ∙ drop-append-drop HEADROOM old h (HEADROOM + n + TAILROOM) (omega arith) lh ∙ ap (λ (k : ℕ). drop k old) same in
    f ∙ (λ i. taken i ++ z ++ dropped i)

pub surrounded_is : (old middle new : List ℕ) (n : ℕ) → HEADROOM + TAILROOM + n ≤ length old → middle ≡ take 0 old ++ replicate HEADROOM 0 ++ drop (0 + HEADROOM) old → new ≡ take (HEADROOM + n) middle ++ replicate TAILROOM 0 ++ drop (HEADROOM + n + TAILROOM) middle
    → new ≡ datagram_area (take n (drop HEADROOM old)) ++ drop (HEADROOM + TAILROOM + n) old
unfolding headroom
surrounded_is old middle new n long e f = surround_is headroom (0 ∷ 0 ∷ 0 ∷ []) old middle new n length-headroom refl long e f

frame_long : (a b n all : ℕ) → all ≡ a + b → a ≡ HEADROOM + TAILROOM + n → b ≡ frame_area_size - (HEADROOM + TAILROOM + n) → n ≤ MAX_DATAGRAM → all ≡ frame_area_size
frame_long a b n all e f g short = omega arith

-- a frame over such an area is one that may run
pub is_frame : (old area : List ℕ) (stack : StackMemory) (n : ℕ) → length old ≡ frame_area_size → n ≤ MAX_DATAGRAM → area ≡ datagram_area (take n (drop HEADROOM old)) ++ drop (HEADROOM + TAILROOM + n) old
    → HoldsDatagram area stack n true None
is_frame old area stack n long short e =
    let d : List ℕ = take n (drop HEADROOM old) in
    let rest : List ℕ = drop (HEADROOM + TAILROOM + n) old in
    let d_long : length d ≡ n = length-take-le n (drop HEADROOM old) (omega (arith, length-drop HEADROOM old)) in
    let front : take (HEADROOM + TAILROOM + n) area ≡ datagram_area d = ap (take (HEADROOM + TAILROOM + n)) e ∙ take_at (datagram_area d) rest (HEADROOM + TAILROOM + n) (length-surrounded d ∙ ap (λ (k : ℕ). HEADROOM + TAILROOM + k) d_long) in
    let datagram : take n (drop HEADROOM area) ≡ d = datagram_inside d rest area n d_long e in
    record {
      long = ap length e ∙ frame_long (length (datagram_area d)) (length rest) n (length (datagram_area d ++ rest)) (length-append (datagram_area d) rest) (length-surrounded d ∙ ap (λ (k : ℕ). HEADROOM + TAILROOM + k) d_long) (length-drop (HEADROOM + TAILROOM + n) old ∙ ap (λ (k : ℕ). k - (HEADROOM + TAILROOM + n)) long) short;
      short = short;
      ready = λ started. front ∙ ap datagram_area (sym datagram);
      inside = tt;
    }

-- the datagram has its length
pub datagram_length : (area : List ℕ) (n : ℕ) → length area ≡ frame_area_size → n ≤ MAX_DATAGRAM → length (take n (drop HEADROOM area)) ≡ n
datagram_length area n long short = length-take-le n (drop HEADROOM area) (omega (arith, length-drop HEADROOM area))

-- the memory of a started frame is that of the start with its datagram
memory_is : (area : List ℕ) (stack empty : StackMemory) (n : ℕ) (window : Option (ℕ × ℕ)) → HoldsDatagram area stack n true window → empty ≡ empty_stack → memory_with empty (take (HEADROOM + TAILROOM + n) area) n ≡ (start (take n (drop HEADROOM area))).memory
memory_is area stack empty n window frame is_empty =
    let count : n ≡ length (take n (drop HEADROOM area)) = sym (datagram_length area n frame.long frame.short) in
    λ i. memory_with (is_empty i) (frame.ready refl i) (count i)

-- a frame with the bytes and the window that a run left, before what follows the tailroom
pub frame_left : (f : Contents) (area : List ℕ) (plan : Plan) (r : Run) → r.state.memory.bytes ≡ take (HEADROOM + TAILROOM + f.length) area → drop (HEADROOM + TAILROOM + f.length) area ≡ drop (HEADROOM + TAILROOM + f.length) f.area → r.state.plan ≡ plan
    → record f { area = area; is_started = false; window = plan.window } ≡ left_by f r
frame_left f area plan r bytes following planned =
    let whole : area ≡ r.state.memory.bytes ++ drop (HEADROOM + TAILROOM + f.length) f.area = sym (take-append-drop (HEADROOM + TAILROOM + f.length) area) ∙ (λ i. sym bytes i ++ following i) in
    let window : r.state.plan.window ≡ plan.window = ap (λ (p : Plan). p.window) planned in
    λ i. record f { area = whole i; is_started = false; window = sym window i }

-- a run in the memory of a started frame is the frame's run
pub frame_run : {Log : Type 0} (Logs : Log → Visit → Log → Type 0) (program : List Insn) (answers : HelperAnswers) (f : Contents) (stack empty stack' : StackMemory) (area : List ℕ) (plan : Plan) (old new : Log) (result : Result Exit Stuck)
    → HoldsDatagram f.area stack f.length true f.window
    → empty ≡ empty_stack
    → IsWholeRun Logs (environment_of f answers) program (memory_with empty (take (HEADROOM + TAILROOM + f.length) f.area) f.length) (memory_with stack' (take (HEADROOM + TAILROOM + f.length) area) f.length) plan old new result
    → drop (HEADROOM + TAILROOM + f.length) area ≡ drop (HEADROOM + TAILROOM + f.length) f.area
    → RunsOver Logs answers program f (record f { area = area; is_started = false; window = plan.window }) plan old new result
frame_run Logs program answers f stack empty stack' area plan old new result frame is_empty walked following =
    let left : Memory = memory_with stack' (take (HEADROOM + TAILROOM + f.length) area) f.length in
    let whole : IsWholeRun Logs (environment_of f answers) program (start (datagram_of f)).memory left plan old new result =
    subst (λ (m : Memory). IsWholeRun Logs (environment_of f answers) program m left plan old new result) (memory_is f.area stack empty f.length f.window frame is_empty) walked in
    record {
      ending = whole.ending;
      plan_is = whole.plan_is;
      left = frame_left f area plan (run_of program f answers) (ap (λ (m : Memory). m.bytes) whole.memory_is) following whole.plan_is;
      logged = whole.logged;
    }

-- the outcome of a run that exits, with its plan
pub exits_with : {Log : Type 0} (Logs : Log → Visit → Log → Type 0) (answers : HelperAnswers) (program : List Insn) (before after : Contents) (plan : Plan) (old new : Log) (exit : Exit) (destination : Option Addr)
    → RunsOver Logs answers program before after plan old new (Ok exit) → destination ≡ option_map address_of plan.destination
    → IsFrameRun Logs answers program before after old new (Ok (record { verdict = exit.verdict; steps = exit.steps; window = plan.window; destination = destination }))
exits_with Logs answers program before after plan old new exit destination runs e = record {
  ending = record {
    verdict = runs.ending.0;
    steps = runs.ending.1;
    window = ap (λ (p : Plan). p.window) (sym runs.plan_is);
    destination = e ∙ ap (λ (p : Plan). option_map address_of p.destination) (sym runs.plan_is);
  };
  left = runs.left;
  logged = runs.logged;
}

pub sticks_with : {Log : Type 0} (Logs : Log → Visit → Log → Type 0) (answers : HelperAnswers) (program : List Insn) (before after : Contents) (plan : Plan) (old new : Log) (stuck : Stuck)
    → RunsOver Logs answers program before after plan old new (Err stuck) → IsFrameRun Logs answers program before after old new (Err stuck)
sticks_with Logs answers program before after plan old new stuck runs = record { ending = runs.ending; left = runs.left; logged = runs.logged }

-- a vector's items, underlying a slice of all of them
pub written : {X : Type 0} (new old : List X) (len : ℕ) → length new ≡ len → take len (new ++ drop (length new) old) ≡ new
written new old len e = take_at new (drop (length new) old) len e

-- a vector's bytes after a slice of them from an index on is written
pub written_after : (k : ℕ) (old bytes : List ℕ) (len : ℕ) → len ≡ length old → k ≤ length old
    → (let new : List ℕ = take k old ++ (bytes ++ drop (length bytes) (drop k old)) in take len (new ++ drop (length new) old)) ≡ take (length old) (take k old ++ bytes ++ drop (k + length bytes) old)
written_after k old bytes len e long =
    let rest : List ℕ = drop (length bytes) (drop k old) in
    let new : List ℕ = take k old ++ (bytes ++ rest) in
    let whole : length old ≤ length new = omega (arith, length-append (take k old) (bytes ++ rest), length-append bytes rest, length-take-le k old long, length-drop (length bytes) (drop k old), length-drop k old) in
    let none : new ++ drop (length new) old ≡ new = ap (λ (l : List ℕ). new ++ l) (drop_all (length new) old whole) ∙ append-nil new in
    let following : rest ≡ drop (k + length bytes) old = drop-drop (length bytes) k old in
    (λ i. take (e i) (none i)) ∙ ap (λ (l : List ℕ). take (length old) (take k old ++ (bytes ++ l))) following
    ∙ ap (take (length old)) (sym (append_assoc (take k old) bytes (drop (k + length bytes) old)))

-- a vector has the length that it had
pub length_written : (old new : List ℕ) (len : ℕ) → len ≡ length old → length (take len (new ++ drop (length new) old)) ≡ length old
length_written old new len e =
    let whole : length old ≤ length (new ++ drop (length new) old) = omega (arith, length-append new (drop (length new) old), length-drop (length new) old) in
    ap (λ (k : ℕ). length (take k (new ++ drop (length new) old))) e ∙ length-take-le (length old) (new ++ drop (length new) old) whole

-- a frame that is not started, with another area, stack and window
pub is_unstarted : (flat new : List ℕ) (stack new_stack : StackMemory) (n : ℕ) (started : Bool) (window new_window : Option (ℕ × ℕ)) (context : Context) → length new ≡ AREA_BYTES → IfSome new_window (λ w. w.0 + w.1 ≤ frame_area_size)
    → IsFrame flat stack n started window context → IsFrame new new_stack n false new_window context
is_unstarted flat new stack new_stack n started window new_window context long inside is = record {
  long = long;
  holds = record {
    long = omega (arith, long, length-drop HEADROOM_INDEX new);
    short = is.holds.short;
    ready = λ e. absurd (no_true e);
    inside = inside;
  };
  is_context = is.is_context;
}
  where
    no_true : false ≡ true → ⊥
    no_true e = absurd cc

-- the bytes from headroom on, of an area whose room is written
room_from_headroom : (flat bytes : List ℕ) → length flat ≡ AREA_BYTES
    → drop HEADROOM_INDEX (take (length flat) (take (HEADROOM_INDEX + HEADROOM) flat ++ bytes ++ drop (HEADROOM_INDEX + HEADROOM + length bytes) flat)) ≡ take (length (drop HEADROOM_INDEX flat)) (take HEADROOM (drop HEADROOM_INDEX flat) ++ bytes ++ drop (HEADROOM + length bytes) (drop HEADROOM_INDEX flat))
room_from_headroom flat bytes long =
    let area : List ℕ = drop HEADROOM_INDEX flat in
    let all : length flat ≡ HEADROOM_INDEX + (length flat - HEADROOM_INDEX) = omega (arith, long) in
    let front : length (take HEADROOM_INDEX flat) ≡ HEADROOM_INDEX = length-take-le HEADROOM_INDEX flat (omega (arith, long)) in
    let split : take (HEADROOM_INDEX + HEADROOM) flat ≡ take HEADROOM_INDEX flat ++ take HEADROOM area = take-add HEADROOM_INDEX HEADROOM flat in
    let same : HEADROOM_INDEX + HEADROOM + length bytes ≡ HEADROOM_INDEX + (HEADROOM + length bytes) = omega arith in
    let rest : drop (HEADROOM_INDEX + HEADROOM + length bytes) flat ≡ drop (HEADROOM + length bytes) area = ap (λ (k : ℕ). drop k flat) same ∙ sym (drop-drop (HEADROOM + length bytes) HEADROOM_INDEX flat) in
    let regrouped : take (HEADROOM_INDEX + HEADROOM) flat ++ bytes ++ drop (HEADROOM_INDEX + HEADROOM + length bytes) flat ≡ take HEADROOM_INDEX flat ++ (take HEADROOM area ++ bytes ++ drop (HEADROOM + length bytes) area) =
    (λ i. split i ++ bytes ++ rest i) ∙ ap (λ (l : List ℕ). l ++ drop (HEADROOM + length bytes) area) (append_assoc (take HEADROOM_INDEX flat) (take HEADROOM area) bytes) ∙ append_assoc (take HEADROOM_INDEX flat) (take HEADROOM area ++ bytes) (drop (HEADROOM + length bytes) area) in
    ap (λ (k : ℕ). drop HEADROOM_INDEX (take k (take (HEADROOM_INDEX + HEADROOM) flat ++ bytes ++ drop (HEADROOM_INDEX + HEADROOM + length bytes) flat))) all
    ∙ drop-take HEADROOM_INDEX (length flat - HEADROOM_INDEX) (take (HEADROOM_INDEX + HEADROOM) flat ++ bytes ++ drop (HEADROOM_INDEX + HEADROOM + length bytes) flat)
    ∙ ap (take (length flat - HEADROOM_INDEX)) (ap (drop HEADROOM_INDEX) regrouped ∙ drop_at (take HEADROOM_INDEX flat) (take HEADROOM area ++ bytes ++ drop (HEADROOM + length bytes) area) HEADROOM_INDEX front)
    ∙ ap (λ (k : ℕ). take k (take HEADROOM area ++ bytes ++ drop (HEADROOM + length bytes) area)) (sym (length-drop HEADROOM_INDEX flat))

-- the bytes from headroom on, after a slice of a vector's bytes from the room on is written
pub room_written_in : (old bytes : List ℕ) (len : ℕ) → len ≡ length old → length old ≡ AREA_BYTES
    → drop HEADROOM_INDEX (let new : List ℕ = take (HEADROOM_INDEX + HEADROOM) old ++ (bytes ++ drop (length bytes) (drop (HEADROOM_INDEX + HEADROOM) old)) in take len (new ++ drop (length new) old)) ≡ take (length (drop HEADROOM_INDEX old)) (take HEADROOM (drop HEADROOM_INDEX old) ++ bytes ++ drop (HEADROOM + length bytes) (drop HEADROOM_INDEX old))
room_written_in old bytes len e long = ap (drop HEADROOM_INDEX) (written_after (HEADROOM_INDEX + HEADROOM) old bytes len e (omega (arith, long))) ∙ room_from_headroom old bytes long

-- the room of an area
pub room_in : (flat : List ℕ) → take MAX_DATAGRAM (drop (HEADROOM_INDEX + HEADROOM) flat) ≡ take MAX_DATAGRAM (drop HEADROOM (drop HEADROOM_INDEX flat))
room_in flat = ap (take MAX_DATAGRAM) (sym (drop-drop HEADROOM HEADROOM_INDEX flat))

-- the bytes from headroom on, after all of them were written
pub all_written : (flat new : List ℕ) → HEADROOM_INDEX ≤ length flat → length new ≡ length flat - HEADROOM_INDEX → drop HEADROOM_INDEX (put_mid HEADROOM_INDEX (length flat - HEADROOM_INDEX) flat new) ≡ new
all_written flat new le long =
    let from : List ℕ = drop HEADROOM_INDEX flat in
    let none : drop (length flat - HEADROOM_INDEX) from ≡ [] = drop_all (length flat - HEADROOM_INDEX) from (omega (arith, length-drop HEADROOM_INDEX flat)) in
    drop_at (take HEADROOM_INDEX flat) (new ++ drop (length flat - HEADROOM_INDEX) from) HEADROOM_INDEX (length-take-le HEADROOM_INDEX flat le) ∙ ap (λ (l : List ℕ). new ++ l) none ∙ append-nil new

pub all_from_headroom : (flat : List ℕ) → take (length flat - HEADROOM_INDEX) (drop HEADROOM_INDEX flat) ≡ drop HEADROOM_INDEX flat
all_from_headroom flat = take_all (length flat - HEADROOM_INDEX) (drop HEADROOM_INDEX flat) (omega (arith, length-drop HEADROOM_INDEX flat))

-- the bytes of headroom, datagram and tailroom, after they were written, and what follows them
module _ (n : ℕ) (flat new : List ℕ) (room : HEADROOM_INDEX + (HEADROOM + TAILROOM + n) ≤ length flat) (long : length new ≡ HEADROOM + TAILROOM + n) where
  abbrev pub after_part : List ℕ
  after_part = put_mid HEADROOM_INDEX (HEADROOM_INDEX + HEADROOM + TAILROOM + n - HEADROOM_INDEX) flat new

  pub part_end : HEADROOM_INDEX + HEADROOM + TAILROOM + n - HEADROOM_INDEX ≡ HEADROOM + TAILROOM + n
  part_end = omega arith

  pub part_is_new : take (HEADROOM + TAILROOM + n) (drop HEADROOM_INDEX (put_mid HEADROOM_INDEX (HEADROOM_INDEX + HEADROOM + TAILROOM + n - HEADROOM_INDEX) flat new)) ≡ new
  part_is_new = ap (λ (k : ℕ). take k (drop HEADROOM_INDEX after_part)) (sym part_end) ∙ between-put_mid HEADROOM_INDEX (HEADROOM_INDEX + HEADROOM + TAILROOM + n - HEADROOM_INDEX) flat new (HEADROOM_INDEX + HEADROOM + TAILROOM + n) (omega (arith, room)) (omega (arith, long))

  pub rest_is_old : drop (HEADROOM + TAILROOM + n) (drop HEADROOM_INDEX (put_mid HEADROOM_INDEX (HEADROOM_INDEX + HEADROOM + TAILROOM + n - HEADROOM_INDEX) flat new)) ≡ drop (HEADROOM + TAILROOM + n) (drop HEADROOM_INDEX flat)
  rest_is_old =
      drop-drop (HEADROOM + TAILROOM + n) HEADROOM_INDEX after_part
      ∙ drop-put_mid HEADROOM_INDEX (HEADROOM_INDEX + HEADROOM + TAILROOM + n - HEADROOM_INDEX) flat new (HEADROOM_INDEX + (HEADROOM + TAILROOM + n)) (omega arith) (omega (arith, room)) (omega (arith, long))
      ∙ sym (drop-drop (HEADROOM + TAILROOM + n) HEADROOM_INDEX flat)

-- a frame whose vector is written so has its room written
pub frame_written : (f now : Contents) (bytes area : List ℕ) → f ≡ now → area ≡ take (length f.area) (take HEADROOM f.area ++ bytes ++ drop (HEADROOM + length bytes) f.area) → record f { area = area; is_started = false } ≡ with_room now bytes
frame_written f now bytes area same e = (λ i. record f { area = e i; is_started = false }) ∙ ap (λ (g : Contents). with_room g bytes) same

-- ---- what a frame shows of a run

part_front : (n i : ℕ) (bytes rest : List ℕ) → i + n ≤ length bytes → take n (drop i (bytes ++ rest)) ≡ take n (drop i bytes)
part_front n i bytes rest le =
    ap (take n) (drop-append-le i bytes rest (omega (arith, le))) ∙ take-append-le n (drop i bytes) rest (omega (arith, length-drop i bytes, le))

window_front : (size : ℕ) (window : Option (ℕ × ℕ)) (bytes rest : List ℕ) → length bytes ≡ HEADROOM + size + TAILROOM → IfSome window (IsWindow size) → option_map (λ w. take w.1 (drop w.0 (bytes ++ rest))) window ≡ option_map (λ w. take w.1 (drop w.0 bytes)) window
window_front size None bytes rest long h = refl
window_front size (Some w) bytes rest long h = ap Some (part_front w.1 w.0 bytes rest (omega (arith, long, h.0)))

pub shows_left : (f after : Contents) (r : Run) → length (datagram_of f) ≡ f.length → HasExtent (length (datagram_of f)) r.state → after ≡ left_by f r → Shows after (length (datagram_of f)) r
shows_left f after r long extent e =
    let size : ℕ = length (datagram_of f) in
    let bytes : List ℕ = r.state.memory.bytes in
    let rest : List ℕ = drop (HEADROOM + TAILROOM + f.length) f.area in
    let datagram : datagram_of (left_by f r) ≡ take size (drop HEADROOM bytes) =
    ap (λ (n : ℕ). take n (drop HEADROOM (bytes ++ rest))) (sym long) ∙ part_front size HEADROOM bytes rest (omega (arith, extent.bytes)) in
    let window : option_map (window_of (left_by f r)) r.state.plan.window ≡ option_map (λ w. take w.1 (drop w.0 bytes)) r.state.plan.window = window_front size r.state.plan.window bytes rest extent.bytes extent.plan.window in
    subst (λ (g : Contents). Shows g size r) (sym e) (record { extent = extent; datagram = datagram; window = window })

pub shows_run : {Log : Type 0} (Logs : Log → Visit → Log → Type 0) (answers : HelperAnswers) (program : List Insn) (before after : Contents) (plan : Plan) (old new : Log) (result : Result Exit Stuck)
    → length (datagram_of before) ≡ before.length → RunsOver Logs answers program before after plan old new result → Shows after (length (datagram_of before)) (run_of program before answers)
shows_run Logs answers program before after plan old new result long runs =
    let extent = run_extent (environment_of before answers) program (length (datagram_of before)) (length program + 1) (start (datagram_of before)) (start_extent (datagram_of before)) in
    shows_left before after (run_of program before answers) long extent runs.left
