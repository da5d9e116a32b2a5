-- Meaning. The runs over a frame, their outcomes, and the frame as they leave it.
use Rattle.std.specs.Prelude.{◌≡◌, ℕ, ◌+◌, List, [], ◌∷◌, ◌++◌, length, drop, option_map, false, Result, Ok, Err}
use Rattle.insn.specs.declared.instruction.Insn.{Insn}
use Rattle.semantics.specs.Machine.{Environment, start}
use Rattle.semantics.specs.Runs as runs
use Rattle.semantics.specs.Runs.{Run, Exited, run}
use Rattle.semantics.specs.declared.fetching.Visit.{Visit}
use Rattle.semantics.specs.declared.limits.TheConstants.{HEADROOM, TAILROOM}
use Rattle.semantics.specs.Access.{part}
use Rattle.semantics.specs.Extents.{HasExtent}
use Rattle.machine.specs.Contents.{Contents, datagram_of, window_of}
use Rattle.semantics.specs.Records.{address_of}
use Rattle.machine.specs.Contexts.{HelperAnswers, environment_around, context_of}
use Rattle.machine.specs.declared.outcome.Outcome.{Outcome}
use Rattle.machine.specs.declared.outcome.Stuck.{Stuck}

-- the environment of a run over a frame
abbrev pub environment_of : Contents → HelperAnswers → Environment
environment_of f answers = environment_around (context_of f.context) answers

-- the run over a datagram, to its end
abbrev pub run_over : Environment → List Insn → List ℕ → Run
run_over w code datagram = run w code (length code + 1) (start datagram)

-- the run of a started frame, to its end
abbrev pub run_of : List Insn → Contents → HelperAnswers → Run
run_of code f answer = run_over (environment_of f answer) code (datagram_of f)

-- the run of a started frame, of at most as many steps as the program has instructions
abbrev pub safe_run_of : List Insn → Contents → HelperAnswers → Run
safe_run_of code f answer = run (environment_of f answer) code (length code) (start (datagram_of f))

-- the outcome of a run that exits
pub record IsOutcome (o : Outcome) (r : Run) : Type 0 where
  pub verdict : r.ending ≡ Exited o.verdict
  pub steps : length r.path ≡ o.steps
  pub window : o.window ≡ r.state.plan.window
  pub destination : o.destination ≡ option_map address_of r.state.plan.destination

-- the frame as a run leaves it
abbrev pub left_by : Contents → Run → Contents
left_by f r = record f { area = r.state.memory.bytes ++ drop (HEADROOM + TAILROOM + f.length) f.area; is_started = false; window = r.state.plan.window }

-- A frame shows what a run over a datagram of a length left: those bytes of its memory that are the datagram's, and those of
-- the window. The memory has its sizes, the window lies in it, and a destination is a valid address record.
pub record Shows (f : Contents) (size : ℕ) (r : Run) : Type 0 where
  pub extent : HasExtent size r.state
  pub datagram : datagram_of f ≡ part size HEADROOM r.state.memory.bytes
  pub window : option_map (window_of f) f.window ≡ option_map (λ w. part w.1 w.0 r.state.memory.bytes) r.state.plan.window

-- a sink's logs before and after the steps of a path, which are reported to it in order
abbrev pub Reports : {Log : Type 0} → (Log → Visit → Log → Type 0) → Log → List Visit → Log → Type 0
Reports Logs old [] new = old ≡ new
Reports {Log} Logs old (v ∷ path) new = (between : Log) × Logs old v between × Reports Logs between path new

-- the end of the code's run over a frame is that of the definitions' run
abbrev pub EndsWith : Result Outcome Stuck → Run → Type 0
EndsWith (Ok o) r = IsOutcome o r
EndsWith (Err stuck) r = r.ending ≡ runs.Stuck stuck.reason stuck.slot

-- the same run, with the plan in its outcome
pub record IsFrameRun {Log : Type 0} (Logs : Log → Visit → Log → Type 0) (answers : HelperAnswers) (program : List Insn) (before after : Contents) (old new : Log) (result : Result Outcome Stuck) : Type 0 where
  pub ending : EndsWith result (run_of program before answers)
  pub left : after ≡ left_by before (run_of program before answers)
  pub logged : Reports Logs old (run_of program before answers).path new
