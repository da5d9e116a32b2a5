-- Internal. A run from the first registers to its end, and the memory that it leaves.
use Rattle.std.specs.Prelude.{◌≡◌, ℕ, ◌+◌, ◌<◌, List, length, IfSome, Result, Ok, Err}
use Rattle.insn.specs.declared.instruction.Insn.{Insn}
use Rattle.semantics.specs.Machine.{IsContext, Memory, State, Environment, first_registers, no_plan}
use Rattle.semantics.specs.Calls.{IsWindow}
use Rattle.semantics.specs.declared.plan.Plan.{Plan}
use Rattle.semantics.specs.Slots.{IsAt}
use Rattle.semantics.specs.Runs as runs
use Rattle.semantics.specs.Effects.{effect}
use Rattle.semantics.specs.Runs.{Goes, Exits, Sticks, Run, IsDatagram, run, step_by_effect}
use Rattle.semantics.specs.declared.value.Value.{Value}
use Rattle.semantics.specs.declared.effect.Effect.{Effect}
use Rattle.semantics.specs.declared.effect.Effect.TheVariants as effects
use Rattle.semantics.specs.declared.fetching.Visit.{Visit}
use Rattle.semantics.specs.declared.fetching.Position.{Position}
use Rattle.flat.specs.declared.flat_run.FlatExit as flat_run
use Rattle.machine.specs.Contexts.{HelperAnswers, environment_around, context_of}
use Rattle.machine.specs.Contents.{Contents, datagram_of}
use Rattle.machine.specs.Tracing.{run_of, safe_run_of, left_by, Reports}
use Rattle.machine.specs.declared.environment.TraceInputs as traced
use Rattle.machine.specs.declared.execution.StepResult.{StepResult}
use Rattle.machine.specs.declared.execution.StepResult.TheVariants as code
use Rattle.machine.specs.declared.execution.Exit.{Exit}
use Rattle.machine.specs.declared.outcome.Stuck.{Stuck}

-- the environment of the definitions' run, of what a trace is given
abbrev pub traced_environment : {H : Type 0} → (H → HelperAnswers) → traced.TraceInputs H → Environment
traced_environment answers given = environment_around (context_of given.context.now) (answers given.helpers.now)

-- a state by its parts
abbrev pub state_at : ℕ → List Value → Memory → Plan → State
state_at slot registers memory plan = record { slot = slot; registers = registers; memory = memory; plan = plan }

-- a window that is planned lies in headroom, datagram and tailroom
abbrev pub HasWindowInside : ℕ → Plan → Type 0
HasWindowInside length plan = IfSome plan.window (IsWindow length)

-- the step of the definitions that has this result and leaves these registers, this memory and this plan
abbrev pub result_of : ℕ → List Value → Memory → Plan → StepResult → runs.StepResult
result_of slot registers memory plan (code.Goes to) = Goes (state_at to.slot registers memory plan)
result_of slot registers memory plan (code.Exits verdict) = Exits verdict
result_of slot registers memory plan (code.Sticks reason) = Sticks reason slot

-- The step of an instruction in one state, by the definitions: its result, and the state that it leaves.
abbrev pub MakesStep : Environment → List Insn → Insn → State → State → StepResult → Type 0
MakesStep w program i old new result =
    result_of old.slot new.registers new.memory new.plan result ≡ step_by_effect w program old i (effect w.context old.memory old.registers i)

-- after every effect but a jump and an exit the run continues with the next instruction
abbrev pub GoesStraight : Effect → Type 0
GoesStraight (effects.Jump offset) = ⊥
GoesStraight (effects.Exit verdict) = ⊥
GoesStraight _ = Unit {0}

-- a step continues at a later position of the program
pub record GoesAhead (program : List Insn) (at to : Position) : Type 0 where
  pub is_at : IsAt program to
  pub later : at.index < to.index

abbrev pub IfGoesTo : StepResult → (Position → Type 0) → Type 0
IfGoesTo (code.Goes to) P = P to
IfGoesTo (code.Exits verdict) P = Unit {0}
IfGoesTo (code.Sticks reason) P = Unit {0}

-- what holds of a step that ends the run, by an exit or stuck
abbrev pub IfEnds : StepResult → Type 0 → Type 0
IfEnds (code.Goes to) P = Unit {0}
IfEnds (code.Exits verdict) P = P
IfEnds (code.Sticks reason) P = P

-- the run from the first registers to its end: at most one step for each instruction, and one past the last
abbrev pub whole_run : Environment → List Insn → Memory → Run
whole_run w program memory = run w program (length program + 1) (state_at 0 first_registers memory no_plan)

-- the end of the code's run is that of the definitions' run
abbrev pub EndsAs : Result Exit Stuck → Run → Type 0
EndsAs (Ok exit) r = (r.ending ≡ runs.Exited exit.verdict) × (length r.path ≡ exit.steps)
EndsAs (Err stuck) r = r.ending ≡ runs.Stuck stuck.reason stuck.slot

-- The run of a program over memory: how it ends, the memory and the plan that it leaves, and the log of a sink before and after
-- it.
pub record IsWholeRun {Log : Type 0} (Logs : Log → Visit → Log → Type 0) (w : Environment) (program : List Insn) (memory left : Memory) (plan : Plan) (old new : Log) (result : Result Exit Stuck) : Type 0 where
  pub ending : EndsAs result (whole_run w program memory)
  pub memory_is : (whole_run w program memory).state.memory ≡ left
  pub plan_is : (whole_run w program memory).state.plan ≡ plan
  pub logged : Reports Logs old (whole_run w program memory).path new

-- The run of a program over a started frame: how it ends, the plan and the frame that it leaves, and the log of a sink before
-- and after it.
pub record RunsOver {Log : Type 0} (Logs : Log → Visit → Log → Type 0) (answers : HelperAnswers) (program : List Insn) (before after : Contents) (plan : Plan) (old new : Log) (result : Result Exit Stuck) : Type 0 where
  pub ending : EndsAs result (run_of program before answers)
  pub plan_is : (run_of program before answers).state.plan ≡ plan
  pub left : after ≡ left_by before (run_of program before answers)
  pub logged : Reports Logs old (run_of program before answers).path new

-- The flat run over a started frame: its end, with the plan, and the frame as the run leaves it.
pub record RunsFlat (answers : HelperAnswers) (program : List Insn) (before after : Contents) (exit : flat_run.FlatExit) : Type 0 where
  pub is_datagram : IsDatagram (datagram_of before)
  pub length_is : length (datagram_of before) ≡ before.length
  pub is_context : IsContext (context_of before.context)
  pub ending : (safe_run_of program before answers).ending ≡ runs.Exited exit.verdict
  pub steps : length (safe_run_of program before answers).path ≡ exit.steps
  pub plan_is : (safe_run_of program before answers).state.plan ≡ exit.plan
  pub left : after ≡ left_by before (safe_run_of program before answers)
