-- The loop of a run: what it keeps, and how it ends.
use Rattle.std.proofs.Common.{◌≡◌, ℕ, suc, ◌+◌, ◌-◌, ◌≤◌, List, [], ◌∷◌, ◌++◌, length, Ok, Err, refl, sym, ap, ◌∙◌, subst, arith, append_assoc}
use Rattle.std.proofs.lemmas.List.{length-append, append-nil}
use Rattle.insn.specs.declared.instruction.Insn.{Insn}
use Rattle.semantics.specs.Effects.{effect}
use Rattle.semantics.specs.Machine.{Memory, State, Environment, first_registers, no_plan}
use Rattle.semantics.specs.declared.plan.Plan.{Plan}
use Rattle.semantics.specs.Slots.{fetch, last_slot, IsAt}
use Rattle.semantics.specs.laws.Slot.{at_start}
use Rattle.semantics.specs.Runs as runs
use Rattle.semantics.specs.Runs.{Run, step_by_effect, step_of_fetched, visits_of, run_after, run_onwards, run}
use Rattle.semantics.specs.declared.value.Value.{Value}
use Rattle.semantics.specs.declared.reason.Reason.{Reason}
use Rattle.semantics.specs.declared.reason.Reason.TheVariants.{JumpIntoWide, FallsOffEnd}
use Rattle.semantics.specs.declared.fetching.Fetched.{Fetched}
use Rattle.semantics.specs.declared.fetching.Fetched.TheVariants.{Begins, Inside, Past}
use Rattle.semantics.specs.declared.fetching.Position.{Position}
use Rattle.semantics.specs.declared.fetching.Visit.{Visit}
use Rattle.machine.specs.Tracing.{Reports}
use Rattle.machine.specs.Execution.{state_at, result_of, whole_run, GoesAhead, IsWholeRun}
use Rattle.machine.specs.declared.execution.StepResult.{StepResult}
use Rattle.machine.specs.declared.execution.StepResult.TheVariants as code

abbrev visit : ℕ → Insn → Visit
visit slot i = record { slot = slot; insn = i }

after_after : (a b : List Visit) (r : Run) → run_after a (run_after b r) ≡ run_after (a ++ b) r
after_after a b r = λ i. record r { path = sym (append_assoc a b r.path) i }

whole_fuel : (n : ℕ) → n + 1 ≡ n + 1 - 0
whole_fuel n = omega arith

one_more : (n steps index : ℕ) → steps ≤ index → index ≤ n → n + 1 - steps ≡ suc (n - steps)
one_more n steps index p q = omega arith

less_one : (n steps : ℕ) → n - steps ≡ n + 1 - (steps + 1)
less_one n steps = omega arith

-- The loop is at a position after a path, and what is left of the run goes on from there, in the memory that the steps
-- so far have made of the first one.
pub record HasRun {Log : Type 0} (Logs : Log → Visit → Log → Type 0) (w : Environment) (program : List Insn) (first memory : Memory) (plan : Plan) (at : Position) (registers : List Value) (steps : ℕ) (old new : Log) : Type 0 where
  pub is_at : IsAt program at
  pub path : List Visit
  pub count : length path ≡ steps
  pub early : steps ≤ at.index
  pub so_far : whole_run w program first ≡ run_after path (run w program (length program + 1 - steps) (state_at at.slot registers memory plan))
  pub logged : Reports Logs old path new

pub starts : {Log : Type 0} (Logs : Log → Visit → Log → Type 0) (w : Environment) (program : List Insn) (memory : Memory) (old : Log) → HasRun Logs w program memory memory no_plan (record { slot = 0; index = 0 }) first_registers 0 old old
starts Logs w program memory old = record {
  is_at = at_start program;
  path = [];
  count = refl;
  early = omega arith;
  so_far = ap (λ (k : ℕ). run w program k (state_at 0 first_registers memory no_plan)) (whole_fuel (length program));
  logged = refl;
}

-- one turn of the loop, at what is at the slot
abbrev turned_to : Environment → List Insn → Memory → Plan → ℕ → List Value → ℕ → List Visit → List Visit → runs.StepResult → Run
turned_to w program memory plan slot registers steps path more r =
    run_after (path ++ more) (run_onwards (state_at slot registers memory plan) r (λ next. run w program (length program - steps) next))

reports-push : {Log : Type 0} (Logs : Log → Visit → Log → Type 0) (old new last : Log) (path : List Visit) (v : Visit) → Reports Logs old path new → Logs new v last → Reports Logs old (path ++ v ∷ []) last
reports-push Logs old new last [] v same logs = (last, subst (λ t. Logs t v last) (sym same) logs, refl)
reports-push Logs old new last (u ∷ path) v reports logs = (reports.0, reports.1, reports-push Logs reports.0 new last path v reports.2 logs)

end_count : (path : List Visit) (v : Visit) (steps : ℕ) → length path ≡ steps → length ((path ++ v ∷ []) ++ []) ≡ steps + 1
end_count path v steps e = omega (arith, length-append (path ++ v ∷ []) [], length-append path (v ∷ []))

-- the result of a step that makes these registers, this memory and this plan of those before it
abbrev StepsTo : Environment → List Insn → ℕ → List Value → Memory → Plan → Insn → List Value → Memory → Plan → StepResult → Type 0
StepsTo w program slot registers memory plan i registers' memory' plan' result =
    result_of slot registers' memory' plan' result ≡ step_by_effect w program (state_at slot registers memory plan) i (effect w.context memory registers i)

module _ {Log : Type 0} (Logs : Log → Visit → Log → Type 0) (w : Environment) (program : List Insn) (first memory : Memory) (plan : Plan) (at : Position) (registers : List Value) (steps : ℕ) (old new : Log) (has : HasRun Logs w program first memory plan at registers steps old new) where
  turned : (f : Fetched) → fetch program at.slot ≡ f → whole_run w program first ≡ turned_to w program memory plan at.slot registers steps has.path (visits_of at.slot f) (step_of_fetched w program (state_at at.slot registers memory plan) f)
  turned f here =
      let s : State = state_at at.slot registers memory plan in
      let fuel : length program + 1 - steps ≡ suc (length program - steps) = one_more (length program) steps at.index has.early has.is_at.inside in
      has.so_far
      ∙ ap (λ (k : ℕ). run_after has.path (run w program k s)) fuel
      ∙ ap (λ (q : Fetched). run_after has.path (run_after (visits_of at.slot q) (run_onwards s (step_of_fetched w program s q) (λ next. run w program (length program - steps) next)))) here
      ∙ after_after has.path (visits_of at.slot f) (run_onwards s (step_of_fetched w program s f) (λ next. run w program (length program - steps) next))

  -- a step after the run so far
  stepped_to : (i : Insn) (r : StepResult) (registers' : List Value) (memory' : Memory) (plan' : Plan) → fetch program at.slot ≡ Begins i → StepsTo w program at.slot registers memory plan i registers' memory' plan' r
      → whole_run w program first ≡ turned_to w program memory plan at.slot registers steps has.path (visit at.slot i ∷ []) (result_of at.slot registers' memory' plan' r)
  stepped_to i r registers' memory' plan' here result =
      turned (Begins i) here
      ∙ ap (λ (q : runs.StepResult). turned_to w program memory plan at.slot registers steps has.path (visit at.slot i ∷ []) q) (sym result)

  logged_more : (last : Log) (v : Visit) → Logs new v last → Reports Logs old (has.path ++ v ∷ []) last
  logged_more last v logs = reports-push Logs old new last has.path v has.logged logs

  -- the same steps, as the path of the whole run
  logged_whole : (last : Log) (path : List Visit) (r : Run) → Reports Logs old path last → r.path ≡ path ++ [] → Reports Logs old r.path last
  logged_whole last path r logs is = subst (λ (p : List Visit). Reports Logs old p last) (sym (append-nil path) ∙ sym is) logs

  -- the loop goes on
  pub goes_on : (to : Position) (registers' : List Value) (memory' : Memory) (plan' : Plan) (last : Log) (i : Insn) → fetch program at.slot ≡ Begins i → Logs new (visit at.slot i) last
      → StepsTo w program at.slot registers memory plan i registers' memory' plan' (code.Goes to) → GoesAhead program at to
      → HasRun Logs w program first memory' plan' to registers' (steps + 1) old last
  goes_on to registers' memory' plan' last i here logs result ahead = record {
    is_at = ahead.is_at;
    path = has.path ++ visit at.slot i ∷ [];
    count = omega (arith, length-append has.path (visit at.slot i ∷ []), has.count);
    early = omega (arith, has.early, ahead.later);
    so_far =
        stepped_to i (code.Goes to) registers' memory' plan' here result
        ∙ ap (λ (k : ℕ). run_after (has.path ++ visit at.slot i ∷ []) (run w program k (state_at to.slot registers' memory' plan'))) (less_one (length program) steps);
    logged = logged_more last (visit at.slot i) logs;
  }

  -- ---- the ends

  pub over_at_exit : (registers' : List Value) (left : Memory) (plan' : Plan) (verdict : ℕ) (last : Log) (i : Insn) → fetch program at.slot ≡ Begins i → Logs new (visit at.slot i) last
      → StepsTo w program at.slot registers memory plan i registers' left plan' (code.Exits verdict) → left ≡ memory → plan' ≡ plan
      → IsWholeRun Logs w program first left plan' old last (Ok (record { verdict = verdict; steps = steps + 1 }))
  over_at_exit registers' left plan' verdict last i here logs result kept planned =
      let whole = stepped_to i (code.Exits verdict) registers' left plan' here result in
      record {
        ending = (ap (λ (r : Run). r.ending) whole, ap (λ (r : Run). length r.path) whole ∙ end_count has.path (visit at.slot i) steps has.count);
        memory_is = ap (λ (r : Run). r.state.memory) whole ∙ sym kept;
        plan_is = ap (λ (r : Run). r.state.plan) whole ∙ sym planned;
        logged = logged_whole last (has.path ++ visit at.slot i ∷ []) (whole_run w program first) (logged_more last (visit at.slot i) logs) (ap (λ (r : Run). r.path) whole);
      }

  -- a run that is stuck after a path
  stuck_after : (more : List Visit) (left : Memory) (plan' : Plan) (last : Log) (reason : Reason) (slot : ℕ) → left ≡ memory → plan' ≡ plan → Reports Logs old (has.path ++ more) last
      → (whole_run w program first ≡ turned_to w program memory plan at.slot registers steps has.path more (runs.Sticks reason slot))
      → IsWholeRun Logs w program first left plan' old last (Err (record { reason = reason; slot = slot }))
  stuck_after more left plan' last reason slot kept planned logs whole = record {
    ending = ap (λ (r : Run). r.ending) whole;
    memory_is = ap (λ (r : Run). r.state.memory) whole ∙ sym kept;
    plan_is = ap (λ (r : Run). r.state.plan) whole ∙ sym planned;
    logged = logged_whole last (has.path ++ more) (whole_run w program first) logs (ap (λ (r : Run). r.path) whole);
  }

  pub over_at_stuck : (registers' : List Value) (left : Memory) (plan' : Plan) (reason : Reason) (last : Log) (i : Insn) → fetch program at.slot ≡ Begins i → Logs new (visit at.slot i) last
      → StepsTo w program at.slot registers memory plan i registers' left plan' (code.Sticks reason) → left ≡ memory → plan' ≡ plan
      → IsWholeRun Logs w program first left plan' old last (Err (record { reason = reason; slot = at.slot }))
  over_at_stuck registers' left plan' reason last i here logs result kept planned =
      stuck_after (visit at.slot i ∷ []) left plan' last reason at.slot kept planned (logged_more last (visit at.slot i) logs) (stepped_to i (code.Sticks reason) registers' left plan' here result)

  logged_here : Reports Logs old (has.path ++ []) new
  logged_here = subst (λ (p : List Visit). Reports Logs old p new) (sym (append-nil has.path)) has.logged

  -- past the last instruction, and inside one, no step is reported
  pub over_past : fetch program at.slot ≡ Past → IsWholeRun Logs w program first memory plan old new (Err (record { reason = FallsOffEnd; slot = last_slot program }))
  over_past here = stuck_after [] memory plan new FallsOffEnd (last_slot program) refl refl logged_here (turned Past here)

  pub over_inside : fetch program at.slot ≡ Inside → IsWholeRun Logs w program first memory plan old new (Err (record { reason = JumpIntoWide; slot = at.slot }))
  over_inside here = stuck_after [] memory plan new JumpIntoWide at.slot refl refl logged_here (turned Inside here)
