-- A run that exits has its last step at the slot of its last state.
use Rattle.std.proofs.Common.{◌≡◌, ℕ, zero, suc, List, ◌++◌, refl}
use Rattle.insn.specs.declared.instruction.Insn.{Insn}
use Rattle.semantics.specs.Machine.{Environment, State}
use Rattle.semantics.specs.Runs.{StepResult, Goes, Exits, Sticks, Exited, Run, step_of_fetched, visits_of, run_onwards, run}
use Rattle.semantics.specs.Slots.{fetch}
use Rattle.semantics.specs.declared.fetching.Fetched.{Fetched}
use Rattle.semantics.specs.declared.fetching.Fetched.TheVariants.{Begins, Inside, Past}
use Rattle.relay.specs.Reasons.{last_slot_of}

-- the run from a state on, of which this is the slot, exits so
abbrev ExitsAt : ℕ → Run → Type 0
ExitsAt slot r = (verdict : ℕ) → r.ending ≡ Exited verdict → last_slot_of slot r.path ≡ r.state.slot

onwards : (s : State) (o : StepResult) (go_on : State → Run) → ((next : State) → ExitsAt s.slot (go_on next)) → ExitsAt s.slot (run_onwards s o go_on)
onwards s (Goes next) go_on exits = exits next
onwards s (Exits verdict) go_on exits = λ v e. refl
onwards s (Sticks reason slot) go_on exits = λ v e. refl

visited : (w : Environment) (code : List Insn) (s : State) (p : Fetched) (go_on : State → Run) (slot verdict : ℕ)
    → (run_onwards s (step_of_fetched w code s p) go_on).ending ≡ Exited verdict → ((next : State) → ExitsAt s.slot (go_on next))
    → last_slot_of slot (visits_of s.slot p ++ (run_onwards s (step_of_fetched w code s p) go_on).path) ≡ (run_onwards s (step_of_fetched w code s p) go_on).state.slot
visited w code s (Begins i) go_on slot verdict e exits = onwards s (step_of_fetched w code s (Begins i)) go_on exits verdict e
visited w code s Inside go_on slot verdict e exits = absurd cc
visited w code s Past go_on slot verdict e exits = absurd cc

pub exits_at : (w : Environment) (code : List Insn) (m : ℕ) (s : State) (slot : ℕ) → ExitsAt slot (run w code m s)
exits_at w code zero s slot = λ verdict e. absurd cc
exits_at w code (suc m) s slot = λ verdict e. visited w code s (fetch code s.slot) (λ next. run w code m next) slot verdict e (λ next. exits_at w code m next s.slot)
