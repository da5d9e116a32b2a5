-- Runs of a program in order, step by step.
use Rattle.std.proofs.Common.{◌≡◌, ℕ, zero, suc, ◌+◌, ℤ, List, [], Some, Result, Ok, Err, refl, sym, ap, ◌∙◌, subst, inl, inr, arith}
use Rattle.std.specs.Prelude.{IfOk}
use Rattle.insn.specs.Encoding.{slots_of}
use Rattle.insn.specs.declared.instruction.Insn.{Insn}
use Rattle.semantics.specs.Machine.{State, Environment, start}
use Rattle.semantics.specs.Effects.{effect}
use Rattle.semantics.specs.Slots.{fetch}
use Rattle.semantics.specs.Flow.{Flow, Straight, Jumps, Forks, flow_of, flow_distance, flow_branches, branches}
use Rattle.semantics.specs.Flow as flow
use Rattle.semantics.specs.Runs.{StepResult, Goes, Exits, Sticks, step_to, step, Run, run_onwards, run}
use Rattle.semantics.specs.declared.effect.Effect.{Effect}
use Rattle.semantics.specs.declared.effect.Effect.TheVariants as effects
use Rattle.semantics.specs.declared.reason.Reason.{Reason}
use Rattle.semantics.specs.declared.fetching.Fetched.{Fetched}
use Rattle.semantics.specs.declared.fetching.Fetched.TheVariants.{Begins, Inside, Past}
use Rattle.semantics.specs.declared.fetching.Branch.TheVariants.{NotTaken, Taken}
use Rattle.ordering.specs.Orders.{any_target, next_landing, any_flow_slot, IsOneOf, IsReachable, IsEntered, free_step_by_effect, free_step_of_fetched, free_step, free_run, moved, GoesTo, GoesOverJump, KeepsStep, KeepsMeaning}
use Rattle.ordering.specs.laws.Run.{moved_ending, KeepsRun, KeepsRuns}
use Rattle.ordering.proofs.Effects.{EffectOf, effect_flow}
use Rattle.ordering.proofs.Paths.{reaches_on}

-- ---- a step leads to a slot that a run may come to

slot_after : StepResult → ℕ
slot_after (Goes next) = next.slot
slot_after (Exits verdict) = 0
slot_after (Sticks reason slot) = 0

goes_slot : (a next : State) → Goes a ≡ Goes next → a.slot ≡ next.slot
unfolding slot_after
goes_slot a next e = ap slot_after e

sticks_is_not_goes : (reason : Reason) (slot : ℕ) (next : State) → Sticks reason slot ≡ Goes next → ⊥
sticks_is_not_goes reason slot next e = absurd cc

exits_is_not_goes : (verdict : ℕ) (next : State) → Exits verdict ≡ Goes next → ⊥
exits_is_not_goes verdict next e = absurd cc

goes_to_target : (s next : State) (r : Result ℕ Reason) → step_to s r ≡ Goes next → r ≡ Ok next.slot
goes_to_target s next (Ok slot) e = ap Ok (goes_slot (record s { slot = slot }) next e)
goes_to_target s next (Err reason) e = absurd (sticks_is_not_goes reason s.slot next e)

falls_leads : (code : List Insn) (slot k : ℕ) (f : Flow) (i : Insn) → IsOneOf (flow_branches f) NotTaken → fetch code (slot + k) ≡ Begins i → any_flow_slot code slot k f NotTaken ≡ Ok (slot + k)
falls_leads code slot k Straight i b here = ap (λ (p : Fetched). next_landing p (slot + k)) here
falls_leads code slot k (Jumps d) i (inl bad) here = absurd cc
falls_leads code slot k (Jumps d) i (inr bad) here = absurd bad
falls_leads code slot k (Forks d) i b here = ap (λ (p : Fetched). next_landing p (slot + k)) here
falls_leads code slot k flow.Ends i b here = absurd b

takes_leads : (code : List Insn) (slot k : ℕ) (f : Flow) (d : ℤ) → flow_distance f ≡ Some d → any_flow_slot code slot k f Taken ≡ any_target code slot d
takes_leads code slot k Straight d e = absurd cc
takes_leads code slot k (Jumps x) d e = let same : x ≡ d = cc in ap (any_target code slot) same
takes_leads code slot k (Forks x) d e = let same : x ≡ d = cc in ap (any_target code slot) same
takes_leads code slot k flow.Ends d e = absurd cc

module _ (code : List Insn) where
  -- where an instruction begins, a slot that a run may come to is reached
  reached_here : (slot : ℕ) (i : Insn) → fetch code slot ≡ Begins i → IsEntered code slot → IsReachable code slot
  reached_here slot i here (inl reached) = reached
  reached_here slot i here (inr f) =
      let leads = falls_leads code f.from (slots_of f.insn) (flow_of f.insn) i f.is_branch (ap (fetch code) (sym f.next) ∙ here) in
      reaches_on code 0 f.from slot f.reached (f.insn, NotTaken, record { here = f.here; is_branch = f.is_branch; leads = leads ∙ ap Ok (sym f.next) })

  module _ (w : Environment) (s next : State) (entered : IsEntered code s.slot) where
    falls_on : (i : Insn) (x : State) → fetch code s.slot ≡ Begins i → IsOneOf (branches i) NotTaken → Goes (record x { slot = s.slot + slots_of i }) ≡ Goes next → IsEntered code next.slot
    falls_on i x here b e =
        inr (record { from = s.slot; reached = reached_here s.slot i here entered; insn = i; here = here; is_branch = b; next = sym (goes_slot (record x { slot = s.slot + slots_of i }) next e) })

    by_effect : (i : Insn) (r : Result Effect Reason) → fetch code s.slot ≡ Begins i → IfOk r (EffectOf (flow_of i)) → free_step_by_effect w code s i r ≡ Goes next → IsEntered code next.slot
    by_effect i (Err reason) here b e = absurd (sticks_is_not_goes reason s.slot next e)
    by_effect i (Ok (effects.Exit verdict)) here b e = absurd (exits_is_not_goes verdict next e)
    by_effect i (Ok (effects.Jump d)) here b e =
        let leads = takes_leads code s.slot (slots_of i) (flow_of i) d b.0 ∙ goes_to_target s next (any_target code s.slot d) e in
        inl (reaches_on code 0 s.slot next.slot (reached_here s.slot i here entered) (i, Taken, record { here = here; is_branch = b.1; leads = leads }))
    by_effect i (Ok effect) here b e = falls_on i next here b (ap Goes (same_else (s.slot + slots_of i) (goes_slot _ next e))) where
      same_else : (k : ℕ) → k ≡ next.slot → record next { slot = k } ≡ next
      same_else k same = ap (λ (m : ℕ). record next { slot = m }) same

    by_fetched : (p : Fetched) → fetch code s.slot ≡ p → free_step_of_fetched w code s p ≡ Goes next → IsEntered code next.slot
    by_fetched (Begins i) here e = by_effect i (effect w.context s.memory s.registers i) here (effect_flow w.context s.memory s.registers i) e
    by_fetched Inside here e = absurd (sticks_is_not_goes _ _ next e)
    by_fetched Past here e = absurd (sticks_is_not_goes _ _ next e)

    next_entered : free_step w code s ≡ Goes next → IsEntered code next.slot
    next_entered e = by_fetched (fetch code s.slot) refl e

-- ---- runs

module _ (old new : List Insn) (kept : KeepsMeaning old new) (w : Environment) where
  abbrev Runs : ℕ → State → Type 0
  Runs m s = KeepsRun kept.place w old new m s (moved kept.place s)

  -- a run goes on as from its next state
  run_goes : (m : ℕ) (s next : State) → step w new s ≡ Goes next → ((run w new (suc m) s).ending ≡ (run w new m next).ending) × ((run w new (suc m) s).state ≡ (run w new m next).state)
  run_goes m s next e =
      (ap (λ (o : StepResult). (run_onwards s o (λ n. run w new m n)).ending) e, ap (λ (o : StepResult). (run_onwards s o (λ n. run w new m n)).state) e)

  module _ (m : ℕ) (s : State) (step_kept : KeepsStep kept.place w old new s) where
    abbrev there : State
    there = moved kept.place s

    abbrev old_on : StepResult → Run
    old_on o = run_onwards s o (λ n. free_run w old m n)

    abbrev new_on : StepResult → Run
    new_on o = run_onwards there o (λ n. run w new m n)

    one_step : (next : State) → free_step w old s ≡ Goes next → Runs m next → step w new there ≡ Goes (moved kept.place next) → Runs (suc m) s
    one_step next e later goes =
        let first = run_goes later.steps there (moved kept.place next) goes in
        record {
          steps = suc later.steps;
          least = omega (arith, later.least);
          most = omega (arith, later.most);
          ending = first.0 ∙ later.ending ∙ ap (λ (o : StepResult). moved_ending kept.place (old_on o).ending) (sym e);
          state = first.1 ∙ later.state ∙ ap (λ (o : StepResult). moved kept.place (old_on o).state) (sym e);
        }

    two_steps : (next : State) → free_step w old s ≡ Goes next → Runs m next → GoesOverJump w new there (moved kept.place next) → Runs (suc m) s
    two_steps next e later over =
        let first = run_goes (suc later.steps) there over.between over.first in
        let second = run_goes later.steps over.between (moved kept.place next) over.second in
        record {
          steps = suc (suc later.steps);
          least = omega (arith, later.least);
          most = omega (arith, later.most);
          ending = first.0 ∙ second.0 ∙ later.ending ∙ ap (λ (o : StepResult). moved_ending kept.place (old_on o).ending) (sym e);
          state = first.1 ∙ second.1 ∙ later.state ∙ ap (λ (o : StepResult). moved kept.place (old_on o).state) (sym e);
        }

    goes_to : (next : State) → free_step w old s ≡ Goes next → Runs m next → GoesTo w new there (moved kept.place next) → Runs (suc m) s
    goes_to next e later (inl goes) = one_step next e later goes
    goes_to next e later (inr over) = two_steps next e later over

    by_result : (o : StepResult) → free_step w old s ≡ o → ((next : State) → free_step w old s ≡ Goes next → Runs m next) → Runs (suc m) s
    by_result (Goes next) e later = goes_to next e (later next e) (step_kept.goes next e)
    by_result (Exits verdict) e later =
        let ends = step_kept.exits verdict e in
        record {
          steps = suc m;
          least = omega arith;
          most = omega arith;
          ending = ap (λ (o : StepResult). (new_on o).ending) ends ∙ ap (λ (o : StepResult). moved_ending kept.place (old_on o).ending) (sym e);
          state = ap (λ (o : StepResult). (new_on o).state) ends ∙ ap (λ (o : StepResult). moved kept.place (old_on o).state) (sym e);
        }
    by_result (Sticks reason slot) e later =
        let ends = step_kept.sticks reason slot e in
        record {
          steps = suc m;
          least = omega arith;
          most = omega arith;
          ending = ap (λ (o : StepResult). (new_on o).ending) ends ∙ ap (λ (o : StepResult). moved_ending kept.place (old_on o).ending) (sym e);
          state = ap (λ (o : StepResult). (new_on o).state) ends ∙ ap (λ (o : StepResult). moved kept.place (old_on o).state) (sym e);
        }

  run_kept : (m : ℕ) (s : State) → IsEntered old s.slot → Runs m s
  run_kept zero s entered = record { steps = 0; least = omega arith; most = omega arith; ending = refl; state = refl }
  run_kept (suc m) s entered =
      by_result m s (kept.steps w s entered) (free_step w old s) refl (λ next e. run_kept m next (next_entered old w s next entered e))

  from_start : (datagram : List ℕ) → moved kept.place (start datagram) ≡ start datagram
  from_start datagram = ap (λ (slot : ℕ). record (start datagram) { slot = slot }) kept.start

  pub run_from_start : (datagram : List ℕ) (m : ℕ) → KeepsRun kept.place w old new m (start datagram) (start datagram)
  run_from_start datagram m = subst (KeepsRun kept.place w old new m (start datagram)) (from_start datagram) (run_kept m (start datagram) (inl ([], refl)))

pub runs_kept : (old new : List Insn) (kept : KeepsMeaning old new) → KeepsRuns kept.place old new
runs_kept old new kept w datagram m = run_from_start old new kept w datagram m
