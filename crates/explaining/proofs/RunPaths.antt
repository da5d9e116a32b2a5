-- The instructions of a run are on a path.
use Rattle.std.proofs.Common.{◌≡◌, ℕ, zero, suc, ◌+◌, ℤ, List, [], ◌∷◌, ◌++◌, Some, Result, Ok, Err, inl, inr, refl, sym, ap, ◌∙◌, subst}
use Rattle.std.specs.Prelude.{IfOk}
use Rattle.insn.specs.Encoding.{slots_of}
use Rattle.insn.specs.declared.instruction.Insn.{Insn}
use Rattle.semantics.specs.Effects.{effect}
use Rattle.semantics.specs.Flow.{Flow, Straight, Jumps, Forks, flow_of, flow_distance, flow_branches, flow_slot, branches, branch_slot}
use Rattle.semantics.specs.Flow as flow
use Rattle.semantics.specs.Machine.{State, Environment}
use Rattle.semantics.specs.Runs.{StepResult, Goes, Exits, Sticks, visits_of, run_onwards, step_to, step_by_effect, step_of_fetched, run}
use Rattle.semantics.specs.Slots.{fetch, target}
use Rattle.semantics.specs.declared.effect.Effect.{Effect}
use Rattle.semantics.specs.declared.effect.Effect.TheVariants as effects
use Rattle.semantics.specs.declared.fetching.Branch.{Branch}
use Rattle.semantics.specs.declared.fetching.Branch.TheVariants.{NotTaken, Taken}
use Rattle.semantics.specs.declared.fetching.Fetched.{Fetched}
use Rattle.semantics.specs.declared.fetching.Fetched.TheVariants.{Begins, Inside, Past}
use Rattle.semantics.specs.declared.fetching.Visit.{Visit}
use Rattle.semantics.specs.declared.reason.Reason.{Reason}
use Rattle.ordering.specs.Orders.{IsOneOf}
use Rattle.ordering.proofs.Effects.{EffectOf, effect_flow}
use Rattle.explaining.specs.LongestPaths.{FollowFrom, IsPathFrom}

-- ---- a step goes on by a branch

module _ (code : List Insn) (slot : ℕ) where
  -- a branch of an instruction leads to a slot
  abbrev LeadsOn : Insn → ℕ → Type 0
  LeadsOn i to = (branch : Branch) × IsOneOf (branches i) branch × (branch_slot code slot i branch ≡ Ok to)

  next_is : (n : ℕ) (f : Flow) → IsOneOf (flow_branches f) NotTaken → flow_slot code slot n f NotTaken ≡ Ok (slot + n)
  next_is n Straight one = refl
  next_is n (Jumps d) (inl e) = absurd cc
  next_is n (Jumps d) (inr none) = absurd none
  next_is n (Forks d) one = refl
  next_is n flow.Ends one = refl

  target_is : (n : ℕ) (f : Flow) (d : ℤ) → flow_distance f ≡ Some d → flow_slot code slot n f Taken ≡ target code slot d
  target_is n Straight d e = absurd cc
  target_is n (Jumps c) d e = let same : c ≡ d = cc in ap (target code slot) same
  target_is n (Forks c) d e = let same : c ≡ d = cc in ap (target code slot) same
  target_is n flow.Ends d e = absurd cc

  goes_next : (i : Insn) (to : ℕ) → IsOneOf (branches i) NotTaken → slot + slots_of i ≡ to → LeadsOn i to
  goes_next i to one e = (NotTaken, one, next_is (slots_of i) (flow_of i) one ∙ ap Ok e)

-- the slot that a step goes to
abbrev slot_of : StepResult → ℕ
slot_of (Goes next) = next.slot
slot_of (Exits verdict) = 0
slot_of (Sticks reason slot) = 0

goes_to : (code : List Insn) (s next : State) (i : Insn) (d : ℤ) (r : Result ℕ Reason) → flow_distance (flow_of i) ≡ Some d → IsOneOf (branches i) Taken → target code s.slot d ≡ r → step_to s r ≡ Goes next → LeadsOn code s.slot i next.slot
goes_to code s next i d (Ok to) distance one leads e =
    let there : to ≡ next.slot = ap slot_of e in
    (Taken, one, target_is code s.slot (slots_of i) (flow_of i) d distance ∙ leads ∙ ap Ok there)
goes_to code s next i d (Err reason) distance one leads e = absurd cc

leads_on : (w : Environment) (code : List Insn) (s next : State) (i : Insn) (r : Result Effect Reason) → IfOk r (EffectOf (flow_of i)) → step_by_effect w code s i r ≡ Goes next → LeadsOn code s.slot i next.slot
leads_on w code s next i (Ok (effects.Write r v)) is e = goes_next code s.slot i next.slot is (ap slot_of e)
leads_on w code s next i (Ok (effects.Store at z n)) is e = goes_next code s.slot i next.slot is (ap slot_of e)
leads_on w code s next i (Ok (effects.StorePointer g pointer)) is e = goes_next code s.slot i next.slot is (ap slot_of e)
leads_on w code s next i (Ok (effects.Ask q out)) is e = goes_next code s.slot i next.slot is (ap slot_of e)
leads_on w code s next i (Ok (effects.SetWindow window)) is e = goes_next code s.slot i next.slot is (ap slot_of e)
leads_on w code s next i (Ok (effects.SetDestination destination)) is e = goes_next code s.slot i next.slot is (ap slot_of e)
leads_on w code s next i (Ok effects.Pass) is e = goes_next code s.slot i next.slot is (ap slot_of e)
leads_on w code s next i (Ok (effects.Jump d)) is e = goes_to code s next i d (target code s.slot d) is.0 is.1 refl e
leads_on w code s next i (Ok (effects.Exit verdict)) is e = absurd cc
leads_on w code s next i (Err reason) is e = absurd cc

-- ---- the path of a run

follow_on : (code : List Insn) (v : Visit) (to : ℕ) (path : List Visit) → LeadsOn code v.slot v.insn to → IsPathFrom code to path → FollowFrom code v path
follow_on code v to [] leads is = tt
follow_on code v to (next ∷ rest) (branch, one, leads) (at, begins, others) =
    (record { branch = branch; is_branch = one; leads = leads ∙ ap Ok (sym at); begins = subst (λ (k : ℕ). fetch code k ≡ Begins next.insn) (sym at) begins }, others)

module _ (w : Environment) (code : List Insn) (m : ℕ) (s : State) (path : (next : State) → IsPathFrom code next.slot (run w code m next).path) where
  onwards : (i : Insn) (o : StepResult) → step_of_fetched w code s (Begins i) ≡ o → FollowFrom code (record { slot = s.slot; insn = i }) (run_onwards s o (λ next. run w code m next)).path
  onwards i (Goes next) e =
      follow_on code (record { slot = s.slot; insn = i }) next.slot (run w code m next).path
      (leads_on w code s next i (effect w.context s.memory s.registers i) (effect_flow w.context s.memory s.registers i) e) (path next)
  onwards i (Exits verdict) e = tt
  onwards i (Sticks reason slot) e = tt

  from_fetched : (f : Fetched) → fetch code s.slot ≡ f → IsPathFrom code s.slot (visits_of s.slot f ++ (run_onwards s (step_of_fetched w code s f) (λ next. run w code m next)).path)
  from_fetched (Begins i) here = (refl, here, onwards i (step_of_fetched w code s (Begins i)) refl)
  from_fetched Inside here = tt
  from_fetched Past here = tt

pub run_path : (w : Environment) (code : List Insn) (m : ℕ) (s : State) → IsPathFrom code s.slot (run w code m s).path
run_path w code zero s = tt
run_path w code (suc m) s = from_fetched w code m s (λ next. run_path w code m next) (fetch code s.slot) refl
