-- The instructions that were placed keep the meaning of the program.
use Rattle.std.proofs.Common.{◌≡◌, ℕ, ◌+◌, ◌-◌, ℤ, pos, List, [], ◌∷◌, Option, Some, None, Result, Ok, Err, refl, sym, ap, ◌∙◌, subst, inl, inr, arith}
use Rattle.std.specs.Prelude.{IfOk, zero, suc, map, is_some, slice_index_or}
use Rattle.insn.specs.Encoding.{slots_of, slot_count}
use Rattle.insn.specs.Jumps.{with_distance}
use Rattle.insn.specs.declared.instruction.Insn.{Insn}
use Rattle.insn.specs.declared.instruction.Insn.TheVariants as insn
use Rattle.insn.specs.Codes.{byte_count}
use Rattle.insn.specs.Endian.{little_bytes}
use Rattle.semantics.specs.Access.{written_at}
use Rattle.semantics.specs.Machine.{State, Environment}
use Rattle.semantics.specs.Effects.{effect}
use Rattle.semantics.specs.Slots.{fetch, target}
use Rattle.semantics.specs.Flow.{Flow, Straight, Jumps, Forks, flow_of, flow_distance, flow_branches, branches}
use Rattle.semantics.specs.Flow as flow
use Rattle.semantics.specs.Runs.{StepResult, Goes, Exits, Sticks, registers_with, state_after_answer, state_with_plan, plan_answer, with_window, with_destination, memory_with_pointer, step_to, step_by_effect, step_of_fetched, step}
use Rattle.semantics.specs.declared.effect.Effect.{Effect}
use Rattle.semantics.specs.declared.effect.Effect.TheVariants as effects
use Rattle.semantics.specs.declared.reason.Reason.{Reason}
use Rattle.semantics.specs.declared.fetching.Fetched.{Fetched}
use Rattle.semantics.specs.declared.fetching.Fetched.TheVariants.{Begins, Inside, Past}
use Rattle.semantics.specs.declared.fetching.Branch.{Branch}
use Rattle.semantics.specs.declared.fetching.Branch.TheVariants.{NotTaken, Taken}
use Rattle.ordering.specs.Orders.{any_target, next_landing, any_flow_slot, IsOneOf, LeadsBy, IsPath, FallsTo, IsEntered, free_step_by_effect, free_step_of_fetched, free_step, moved, GoesTo, GoesOverJump, KeepsStep, place_or, KeepsMeaningBy}
use Rattle.ordering.specs.Tails.{BeginsBack}
use Rattle.ordering.specs.Searches.{mark_at, slot_of_mark, LeadsToPlace, JumpsTo, IsPlaced, IsOrdered, ArePlaces}
use Rattle.ordering.specs.declared.places.Places.{Places}
use Rattle.ordering.specs.declared.places.Places.TheVariants as places
use Rattle.ordering.specs.declared.search.Mark.{Mark}
use Rattle.ordering.specs.declared.search.Mark.TheVariants.{Placed}
use Rattle.ordering.proofs.Backs.{target_back}
use Rattle.ordering.proofs.Effects.{EffectOf, effect_flow, redistanced, moved_effect}
use Rattle.ordering.proofs.Placing.{same_slots, placed_begins}

pub begins_same : (i j : Insn) → Begins i ≡ Begins j → i ≡ j
begins_same i j e = cc

pub ok_same : (m n : ℕ) → ◌≡◌ {A = Result ℕ Reason} (Ok m) (Ok n) → m ≡ n
ok_same m n e = cc

-- ---- where branches lead

pub landing_is : (f : Fetched) (landed n : ℕ) → next_landing f landed ≡ Ok n → n ≡ landed
landing_is (Begins i) landed n e = cc
landing_is Inside landed n e = absurd cc
landing_is Past landed n e = absurd cc

taken_is_not_next : Taken ≡ NotTaken → ⊥
taken_is_not_next e = absurd cc

-- a fall-through leads to the next slot
next_is : (code : List Insn) (slot k landed : ℕ) (f : Flow) → IsOneOf (flow_branches f) NotTaken → any_flow_slot code slot k f NotTaken ≡ Ok landed → landed ≡ slot + k
next_is code slot k landed Straight b e = landing_is (fetch code (slot + k)) (slot + k) landed e
next_is code slot k landed (Jumps d) (inl bad) e = absurd (taken_is_not_next bad)
next_is code slot k landed (Jumps d) (inr bad) e = absurd bad
next_is code slot k landed (Forks d) b e = landing_is (fetch code (slot + k)) (slot + k) landed e
next_is code slot k landed flow.Ends b e = absurd b

some_same : (d x : ℤ) → ◌≡◌ {A = Option ℤ} (Some d) (Some x) → d ≡ x
some_same d x e = cc

none_is_not_some : (x : ℤ) → ◌≡◌ {A = Option ℤ} None (Some x) → ⊥
none_is_not_some x e = absurd cc

-- a taken jump leads to its target
target_is : (code : List Insn) (slot k landed : ℕ) (f : Flow) (x : ℤ) → flow_distance f ≡ Some x → any_flow_slot code slot k f Taken ≡ Ok landed → any_target code slot x ≡ Ok landed
target_is code slot k landed Straight x d e = absurd (none_is_not_some x d)
target_is code slot k landed (Jumps y) x d e = ap (any_target code slot) (sym (some_same y x d)) ∙ e
target_is code slot k landed (Forks y) x d e = ap (any_target code slot) (sym (some_same y x d)) ∙ e
target_is code slot k landed flow.Ends x d e = absurd (none_is_not_some x d)

-- the slots of marks are theirs, one by one
slots_at : (n : ℕ) (marks : List Mark) (slot : ℕ) → slice_index_or (map (slot_of_mark n) marks) slot None ≡ slot_of_mark n (mark_at marks slot)
slots_at n [] slot = refl
slots_at n (m ∷ marks) zero = refl
slots_at n (m ∷ marks) (suc slot) = slots_at n marks slot

module _ (code new : List Insn) (marks : List Mark) (ordered : IsOrdered code marks new) where
  -- ---- every slot that a run may come to has a place

  abbrev HasPlace : ℕ → Type 0
  HasPlace slot = (n : ℕ) × (mark_at marks slot ≡ Placed n)

  lead : (slot next : ℕ) (i : Insn) (b : Branch) → LeadsBy code slot i b (Ok next) → (place : ℕ) → LeadsToPlace code marks slot i b place → HasPlace next
  lead slot next i b l place to = (place, ap (mark_at marks) (ok_same next to.to (sym l.leads ∙ to.leads.leads)) ∙ to.mark)

  branch_placed : (slot n next : ℕ) (i : Insn) (b : Branch) → IsPlaced code marks new slot n → LeadsBy code slot i b (Ok next) → HasPlace next
  branch_placed slot n next i Taken p l =
      let same : p.insn ≡ i = begins_same p.insn i (sym p.here ∙ l.here) in
      let to = p.taken (subst (λ (j : Insn). IsOneOf (branches j) Taken) (sym same) l.is_branch) in
      lead slot next i Taken l to.place (subst (λ (j : Insn). LeadsToPlace code marks slot j Taken to.place) same to.leads)
  branch_placed slot n next i NotTaken p l =
      let same : p.insn ≡ i = begins_same p.insn i (sym p.here ∙ l.here) in
      let to = p.next (subst (λ (j : Insn). IsOneOf (branches j) NotTaken) (sym same) l.is_branch) in
      lead slot next i NotTaken l to.place (subst (λ (j : Insn). LeadsToPlace code marks slot j NotTaken to.place) same to.leads)

  path_placed : (slot to : ℕ) (path : List ℕ) → HasPlace slot → IsPath code slot path to → HasPlace to
  path_placed slot to [] h e = (h.0, ap (mark_at marks) (sym e) ∙ h.1)
  path_placed slot to (next ∷ path) h p =
      path_placed next to path (branch_placed slot h.0 next p.0.0 p.0.1 (ordered.placed slot h.0 h.1) p.0.2) p.1

  fall_placed : (slot : ℕ) (f : FallsTo code slot) → HasPlace f.from → HasPlace slot
  fall_placed slot f h =
      let p = ordered.placed f.from h.0 h.1 in
      let same : p.insn ≡ f.insn = begins_same p.insn f.insn (sym p.here ∙ f.here) in
      let to = p.next (subst (λ (j : Insn). IsOneOf (branches j) NotTaken) (sym same) f.is_branch) in
      let landed : to.leads.to ≡ f.from + slots_of p.insn = next_is code f.from (slots_of p.insn) to.leads.to (flow_of p.insn) to.leads.leads.is_branch to.leads.leads.leads in
      (to.place, ap (mark_at marks) (f.next ∙ ap (λ (j : Insn). f.from + slots_of j) (sym same) ∙ sym landed) ∙ to.leads.mark)

  entered_placed : (slot : ℕ) → IsEntered code slot → HasPlace slot
  entered_placed slot (inl reached) = path_placed 0 slot reached.0 (slot_count new, ordered.start) reached.1
  entered_placed slot (inr falls) = fall_placed slot falls (path_placed 0 falls.from falls.reached.0 (slot_count new, ordered.start) falls.reached.1)

  -- ---- places

  pub place : ℕ → ℕ
  place slot = place_or slot (slot_of_mark (slot_count new) (mark_at marks slot))

  place_is : (slot n : ℕ) → mark_at marks slot ≡ Placed n → place slot ≡ slot_count new - n
  unfolding place
  place_is slot n e = ap (λ m. place_or slot (slot_of_mark (slot_count new) m)) e

  -- ---- one step

  module _ (w : Environment) (s : State) (n : ℕ) (mark : mark_at marks s.slot ≡ Placed n) (p : IsPlaced code marks new s.slot n) where
    abbrev there : State
    there = moved place s

    abbrev with_other : Insn
    with_other = with_distance p.insn p.distance

    abbrev Kept : StepResult → Type 0
    Kept (Goes next) = GoesTo w new there (moved place next)
    Kept (Exits verdict) = step w new there ≡ Exits verdict
    Kept (Sticks reason slot) = step w new there ≡ Sticks reason (place slot)

    here_is : place s.slot ≡ slot_count new - n
    here_is = place_is s.slot n mark

    -- the step of the program in order
    new_step : (r : Result Effect Reason) → effect w.context s.memory s.registers p.insn ≡ r → step w new there ≡ step_by_effect w new there with_other (redistanced p.distance r)
    new_step r e =
        ap (λ (k : ℕ). step_of_fetched w new there (fetch new k)) here_is
        ∙ ap (step_of_fetched w new there) p.there
        ∙ ap (step_by_effect w new there with_other) (moved_effect w.context s.memory s.registers p.insn p.distance ∙ ap (redistanced p.distance) e)

    -- a jump that was put in goes on to its place
    over_jump : (x : State) (k n_place to : ℕ) → JumpsTo new k n_place → BeginsBack new n_place → step w new there ≡ Goes (record x { slot = slot_count new - k }) → to ≡ slot_count new - n_place → GoesOverJump w new there (record x { slot = to })
    over_jump x k n_place to j begins e is =
        let between : State = record x { slot = slot_count new - k } in
        record {
          between = between;
          first = e;
          jump = insn.Jump (pos j.ahead);
          distance = pos j.ahead;
          here = j.here;
          is_jump = refl;
          second =
              ap (step_of_fetched w new between) j.here
              ∙ ap (step_to between) (target_back new k n_place j.ahead j.inside begins j.at)
              ∙ ap (λ (m : ℕ). Goes (record x { slot = m })) (sym is);
          same = refl;
        }

    -- on to the next instruction, maybe over a jump, whatever else the step changes
    goes_on : (x : State) → IsOneOf (branches p.insn) NotTaken → step w new there ≡ Goes (record x { slot = place s.slot + slots_of with_other }) → GoesTo w new there (record x { slot = place (s.slot + slots_of p.insn) })
    goes_on x b e =
        let falls = p.next b in
        let landed : falls.leads.to ≡ s.slot + slots_of p.insn = next_is code s.slot (slots_of p.insn) falls.leads.to (flow_of p.insn) b falls.leads.leads.leads in
        let to : place (s.slot + slots_of p.insn) ≡ slot_count new - falls.place = ap place (sym landed) ∙ place_is falls.leads.to falls.place falls.leads.mark in
        let from : place s.slot + slots_of with_other ≡ slot_count new - falls.next = omega (arith, here_is, same_slots p.insn p.distance, falls.at, p.inside) in
        let begins : BeginsBack new falls.place = placed_begins code marks new falls.leads.to falls.place (ordered.placed falls.leads.to falls.place falls.leads.mark) in
        elim falls.comes [
          | inl same ↦ inl (e ∙ ap (λ (k : ℕ). Goes (record x { slot = k })) (from ∙ ap (λ (k : ℕ). slot_count new - k) same ∙ sym to))
          | inr jump ↦ inr (over_jump x falls.next falls.place (place (s.slot + slots_of p.insn)) jump begins (e ∙ ap (λ (k : ℕ). Goes (record x { slot = k })) from) to)
        ]

    kept_jump : (d : ℤ) → effect w.context s.memory s.registers p.insn ≡ Ok (effects.Jump d) → EffectOf (flow_of p.insn) (effects.Jump d) → Kept (step_to s (any_target code s.slot d))
    kept_jump d e b =
        let takes = p.taken b.1 in
        let landed : ℕ = takes.leads.to in
        let old : any_target code s.slot d ≡ Ok landed = target_is code s.slot (slots_of p.insn) landed (flow_of p.insn) d b.0 takes.leads.leads.leads in
        let begins : BeginsBack new takes.place = placed_begins code marks new landed takes.place (ordered.placed landed takes.place takes.leads.mark) in
        let to : target new (place s.slot) p.distance ≡ Ok (slot_count new - takes.place) =
        ap (target new (place s.slot)) takes.is ∙ ap (λ (k : ℕ). target new k (pos takes.ahead)) here_is ∙ target_back new n takes.place takes.ahead p.inside begins takes.at in
        let goes : step w new there ≡ Goes (record s { slot = place landed }) =
        new_step (Ok (effects.Jump d)) e ∙ ap (step_to there) to ∙ ap (λ (k : ℕ). Goes (record s { slot = k })) (sym (place_is landed takes.place takes.leads.mark)) in
        subst (λ (r : Result ℕ Reason). Kept (step_to s r)) (sym old) (inl goes)

    kept_effect : (r : Result Effect Reason) → effect w.context s.memory s.registers p.insn ≡ r → IfOk r (EffectOf (flow_of p.insn)) → Kept (free_step_by_effect w code s p.insn r)
    kept_effect (Ok (effects.Write r v)) e b = goes_on (record s { registers = registers_with s r v }) b (new_step (Ok (effects.Write r v)) e)
    kept_effect (Ok (effects.Store at z k)) e b = goes_on (record s { memory = written_at s.memory at (little_bytes (byte_count z) k) }) b (new_step (Ok (effects.Store at z k)) e)
    kept_effect (Ok (effects.StorePointer g v)) e b = goes_on (record s { memory = memory_with_pointer s.memory g v }) b (new_step (Ok (effects.StorePointer g v)) e)
    kept_effect (Ok (effects.Ask q out)) e b = goes_on (state_after_answer s 0 out (w.answer q.helper q.number q.address)) b (new_step (Ok (effects.Ask q out)) e)
    kept_effect (Ok (effects.SetWindow window)) e b = goes_on (state_with_plan s 0 (plan_answer window) (with_window s.plan window)) b (new_step (Ok (effects.SetWindow window)) e)
    kept_effect (Ok (effects.SetDestination destination)) e b = goes_on (state_with_plan s 0 (plan_answer destination) (with_destination s.plan destination)) b (new_step (Ok (effects.SetDestination destination)) e)
    kept_effect (Ok effects.Pass) e b = goes_on s b (new_step (Ok effects.Pass) e)
    kept_effect (Ok (effects.Jump d)) e b = kept_jump d e b
    kept_effect (Ok (effects.Exit verdict)) e b = new_step (Ok (effects.Exit verdict)) e
    kept_effect (Err reason) e b = new_step (Err reason) e

    pub kept_step : KeepsStep place w code new s
    kept_step =
        let r = effect w.context s.memory s.registers p.insn in
        let here : free_step w code s ≡ free_step_by_effect w code s p.insn r = ap (free_step_of_fetched w code s) p.here in
        let kept : Kept (free_step_by_effect w code s p.insn r) = kept_effect r refl (effect_flow w.context s.memory s.registers p.insn) in
        record {
          goes = λ next e. subst Kept (sym here ∙ e) kept;
          exits = λ verdict e. subst Kept (sym here ∙ e) kept;
          sticks = λ reason slot e. subst Kept (sym here ∙ e) kept;
        }

  starts : place 0 ≡ 0
  starts = place_is 0 (slot_count new) ordered.start ∙ omega arith

  -- the meaning is kept by the places of the marks
  pub keeps_meaning : (places : Places) → ArePlaces (slot_count new) marks places → KeepsMeaningBy places code new
  unfolding place
  keeps_meaning places.Kept are = absurd are
  keeps_meaning (places.Moved found) are = record {
    meaning = record {
      place = place;
      start = starts;
      steps = λ w s entered. let has = entered_placed s.slot entered in kept_step w s has.0 has.1 (ordered.placed s.slot has.0 has.1);
    };
    same = λ slot. ap (place_or slot) (sym (found_at slot));
    reached = λ slot reached. let has = entered_placed slot (inl reached) in
        ap is_some (found_at slot ∙ ap (slot_of_mark (slot_count new)) has.1);
  }
    where
      found_at : (slot : ℕ) → slice_index_or found.items slot None ≡ slot_of_mark (slot_count new) (mark_at marks slot)
      found_at slot = ap (λ slots. slice_index_or slots slot None) are ∙ slots_at (slot_count new) marks slot
