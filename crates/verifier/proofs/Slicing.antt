-- A walk in slices: what its steps say of every run, and the verdict at its end.
use Rattle.std.proofs.Common.{◌≡◌, ℕ, zero, suc, ◌+◌, ◌-◌, ◌*◌, ◌≤◌, ◌<◌, Bool, true, false, ◌&&◌, List, [], ◌∷◌, ◌++◌, length, Option, Some, None, Result, Ok, Err, inl, inr, refl, sym, ap, ◌∙◌, subst, arith}
use Rattle.std.specs.Prelude.{IfOk, ◌⊎◌, ◌==◌}
use Rattle.std.specs.List.{list_any}
use Rattle.std.proofs.lemmas.List.{length-append}
use Rattle.std.proofs.lemmas.Nat.{mul-le}
use Rattle.insn.specs.declared.instruction.Insn.{Insn}
use Rattle.interval.specs.Domains.{Operations, AreSound, ArePrecise}
use Rattle.absstate.specs.Covers.{covers}
use Rattle.absstate.specs.MemberSteps.{state_after}
use Rattle.absstate.specs.declared.abstract_state.AbsState.{AbsState}
use Rattle.semantics.specs.LooseRuns.{path_prefixes}
use Rattle.semantics.specs.Runs.{IsSafe}
use Rattle.semantics.specs.declared.fetching.Branch.TheVariants.{Taken}
use Rattle.semantics.specs.declared.reason.Reason.{Reason}
use Rattle.verifier.specs.Keeping.{kept_at, keeps_at, states_with, is_covered, Keeps}
use Rattle.verifier.specs.Layout.{IsLaidOut, IsLayoutFault, StartsAt}
use Rattle.verifier.specs.PendingStates.{AllRunsExit}
use Rattle.verifier.specs.Refusing.{IsReal, MayRefuseOver, IsVerdictOver, CountsSteps, IfBudget}
use Rattle.verifier.specs.SliceEnds.{MayRefuseStart, GoesOnBy, EndsIn}
use Rattle.verifier.specs.Searches.{HasPassed, IsOpen, Weighs, passed_after}
use Rattle.verifier.specs.Slices.{Walking, IsWalk, waits_of, searches_left, weight_left, passed_of, passed_at, walking_at, HasPassedHere, HasSettled, HasWorked, HasDoneUnit, HasDoneSlice, Stops}
use Rattle.verifier.specs.Units.{DoesUnit, RefusesUnit}
use Rattle.verifier.specs.Walk.{first_pending, waiting_states, state_to_follow, BeginsInside, IsLeft, Advances, IsStepRefusal, IsCovered, Skips}
use Rattle.verifier.specs.Walks.{Walks, Pauses, ComesTo, IsRefusedEnd, IsEndOf, EndsWalk}
use Rattle.verifier.specs.declared.kept.KeptStates.{KeptStates}
use Rattle.verifier.specs.declared.kept.SearchProgress.{SearchProgress}
use Rattle.verifier.specs.declared.kept.SearchProgress.TheVariants.{Open}
use Rattle.verifier.specs.declared.refusal.Refusal.{Refusal}
use Rattle.verifier.specs.declared.refusal.Refusal.TheVariants as refusal
use Rattle.verifier.specs.declared.slices.Frontier.{Frontier}
use Rattle.verifier.specs.declared.walk.Path.{Path}
use Rattle.verifier.specs.declared.walk.Path.TheVariants.{Continues, Ended}
use Rattle.verifier.specs.declared.walk.Pending.{Pending}
use Rattle.verifier.specs.declared.walk.Verified.{Verified}
use Rattle.verifier.specs.declared.weights.TheConstants.{UNIT, KEPT_STATE}
use Rattle.verifier.proofs.Positions.{first_begins}
use Rattle.verifier.proofs.Reaching.{all_none}
use Rattle.verifier.proofs.Verdicts.{layout_verdict}
use Rattle.verifier.proofs.Walked.{layout_end, refused_end}
use Rattle.verifier.proofs.Walking.{IsWalking, last_of, skips_none, skips_more, begins, made_step, safe, real, more_paths}

-- what is laid out has no fault of its layout
no_fault : (code : List Insn) (reason : Reason) (slot : ℕ) → IsLaidOut code → IsLayoutFault code reason slot → ⊥
no_fault code reason slot laid_out (inl fault) = let bad : ◌≡◌ {A = Result (Unit {0}) Reason} (Ok tt) (Err reason) = sym (laid_out.jumps slot) ∙ fault.faulty in absurd cc
no_fault code reason slot laid_out (inr fault) = absurd (fault.no_exit laid_out.exit)

-- ---- one unit of work

module _ {D : Type 0} (ops : Operations D) (Member : D → ℕ → Type 0) (code : List Insn) where
  -- where the state to follow next is not covered, all that are to be skipped are
  pub settled : (made : ℕ) (rest : List (Pending D)) (p : Pending D) (kept : KeptStates D) → Pauses ops Member code made (rest ++ p ∷ []) kept → is_covered ops (kept_at kept) p ≡ false → Walks ops Member code made (rest ++ p ∷ []) kept
  settled zero rest p kept pauses uncovered = pauses
  settled (suc n) rest p kept (here, old, before, next, new, walks, keeps, advances, skips) uncovered =
      (here, old, before, Some p, rest, walks, record { next = next; pending = new; keeps = keeps; advances = advances; settles = record { skips = skips; uncovered = uncovered; ended = tt } }, refl)

  -- so they are where none waits
  pub finished : (made : ℕ) (waits : List (Pending D)) (kept : KeptStates D) → Pauses ops Member code made waits kept → waits ≡ [] → Walks ops Member code made [] kept
  finished zero waits kept pauses none = let bad : ◌≡◌ {A = List (Pending D)} [] (first_pending ∷ []) = sym none ∙ pauses.0 in absurd cc
  finished (suc n) waits kept (here, old, before, next, new, walks, keeps, advances, skips) none = (
    here,
    old,
    before,
    None,
    [],
    walks,
    record {
      next = next;
      pending = new;
      keeps = keeps;
      advances = advances;
      settles = record { skips = subst (λ (xs : List (Pending D)). Skips ops Member (kept_at kept) (waiting_states next new) xs) none skips; uncovered = tt; ended = refl };
    },
    refl,
  )

  -- the state to follow next is skipped
  pub skipped : (made : ℕ) (rest : List (Pending D)) (p : Pending D) (kept : KeptStates D) → Pauses ops Member code made (rest ++ p ∷ []) kept → IsCovered ops Member (kept_at kept) p → Pauses ops Member code made rest kept
  skipped zero rest p kept pauses covered =
      let nothing : list_any (λ (k : AbsState D). covers ops k p.state) [] ≡ true = subst (λ (states : List (AbsState D)). list_any (λ (k : AbsState D). covers ops k p.state) states ≡ true) (pauses.2 p.slot) covered.0 in
      absurd cc
  skipped (suc n) rest p kept (here, old, before, next, new, walks, keeps, advances, skips) covered = (
    here,
    old,
    before,
    next,
    new,
    walks,
    keeps,
    advances,
    skips_more ops Member (kept_at kept) (waiting_states next new) rest p skips covered,
  )

  -- its step is made
  pub stepped : (made : ℕ) (here : Pending D) (old : List (Pending D)) (before : KeptStates D) (next : Option (Pending D)) (new : List (Pending D)) (kept : KeptStates D) → Walks ops Member code made (old ++ here ∷ []) before → Keeps here before kept → Advances ops code here old next new → Pauses ops Member code (made + 1) (waiting_states next new) kept
  stepped made here old before next new kept walks keeps advances =
      let same : suc made ≡ made + 1 = omega arith in
      subst (λ (n : ℕ). Pauses ops Member code n (waiting_states next new) kept) same
      (here, old, before, next, new, walks, keeps, advances, skips_none ops Member (kept_at kept) (waiting_states next new) (waiting_states next new) refl)

-- at most one state is left pending
few_left : {D : Type 0} (code : List Insn) (here : ℕ) (i : Insn) (state : Option (AbsState D)) (left : List (Pending D)) → IsLeft code here i Taken state left → length left ≤ 1
few_left code here i None left none = let count : length left ≡ 0 = ap (λ (xs : List (Pending _)). length xs) none in omega arith
few_left code here i (Some a) left (p, leads, one) = let count : length left ≡ 1 = ap (λ (xs : List (Pending _)). length xs) one in omega arith

few_waiting : {D : Type 0} (next : Option (Pending D)) (new : List (Pending D)) → length (waiting_states next new) ≤ length new + 1
few_waiting None new = omega arith
few_waiting (Some p) new = omega (arith, length-append new (p ∷ []))

-- after a step at most one state more waits than before it
pub one_more_waits : {D : Type 0} (ops : Operations D) (code : List Insn) (here : Pending D) (old : List (Pending D)) (next : Option (Pending D)) (new : List (Pending D)) → Advances ops code here old next new → length (waiting_states next new) ≤ length old + 2
one_more_waits ops code here old next new adv =
    let count : length new ≡ length old + length adv.left = ap (λ (xs : List (Pending _)). length xs) adv.new_is ∙ length-append old adv.left in
    omega (arith, count, few_left code here.slot adv.insn (state_after adv.accepted Taken) adv.left adv.goes_on.1, few_waiting next new)

-- ---- the end of a walk

module _ {D : Type 0} (ops : Operations D) (Member : D → ℕ → Type 0) (sound : AreSound ops Member) (code : List Insn) (laid_out : IsLaidOut code) where
  -- what is kept over the steps of a walk follows from those steps
  walking_of : (made : ℕ) (waits : List (Pending D)) (kept : KeptStates D) → Walks ops Member code made waits kept → IsWalking ops Member sound code made waits (kept_at kept)
  walking_of zero waits kept walks = subst (λ (xs : List (Pending D)). IsWalking ops Member sound code 0 xs (kept_at kept)) (sym walks.0) (begins ops Member sound code [] (kept_at kept) laid_out refl walks.2)
  walking_of (suc n) waits kept (here, old, before, picked, new, walks, step, is) =
      let next : n + 1 ≡ suc n = omega arith in
      subst (λ (xs : List (Pending D)). IsWalking ops Member sound code (suc n) xs (kept_at kept)) (sym is)
      (subst (λ (k : ℕ). IsWalking ops Member sound code k (waiting_states picked new) (kept_at kept)) next
      (made_step ops Member sound code n here old before picked new kept laid_out (walking_of n (old ++ here ∷ []) before walks) step))

  -- an instruction begins at the slot of the state to follow next
  pub begins_inside : (made : ℕ) (old : List (Pending D)) (here : Pending D) (kept : KeptStates D) → Walks ops Member code made (old ++ here ∷ []) kept → BeginsInside code here
  begins_inside made old here kept walks = last_of (BeginsInside code) old here (walking_of made (old ++ here ∷ []) kept walks).inside

  first_good : (made : ℕ) (kept : KeptStates D) → Walks ops Member code made [] kept → AllRunsExit Member code first_pending
  first_good made kept walks = (walking_of made [] kept walks).good (all_none (AllRunsExit Member code) [] refl)

  pub ended_safe : (made : ℕ) (kept : KeptStates D) → Walks ops Member code made [] kept → IsSafe code
  ended_safe made kept walks = safe ops Member sound code (first_good made kept walks)

  comes_inside : (made slot : ℕ) → ComesTo ops Member code made slot → StartsAt code slot
  comes_inside made slot comes = subst (StartsAt code) (sym comes.slot_is) (begins_inside made comes.pending comes.here comes.kept comes.walks)

  refused_verdict : (budget made : ℕ) (e : Refusal) → IfBudget e (made ≡ 0 + budget) → IsRefusedEnd ops Member code made e → MayRefuseOver ops Member code budget e
  refused_verdict budget made (refusal.Stuck reason slot) all (inl fault) = absurd (no_fault code reason slot laid_out fault.1)
  refused_verdict budget made (refusal.Stuck reason slot) all (inr end) =
      let comes = end.0.comes in
      real ops Member sound code budget end.0.before comes.here comes.pending (kept_at comes.kept) (refusal.Stuck reason slot) laid_out
      (walking_of end.0.before (comes.pending ++ comes.here ∷ []) comes.kept comes.walks) (comes.slot_is, end.1)
  refused_verdict budget made (refusal.Budget slot) all comes =
      let more : made < length (path_prefixes code) = more_paths ops Member sound code made comes.here comes.pending (kept_at comes.kept) (walking_of made (comes.pending ++ comes.here ∷ []) comes.kept comes.walks) in
      (laid_out, comes_inside made slot comes, omega (arith, more, all))
  refused_verdict budget made (refusal.Memory slot) all (inl start) = (laid_out, subst (StartsAt code) (sym start.1) (first_begins code laid_out.exit))
  refused_verdict budget made (refusal.Memory slot) all (inr last) = (laid_out, comes_inside last.before slot last.comes)

  -- the end of a walk is the verdict
  pub ended_verdict : {T : Type 0} (budget made : ℕ) (r : Result T Refusal) → IsEndOf ops Member code made r → CountsSteps budget 0 made r → IsVerdictOver ops Member code budget r
  ended_verdict budget made (Ok v) end counts = record {
    safe = ended_safe made end.0 end.1;
    laid_out = laid_out;
    layout = λ reason slot fault. absurd (no_fault code reason slot laid_out fault);
    refused = tt;
  }
  ended_verdict budget made (Err e) end counts = record {
    safe = tt;
    laid_out = tt;
    layout = λ reason slot fault. absurd (no_fault code reason slot laid_out fault);
    refused = refused_verdict budget made e counts.budget_made end;
  }

-- at most one state more is kept at a slot
one_kept : {D : Type 0} (here : Pending D) (old new : KeptStates D) (slot : ℕ) → Keeps here old new → length (kept_at new slot) ≤ length (kept_at old slot) + 1
one_kept here old new slot keeps = omega (arith, ap (λ (xs : List (AbsState _)). length xs) (keeps.states slot), with_one (keeps_at old here.slot && (slot == here.slot)) here.state (kept_at old slot)) where
  with_one : {D : Type 0} (keeps : Bool) (state : AbsState D) (states : List (AbsState D)) → length (states_with keeps state states) ≤ length states + 1
  with_one true state states = omega (arith, length-append states (state ∷ []))
  with_one false state states = omega arith

passed_zero : (path : Path) (passed : ℕ) → passed ≡ 0 → passed_of path passed ≡ 0
passed_zero Continues passed none = none
passed_zero Ended passed none = refl

-- ---- the end of a search, from one frontier to another

module _ {D : Type 0} (ops : Operations D) (Member : D → ℕ → Type 0) (code : List Insn) (budget : ℕ) (at : Frontier D) (pauses : Pauses ops Member code at.made (waits_of at) at.kept) (within : at.made ≤ budget) where
  -- no state waits
  pub unit_ends : (old : ℕ) → waits_of at ≡ [] → Stops {T = Unit {0}} ops Member code budget at.made 1 old old (Ok tt)
  unit_ends old none = record {
    made = at.made;
    count = refl;
    few = omega arith;
    counts = record { bound = omega (arith, within); budget_made = tt };
    end = (at.kept, finished ops Member code at.made (waits_of at) at.kept pauses none);
  }

  module _ (p : Pending D) (on : at.path ≡ Continues) (here : p ≡ at.here.value) where
    in_hand : waits_of at ≡ at.pending.items ++ p ∷ []
    in_hand = ap (λ (path : Path). waiting_states (state_to_follow path at.here.value) at.pending.items) on ∙ ap (λ (q : Pending D). at.pending.items ++ q ∷ []) (sym here)

    paused_here : Pauses ops Member code at.made (at.pending.items ++ p ∷ []) at.kept
    paused_here = subst (λ (xs : List (Pending D)). Pauses ops Member code at.made xs at.kept) in_hand pauses

    pub one_waits : length (waits_of at) ≡ length at.pending.items + 1
    one_waits = ap (λ (xs : List (Pending D)). length xs) in_hand ∙ length-append at.pending.items (p ∷ [])

    -- what becomes of it
    pub skips_it : DoesUnit ops code (waits_of at) at.pending.items at.made at.made
    skips_it = record { rest = at.pending.items; here = p; old_is = in_hand; does = inl (refl, refl) }

    pub steps_on : (waits pending : List (Pending D)) (made : ℕ) (next : Option (Pending D)) → made ≡ at.made + 1 → Advances ops code p at.pending.items next pending → waits ≡ waiting_states next pending → DoesUnit ops code (waits_of at) waits at.made made
    steps_on waits pending made next count advances is_waiting = record {
      rest = at.pending.items;
      here = p;
      old_is = in_hand;
      does = inr (record { next = next; pending = pending; advances = advances; waits_are = is_waiting; count = count });
    }

    pub refuses_it : (e : Refusal) → IsStepRefusal ops code p e ⊎ (e ≡ refusal.Budget p.slot) → RefusesUnit ops code (waits_of at) e
    refuses_it e cause = record { rest = at.pending.items; here = p; old_is = in_hand; cause = cause }

    -- it is skipped
    pub unit_skips : (old : ℕ) → IsCovered ops Member (kept_at at.kept) p → HasSettled ops Member code budget at (record at { path = Ended; passed = 0 }) old old
    unit_skips old covered = record {
      pauses = skipped ops Member code at.made at.pending.items p at.kept paused_here covered;
      within = within;
      count = refl;
      few = omega arith;
      less = omega (arith, one_waits);
      none_passed = refl;
    }

    module _ (uncovered : is_covered ops (kept_at at.kept) p ≡ false) where
      pub walks_here : Walks ops Member code at.made (at.pending.items ++ p ∷ []) at.kept
      walks_here = settled ops Member code at.made at.pending.items p at.kept paused_here uncovered

      -- its step would pass the budget
      pub unit_passes : (old : ℕ) → at.made ≡ budget → Stops {T = Unit {0}} ops Member code budget at.made 1 old old (Err (refusal.Budget p.slot))
      unit_passes old all = record {
        made = at.made;
        count = refl;
        few = omega arith;
        counts = record { bound = omega (arith, all); budget_made = omega (arith, all) };
        end = record { here = p; pending = at.pending.items; kept = at.kept; walks = walks_here; slot_is = refl };
      }

      not_budget : (e : Refusal) (P : Type 0) → IsStepRefusal ops code p e → IfBudget e P
      not_budget (refusal.Stuck reason slot) P refused = tt
      not_budget (refusal.Budget slot) P refused = absurd refused
      not_budget (refusal.Memory slot) P refused = tt

      -- its step is refused
      pub unit_refused : (old new : ℕ) (e : Refusal) → new ≡ old + 1 → at.made < budget → IsStepRefusal ops code p e → Stops {T = Unit {0}} ops Member code budget at.made 1 old new (Err e)
      unit_refused old new e tick less refused = record {
        made = at.made + 1;
        count = omega (arith, tick);
        few = omega (arith, tick);
        counts = record { bound = omega (arith, less); budget_made = not_budget e (at.made + 1 ≡ 0 + budget) refused };
        end = refused_end ops Member code at.made p at.pending.items at.kept e walks_here refused;
      }

      -- its step is made
      pub unit_steps : (to : Frontier D) (next : Option (Pending D)) (old new : ℕ) → new ≡ old + 1 → at.made < budget → to.made ≡ at.made + 1 → to.passed ≡ 0 → Keeps p at.kept to.kept → Advances ops code p at.pending.items next to.pending.items → waits_of to ≡ waiting_states next to.pending.items
          → HasSettled ops Member code budget at to old new
      unit_steps to next old new tick less made passed keeps advances waits =
          let count : length (waits_of to) ≡ length (waiting_states next to.pending.items) = ap (λ (xs : List (Pending D)). length xs) waits in
          record {
            pauses = subst (λ (n : ℕ). Pauses ops Member code n (waits_of to) to.kept) (sym made)
                (subst (λ (xs : List (Pending D)). Pauses ops Member code (at.made + 1) xs to.kept) (sym waits)
                (stepped ops Member code at.made p at.pending.items at.kept next to.pending.items to.kept walks_here keeps advances));
            within = omega (arith, made, less);
            count = omega (arith, made, tick);
            few = omega (arith, tick);
            less = omega (arith, count, one_more_waits ops code p at.pending.items next to.pending.items advances, one_waits, made, less);
            none_passed = passed_zero to.path to.passed passed;
          }

-- ---- units of work

-- of no states none covers a state
pub passes_none : {D : Type 0} (ops : Operations D) (states : List (AbsState D)) (passed : ℕ) (a : AbsState D) → passed ≡ 0 → HasPassed ops states passed a
passes_none ops states passed a none = subst (λ (n : ℕ). HasPassed ops states n a) (sym none) (record { inside = omega arith; none = refl })

-- no more states are kept at a slot than steps are made
few_kept : {D : Type 0} (ops : Operations D) (Member : D → ℕ → Type 0) (code : List Insn) (made : ℕ) (waits : List (Pending D)) (kept : KeptStates D) → Walks ops Member code made waits kept → (slot : ℕ) → length (kept_at kept slot) ≤ made
few_kept ops Member code zero waits kept walks slot = omega (arith, ap (λ (xs : List (AbsState _)). length xs) (walks.2 slot))
few_kept ops Member code (suc n) waits kept (here, old, before, picked, new, walks, step, is) slot =
    omega (arith, few_kept ops Member code n (old ++ here ∷ []) before walks slot, one_kept here before kept slot step.keeps)

pub few_paused : {D : Type 0} (ops : Operations D) (Member : D → ℕ → Type 0) (code : List Insn) (made : ℕ) (waits : List (Pending D)) (kept : KeptStates D) → Pauses ops Member code made waits kept → (slot : ℕ) → length (kept_at kept slot) ≤ made
few_paused ops Member code zero waits kept pauses slot = few_kept ops Member code 0 waits kept pauses slot
few_paused ops Member code (suc n) waits kept (here, old, before, next, new, walks, keeps, advances, skips) slot =
    omega (arith, few_kept ops Member code n (old ++ here ∷ []) before walks slot, one_kept here before kept slot keeps)

-- a search more, with what each weighs
one_search : (more fewer weight : ℕ) → fewer + 1 ≤ more → fewer * weight + weight ≤ more * weight
one_search more fewer weight less = omega (arith, mul-le (fewer + 1) weight more weight less (omega arith))

settled_weight : (more fewer most before after weight : ℕ) → fewer + 1 ≤ more → before * (UNIT + KEPT_STATE) + weight ≤ most → fewer * most - after * (UNIT + KEPT_STATE) + weight ≤ more * most - before * (UNIT + KEPT_STATE)
settled_weight more fewer most before after weight less few = omega (arith, one_search more fewer most less, few)

open_weight : (more most before after weight : ℕ) → 1 ≤ more → after * (UNIT + KEPT_STATE) ≤ most → before * (UNIT + KEPT_STATE) + weight ≤ after * (UNIT + KEPT_STATE) → more * most - after * (UNIT + KEPT_STATE) + weight ≤ more * most - before * (UNIT + KEPT_STATE)
open_weight more most before after weight some within less = omega (arith, one_search more 0 most some, within, less)

-- a search among so many states, which weighs no more than all that it has to compare
settles_within : (budget count before weight : ℕ) → count ≤ budget → before ≤ count → weight + KEPT_STATE * before ≤ KEPT_STATE * count → before * (UNIT + KEPT_STATE) + (UNIT + weight) ≤ UNIT + budget * (UNIT + KEPT_STATE)
settles_within budget count before weight few inside each = omega (arith, few, inside, each)

opens_within : (budget after : ℕ) → after ≤ budget → after * (UNIT + KEPT_STATE) ≤ UNIT + budget * (UNIT + KEPT_STATE)
opens_within budget after few = omega (arith, few)

opens_less : (before after weight : ℕ) → before < after → weight + KEPT_STATE * before ≤ KEPT_STATE * after → before * (UNIT + KEPT_STATE) + (UNIT + weight) ≤ after * (UNIT + KEPT_STATE)
opens_less before after weight more each = omega (arith, more, each)

module _ {D : Type 0} (ops : Operations D) (Member : D → ℕ → Type 0) (code : List Insn) (budget : ℕ) where
  -- a search comes to its end
  pub unit_settles : (from to : Frontier D) (old new count weight : ℕ) → HasSettled ops Member code budget from to old new → count ≤ budget → passed_at from ≤ count → weight + KEPT_STATE * passed_at from ≤ KEPT_STATE * count → HasWorked ops Member code budget from to (UNIT + weight) old new
  unit_settles from to old new count weight is few inside each = record {
    pauses = is.pauses;
    has_passed = passes_none ops (kept_at to.kept to.here.value.slot) (passed_at to) to.here.value.state is.none_passed;
    within = is.within;
    count = is.count;
    less = settled_weight (searches_left budget from.made (waits_of from)) (searches_left budget to.made (waits_of to)) (UNIT + budget * (UNIT + KEPT_STATE)) (passed_at from) (passed_at to) (UNIT + weight) is.less
        (settles_within budget count (passed_at from) weight few inside each);
  }

  -- a search goes on
  pub unit_opens : (from to : Frontier D) (old weight : ℕ) → Pauses ops Member code from.made (waits_of from) from.kept → from.made ≤ budget → waits_of to ≡ waits_of from → to.kept ≡ from.kept → to.made ≡ from.made → 1 ≤ length (waits_of from) → HasPassedHere ops to → passed_at from < passed_at to
      → length (kept_at to.kept to.here.value.slot) ≤ budget → weight + KEPT_STATE * passed_at from ≤ KEPT_STATE * passed_at to → HasWorked ops Member code budget from to (UNIT + weight) old old
  unit_opens from to old weight pauses within waits kept made one passed more few each = record {
    pauses = subst (λ (n : ℕ). Pauses ops Member code n (waits_of to) to.kept) (sym made)
        (subst (λ (xs : List (Pending D)). Pauses ops Member code from.made xs to.kept) (sym waits) (subst (λ (k : KeptStates D). Pauses ops Member code from.made (waits_of from) k) (sym kept) pauses));
    has_passed = passed;
    within = omega (arith, made, within);
    count = omega (arith, made);
    less = subst (λ (n : ℕ). weight_left budget n (waits_of to) (passed_at to) + (UNIT + weight) ≤ weight_left budget from.made (waits_of from) (passed_at from)) (sym made)
        (subst (λ (xs : List (Pending D)). weight_left budget from.made xs (passed_at to) + (UNIT + weight) ≤ weight_left budget from.made (waits_of from) (passed_at from)) (sym waits)
        (open_weight (searches_left budget from.made (waits_of from)) (UNIT + budget * (UNIT + KEPT_STATE)) (passed_at from) (passed_at to) (UNIT + weight) (omega (arith, one))
        (opens_within budget (passed_at to) (omega (arith, passed.inside, few))) (opens_less (passed_at from) (passed_at to) weight more each)));
  }

  -- work from where as much waits
  pub worked_from : (first from to : Frontier D) (weight old new : ℕ) → from.made ≡ first.made → waits_of from ≡ waits_of first → passed_at from ≡ passed_at first → HasWorked ops Member code budget from to weight old new → HasWorked ops Member code budget first to weight old new
  worked_from first from to weight old new made waits passed is = record {
    pauses = is.pauses;
    has_passed = is.has_passed;
    within = is.within;
    count = omega (arith, is.count, made);
    less = subst (λ (n : ℕ). weight_left budget to.made (waits_of to) (passed_at to) + weight ≤ weight_left budget n (waits_of first) (passed_at first)) made
        (subst (λ (xs : List (Pending D)). weight_left budget to.made (waits_of to) (passed_at to) + weight ≤ weight_left budget from.made xs (passed_at first)) waits
        (subst (λ (n : ℕ). weight_left budget to.made (waits_of to) (passed_at to) + weight ≤ weight_left budget from.made (waits_of from) n) passed is.less));
  }

  -- no work
  pub none_worked : (from to : Frontier D) (old : ℕ) → to.made ≡ from.made → waits_of to ≡ waits_of from → passed_at to ≡ passed_at from → Pauses ops Member code to.made (waits_of to) to.kept → HasPassedHere ops to → to.made ≤ budget → HasWorked ops Member code budget from to 0 old old
  none_worked from to old made waits passed pauses has_passed within = worked_from from to to 0 old old made waits passed (record { pauses = pauses; has_passed = has_passed; within = within; count = refl; less = omega arith })

  -- a unit more
  pub one_worked : (first from to : Frontier D) (sum weight start old new : ℕ) → HasWorked ops Member code budget first from sum start old → HasWorked ops Member code budget from to weight old new → HasWorked ops Member code budget first to (sum + weight) start new
  one_worked first from to sum weight start old new before last = record {
    pauses = last.pauses;
    has_passed = last.has_passed;
    within = last.within;
    count = omega (arith, before.count, last.count);
    less = omega (arith, before.less, last.less);
  }

  -- the end, seen from an earlier slice
  pub stops_after : {T : Type 0} (first made slice start old new : ℕ) (r : Result T Refusal) → old + 1 ≤ start + slice → old + first ≡ start + made → Stops ops Member code budget made 1 old new r → Stops ops Member code budget first slice start new r
  stops_after first made slice start old new r within count stops = record {
    made = stops.made;
    count = omega (arith, count, stops.count);
    few = omega (arith, stops.few, within);
    counts = stops.counts;
    end = stops.end;
  }

-- ---- a unit of work, of which the state to follow next is in hand

module _ {D : Type 0} (ops : Operations D) (Member : D → ℕ → Type 0) (code : List Insn) (budget : ℕ) (first at : Frontier D) where
  pub record IsResumed : Type 0 where
    pub pauses : Pauses ops Member code first.made (waits_of first) first.kept
    pub within : first.made ≤ budget
    pub on : at.path ≡ Continues
    pub waits : waits_of at ≡ waits_of first
    pub kept : at.kept ≡ first.kept
    pub made : at.made ≡ first.made
    pub passed : passed_at at ≡ passed_at first
    pub ahead : at.ahead ≡ first.ahead
    pub has_passed : HasPassedHere ops at

  module _ (is : IsResumed) where
    resumed : Pauses ops Member code at.made (waits_of at) at.kept
    resumed =
        subst (λ (n : ℕ). Pauses ops Member code n (waits_of at) at.kept) (sym is.made)
        (subst (λ (xs : List (Pending D)). Pauses ops Member code first.made xs at.kept) (sym is.waits)
        (subst (λ (k : KeptStates D). Pauses ops Member code first.made (waits_of first) k) (sym is.kept) is.pauses))

    few_here : length (kept_at at.kept at.here.value.slot) ≤ budget
    few_here = omega (arith, few_paused ops Member code at.made (waits_of at) at.kept resumed at.here.value.slot, is.made, is.within)

    here_passed : (passed : ℕ) → passed_of at.path passed ≡ passed
    here_passed passed = ap (λ (path : Path). passed_of path passed) is.on

    -- its search comes to an end
    pub settles_unit : (to : Frontier D) (old new weight : ℕ) (found : SearchProgress) → HasSettled ops Member code budget at to old new → to.ahead ≡ at.ahead → Weighs found (length (kept_at at.kept at.here.value.slot)) at.passed weight
        → passed_after found (length (kept_at at.kept at.here.value.slot)) ≡ length (kept_at at.kept at.here.value.slot) → HasDoneUnit ops Member code budget first to old new (UNIT + weight)
    settles_unit to old new weight found settled_to ahead weighs all = record {
      worked = worked_from ops Member code budget first at to (UNIT + weight) old new is.made is.waits is.passed
          (unit_settles ops Member code budget at to old new (length (kept_at at.kept at.here.value.slot)) weight settled_to few_here is.has_passed.inside (omega (arith, weighs.each, all, here_passed at.passed)));
      few = settled_to.few;
      some = omega arith;
      light = omega (arith, weighs.most);
      ahead = omega (arith, ahead, is.ahead);
    }

    -- its search goes on
    pub opens_unit : (old weight passed : ℕ) → IsOpen ops (kept_at at.kept at.here.value.slot) at.passed passed at.here.value.state → Weighs (Open passed) (length (kept_at at.kept at.here.value.slot)) at.passed weight
        → HasDoneUnit ops Member code budget first (record at { passed = passed }) old old (UNIT + weight)
    opens_unit old weight passed is_open weighs =
        let to : Frontier D = record at { passed = passed } in
        record {
          worked = worked_from ops Member code budget first at to (UNIT + weight) old old is.made is.waits is.passed
              (unit_opens ops Member code budget at to old weight resumed (omega (arith, is.made, is.within)) refl refl refl (omega (arith, one_waits ops Member code budget at resumed (omega (arith, is.made, is.within)) at.here.value is.on refl))
              (subst (λ (n : ℕ). HasPassed ops (kept_at at.kept at.here.value.slot) n at.here.value.state) (sym (here_passed passed)) is_open.has_passed) (omega (arith, here_passed at.passed, here_passed passed, is_open.more)) few_here
              (omega (arith, here_passed at.passed, here_passed passed, weighs.each)));
          few = omega arith;
          some = omega arith;
          light = omega (arith, weighs.most);
          ahead = is.ahead;
        }

-- ---- the end of a slice

-- the end of a walk, whatever is made of an accepted program
pub stops_with : {D T U : Type 0} (ops : Operations D) (Member : D → ℕ → Type 0) (code : List Insn) (budget before units old new : ℕ) (t : T) (u : U) → Stops ops Member code budget before units old new (Ok t) → Stops ops Member code budget before units old new (Ok u)
stops_with ops Member code budget before units old new t u stops = record { made = stops.made; count = stops.count; few = stops.few; counts = record { bound = stops.counts.bound; budget_made = tt }; end = stops.end }

pub refused_with : {D T U : Type 0} (ops : Operations D) (Member : D → ℕ → Type 0) (code : List Insn) (budget before units old new : ℕ) (e : Refusal) → Stops {T = T} ops Member code budget before units old new (Err e) → Stops {T = U} ops Member code budget before units old new (Err e)
refused_with ops Member code budget before units old new e stops = record { made = stops.made; count = stops.count; few = stops.few; counts = record { bound = stops.counts.bound; budget_made = stops.counts.budget_made }; end = stops.end }

pub ends_slice : {D : Type 0} (ops : Operations D) (Member : D → ℕ → Type 0) (sound : AreSound ops Member) (w : Walking D) → IsWalk ops Member w → (slice old new : ℕ) (r : Result Verified Refusal) → IfOk r (λ v. v ≡ w.code) → Stops ops Member w.code w.budget w.made slice old new r → EndsIn ops Member w slice old new r
ends_slice ops Member sound w walk slice old new r code_is stops = record {
  made = stops.made;
  count = stops.count;
  few = stops.few;
  code_is = code_is;
  verdict = ended_verdict ops Member sound w.code walk.laid_out w.budget stops.made r stops.end stops.counts;
  counts = stops.counts;
  walked = record { made = stops.made; count = omega arith; end = stops.end };
}

-- a walk that goes on
module _ {D : Type 0} (ops : Operations D) (Member : D → ℕ → Type 0) (code : List Insn) (budget : ℕ) (from to : Frontier D) (old new : ℕ) where
  pub goes_on_slice : (slice : ℕ) → HasDoneSlice ops Member code budget from to slice old new → GoesOnBy (walking_at code budget from) (walking_at code budget to) slice old new
  goes_on_slice slice is = record { code_is = refl; budget_is = refl; count = is.worked.count; few = is.few; less = omega (arith, is.worked.less, is.sum); light = is.light }

  pub goes_on_step : IsWalk ops Member (walking_at code budget from) → HasPassedHere ops from → HasSettled ops Member code budget from to old new → to.ahead ≡ from.ahead → GoesOnBy (walking_at code budget from) (walking_at code budget to) 1 old new
  goes_on_step walk passed is ahead =
      let few : passed_at from ≤ budget = omega (arith, passed.inside, few_paused ops Member code from.made (waits_of from) from.kept walk.pauses from.here.value.slot, walk.within) in
      let worked = unit_settles ops Member code budget from to old new budget 0 is (omega arith) few (omega (arith, few)) in
      record { code_is = refl; budget_is = refl; count = is.count; few = is.few; less = omega (arith, worked.less, ahead); light = omega (arith, walk.light, ahead) }

-- ---- from one counter to another

module _ {D : Type 0} (ops : Operations D) (Member : D → ℕ → Type 0) where
  -- counted from another number on
  pub counts_from : {T : Type 0} (budget old new made : ℕ) (r : Result T Refusal) → new ≡ old + made → CountsSteps budget 0 made r → CountsSteps budget old new r
  counts_from budget old new made (Ok v) is counts = record { bound = omega (arith, is, counts.bound); budget_made = tt }
  counts_from budget old new made (Err e) is counts = record { bound = omega (arith, is, counts.bound); budget_made = raise e counts.budget_made } where
    raise : (e : Refusal) → IfBudget e (made ≡ 0 + budget) → IfBudget e (new ≡ old + budget)
    raise (refusal.Stuck reason slot) all = tt
    raise (refusal.Budget slot) all = omega (arith, is, all)
    raise (refusal.Memory slot) all = tt

  pub walked_from : {T : Type 0} (code : List Insn) (old new made : ℕ) (r : Result T Refusal) → new ≡ old + made → EndsWalk ops Member code 0 made r → EndsWalk ops Member code old new r
  walked_from code old new made r is walked = record { made = walked.made; count = omega (arith, is, walked.count); end = walked.end }

  -- a walk that does not begin
  pub start_verdict : (code : List Insn) (budget : ℕ) (e : Refusal) → MayRefuseStart code e → IsVerdictOver {T = Verified} ops Member code budget (Err e)
  start_verdict code budget e (inl fault) = layout_verdict (λ reason slot. ArePrecise ops Member → IsReal code reason slot) code budget e fault
  start_verdict code budget e (inr memory) = subst (λ (k : Refusal). IsVerdictOver {T = Verified} ops Member code budget (Err k)) (sym memory.0) (record {
    safe = tt;
    laid_out = tt;
    layout = λ reason slot fault. absurd (no_fault code reason slot memory.1 fault);
    refused = (memory.1, first_begins code memory.1.exit);
  })

  pub start_walked : (code : List Insn) (old : ℕ) (e : Refusal) → MayRefuseStart code e → EndsWalk {T = Verified} ops Member code old old (Err e)
  start_walked code old e (inl fault) = record { made = 0; count = omega arith; end = layout_end ops Member code e fault }
  start_walked code old e (inr memory) = subst (λ (k : Refusal). EndsWalk {T = Verified} ops Member code old old (Err k)) (sym memory.0) (record { made = 0; count = omega arith; end = inl (refl, refl) })

  pub start_counted : (code : List Insn) (budget old : ℕ) (e : Refusal) → MayRefuseStart code e → CountsSteps {T = Verified} budget old old (Err e)
  start_counted code budget old e may = record { bound = omega arith; budget_made = none e may } where
    none : (e : Refusal) → MayRefuseStart code e → IfBudget e (old ≡ old + budget)
    none (refusal.Stuck reason slot) may = tt
    none (refusal.Budget slot) (inl fault) = absurd fault
    none (refusal.Budget slot) (inr memory) = absurd cc
    none (refusal.Memory slot) may = tt
