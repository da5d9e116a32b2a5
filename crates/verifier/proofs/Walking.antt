-- What the walk keeps, from the first pending state to its end.
use Rattle.std.proofs.Common.{◌≡◌, ℕ, suc, ◌+◌, ◌-◌, ◌<◌, ◌≤◌, Bool, true, false, List, [], ◌∷◌, ◌++◌, length, Option, Some, None, Result, Ok, Err, refl, sym, ap, ◌∙◌, subst, arith, All, inr, ◌&&◌, append-nil, append_assoc}
use Rattle.std.specs.Prelude.{◌==◌, IfSome, IfOk, IfErr}
use Rattle.std.proofs.lemmas.List.{take_at, drop_at}
use Rattle.std.proofs.lemmas.Bool.{eqb-true}
use Rattle.std.proofs.lemmas.List.Elements.{All-take, All-drop, All-append, All-push, All-weaker, All-nil, All-cons, All-head, All-tail}
use Rattle.std.proofs.lemmas.List.Sums.{sum_by-append, sum_by_push}
use Rattle.insn.specs.Encoding.{Fits}
use Rattle.insn.specs.declared.instruction.Insn.{Insn}
use Rattle.semantics.specs.Slots.{fetch, instructions_ahead}
use Rattle.semantics.specs.laws.Slot.{ahead_start}
use Rattle.semantics.specs.Machine.{start}
use Rattle.semantics.specs.Runs.{IsSafe, run}
use Rattle.semantics.specs.LooseRuns.{path_prefixes, path_prefixes_from}
use Rattle.semantics.specs.declared.reason.Reason.{Reason}
use Rattle.semantics.specs.declared.fetching.Fetched.TheVariants.{Begins}
use Rattle.semantics.specs.declared.fetching.Branch.{Branch}
use Rattle.semantics.specs.declared.fetching.Branch.TheVariants.{NotTaken, Taken}
use Rattle.interval.specs.Domains.{Operations, AreSound, ArePrecise}
use Rattle.absstate.specs.Membership.{Loose}
use Rattle.absstate.specs.MemberSteps.{state_after}
use Rattle.absstate.specs.AbstractSteps as abstract
use Rattle.absstate.specs.StepReasons.{IsStepReason}
use Rattle.absstate.specs.Successors.{successors_of, successors_in}
use Rattle.absstate.specs.laws.Step.Answers.{step_successors, step_reasons}
use Rattle.absstate.specs.laws.Step.Members.{at_first, first_member}
use Rattle.absstate.specs.declared.abstract_state.AbsState.{AbsState}
use Rattle.absstate.specs.declared.abstract_step.Next.{Next}
use Rattle.verifier.specs.Keeping.{kept_at, keeps_at, states_with, kept_with}
use Rattle.verifier.specs.Layout.{IsLaidOut, StartsAt}
use Rattle.verifier.specs.declared.kept.KeptStates.{KeptStates}
use Rattle.verifier.specs.PendingStates.{AllRunsExit, IsReached, count_of_prefixes, counts_from}
use Rattle.verifier.specs.Refusing.{IsReal, MayRefuseOver}
use Rattle.verifier.specs.Walk.{first_pending, BeginsInside, LeadsTo, IsNext, IsLeft, GoesOn, Advances, IsStepRefusal, IsCovered, Skips, IsWalkStep, waiting_states}
use Rattle.verifier.specs.declared.refusal.Refusal.{Refusal}
use Rattle.verifier.specs.declared.refusal.Refusal.TheVariants as refusal
use Rattle.verifier.specs.declared.walk.Pending.{Pending}
use Rattle.verifier.proofs.Positions.{first_begins}
use Rattle.verifier.proofs.Branches.{branch_rises, branch_begins, state_goes_on}
use Rattle.verifier.proofs.Safety.{good_before}
use Rattle.verifier.proofs.Reaching.{all_none, all_one, first_reached, reached_after, refusal_is_real}
use Rattle.verifier.proofs.Counting.{count_next, counts_before, counted_at, fuel_is}

answer_successors : {D : Type 0} (a : Result (Next D) Reason) (i : Insn) (answer : Next D) → IfOk a (λ n. successors_in n ≡ successors_of i) → a ≡ Ok answer → successors_in answer ≡ successors_of i
answer_successors (Ok n) i answer h e = subst (λ (m : Next _). successors_in m ≡ successors_of i) (let is : n ≡ answer = cc in is) h
answer_successors (Err f) i answer h e = absurd cc

fault_reason : {D : Type 0} (a : Result (Next D) Reason) (reason : Reason) → IfErr a IsStepReason → a ≡ Err reason → IsStepReason reason
fault_reason (Ok n) reason h e = absurd cc
fault_reason (Err f) reason h e = subst IsStepReason (let is : f ≡ reason = cc in is) h

-- an accepted step of a path, after which some states are left pending
pub advances : {D : Type 0} (ops : Operations D) (code : List Insn) (here : Pending D) (old new : List (Pending D)) (i : Insn) → fetch code here.slot ≡ Begins i → Fits i → (answer : Next D) → abstract.abstract_step ops here.state i ≡ Ok answer
    → (on : Option (Pending D)) (left : List (Pending D)) → new ≡ old ++ left → GoesOn code here.slot i answer on left → Advances ops code here old on new
advances ops code here old new i begins fits answer is on left new_is goes = record {
  insn = i;
  begins = begins;
  fits = fits;
  accepted = answer;
  step_is = is;
  left = left;
  new_is = new_is;
  goes_on = goes;
}

same_slots : (keeps : Bool) (m n : ℕ) → (keeps && (m == n)) ≡ true → m ≡ n
same_slots true m n e = eqb-true m n e
same_slots false m n e = absurd cc

-- ---- lists of states

module _ {D : Type 0} (P : Pending D → Type 0) where
  firsts : (xs ys : List (Pending D)) → All P (xs ++ ys) → All P xs
  firsts xs ys all = subst (All P) (take_at xs ys (length xs) refl) (All-take P (length xs) (xs ++ ys) all)

  lasts : (xs ys : List (Pending D)) → All P (xs ++ ys) → All P ys
  lasts xs ys all = subst (All P) (drop_at xs ys (length xs) refl) (All-drop P (length xs) (xs ++ ys) all)

  pub last_of : (xs : List (Pending D)) (p : Pending D) → All P (xs ++ p ∷ []) → P p
  last_of xs p all = lasts xs (p ∷ []) all 0 p (omega arith)

  all_waiting : (on : Option (Pending D)) (pending : List (Pending D)) → IfSome on P → All P pending → All P (waiting_states on pending)
  all_waiting None pending h all = all
  all_waiting (Some p) pending h all = All-push P pending p all h

  of_waiting : (on : Option (Pending D)) (pending : List (Pending D)) → All P (waiting_states on pending) → IfSome on P × All P pending
  of_waiting None pending all = (tt, all)
  of_waiting (Some p) pending all = (last_of pending p all, firsts pending (p ∷ []) all)

waiting_count : {D : Type 0} (code : List Insn) (on : Option (Pending D)) (pending : List (Pending D)) → counts_from code (waiting_states on pending) ≡ count_next code on + counts_from code pending
waiting_count code None pending = omega arith
waiting_count code (Some p) pending = omega (arith, sum_by_push (count_of_prefixes code) pending p)

some_begins : {D : Type 0} (code : List Insn) (here : Pending D) → BeginsInside code here → 1 ≤ count_of_prefixes code here
some_begins code here inside =
    let i : Insn = inside.0 in
    let fuel : count_of_prefixes code here ≡ length (path_prefixes_from code (suc (instructions_ahead code here.slot - 1)) here.slot) = ap (λ (k : ℕ). length (path_prefixes_from code k here.slot)) (fuel_is code here.slot i inside.1) in
    omega (arith, fuel, counted_at code here.slot (instructions_ahead code here.slot - 1) i inside.1)

-- ---- the states after a step

module _ {D : Type 0} (code : List Insn) (here : Pending D) (laid_out : IsLaidOut code) (i : Insn) (at : fetch code here.slot ≡ Begins i) (answer : Next D) (ways : successors_in answer ≡ successors_of i) where
  next_inside : (state : Option (AbsState D)) → state_after answer NotTaken ≡ state → (on : Option (Pending D)) → IsNext code here.slot i NotTaken state on → IfSome on (BeginsInside code)
  next_inside None e None next = tt
  next_inside None e (Some p) next = absurd next
  next_inside (Some b) e None next = absurd next
  next_inside (Some b) e (Some p) next = branch_begins code here.slot p.slot i NotTaken laid_out.exit at (state_goes_on i answer NotTaken b ways e) next.leads

  left_inside : (state : Option (AbsState D)) → state_after answer Taken ≡ state → (left : List (Pending D)) → IsLeft code here.slot i Taken state left → All (BeginsInside code) left
  left_inside None e left none = all_none (BeginsInside code) left none
  left_inside (Some b) e left one = subst (All (BeginsInside code)) (sym one.2) (all_one (BeginsInside code) one.0 (branch_begins code here.slot one.0.slot i Taken laid_out.exit at (state_goes_on i answer Taken b ways e) one.1.leads))

  goes_inside : (on : Option (Pending D)) (left : List (Pending D)) → GoesOn code here.slot i answer on left → IfSome on (BeginsInside code) × All (BeginsInside code) left
  goes_inside on left goes = (next_inside (state_after answer NotTaken) refl on goes.0, left_inside (state_after answer Taken) refl left goes.1)

-- ---- skipped states

module _ {D : Type 0} (ops : Operations D) (Member : D → ℕ → Type 0) (kept : ℕ → List (AbsState D)) where
  pub skips_none : (all rest : List (Pending D)) → all ≡ rest → Skips ops Member kept all rest
  skips_none all rest same = record { skipped = []; covered = all_none (IsCovered ops Member kept) [] refl; parts = same ∙ sym (append-nil rest) }

  pub skips_more : (all rest : List (Pending D)) (p : Pending D) → Skips ops Member kept all (rest ++ p ∷ []) → IsCovered ops Member kept p → Skips ops Member kept all rest
  skips_more all rest p skips covered = record {
    skipped = p ∷ skips.skipped;
    covered = All-cons (IsCovered ops Member kept) p skips.skipped covered skips.covered;
    parts = skips.parts ∙ append_assoc rest (p ∷ []) skips.skipped;
  }

module _ {D : Type 0} (ops : Operations D) (Member : D → ℕ → Type 0) (sound : AreSound ops Member) (code : List Insn) where
  -- ---- kept states

  -- every run from a state exits, if it waits above a slot
  abbrev pub IsGoodAbove : ℕ → Pending D → Type 0
  IsGoodAbove n p = n < p.slot → AllRunsExit Member code p

  abbrev pub pending_at : ℕ → AbsState D → Pending D
  pending_at n k = record { slot = n; state = k }

  -- every run from a kept state exits, where that holds of all that wait above its slot
  abbrev pub IsKept : List (Pending D) → ℕ → AbsState D → Type 0
  IsKept waits n k = All (IsGoodAbove n) waits → AllRunsExit Member code (pending_at n k)

  abbrev pub AreKept : List (Pending D) → (ℕ → List (AbsState D)) → Type 0
  AreKept waits kept = (n : ℕ) → All (IsKept waits n) (kept n)

  lies_above : (here : Pending D) (i : Insn) (branch : Branch) (b : AbsState D) (p : Pending D) → LeadsTo code here.slot i branch b p → here.slot < p.slot
  lies_above here i branch b p leads = branch_rises code here.slot p.slot i branch leads.leads

  next_good : (n : ℕ) (here : Pending D) (i : Insn) (state : Option (AbsState D)) (on : Option (Pending D)) → n ≤ here.slot → IsNext code here.slot i NotTaken state on → IfSome on (IsGoodAbove n) → IfSome on (AllRunsExit Member code)
  next_good n here i None None le next good = tt
  next_good n here i None (Some p) le next good = absurd next
  next_good n here i (Some b) None le next good = tt
  next_good n here i (Some b) (Some p) le next good = let up = lies_above here i NotTaken b p next in good (omega (arith, le, up))

  left_good : (n : ℕ) (here : Pending D) (i : Insn) (state : Option (AbsState D)) (left : List (Pending D)) → n ≤ here.slot → IsLeft code here.slot i Taken state left → All (IsGoodAbove n) left → All (AllRunsExit Member code) left
  left_good n here i None left le none good = all_none (AllRunsExit Member code) left none
  left_good n here i (Some b) left le one good =
      let up = lies_above here i Taken b one.0 one.1 in
      let all : All (IsGoodAbove n) (one.0 ∷ []) = subst (All (IsGoodAbove n)) one.2 good in
      let first : IsGoodAbove n one.0 = all 0 one.0 (omega arith) in
      subst (All (AllRunsExit Member code)) (sym one.2) (all_one (AllRunsExit Member code) one.0 (first (omega (arith, le, up))))

  -- ---- the walk

  -- the walk after some steps, with the states that wait and those that are kept
  pub record IsWalking (made : ℕ) (waits : List (Pending D)) (states : ℕ → List (AbsState D)) : Type 0 where
    pub inside : All (BeginsInside code) waits
    pub good : All (AllRunsExit Member code) waits → AllRunsExit Member code first_pending
    pub reached : ArePrecise ops Member → All (IsReached Member code) waits
    pub counted : made + counts_from code waits ≤ length (path_prefixes code)
    pub kept : AreKept waits states

  pub begins : (pending : List (Pending D)) (states : ℕ → List (AbsState D)) → IsLaidOut code → pending ≡ [] → ((n : ℕ) → states n ≡ []) → IsWalking 0 (pending ++ first_pending ∷ []) states
  begins pending states laid_out none nothing = record {
    inside = one (BeginsInside code) (first_begins code laid_out.exit);
    good = λ goods. last_of (AllRunsExit Member code) pending first_pending goods;
    reached = λ precise. one (IsReached Member code) (first_reached ops Member sound code);
    counted =
        let zero_pending : counts_from code pending ≡ 0 = ap (counts_from code) none in
        let all : count_of_prefixes code (first_pending {D = D}) ≡ length (path_prefixes code) = ap (λ (k : ℕ). length (path_prefixes_from code k 0)) (ahead_start code) in
        omega (arith, zero_pending, all, sum_by_push (count_of_prefixes code) pending first_pending);
    kept = λ n. subst (All (IsKept (pending ++ first_pending ∷ []) n)) (sym (nothing n)) (All-nil (IsKept (pending ++ first_pending ∷ []) n));
  } where
    one : (P : Pending D → Type 0) → P first_pending → All P (pending ++ first_pending ∷ [])
    one P h = All-push P pending first_pending (all_none P pending none) h

  -- ---- a step

  module _ (made : ℕ) (here : Pending D) (old new : List (Pending D)) (on : Option (Pending D)) (states more : ℕ → List (AbsState D)) (keeps : Bool) (laid_out : IsLaidOut code) (walking : IsWalking made (old ++ here ∷ []) states) (adv : Advances ops code here old on new) (kept_is : (n : ℕ) → more n ≡ kept_with keeps here states n) where
    successors_are : successors_in adv.accepted ≡ successors_of adv.insn
    successors_are = answer_successors (abstract.abstract_step ops here.state adv.insn) adv.insn adv.accepted (step_successors ops here.state adv.insn) adv.step_is

    -- a fact of the earlier pending states, and of those after the step, holds of all that wait
    all_new : (P : Pending D → Type 0) → All P old → IfSome on P → All P adv.left → All P (waiting_states on new)
    all_new P olds next lefts = all_waiting P on new next (subst (All P) (sym adv.new_is) (All-append P old adv.left olds lefts))

    olds_of : (P : Pending D → Type 0) → All P (waiting_states on new) → All P old
    olds_of P all = firsts P old adv.left (subst (All P) adv.new_is (of_waiting P on new all).1)

    lefts_of : (P : Pending D → Type 0) → All P (waiting_states on new) → All P adv.left
    lefts_of P all = lasts P old adv.left (subst (All P) adv.new_is (of_waiting P on new all).1)

    -- the state at hand is good, where what it leaves is that lies above a slot not above its own
    good_here : (n : ℕ) → n ≤ here.slot → All (IsGoodAbove n) (waiting_states on new) → AllRunsExit Member code here
    good_here n le all =
        good_before ops Member sound code laid_out.jumps here adv.insn adv.begins adv.fits adv.accepted adv.step_is on adv.left adv.goes_on
        (next_good n here adv.insn (state_after adv.accepted NotTaken) on le adv.goes_on.0 (of_waiting (IsGoodAbove n) on new all).0)
        (left_good n here adv.insn (state_after adv.accepted Taken) adv.left le adv.goes_on.1 (lefts_of (IsGoodAbove n) all))

    good_first : All (AllRunsExit Member code) (waiting_states on new) → AllRunsExit Member code first_pending
    good_first goods =
        walking.good (All-push (AllRunsExit Member code) old here (olds_of (AllRunsExit Member code) goods)
        (good_here here.slot (omega arith) (All-weaker (AllRunsExit Member code) (IsGoodAbove here.slot) (λ p h high. h) (waiting_states on new) goods)))

    -- a kept state stays one over a step
    kept_after : (n : ℕ) (k : AbsState D) → IsKept (old ++ here ∷ []) n k → IsKept (waiting_states on new) n k
    kept_after n k kept goods = kept (All-push (IsGoodAbove n) old here (olds_of (IsGoodAbove n) goods) (λ high. good_here n (omega (arith, high)) goods))

    -- the state itself may be kept with its step
    kept_itself : (n : ℕ) → n ≡ here.slot → IsKept (waiting_states on new) n here.state
    kept_itself n same goods = subst (λ (m : ℕ). AllRunsExit Member code (pending_at m here.state)) (sym same) (good_here n (omega (arith, same)) goods)

    olds_kept : (n : ℕ) → All (IsKept (waiting_states on new) n) (states n)
    olds_kept n = All-weaker (IsKept (old ++ here ∷ []) n) (IsKept (waiting_states on new) n) (kept_after n) (states n) (walking.kept n)

    all_kept : (n : ℕ) (keep : Bool) → (keep ≡ true → n ≡ here.slot) → All (IsKept (waiting_states on new) n) (states_with keep here.state (states n))
    all_kept n true same = All-push (IsKept (waiting_states on new) n) (states n) here.state (olds_kept n) (kept_itself n (same refl))
    all_kept n false same = olds_kept n

    pub stepped : IsWalking (made + 1) (waiting_states on new) more
    stepped =
        let inside = goes_inside code here laid_out adv.insn adv.begins adv.accepted successors_are on adv.left adv.goes_on in
        let counts = counts_before code here adv.insn adv.begins adv.accepted successors_are on adv.left adv.goes_on in
        let sums : counts_from code new ≡ counts_from code old + counts_from code adv.left = ap (counts_from code) adv.new_is ∙ sum_by-append (count_of_prefixes code) old adv.left in
        record {
          inside = all_new (BeginsInside code) (firsts (BeginsInside code) old (here ∷ []) walking.inside) inside.0 inside.1;
          good = good_first;
          reached = λ precise.
              let reached = reached_after ops Member sound precise code laid_out.jumps here adv.insn adv.begins adv.fits adv.accepted adv.step_is (last_of (IsReached Member code) old here (walking.reached precise)) on adv.left adv.goes_on in
              all_new (IsReached Member code) (firsts (IsReached Member code) old (here ∷ []) (walking.reached precise)) reached.0 reached.1;
          counted = omega (arith, walking.counted, counts, sums, waiting_count code on new, sum_by_push (count_of_prefixes code) old here);
          kept = λ n. subst (All (IsKept (waiting_states on new) n)) (sym (kept_is n)) (all_kept n (keeps && (n == here.slot)) (same_slots keeps n here.slot));
        }

  -- ---- a skip

  module _ (made : ℕ) (states : ℕ → List (AbsState D)) (rest : List (Pending D)) (p : Pending D) (covered : IsCovered ops Member states p) (walking : IsWalking made (rest ++ p ∷ []) states) where
    -- a skipped state is good, where all that wait above its slot are
    skipped : All (IsGoodAbove p.slot) rest → AllRunsExit Member code p
    skipped goods w s real at short member =
        let any = covered.1 in
        let kept : IsKept (rest ++ p ∷ []) p.slot any.1 = subst (IsKept (rest ++ p ∷ []) p.slot) any.3 (walking.kept p.slot any.0 any.1 any.2) in
        kept (All-push (IsGoodAbove p.slot) rest p goods (λ high. absurd (omega (arith, high)))) w s real at short (any.4 s member)

    above : (n : ℕ) → n ≤ p.slot → All (IsGoodAbove n) rest → All (IsGoodAbove p.slot) rest
    above n le goods = All-weaker (IsGoodAbove n) (IsGoodAbove p.slot) (λ q good high. good (omega (arith, le, high))) rest goods

    pub skips_one : IsWalking made rest states
    skips_one = record {
      inside = firsts (BeginsInside code) rest (p ∷ []) walking.inside;
      good = λ goods. walking.good (All-push (AllRunsExit Member code) rest p goods (skipped (All-weaker (AllRunsExit Member code) (IsGoodAbove p.slot) (λ q h high. h) rest goods)));
      reached = λ precise. firsts (IsReached Member code) rest (p ∷ []) (walking.reached precise);
      counted = omega (arith, walking.counted, sum_by_push (count_of_prefixes code) rest p);
      kept = λ n. All-weaker (IsKept (rest ++ p ∷ []) n) (IsKept rest n) (λ k kept goods. kept (All-push (IsGoodAbove n) rest p goods (λ high. skipped (above n (omega (arith, high)) goods)))) (states n) (walking.kept n);
    }

  skips_all : (made : ℕ) (states : ℕ → List (AbsState D)) (rest skipped : List (Pending D)) → All (IsCovered ops Member states) skipped → IsWalking made (rest ++ skipped) states → IsWalking made rest states
  skips_all made states rest [] covered walking = subst (λ (xs : List (Pending D)). IsWalking made xs states) (append-nil rest) walking
  skips_all made states rest (p ∷ skipped) covered walking =
      skips_one made states rest p (All-head (IsCovered ops Member states) p skipped covered)
      (skips_all made states (rest ++ p ∷ []) skipped (All-tail (IsCovered ops Member states) p skipped covered) (subst (λ (xs : List (Pending D)). IsWalking made xs states) (sym (append_assoc rest (p ∷ []) skipped)) walking))

  pub settles : (made : ℕ) (states : ℕ → List (AbsState D)) (all rest : List (Pending D)) → Skips ops Member states all rest → IsWalking made all states → IsWalking made rest states
  settles made states all rest skips walking = skips_all made states rest skips.skipped skips.covered (subst (λ (xs : List (Pending D)). IsWalking made xs states) skips.parts walking)

  pub made_step : (made : ℕ) (here : Pending D) (old : List (Pending D)) (kept : KeptStates D) (picked : Option (Pending D)) (new : List (Pending D)) (more : KeptStates D) → IsLaidOut code → IsWalking made (old ++ here ∷ []) (kept_at kept) → IsWalkStep ops Member code here old kept picked new more → IsWalking (made + 1) (waiting_states picked new) (kept_at more)
  made_step made here old kept picked new more laid_out walking step =
      settles (made + 1) (kept_at more) (waiting_states step.next step.pending) (waiting_states picked new) step.settles.skips
      (stepped made here old step.pending step.next (kept_at kept) (kept_at more) (keeps_at kept here.slot) laid_out walking step.advances step.keeps.states)

module _ {D : Type 0} (ops : Operations D) (Member : D → ℕ → Type 0) (sound : AreSound ops Member) where
  -- ---- the ends of the walk

  -- where every run from the first pending state exits, the code is safe
  pub safe : (code : List Insn) → AllRunsExit Member code first_pending → IsSafe code
  safe code good w datagram real fits =
      let exits = good w (start datagram) real refl fits.short (record { places = at_first; at = first_member Member Loose datagram fits.bytes_fit }) in
      (exits.0, ap (λ (k : ℕ). (run w code k (start datagram)).ending) (sym (ahead_start code)) ∙ exits.1)

  -- a refused step may be refused
  pub real : (code : List Insn) (budget made : ℕ) (here : Pending D) (pending : List (Pending D)) (states : ℕ → List (AbsState D)) (e : Refusal) → IsLaidOut code → IsWalking ops Member sound code made (pending ++ here ∷ []) states → IsStepRefusal ops code here e → MayRefuseOver ops Member code budget e
  real code budget made here pending states (refusal.Stuck reason slot) laid_out walking refused =
      inr (
        laid_out,
        fault_reason (abstract.abstract_step ops here.state refused.1.insn) reason (step_reasons ops here.state refused.1.insn) refused.1.step_is,
        λ precise. subst (IsReal code reason) (sym refused.0) (refusal_is_real ops Member sound precise code here reason (last_of (IsReached Member code) pending here (walking.reached precise)) refused.1),
      )
  real code budget made here pending states (refusal.Budget slot) laid_out walking refused = absurd refused
  real code budget made here pending states (refusal.Memory slot) laid_out walking refused = (laid_out, subst (StartsAt code) (sym refused) (last_of (BeginsInside code) pending here walking.inside))

  -- after the budget's steps there is a beginning of a path more than they
  pub more_paths : (code : List Insn) (made : ℕ) (here : Pending D) (pending : List (Pending D)) (states : ℕ → List (AbsState D)) → IsWalking ops Member sound code made (pending ++ here ∷ []) states → made < length (path_prefixes code)
  more_paths code made here pending states walking = omega (arith, walking.counted, sum_by_push (count_of_prefixes code) pending here, some_begins code here (last_of (BeginsInside code) pending here walking.inside))
