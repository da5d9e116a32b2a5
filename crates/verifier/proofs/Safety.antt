-- Every run from a pending state exits where that holds of the states that the walk goes on to.
use Rattle.std.proofs.Common.{◌≡◌, ℕ, suc, ◌-◌, ◌<◌, ◌≤◌, List, [], ◌∷◌, Option, Some, None, Result, Ok, refl, sym, ap, ◌∙◌, subst, arith, All}
use Rattle.std.specs.Prelude.{IfSome}
use Rattle.insn.specs.Encoding.{Fits}
use Rattle.insn.specs.declared.instruction.Insn.{Insn}
use Rattle.semantics.specs.Machine.{State, Environment}
use Rattle.semantics.specs.Slots.{fetch, instructions_ahead}
use Rattle.semantics.specs.laws.Slot.{ahead_falls}
use Rattle.semantics.specs.Flow.{branch_slot}
use Rattle.semantics.specs.Runs.{StepResult, Goes, Exits, Sticks, Run, IsPossible, run_onwards, step, run}
use Rattle.semantics.specs.laws.Run.{exits_the_same}
use Rattle.semantics.specs.declared.limits.TheConstants.{MAX_DATAGRAM}
use Rattle.semantics.specs.declared.reason.Reason.{Reason}
use Rattle.semantics.specs.declared.fetching.Fetched.TheVariants.{Begins}
use Rattle.semantics.specs.declared.fetching.Branch.{Branch}
use Rattle.semantics.specs.declared.fetching.Branch.TheVariants.{NotTaken, Taken}
use Rattle.interval.specs.Domains.{Operations, AreSound}
use Rattle.absstate.specs.AbstractSteps as abstract
use Rattle.absstate.specs.Membership.{Loose, IsMember}
use Rattle.absstate.specs.MemberSteps.{IsAfterSome, state_after, MemberFollows}
use Rattle.absstate.specs.laws.Step.Following.{steps_follow}
use Rattle.absstate.specs.declared.abstract_state.AbsState.{AbsState}
use Rattle.absstate.specs.declared.abstract_step.Next.{Next}
use Rattle.verifier.specs.Layout.{HasGoodJumps}
use Rattle.verifier.specs.PendingStates.{ExitsFrom, AllRunsExit}
use Rattle.verifier.specs.Walk.{LeadsTo, IsNext, IsLeft, GoesOn}
use Rattle.verifier.specs.declared.walk.Pending.{Pending}
use Rattle.verifier.proofs.Branches.{branch_is_good, branch_rises}
use Rattle.verifier.proofs.Counting.{fuel_is}

same_slot : (r : Result ℕ Reason) (m n : ℕ) → r ≡ Ok m → r ≡ Ok n → m ≡ n
same_slot r m n p q = cc

module _ {D : Type 0} (Member : D → ℕ → Type 0) (code : List Insn) (i : Insn) (s : State) (here : fetch code s.slot ≡ Begins i) where
  one_less : instructions_ahead code s.slot ≡ suc (instructions_ahead code s.slot - 1)
  one_less = fuel_is code s.slot i here

  -- a run exits where its step leads to a member of a pending state ahead of which every run exits
  exits_by : (w : Environment) (p : Pending D) (t : State) → IsPossible w → step w code s ≡ Goes t → t.slot ≡ p.slot → t.memory.length ≤ MAX_DATAGRAM → IsMember Member Loose p.state t → AllRunsExit Member code p → s.slot < p.slot → ExitsFrom w code s
  exits_by w p t real goes slot short member good rises =
      let ends = good w t real slot short member in
      let m : ℕ = instructions_ahead code s.slot - 1 in
      let left : instructions_ahead code t.slot ≤ m = omega (arith, ahead_falls code s.slot p.slot i here rises, ap (instructions_ahead code) slot) in
      let same = exits_the_same w code (instructions_ahead code t.slot) m t ends.0 left ends.1 in (
        ends.0,
        ap (λ (k : ℕ). (run w code k s).ending) one_less
            ∙ ap (λ (o : StepResult). (run_onwards s o (λ next. run w code m next)).ending) goes
            ∙ ap (λ (r : Run). r.ending) same ∙ ends.1,
      )

  exits_now : (w : Environment) (verdict : ℕ) → step w code s ≡ Exits verdict → ExitsFrom w code s
  exits_now w verdict exits =
      let m : ℕ = instructions_ahead code s.slot - 1 in (
        verdict,
        ap (λ (k : ℕ). (run w code k s).ending) one_less
            ∙ ap (λ (o : StepResult). (run_onwards s o (λ next. run w code m next)).ending) exits,
      )

of_one : {D : Type 0} (P : Pending D → Type 0) (left : List (Pending D)) (q : Pending D) → left ≡ q ∷ [] → All P left → P q
of_one P left q e all = subst (λ (xs : List _). All P xs → P q) (sym e) (λ ps. ps 0 q (omega arith)) all

module _ {D : Type 0} (Member : D → ℕ → Type 0) (code : List Insn) (i : Insn) (w : Environment) (s : State) (real : IsPossible w) (short : s.memory.length ≤ MAX_DATAGRAM) (here : fetch code s.slot ≡ Begins i) where
  -- the step leads to a member of the state of a branch
  good_branch : (branch : Branch) (b : AbsState D) (p : Pending D) (t : State) → LeadsTo code s.slot i branch b p → step w code s ≡ Goes t → IsAfterSome Member code Loose s i branch (Some b) t → AllRunsExit Member code p → ExitsFrom w code s
  good_branch branch b p t point goes after good =
      exits_by Member code i s here w p t real goes (same_slot (branch_slot code s.slot i branch) t.slot p.slot after.leads point.leads) (omega (arith, short, after.size))
      (subst (λ (c : AbsState D). IsMember Member Loose c t) (sym point.state_is) after.member) good (branch_rises code s.slot p.slot i branch point.leads)

  good_next : (state : Option (AbsState D)) (on : Option (Pending D)) (t : State) → IsNext code s.slot i NotTaken state on → IfSome on (AllRunsExit Member code) → step w code s ≡ Goes t → IsAfterSome Member code Loose s i NotTaken state t → ExitsFrom w code s
  good_next None on t next good goes after = absurd after
  good_next (Some b) None t next good goes after = absurd next
  good_next (Some b) (Some p) t next good goes after = good_branch NotTaken b p t next goes after good

  good_left : (state : Option (AbsState D)) (left : List (Pending D)) (t : State) → IsLeft code s.slot i Taken state left → All (AllRunsExit Member code) left → step w code s ≡ Goes t → IsAfterSome Member code Loose s i Taken state t → ExitsFrom w code s
  good_left None left t next good goes after = absurd after
  good_left (Some b) left t next good goes after = good_branch Taken b next.0 t next.1 goes after (of_one (AllRunsExit Member code) left next.0 next.2 good)

  good_from : (answer : Next D) (on : Option (Pending D)) (left : List (Pending D)) → GoesOn code s.slot i answer on left → IfSome on (AllRunsExit Member code) → All (AllRunsExit Member code) left → (r : StepResult) → step w code s ≡ r → MemberFollows Member w code Loose s i answer r → ExitsFrom w code s
  good_from answer on left goes good goods (Goes t) is (NotTaken, taken, after) = good_next (state_after answer NotTaken) on t goes.0 good is after
  good_from answer on left goes good goods (Goes t) is (Taken, taken, after) = good_left (state_after answer Taken) left t goes.1 goods is after
  good_from answer on left goes good goods (Exits verdict) is follows = exits_now Member code i s here w verdict is
  good_from answer on left goes good goods (Sticks reason slot) is follows = absurd follows

goes_on_at : {D : Type 0} (code : List Insn) (m n : ℕ) (i : Insn) (answer : Next D) (on : Option (Pending D)) (left : List (Pending D)) → m ≡ n → GoesOn code n i answer on left → GoesOn code m i answer on left
goes_on_at code m n i answer on left e h = subst (λ (k : ℕ). GoesOn code k i answer on left) (sym e) h

-- every run from a pending state exits, where that holds of the states that the walk goes on to
pub good_before : {D : Type 0} (ops : Operations D) (Member : D → ℕ → Type 0) → AreSound ops Member → (code : List Insn) → HasGoodJumps code → (here : Pending D) (i : Insn) → fetch code here.slot ≡ Begins i → Fits i → (answer : Next D) → abstract.abstract_step ops here.state i ≡ Ok answer
    → (on : Option (Pending D)) (left : List (Pending D)) → GoesOn code here.slot i answer on left → IfSome on (AllRunsExit Member code) → All (AllRunsExit Member code) left → AllRunsExit Member code here
good_before ops Member sound code jumps here i begins fit answer is on left goes good goods w s real at short member =
    let begins_at : fetch code s.slot ≡ Begins i = ap (fetch code) at ∙ begins in
    good_from Member code i w s real short begins_at answer on left (goes_on_at code s.slot here.slot i answer on left at goes) good goods (step w code s) refl
    (steps_follow ops Member sound here.state i fit answer is w code Loose s real begins_at (λ branch. branch_is_good code s.slot i branch jumps begins_at) short member)
