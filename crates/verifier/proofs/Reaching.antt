-- Loose runs reach every pending state that the walk follows, and are stuck where it refuses.
use Rattle.std.proofs.Common.{◌≡◌, ℕ, zero, suc, ◌<◌, ℤ, pos, ◌≤ℤ◌, List, [], ◌∷◌, replicate, Option, Some, None, Ok, Err, refl, sym, ap, ◌∙◌, subst, arith, All}
use Rattle.std.specs.Prelude.{IfSome, unsigned_abs}
use Rattle.std.proofs.lemmas.Int.{ints}
use Rattle.std.proofs.lemmas.List.{length-replicate}
use Rattle.std.proofs.lemmas.List.Elements.{All-replicate}
use Rattle.insn.specs.Encoding.{Fits}
use Rattle.insn.specs.declared.instruction.Insn.{Insn}
use Rattle.semantics.specs.Machine.{State, AreBytes, Environment, start}
use Rattle.semantics.specs.Slots.{fetch}
use Rattle.semantics.specs.Flow.{branch_slot}
use Rattle.semantics.specs.Runs.{Sticks, IsPossible}
use Rattle.semantics.specs.LooseRuns.{LooseStep, LooselyReaches}
use Rattle.semantics.specs.declared.reason.Reason.{Reason}
use Rattle.semantics.specs.declared.reason.Reason.TheVariants.{DatagramBounds}
use Rattle.semantics.specs.declared.fetching.Fetched.TheVariants.{Begins}
use Rattle.semantics.specs.declared.fetching.Branch.{Branch}
use Rattle.semantics.specs.declared.fetching.Branch.TheVariants.{NotTaken, Taken}
use Rattle.interval.specs.Domains.{Operations, AreSound, ArePrecise}
use Rattle.absstate.specs.AbstractStates.{first_abstract_state}
use Rattle.absstate.specs.AbstractSteps as abstract
use Rattle.absstate.specs.Membership.{Strict, IsMember}
use Rattle.absstate.specs.MemberSteps.{state_after}
use Rattle.absstate.specs.laws.Step.MemoryValues.{abs_is}
use Rattle.absstate.specs.laws.Step.Members.{at_first, first_member, loosens_itself, loosens_then, no_group}
use Rattle.absstate.specs.StepReasons.{IsAboutPlaces}
use Rattle.absstate.specs.laws.Step.Anchors.{NameNoVariableAnchor, greater_number, greater_left, greater_right, greater_least, reach_of, reach_of_plain, IsVariable}
use Rattle.absstate.specs.laws.Step.Following.{step_is}
use Rattle.absstate.specs.laws.Step.Opening.{Opens, step_rises, step_opens}
use Rattle.absstate.specs.laws.Step.Plainness.{step_plain}
use Rattle.absstate.specs.laws.Step.Refusing as refusing
use Rattle.absstate.specs.declared.abstract_state.AbsState.{AbsState}
use Rattle.absstate.specs.declared.abstract_step.Next.{Next}
use Rattle.verifier.specs.Layout.{HasGoodJumps}
use Rattle.verifier.specs.Refusing.{HasNoSums, IsReal}
use Rattle.verifier.specs.PendingStates.{some_environment, IsReachedOver, IsReached}
use Rattle.verifier.specs.Walk.{LeadsTo, IsNext, IsLeft, GoesOn, IsRefusedAt}
use Rattle.verifier.specs.declared.walk.Pending.{Pending}

-- ---- one step more

one_more : (w : Environment) (code : List Insn) (m : ℕ) (s t u : State) → LooselyReaches w code m s t → LooseStep w code t u → LooselyReaches w code (suc m) s u
one_more w code zero s t u reaches on = (u, subst (λ (r : State). LooseStep w code r u) (sym reaches) on, refl)
one_more w code (suc m) s t u reaches on = (reaches.0, reaches.1, one_more w code m reaches.0 t u reaches.2 on)

at_most : (a b c : ℤ) → a ≤ℤ b → b ≤ℤ c → a ≤ℤ c
at_most a b c p q = omega (arith, ints)

equal_at_most : (a b : ℤ) → a ≡ b → a ≤ℤ b
equal_at_most a b e = omega (arith, ints)

pub none_below : (k : ℕ) → k < 0 → ⊥
none_below k lt = omega arith

pub all_none : {D : Type 0} (P : Pending D → Type 0) (pending : List (Pending D)) → pending ≡ [] → All P pending
all_none P pending e = subst (All P) (sym e) (λ k d lt. absurd (none_below k lt))

pub all_one : {D : Type 0} (P : Pending D → Type 0) (p : Pending D) → P p → All P (p ∷ [])
all_one P p h zero d lt = h
all_one P p h (suc k) d lt = absurd (omega (arith, lt))

equal_of : (a b : ℤ) → a ≤ℤ b → b ≤ℤ a → a ≡ b
equal_of a b p q = omega (arith, ints)

-- ---- the first pending state

first_plain : (D : Type 0) → NameNoVariableAnchor (first_abstract_state {D = D}).values
first_plain D zero h = h
first_plain D (suc zero) h = h
first_plain D (suc (suc zero)) h = h
first_plain D (suc (suc (suc zero))) h = h
first_plain D (suc (suc (suc (suc zero)))) h = h
first_plain D (suc (suc (suc (suc (suc zero))))) h = h
first_plain D (suc (suc (suc (suc (suc (suc zero)))))) h = h
first_plain D (suc (suc (suc (suc (suc (suc (suc zero))))))) h = h
first_plain D (suc (suc (suc (suc (suc (suc (suc (suc zero)))))))) h = h
first_plain D (suc (suc (suc (suc (suc (suc (suc (suc (suc zero))))))))) h = h
first_plain D (suc (suc (suc (suc (suc (suc (suc (suc (suc (suc zero)))))))))) h = h
first_plain D (suc (suc (suc (suc (suc (suc (suc (suc (suc (suc (suc n))))))))))) h = subst IsVariable (no_group D n) h

zeros_fit : (n : ℕ) → All (λ b. b < 256) (replicate n 0)
zeros_fit n = All-replicate (λ (b : ℕ). b < 256) n 0 (omega arith)

zero_bytes : (n : ℕ) → AreBytes n (replicate n 0)
zero_bytes n = record { count = let zero_byte : ℕ = 0 in length-replicate n zero_byte; fit = zeros_fit n }

environment_is_possible : IsPossible some_environment
environment_is_possible = record {
  context = record { side = omega arith; source = zero_bytes 8; wide_source = zero_bytes 20; tx = zero_bytes 12 };
  helpers = record {
    channel_peer = λ form n address word bytes. (omega arith, zero_bytes 20);
    channel_to = λ form n address word bytes. omega arith;
    permitted = λ form n address word bytes. omega arith;
  };
}

module _ {D : Type 0} (ops : Operations D) (Member : D → ℕ → Type 0) (sound : AreSound ops Member) where
  pub first_reached : (code : List Insn) → IsReached Member code (record { slot = 0; state = first_abstract_state })
  first_reached code = record {
    not_negative = omega (arith, ints);
    floor = pos 0;
    proved = omega (arith, ints);
    reach = equal_at_most (reach_of (first_abstract_state {D = D}).values) (pos 0) (reach_of_plain (first_abstract_state {D = D}).values (first_plain D));
    over = λ n le.
        let member = first_member Member Strict (replicate n 0) (zeros_fit n) in
        record {
          datagram = replicate n 0;
          bytes_fit = zeros_fit n;
          steps = 0;
          last = start (replicate n 0);
          loosened = start (replicate n 0);
          reaches = refl;
          loosens = loosens_itself Member sound.words at_first first_abstract_state (start (replicate n 0)) member;
          slot = refl;
          size = let zero_byte : ℕ = 0 in length-replicate n zero_byte;
          member = record { places = at_first; at = member };
        };
    plain = λ sums. (first_plain D, omega (arith, ints));
  }

  reached_by : (code : List Insn) (here p : Pending D) (b : AbsState D) (n : ℕ) → (r : IsReachedOver Member code here n) → p.state ≡ b → Opens Member some_environment code r.loosened p.slot b → IsReachedOver Member code p n
  reached_by code here p b n r state_is opens = record {
    datagram = r.datagram;
    bytes_fit = r.bytes_fit;
    steps = suc r.steps;
    last = opens.state;
    loosened = opens.loosened;
    reaches = one_more some_environment code r.steps (start r.datagram) r.last opens.state r.reaches (r.loosened, r.loosens, opens.goes);
    loosens = opens.loosens;
    slot = opens.slot_is;
    size = opens.size ∙ r.size;
    member = subst (λ (c : AbsState D). IsMember Member Strict c opens.loosened) (sym state_is) opens.member;
  }

  -- ---- the pending states after an accepted step

  module _ (precise : ArePrecise ops Member) (code : List Insn) (jumps : HasGoodJumps code) (here : Pending D) (i : Insn) (begins : fetch code here.slot ≡ Begins i) (fit : Fits i) (answer : Next D) (is : abstract.abstract_step ops here.state i ≡ Ok answer) (reached : IsReached Member code here) where
    branch_reached : (branch : Branch) (b : AbsState D) (p : Pending D) → state_after answer branch ≡ Some b → LeadsTo code here.slot i branch b p → IsReached Member code p
    branch_reached branch b p after point =
        let n : ℕ = unsigned_abs reached.floor in
        let positive : pos 0 ≤ℤ reached.floor = at_most (pos 0) here.state.proved reached.floor reached.not_negative reached.proved in
        let same : pos n ≡ reached.floor = abs_is reached.floor positive in
        let r = reached.over n (equal_at_most reached.floor (pos n) (sym same)) in
        let rises = step_rises ops Member sound some_environment code r.member.places here.state r.loosened r.member.at i fit environment_is_possible answer is branch b after in
        let proved_is : b.proved ≡ p.state.proved = ap (λ (c : AbsState D). c.proved) (sym point.state_is) in
        let more : here.state.proved ≤ℤ p.state.proved = at_most here.state.proved b.proved p.state.proved rises (equal_at_most b.proved p.state.proved proved_is) in
        let higher : ℤ = greater_number reached.floor p.state.proved in
        let floor : ℤ = greater_number higher (reach_of p.state.values) in
        let over_higher : higher ≤ℤ floor = greater_left higher (reach_of p.state.values) in
        let over_floor : reached.floor ≤ℤ floor = at_most reached.floor higher floor (greater_left reached.floor p.state.proved) over_higher in
        let over_proved : p.state.proved ≤ℤ floor = at_most p.state.proved higher floor (greater_right reached.floor p.state.proved) over_higher in
        record {
          not_negative = at_most (pos 0) here.state.proved p.state.proved reached.not_negative more;
          floor = floor;
          proved = over_proved;
          reach = greater_right higher (reach_of p.state.values);
          over = λ m le.
              let enough : reached.floor ≤ℤ pos m = at_most reached.floor floor (pos m) over_floor le in
              let over = reached.over m enough in
              let begins_at : fetch code over.loosened.slot ≡ Begins i = ap (fetch code) over.slot ∙ begins in
              let long : b.proved ≤ℤ pos over.loosened.memory.length =
              at_most b.proved p.state.proved (pos over.loosened.memory.length) (equal_at_most b.proved p.state.proved proved_is) (subst (λ (k : ℕ). p.state.proved ≤ℤ pos k) (sym over.size) (at_most p.state.proved floor (pos m) over_proved le)) in
              let reaches : reach_of here.state.values ≤ℤ pos over.loosened.memory.length = subst (λ (k : ℕ). reach_of here.state.values ≤ℤ pos k) (sym over.size) (at_most (reach_of here.state.values) reached.floor (pos m) reached.reach enough) in
              reached_by code here p b m over point.state_is
              (step_opens ops Member sound some_environment code over.member.places here.state over.loosened over.member.at i fit precise environment_is_possible begins_at answer is branch b p.slot after
              (ap (λ (k : ℕ). branch_slot code k i branch) over.slot ∙ point.leads) long reaches);
          plain = λ sums.
              let before = reached.plain sums in
              let plain_b : NameNoVariableAnchor b.values = step_plain ops Member sound precise here.state before.0 i fit (sums here.slot i begins) answer is branch b after in
              let plain : NameNoVariableAnchor p.state.values = subst (λ (c : AbsState D). NameNoVariableAnchor c.values) (sym point.state_is) plain_b in
              let none : reach_of p.state.values ≡ pos 0 = reach_of_plain p.state.values plain in
              let low : reached.floor ≤ℤ p.state.proved = at_most reached.floor here.state.proved p.state.proved before.1 more in
              let higher_is : higher ≤ℤ p.state.proved = greater_least reached.floor p.state.proved p.state.proved low (equal_at_most p.state.proved p.state.proved refl) in
              (plain, greater_least higher (reach_of p.state.values) p.state.proved higher_is (at_most (reach_of p.state.values) (pos 0) p.state.proved (equal_at_most (reach_of p.state.values) (pos 0) none) (at_most (pos 0) here.state.proved p.state.proved reached.not_negative more)));
        }

    next_reached : (state : Option (AbsState D)) → state_after answer NotTaken ≡ state → (on : Option (Pending D)) → IsNext code here.slot i NotTaken state on → IfSome on (IsReached Member code)
    next_reached None e None next = tt
    next_reached None e (Some p) next = absurd next
    next_reached (Some b) e None next = absurd next
    next_reached (Some b) e (Some p) next = branch_reached NotTaken b p e next

    left_reached : (state : Option (AbsState D)) → state_after answer Taken ≡ state → (left : List (Pending D)) → IsLeft code here.slot i Taken state left → All (IsReached Member code) left
    left_reached None e left none = all_none (IsReached Member code) left none
    left_reached (Some b) e left one = subst (All (IsReached Member code)) (sym one.2) (all_one (IsReached Member code) one.0 (branch_reached Taken b one.0 e one.1))

    -- each pending state after an accepted step is reached
    pub reached_after : (on : Option (Pending D)) (left : List (Pending D)) → GoesOn code here.slot i answer on left → IfSome on (IsReached Member code) × All (IsReached Member code) left
    reached_after on left goes = (next_reached (state_after answer NotTaken) refl on goes.0, left_reached (state_after answer Taken) refl left goes.1)

  -- ---- refusals

  -- a refused step is one at which a loose run is stuck
  pub refusal_is_real : ArePrecise ops Member → (code : List Insn) (here : Pending D) (reason : Reason) → IsReached Member code here → IsRefusedAt ops code here reason → IsReal code reason here.slot
  refusal_is_real precise code here reason reached refusal claimed =
      let n : ℕ = unsigned_abs reached.floor in
      let positive : pos 0 ≤ℤ reached.floor = at_most (pos 0) here.state.proved reached.floor reached.not_negative reached.proved in
      let same : pos n ≡ reached.floor = abs_is reached.floor positive in
      let r = reached.over n (equal_at_most reached.floor (pos n) (sym same)) in
      let sums : IsAboutPlaces reason refusal.insn → HasNoSums code = claimed refusal.insn refusal.begins in
      let plain : IsAboutPlaces reason refusal.insn → NameNoVariableAnchor here.state.values = λ about. (reached.plain (sums about)).0 in
      let size : reason ≡ DatagramBounds → pos r.loosened.memory.length ≡ here.state.proved =
      λ e. ap (λ (k : ℕ). pos k) r.size ∙ same ∙ equal_of reached.floor here.state.proved (reached.plain (sums (subst (λ (x : Reason). IsAboutPlaces x refusal.insn) (sym e) tt))).1 reached.proved in
      let f = refusing.refusal_is_real ops Member sound precise r.member.places here.state r.loosened r.member.at refusal.insn refusal.fits reason refusal.step_is plain size in
      let slot : f.state.slot ≡ here.slot = f.loosens.slot ∙ r.slot in
      record {
        environment = some_environment;
        possible = environment_is_possible;
        datagram = r.datagram;
        bytes_fit = r.bytes_fit;
        steps = r.steps;
        last = r.last;
        loosened = f.state;
        reaches = r.reaches;
        loosens = loosens_then r.last r.loosened f.state r.loosens f.loosens;
        stuck = step_is some_environment code f.state refusal.insn (Err reason) (ap (fetch code) slot ∙ refusal.begins) (f.stuck some_environment.context environment_is_possible.context) ∙ ap (Sticks reason) slot;
      }
