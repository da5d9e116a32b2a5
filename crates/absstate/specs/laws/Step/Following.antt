-- Interface. An accepted step is followed by the machine's step from each member.
use Rattle.std.proofs.Common.{◌≡◌, ℕ, ◌+◌, ◌≤◌, ℤ, List, Option, Result, Ok, Err, refl, sym, ap, ◌∙◌, subst, arith}
use Rattle.std.specs.Prelude.{IsOk, IfOk, IfSome, Some, None}
use Rattle.insn.specs.Codes.{byte_count}
use Rattle.insn.specs.Encoding.{Fits, slots_of}
use Rattle.insn.specs.Endian.{little_bytes}
use Rattle.insn.specs.declared.instruction.Insn.{Insn}
use Rattle.insn.specs.declared.size.Size.{Size}
use Rattle.insn.specs.declared.size.Size.TheVariants as size
use Rattle.semantics.specs.Access.{written_at}
use Rattle.semantics.specs.laws.Context.{little_bytes_fit, length-little_bytes}
use Rattle.semantics.specs.Calls.{signature_of, record_bytes}
use Rattle.semantics.specs.declared.helper.RecordForm.TheVariants.{Narrow}
use Rattle.semantics.specs.declared.helper.Room.{Room}
use Rattle.semantics.specs.Machine.{AreBytes, Context, IsContext, Memory, State, Environment}
use Rattle.semantics.specs.declared.plan.Plan.{Plan}
use Rattle.semantics.specs.declared.helper.Helper.{Helper}
use Rattle.semantics.specs.declared.helper.Helper.TheVariants as helper
use Rattle.semantics.specs.declared.helper.Question.{Question}
use Rattle.semantics.specs.declared.access.Location.{Location}
use Rattle.semantics.specs.declared.access.Location.TheVariants.{InStack, InBytes}
use Rattle.semantics.specs.declared.limits.TheConstants.{MAX_DATAGRAM, MAX_CHANNEL}
use Rattle.semantics.specs.Effects as effects
use Rattle.semantics.specs.Slots.{fetch, target}
use Rattle.semantics.specs.Runs.{Goes, IsPossible, memory_with_pointer, registers_after_call, answered_at, state_after_answer, plan_answer, with_window, with_destination, state_with_plan, step_by_effect, step_to, step_of_fetched, step, registers_with}
use Rattle.semantics.specs.Flow.{Flow, flow_of, flow_slot, branch_slot}
use Rattle.semantics.specs.Flow as flow
use Rattle.semantics.specs.LooseRuns.{effect_of_branch}
use Rattle.semantics.specs.declared.reason.Reason.{Reason}
use Rattle.semantics.specs.declared.fetching.Fetched.TheVariants.{Begins}
use Rattle.semantics.specs.declared.effect.Effect.{Effect}
use Rattle.semantics.specs.declared.effect.Effect.TheVariants as effect
use Rattle.semantics.specs.declared.fetching.Branch.{Branch}
use Rattle.semantics.specs.declared.fetching.Branch.TheVariants.{NotTaken, Taken}
use Rattle.interval.specs.Domains.{Operations, AreSound}
use Rattle.absstate.specs.AbstractStates.{with_answer}
use Rattle.absstate.specs.AbstractSteps as abstract
use Rattle.absstate.specs.Membership.{Mode, Places, IsMemberAt, IsMember}
use Rattle.absstate.specs.MemberSteps.{IsAfter, IsAfterSome, IsTakenBy, IsTaken, MemberFollows, StepsFollow}
use Rattle.absstate.specs.declared.abstract_state.AbsState.{AbsState}
use Rattle.absstate.specs.declared.abstract_step.Next.{Next}
use Rattle.absstate.specs.declared.abstract_step.Next.TheVariants as next
use Rattle.absstate.specs.laws.Step.Agreement.{Agree}
use Rattle.absstate.specs.laws.Step.Arithmetic.{AreClaims}
use Rattle.absstate.specs.laws.Step.Members.{member_extends, member_written, member_moved, member_stored, member_planned, member_called, member_answered, member_with_pointer}
use Rattle.absstate.specs.laws.Step.Tagged.{written_proper, stored_kept}
use Rattle.absstate.specs.laws.Step.Simulation.{IsAsked, IsEffectOf, steps_agree}

abbrev none_claimed : Reason → Type 0
none_claimed reason = ⊥

agreed : {A B : Type 0} (F : A → B → Type 0) (result : Result A Reason) (y : Result B Reason) (v : A) → Agree none_claimed F result y → result ≡ Ok v → (u : B) × (y ≡ Ok u) × F v u
agreed F (Ok a) (Ok b) v agree e = (b, refl, subst (λ z. F z b) (let is : a ≡ v = cc in is) agree)
agreed F (Ok a) (Err f) v agree e = absurd agree
agreed F (Err f) y v agree e = absurd cc

pub eight_at_most : (z : Size) → byte_count z ≤ 8
eight_at_most size.Byte = omega arith
eight_at_most size.Half = omega arith
eight_at_most size.Word = omega arith
eight_at_most size.Double = omega arith

-- a store leaves the datagram's length
pub size_written : (m : Memory) (at : Location) (bytes : List ℕ) → (written_at m at bytes).length ≡ m.length
size_written m (InStack i) bytes = refl
size_written m (InBytes i) bytes = refl

pub size_answered : (m : Memory) (out : Option Room) (address : List ℕ) → (answered_at m out address).length ≡ m.length
size_answered m None address = refl
size_answered m (Some room) address = refl

pub small_answer : {X : Type 0} (o : Option X) → plan_answer o ≤ 1
small_answer None = omega arith
small_answer (Some x) = omega arith

-- the step at an instruction is its effect applied
pub step_is : (w : Environment) (code : List Insn) (s : State) (i : Insn) (r : Result Effect Reason) → fetch code s.slot ≡ Begins i → effects.effect w.context s.memory s.registers i ≡ r → step w code s ≡ step_by_effect w code s i r
step_is w code s i r here e = ap (step_of_fetched w code s) here ∙ ap (step_by_effect w code s i) e

ok_of : (result : Result ℕ Reason) → IsOk result → (n : ℕ) × (result ≡ Ok n)
ok_of (Ok n) ok = (n, refl)
ok_of (Err e) ok = absurd cc

same_slot : (k n : ℕ) → ◌≡◌ {A = Result ℕ Reason} (Ok k) (Ok n) → k ≡ n
same_slot k n e = cc

landed_at : (s : State) (result : Result ℕ Reason) (n : ℕ) → result ≡ Ok n → step_to s result ≡ Goes (record s { slot = n })
landed_at s (Ok m) n e = ap (λ (k : ℕ). Goes (record s { slot = k })) (same_slot m n e)
landed_at s (Err f) n e = absurd cc

-- the slot that a branch leads to, by how the instruction continues
slot_by : (code : List Insn) (slot n : ℕ) (i : Insn) (branch : Branch) (f : Flow) → flow_of i ≡ f → branch_slot code slot i branch ≡ Ok n → flow_slot code slot (slots_of i) f branch ≡ Ok n
slot_by code slot n i branch f is leads = sym (ap (λ (g : Flow). flow_slot code slot (slots_of i) g branch) is) ∙ leads

-- a jump, and either branch of a conditional one, continue at the slot that they lead to
pub jump_goes : (w : Environment) (code : List Insn) (s : State) (i : Insn) (offset : ℤ) (branch : Branch) (n : ℕ) → flow_of i ≡ flow.Jumps offset → branch_slot code s.slot i branch ≡ Ok n → step_by_effect w code s i (Ok (effect.Jump offset)) ≡ Goes (record s { slot = n })
jump_goes w code s i offset branch n is leads = landed_at s (target code s.slot offset) n (slot_by code s.slot n i branch (flow.Jumps offset) is leads)

pub branch_goes : (w : Environment) (code : List Insn) (s : State) (i : Insn) (offset : ℤ) (branch : Branch) (n : ℕ) → flow_of i ≡ flow.Forks offset → branch_slot code s.slot i branch ≡ Ok n → step_by_effect w code s i (Ok (effect_of_branch offset branch)) ≡ Goes (record s { slot = n })
branch_goes w code s i offset Taken n is leads = landed_at s (target code s.slot offset) n (slot_by code s.slot n i Taken (flow.Forks offset) is leads)
branch_goes w code s i offset NotTaken n is leads = ap (λ (k : ℕ). Goes (record s { slot = k })) (same_slot (s.slot + slots_of i) n (slot_by code s.slot n i NotTaken (flow.Forks offset) is leads))

pub straight_leads : (code : List Insn) (slot : ℕ) (i : Insn) (branch : Branch) → flow_of i ≡ flow.Straight → branch_slot code slot i branch ≡ Ok (slot + slots_of i)
straight_leads code slot i branch is = ap (λ (g : Flow). flow_slot code slot (slots_of i) g branch) is

module _ {D : Type 0} (ops : Operations D) (Member : D → ℕ → Type 0) (sound : AreSound ops Member) where
  no_claims : (mode : Mode) (a : AbsState D) (s : State) (i : Insn) → AreClaims ops Member sound none_claimed mode a s i
  no_claims mode a s i = record {
    registers = λ c. absurd c;
    cells = λ c. absurd c;
    bounds = λ c. absurd c;
    plain = λ c. absurd c;
    arithmetic = λ c. absurd c;
  }

  pub accepted_agree : (mode : Mode) (places : Places) (a : AbsState D) (s : State) → IsMemberAt Member mode places a s → (context : Context) → IsContext context → (i : Insn) → Fits i → (answer : Next D) → abstract.abstract_step ops a i ≡ Ok answer
      → (e : Effect) × (effects.effect context s.memory s.registers i ≡ Ok e) × IsEffectOf ops Member sound mode places a s i answer e
  accepted_agree mode places a s member context real i fit answer is =
      agreed (IsEffectOf ops Member sound mode places a s i) (abstract.abstract_step ops a i) (effects.effect context s.memory s.registers i) answer (steps_agree ops Member sound none_claimed mode places a s member context real i fit (no_claims mode a s i)) is

  -- the state after a call is a member: of a look-up, and of a change of the plan
  in_range : (n hi : ℕ) → hi ≤ MAX_CHANNEL → n ≤ hi → Member (ops.range 0 hi) n
  in_range n hi small le = sound.range 0 hi n (omega (arith, small)) (omega arith) le

  bounded : (h : Helper) → (signature_of h).greatest ≤ MAX_CHANNEL
  bounded (helper.ChannelPeer form) = omega arith
  bounded (helper.ChannelTo form) = omega arith
  bounded (helper.Permitted form) = omega arith
  bounded helper.Window = omega arith
  bounded (helper.Destination form) = omega arith

  both_of : (out : Option Room) (record_is : List ℕ) → IfSome out (λ room. room.index + record_bytes room.form ≤ 512) → IfSome out (λ room. AreBytes 20 record_is) → IfSome out (λ room. (room.index + record_bytes room.form ≤ 512) × AreBytes 20 record_is)
  both_of None record_is room are = tt
  both_of (Some j) record_is room are = (room, are)

  pub asked_member : (w : Environment) (code : List Insn) (mode : Mode) (places : Places) (a : AbsState D) (s : State) → IsMemberAt Member mode places a s → (i : Insn) → IsPossible w → (b : AbsState D) (q : Question) (out : Option Room) → IsAsked ops Member sound a i b q out
      → IsMemberAt Member mode places b (state_after_answer s (s.slot + slots_of i) out (w.answer q.helper q.number q.address))
  asked_member w code mode places a s member i real b q out is =
      let answer = w.answer q.helper q.number q.address in
      let lawful = is.lawful w.answer real.helpers in
      subst (λ (x : AbsState D). IsMemberAt Member mode places x (state_after_answer s (s.slot + slots_of i) out answer)) (sym is.after)
      (member_answered Member sound.words mode places a s (ops.range 0 (signature_of is.asked).greatest) (s.slot + slots_of i) out answer member (in_range answer.0 (signature_of is.asked).greatest (bounded is.asked) lawful.0) (both_of out answer.1 is.room lawful.1))

  pub planned_member : (mode : Mode) (places : Places) (a : AbsState D) (s : State) → IsMemberAt Member mode places a s → (i : Insn) (b : AbsState D) (h : Helper) (n : ℕ) (plan : Plan) → b ≡ abstract.state_after_call ops a h None → n ≤ 1 → (signature_of h).greatest ≡ 1
      → IsMemberAt Member mode places b (state_with_plan s (s.slot + slots_of i) n plan)
  planned_member mode places a s member i b h n plan is small one =
      subst (λ (x : AbsState D). IsMemberAt Member mode places x (state_with_plan s (s.slot + slots_of i) n plan)) (sym is)
      (member_planned Member mode places (with_answer a (ops.range 0 (signature_of h).greatest)) (record s { slot = s.slot + slots_of i; registers = registers_after_call s.registers n })
      (member_called Member sound.words mode places a s (ops.range 0 (signature_of h).greatest) n (s.slot + slots_of i) member (in_range n (signature_of h).greatest (bounded h) (omega (arith, small, one)))) plan)

  module _ (w : Environment) (code : List Insn) (mode : Mode) (places : Places) (a : AbsState D) (s : State) (member : IsMemberAt Member mode places a s) (i : Insn) (fit : Fits i) (real : IsPossible w) (here : fetch code s.slot ≡ Begins i) (good : (branch : Branch) → IsOk (branch_slot code s.slot i branch)) where
    exists : {b : AbsState D} {t : State} → IsMemberAt Member mode places b t → IsMember Member mode b t
    exists at = record { places = places; at = at }

    after : (branch : Branch) (b : AbsState D) → ((to : ℕ) → IsMemberAt Member mode places b (record s { slot = to })) → (n : ℕ) → branch_slot code s.slot i branch ≡ Ok n → IsAfter Member code mode s i branch b (record s { slot = n })
    after branch b e n leads = record { leads = leads; size = refl; member = exists (e n) }

    -- that branch is taken, by the effect of the instruction
    taken_by : (r : Result Effect Reason) (f : Flow) (branch : Branch) → effects.effect w.context s.memory s.registers i ≡ r → flow_of i ≡ f → IsTakenBy f r branch → IsTaken w s i branch
    taken_by r f branch is flows e = subst (λ (flow : Flow). IsTakenBy flow (effects.effect w.context s.memory s.registers i) branch) (sym flows) (subst (λ (known : Result Effect Reason). IsTakenBy f known branch) (sym is) e)

    effect_follows : s.memory.length ≤ MAX_DATAGRAM → (answer : Next D) (d : Effect) → effects.effect w.context s.memory s.registers i ≡ Ok d → IsEffectOf ops Member sound mode places a s i answer d → MemberFollows Member w code mode s i answer (step_by_effect w code s i (Ok d))
    effect_follows short (next.On b) (effect.Write r v) has is = (
      NotTaken,
      taken_by (Ok (effect.Write r v)) flow.Straight NotTaken has is.3 tt,
      record {
        leads = straight_leads code s.slot i NotTaken is.3;
        size = refl;
        member = record {
          places = is.2.more;
          at = subst (λ (c : AbsState D). IsMemberAt Member mode is.2.more c (record s { slot = s.slot + slots_of i; registers = registers_with s r v })) (sym is.1)
              (member_written Member mode is.2.more a s (member_extends Member mode places a s member is.2.more is.2.extends) r is.0 v (s.slot + slots_of i) (is.2.result.held short)
              (written_proper w code s i r v (s.slot + slots_of i) real here fit member.tagged (step_is w code s i (Ok (effect.Write r v)) here has)));
        };
      },
    )
    effect_follows short (next.On b) (effect.Store at z n) has is = (
      NotTaken,
      taken_by (Ok (effect.Store at z n)) flow.Straight NotTaken has is.3 tt,
      record {
        leads = straight_leads code s.slot i NotTaken is.3;
        size = size_written s.memory at (little_bytes (byte_count z) n);
        member = exists (subst (λ (c : AbsState D). IsMemberAt Member mode places c (record s { slot = s.slot + slots_of i; memory = written_at s.memory at (little_bytes (byte_count z) n) })) (sym is.1)
            (member_stored Member mode places a s member (byte_count z) is.0 at (little_bytes (byte_count z) n) (s.slot + slots_of i) is.2 (omega (arith, eight_at_most z)) (length-little_bytes (byte_count z) n) (little_bytes_fit (byte_count z) n)));
      },
    )
    effect_follows short (next.On b) (effect.StorePointer g v) has is = (
      NotTaken,
      taken_by (Ok (effect.StorePointer g v)) flow.Straight NotTaken has is.4 tt,
      record {
        leads = straight_leads code s.slot i NotTaken is.4;
        size = refl;
        member = exists (subst (λ (c : AbsState D). IsMemberAt Member mode places c (record s { slot = s.slot + slots_of i; memory = memory_with_pointer s.memory g v })) (sym is.1)
            (member_with_pointer Member mode places a s member g is.0 v (s.slot + slots_of i) is.3 is.2 (stored_kept w code s i g v (s.slot + slots_of i) real here fit member.tagged is.3 (step_is w code s i (Ok (effect.StorePointer g v)) here has))));
      },
    )
    effect_follows short (next.On b) (effect.Ask q out) has is = (
      NotTaken,
      taken_by (Ok (effect.Ask q out)) flow.Straight NotTaken has is.past tt,
      record {
        leads = straight_leads code s.slot i NotTaken is.past;
        size = size_answered s.memory out (w.answer q.helper q.number q.address).1;
        member = exists (asked_member w code mode places a s member i real b q out is);
      },
    )
    effect_follows short (next.On b) (effect.SetWindow window) has is = (
      NotTaken,
      taken_by (Ok (effect.SetWindow window)) flow.Straight NotTaken has is.1 tt,
      record {
        leads = straight_leads code s.slot i NotTaken is.1;
        size = refl;
        member = exists (planned_member mode places a s member i b helper.Window (plan_answer window) (with_window s.plan window) is.0 (small_answer window) refl);
      },
    )
    effect_follows short (next.On b) (effect.SetDestination destination) has is = (
      NotTaken,
      taken_by (Ok (effect.SetDestination destination)) flow.Straight NotTaken has is.1 tt,
      record {
        leads = straight_leads code s.slot i NotTaken is.1;
        size = refl;
        member = exists (planned_member mode places a s member i b (helper.Destination Narrow) (plan_answer destination) (with_destination s.plan destination) is.0 (small_answer destination) refl);
      },
    )
    effect_follows short (next.On b) (effect.Jump offset) has is =
        let to = ok_of (branch_slot code s.slot i NotTaken) (good NotTaken) in
        subst (MemberFollows Member w code mode s i (next.On b)) (sym (jump_goes w code s i offset NotTaken to.0 is.1 to.1))
        (NotTaken, taken_by (Ok (effect.Jump offset)) (flow.Jumps offset) NotTaken has is.1 tt, after NotTaken b (λ n. subst (λ (c : AbsState D). IsMemberAt Member mode places c (record s { slot = n })) (sym is.0) (member_moved Member mode places a s member n)) to.0 to.1)
    effect_follows short (next.On b) effect.Pass has is = absurd is
    effect_follows short (next.On b) (effect.Exit verdict) has is = absurd is
    effect_follows short (next.Fork not_taken taken) d has e =
        let to = ok_of (branch_slot code s.slot i e.branch) (good e.branch) in
        subst (MemberFollows Member w code mode s i (next.Fork not_taken taken)) (sym (ap (λ (effect : Effect). step_by_effect w code s i (Ok effect)) e.effect_is ∙ branch_goes w code s i e.offset e.branch to.0 (ap flow_of e.jump) to.1))
        (e.branch, taken_by (Ok d) (flow.Forks e.offset) e.branch has (ap flow_of e.jump) (ap Ok e.effect_is), subst (λ (option : Option (AbsState D)). IsAfterSome Member code mode s i e.branch option (record s { slot = to.0 })) (sym e.after_is) (after e.branch e.after e.member to.0 to.1))
    effect_follows short next.Exit (effect.Exit verdict) has is = tt
    effect_follows short next.Exit (effect.Write r v) has is = absurd is
    effect_follows short next.Exit (effect.Store at z n) has is = absurd is
    effect_follows short next.Exit (effect.StorePointer g v) has is = absurd is
    effect_follows short next.Exit (effect.Ask q out) has is = absurd is
    effect_follows short next.Exit (effect.SetWindow window) has is = absurd is
    effect_follows short next.Exit (effect.SetDestination destination) has is = absurd is
    effect_follows short next.Exit (effect.Jump offset) has is = absurd is
    effect_follows short next.Exit effect.Pass has is = absurd is

  -- an accepted step is followed from every member
  pub steps_follow : (a : AbsState D) (i : Insn) → Fits i → (answer : Next D) → abstract.abstract_step ops a i ≡ Ok answer → StepsFollow Member a i answer
  steps_follow a i fit answer is w code mode s real here good short member =
      let agree = accepted_agree mode member.places a s member.at w.context real.context i fit answer is in
      subst (MemberFollows Member w code mode s i answer) (sym (step_is w code s i (Ok agree.0) here agree.1)) (effect_follows w code mode member.places a s member.at i fit real here good short answer agree.0 agree.1 agree.2)

  pub followed : (a : AbsState D) (i : Insn) → Fits i → (answer : Result (Next D) Reason) → answer ≡ abstract.abstract_step ops a i → IfOk answer (λ next. StepsFollow Member a i next)
  followed a i fit (Ok answer) is = steps_follow a i fit answer (sym is)
  followed a i fit (Err e) is = tt
