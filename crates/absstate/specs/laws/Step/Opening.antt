-- Interface. After an accepted step, a loose step leads from each strict member to a member of the state of each
-- branch that can be taken.
use Rattle.std.proofs.Common.{◌≡◌, ℕ, ℤ, pos, ◌≤ℤ◌, List, Option, Some, None, Result, Ok, refl, sym, ap, ◌∙◌, subst, arith, inl, inr}
use Rattle.std.specs.Prelude.{◌⊎◌, ◌+◌}
use Rattle.std.proofs.lemmas.Int.{ints}
use Rattle.insn.specs.Codes.{byte_count}
use Rattle.insn.specs.Encoding.{Fits, slots_of}
use Rattle.insn.specs.Endian.{little_bytes}
use Rattle.insn.specs.declared.register.Reg.{Reg}
use Rattle.insn.specs.declared.instruction.Insn.{Insn}
use Rattle.semantics.specs.Access.{written_at}
use Rattle.semantics.specs.laws.Context.{little_bytes_fit, length-little_bytes}
use Rattle.semantics.specs.Kept.{IsProper}
use Rattle.semantics.specs.Calls.{signature_of}
use Rattle.semantics.specs.declared.helper.RecordForm.TheVariants.{Narrow}
use Rattle.semantics.specs.declared.helper.Room.{Room}
use Rattle.semantics.specs.Machine.{Memory, State, Environment}
use Rattle.semantics.specs.Effects as effects
use Rattle.semantics.specs.Slots.{fetch}
use Rattle.semantics.specs.Runs.{Goes, IsPossible, memory_with_pointer, state_after_answer, plan_answer, with_window, with_destination, state_with_plan, step_by_effect, step, registers_with}
use Rattle.semantics.specs.declared.helper.Helper.TheVariants as helper
use Rattle.semantics.specs.Flow.{flow_of, branch_slot}
use Rattle.semantics.specs.Flow as flow
use Rattle.semantics.specs.declared.value.Value.{Value}
use Rattle.semantics.specs.LooseRuns.{Loosens, effect_of_branch, TakesBranch}
use Rattle.semantics.specs.declared.reason.Reason.{Reason}
use Rattle.semantics.specs.declared.fetching.Fetched.TheVariants.{Begins}
use Rattle.semantics.specs.declared.effect.Effect.{Effect}
use Rattle.semantics.specs.declared.effect.Effect.TheVariants as effect
use Rattle.semantics.specs.declared.fetching.Branch.{Branch}
use Rattle.semantics.specs.declared.fetching.Branch.TheVariants.{NotTaken, Taken}
use Rattle.interval.specs.Domains.{Operations, AreSound, ArePrecise}
use Rattle.absstate.specs.AbstractSteps as abstract
use Rattle.absstate.specs.Membership.{Strict, Places, IsMemberAt, IsMember}
use Rattle.absstate.specs.AbstractStates.{with_value, with_answer, with_out}
use Rattle.absstate.specs.MemberSteps.{state_after}
use Rattle.absstate.specs.declared.abstract_state.AbstractValue.{AbstractValue}
use Rattle.absstate.specs.declared.memory.Region.{Region}
use Rattle.absstate.specs.declared.memory.Region.TheVariants as regions
use Rattle.absstate.specs.declared.abstract_state.AbsState.{AbsState}
use Rattle.absstate.specs.declared.abstract_step.Next.{Next}
use Rattle.absstate.specs.declared.abstract_step.Next.TheVariants as next
use Rattle.absstate.specs.laws.Step.Members.{member_extends, member_written, member_moved, member_stored, held_kind, members_loosen, loosens_itself, member_with_pointer}
use Rattle.absstate.specs.laws.Step.Tagged.{written_proper, same_kind_proper, stored_kept}
use Rattle.absstate.specs.laws.Step.Anchors.{reach_of}
use Rattle.absstate.specs.laws.Step.Forking.{Forks}
use Rattle.absstate.specs.laws.Step.Simulation.{IsResultAnew, IsEffectOf}
use Rattle.absstate.specs.laws.Step.Following.{accepted_agree, step_is, straight_leads, jump_goes, branch_goes, size_written, size_answered, small_answer, asked_member, planned_member, eight_at_most}

-- the state that a step or a branch leads to, and its loosening, a strict member
pub record Opens {D : Type 0} (Member : D → ℕ → Type 0) (w : Environment) (code : List Insn) (s : State) (slot : ℕ) (b : AbsState D) : Type 0 where
  pub state : State
  pub goes : (step w code s ≡ Goes state) ⊎ ((branch : Branch) × TakesBranch w code s branch state)
  pub loosened : State
  pub loosens : Loosens state loosened
  pub slot_is : loosened.slot ≡ slot
  pub size : loosened.memory.length ≡ s.memory.length
  pub member : IsMember Member Strict b loosened

same_state : {D : Type 0} (x b : AbsState D) → ◌≡◌ {A = Option (AbsState D)} (Some x) (Some b) → x ≡ b
same_state x b e = cc

same_slot : (m n : ℕ) → ◌≡◌ {A = Result ℕ Reason} (Ok m) (Ok n) → m ≡ n
same_slot m n e = cc

region_proved : {D : Type 0} (a : AbsState D) (n : ℕ) (region : Region) → a.proved ≡ (abstract.with_region a n region).proved
region_proved a n (regions.InStack i) = refl
region_proved a n regions.InBytes = refl

out_proved : {D : Type 0} (a : AbsState D) (x : D) (out : Option Room) → a.proved ≡ (with_out (with_answer a x) out).proved
out_proved a x None = refl
out_proved a x (Some i) = refl

within_both : (c y z : ℤ) → c ≤ℤ y → y ≤ℤ z → c ≤ℤ z
within_both c y z p q = omega (arith, ints)

at_most : (c y : ℤ) → c ≡ y → c ≤ℤ y
at_most c y e = omega (arith, ints)

module _ {D : Type 0} (ops : Operations D) (Member : D → ℕ → Type 0) (sound : AreSound ops Member) (w : Environment) (code : List Insn) (places : Places) (a : AbsState D) (s : State) (member : IsMemberAt Member Strict places a s) (i : Insn) (fit : Fits i) where
  effect_rises : (answer : Next D) (o : Effect) → IsEffectOf ops Member sound Strict places a s i answer o → (branch : Branch) (b : AbsState D) → state_after answer branch ≡ Some b → a.proved ≤ℤ b.proved
  effect_rises (next.On c) (effect.Write r v) is NotTaken b e = at_most a.proved b.proved (sym (ap (λ (x : AbsState D). x.proved) is.1) ∙ ap (λ (x : AbsState D). x.proved) (same_state c b e))
  effect_rises (next.On c) (effect.Jump offset) is NotTaken b e = at_most a.proved b.proved (sym (ap (λ (x : AbsState D). x.proved) is.0) ∙ ap (λ (x : AbsState D). x.proved) (same_state c b e))
  effect_rises (next.On c) (effect.Store at z n) is NotTaken b e = at_most a.proved b.proved (region_proved a (byte_count z) is.0 ∙ sym (ap (λ (x : AbsState D). x.proved) is.1) ∙ ap (λ (x : AbsState D). x.proved) (same_state c b e))
  effect_rises (next.On c) (effect.StorePointer g v) is NotTaken b e = at_most a.proved b.proved (sym (ap (λ (x : AbsState D). x.proved) is.1) ∙ ap (λ (x : AbsState D). x.proved) (same_state c b e))
  effect_rises (next.On c) (effect.Ask q out) is NotTaken b e = at_most a.proved b.proved (out_proved a (ops.range 0 (signature_of is.asked).greatest) out ∙ sym (ap (λ (x : AbsState D). x.proved) is.after) ∙ ap (λ (x : AbsState D). x.proved) (same_state c b e))
  effect_rises (next.On c) (effect.SetWindow window) is NotTaken b e = at_most a.proved b.proved (sym (ap (λ (x : AbsState D). x.proved) is.0) ∙ ap (λ (x : AbsState D). x.proved) (same_state c b e))
  effect_rises (next.On c) (effect.SetDestination destination) is NotTaken b e = at_most a.proved b.proved (sym (ap (λ (x : AbsState D). x.proved) is.0) ∙ ap (λ (x : AbsState D). x.proved) (same_state c b e))
  effect_rises (next.On c) effect.Pass is NotTaken b e = absurd is
  effect_rises (next.On c) (effect.Exit verdict) is NotTaken b e = absurd is
  effect_rises (next.On c) o is Taken b e = absurd cc
  effect_rises (next.Fork not_taken taken) o f branch b e = f.rises branch b e
  effect_rises next.Exit o is branch b e = absurd cc

  module _ (real : IsPossible w) (answer : Next D) (is : abstract.abstract_step ops a i ≡ Ok answer) where
    -- after an accepted step, no less is proved of the datagram's length
    pub step_rises : (branch : Branch) (b : AbsState D) → state_after answer branch ≡ Some b → a.proved ≤ℤ b.proved
    step_rises branch b e = let agree = accepted_agree ops Member sound Strict places a s member w.context real.context i fit answer is in effect_rises answer agree.0 agree.2 branch b e

  module _ (precise : ArePrecise ops Member) (real : IsPossible w) (here : fetch code s.slot ≡ Begins i) where
    -- the one state after an instruction that doesn't fork
    straight_slot : (n : ℕ) → flow_of i ≡ flow.Straight → branch_slot code s.slot i NotTaken ≡ Ok n → s.slot + slots_of i ≡ n
    straight_slot n past leads = same_slot (s.slot + slots_of i) n (sym (straight_leads code s.slot i NotTaken past) ∙ leads)

    module _ (b : AbsState D) (n : ℕ) (leads : branch_slot code s.slot i NotTaken ≡ Ok n) where
      opens_to : (t loosened : State) → step w code s ≡ Goes t → Loosens t loosened → loosened.slot ≡ n → loosened.memory.length ≡ s.memory.length → (more : Places) → IsMemberAt Member Strict more b loosened → Opens Member w code s n b
      opens_to t loosened goes loosens slot_is size more now = record { state = t; goes = inl goes; loosened = loosened; loosens = loosens; slot_is = slot_is; size = size; member = record { places = more; at = now } }

      -- a register is written: where the datagram is too long for what is known, its number is replaced
      write_opens : (r : Reg) (v : Value) (k : AbstractValue D) → b ≡ with_value a r k → IsResultAnew ops Member sound places s.memory.length a k v → flow_of i ≡ flow.Straight
          → step w code s ≡ Goes (record s { slot = s.slot + slots_of i; registers = registers_with s r v }) → Opens Member w code s n b
      write_opens r v k is anew past goes =
          let more : Places = anew.more in
          let at = member_extends Member Strict places a s member more anew.extends in
          let result = anew.result in
          let to : ℕ = s.slot + slots_of i in
          let written : State = record s { slot = to; registers = registers_with s r v } in
          let like : State = record s { slot = to; registers = registers_with s r result.like } in
          let proper : IsProper v = written_proper w code s i r v to real here fit member.tagged goes in
          let like_proper : IsProper result.like = same_kind_proper v result.like (held_kind Member sound.words more s.memory.length s.memory.length result.wide v result.like result.wide_held result.wide_like) proper in
          opens_to written like goes
          (members_loosen Member sound.words more (with_value a r result.wide) written like
          (member_written Member Strict more a s at r result.wide v to result.wide_held proper)
          (member_written Member Strict more a s at r result.wide result.like to result.wide_like like_proper) refl refl refl)
          (straight_slot n past leads) refl more
          (subst (λ (x : AbsState D). IsMemberAt Member Strict more x like) (sym is) (member_written Member Strict more a s at r k result.like to result.like_held like_proper))

      itself : (t : State) → step w code s ≡ Goes t → t.slot ≡ n → t.memory.length ≡ s.memory.length → IsMemberAt Member Strict places b t → Opens Member w code s n b
      itself t goes slot_is size now = opens_to t t goes (loosens_itself Member sound.words places b t now) slot_is size places now

      effect_opens : (o : Effect) → IsEffectOf ops Member sound Strict places a s i (next.On b) o → step w code s ≡ step_by_effect w code s i (Ok o) → Opens Member w code s n b
      effect_opens (effect.Write r v) is goes = write_opens r v is.0 is.1 is.2 is.3 goes
      effect_opens (effect.Store at z k) is goes =
          let bytes = little_bytes (byte_count z) k in
          itself (record s { slot = s.slot + slots_of i; memory = written_at s.memory at bytes }) goes (straight_slot n is.3 leads) (size_written s.memory at bytes)
          (subst (λ (x : AbsState D). IsMemberAt Member Strict places x (record s { slot = s.slot + slots_of i; memory = written_at s.memory at bytes })) (sym is.1)
          (member_stored Member Strict places a s member (byte_count z) is.0 at bytes (s.slot + slots_of i) is.2 (omega (arith, eight_at_most z)) (length-little_bytes (byte_count z) k) (little_bytes_fit (byte_count z) k)))
      effect_opens (effect.StorePointer g v) is goes =
          itself (record s { slot = s.slot + slots_of i; memory = memory_with_pointer s.memory g v }) goes (straight_slot n is.4 leads) refl
          (subst (λ (x : AbsState D). IsMemberAt Member Strict places x (record s { slot = s.slot + slots_of i; memory = memory_with_pointer s.memory g v })) (sym is.1)
          (member_with_pointer Member Strict places a s member g is.0 v (s.slot + slots_of i) is.3 is.2 (stored_kept w code s i g v (s.slot + slots_of i) real here fit member.tagged is.3 goes)))
      effect_opens (effect.Ask q out) is goes =
          let answer = w.answer q.helper q.number q.address in
          itself (state_after_answer s (s.slot + slots_of i) out answer) goes (straight_slot n is.past leads) (size_answered s.memory out answer.1) (asked_member ops Member sound w code Strict places a s member i real b q out is)
      effect_opens (effect.SetWindow window) is goes =
          itself (state_with_plan s (s.slot + slots_of i) (plan_answer window) (with_window s.plan window)) goes (straight_slot n is.1 leads) refl
          (planned_member ops Member sound Strict places a s member i b helper.Window (plan_answer window) (with_window s.plan window) is.0 (small_answer window) refl)
      effect_opens (effect.SetDestination destination) is goes =
          itself (state_with_plan s (s.slot + slots_of i) (plan_answer destination) (with_destination s.plan destination)) goes (straight_slot n is.1 leads) refl
          (planned_member ops Member sound Strict places a s member i b (helper.Destination Narrow) (plan_answer destination) (with_destination s.plan destination) is.0 (small_answer destination) refl)
      effect_opens (effect.Jump offset) is goes =
          itself (record s { slot = n }) (goes ∙ jump_goes w code s i offset NotTaken n is.1 leads) refl refl
          (subst (λ (x : AbsState D). IsMemberAt Member Strict places x (record s { slot = n })) (sym is.0) (member_moved Member Strict places a s member n))
      effect_opens effect.Pass is goes = absurd is
      effect_opens (effect.Exit verdict) is goes = absurd is

    fork_opens : (not_taken taken : Option (AbsState D)) (o : Effect) → effects.effect w.context s.memory s.registers i ≡ Ok o → Forks ops Member sound Strict places a s i not_taken taken o
        → (branch : Branch) (b : AbsState D) (n : ℕ) → state_after (next.Fork not_taken taken) branch ≡ Some b → branch_slot code s.slot i branch ≡ Ok n → b.proved ≤ℤ pos s.memory.length → reach_of a.values ≤ℤ pos s.memory.length → Opens Member w code s n b
    fork_opens not_taken taken o effect_is d branch b n after leads le reach =
        let extra : d.extra ≤ℤ pos s.memory.length = within_both d.extra (reach_of a.values) (pos s.memory.length) d.within reach in
        let opened = d.opens precise refl branch b after le extra n in
        record {
          state = record s { slot = n };
          goes = inr (
            branch,
            record {
              width = d.width;
              condition = d.condition;
              dst = d.dst;
              operand = d.operand;
              offset = d.offset;
              value = d.second;
              here = here ∙ ap Begins d.jump;
              decided = o;
              not_stuck = ap (effects.effect w.context s.memory s.registers) (sym d.jump) ∙ effect_is;
              operand_is = d.operand_is;
              is_open = d.holds_of branch b after le extra;
              goes = ap (λ (j : Insn). step_by_effect w code s j (Ok (effect_of_branch d.offset branch))) (sym d.jump) ∙ branch_goes w code s i d.offset branch n (ap flow_of d.jump) leads;
            },
          );
          loosened = opened.state;
          loosens = opened.loosens;
          slot_is = opened.loosens.slot;
          size = ap (λ (g : Memory). g.length) opened.memory;
          member = record { places = places; at = opened.member };
        }

    pub step_opens : (answer : Next D) → abstract.abstract_step ops a i ≡ Ok answer → (branch : Branch) (b : AbsState D) (n : ℕ) → state_after answer branch ≡ Some b → branch_slot code s.slot i branch ≡ Ok n → b.proved ≤ℤ pos s.memory.length → reach_of a.values ≤ℤ pos s.memory.length → Opens Member w code s n b
    step_opens (next.On c) is NotTaken b n e leads le reach =
        let agree = accepted_agree ops Member sound Strict places a s member w.context real.context i fit (next.On c) is in
        effect_opens b n leads agree.0 (subst (λ (x : AbsState D). IsEffectOf ops Member sound Strict places a s i (next.On x) agree.0) (same_state c b e) agree.2) (step_is w code s i (Ok agree.0) here agree.1)
    step_opens (next.On c) is Taken b n e leads le reach = absurd cc
    step_opens (next.Fork not_taken taken) is branch b n e leads le reach =
        let agree = accepted_agree ops Member sound Strict places a s member w.context real.context i fit (next.Fork not_taken taken) is in
        fork_opens not_taken taken agree.0 agree.1 agree.2 branch b n e leads le reach
    step_opens next.Exit is branch b n e leads le reach = absurd cc
