-- Internal. The branches of a conditional jump: what is left of its operands, and what it implies of the datagram's
-- length.
use Rattle.std.proofs.Common.{◌≡◌, ℕ, ◌<◌, ◌^◌, Bool, true, false, ℤ, pos, ◌≤ℤ◌, ◌<ℤ◌, Option, Some, None, Ok, refl, sym, ap, ◌∙◌, subst, arith}
use Rattle.std.specs.Prelude.{int_lt, not, ◌==◌, if◌then◌else◌}
use Rattle.std.proofs.lemmas.Bool.{cond_both}
use Rattle.insn.specs.Register.{number_of}
use Rattle.std.proofs.lemmas.Int.{ints}
use Rattle.insn.specs.Words.{holds}
use Rattle.insn.specs.declared.width.Width.{Width}
use Rattle.insn.specs.declared.register.Reg.{Reg}
use Rattle.insn.specs.declared.condition.Condition.{Condition}
use Rattle.insn.specs.declared.instruction.Operand.{Operand}
use Rattle.insn.specs.declared.instruction.Operand.TheVariants as operand
use Rattle.insn.specs.declared.instruction.Insn.{Insn}
use Rattle.insn.specs.declared.instruction.Insn.TheVariants as insn
use Rattle.semantics.specs.Machine.{State}
use Rattle.semantics.specs.Effects as effects
use Rattle.semantics.specs.Effects.{value_at}
use Rattle.semantics.specs.Runs.{registers_with}
use Rattle.semantics.specs.LooseRuns.{Bound, Loosens, bound_of, effect_of_branch, HoldsOf}
use Rattle.semantics.specs.declared.value.Value.{Value}
use Rattle.semantics.specs.declared.value.Value.TheVariants as value
use Rattle.semantics.specs.declared.effect.Effect.{Effect}
use Rattle.semantics.specs.declared.effect.Effect.TheVariants as effect
use Rattle.semantics.specs.declared.fetching.Branch.{Branch}
use Rattle.semantics.specs.declared.fetching.Branch.TheVariants.{NotTaken, Taken}
use Rattle.interval.specs.Domains.{Operations, AreSound, ArePrecise, HasMembers, passes, KeepsPair}
use Rattle.interval.specs.declared.domain.Test.{Test}
use Rattle.interval.specs.declared.domain.Test.TheVariants.{Holds, Fails}
use Rattle.absstate.specs.AbstractStates.{with_value, with_least}
use Rattle.absstate.specs.MemberSteps.{state_after}
use Rattle.absstate.specs.AbstractSteps as abstract
use Rattle.absstate.specs.Membership.{place_of, Mode, Strict, Places, IsHeld, IsMemberAt}
use Rattle.absstate.specs.declared.abstract_state.AbstractValue.TheVariants as known
use Rattle.absstate.specs.declared.abstract_state.AbsState.{AbsState}
use Rattle.absstate.specs.declared.branching.Implied.{Implied}
use Rattle.absstate.specs.declared.abstract_step.Next.TheVariants as next
use Rattle.absstate.specs.declared.abstract_state.Anchor.{Anchor}
use Rattle.absstate.specs.declared.abstract_state.Anchor.TheVariants.{First, Variable}
use Rattle.absstate.specs.laws.Step.Bounds.{bound_on_places, lt_of, not_lt, IsLeast, Implies, branch_if, least_from_bound, bound_from_least}
use Rattle.absstate.specs.laws.Step.Members.{member_written, member_known, member_moved, member_least, members_loosen, loosens_itself}
use Rattle.absstate.specs.laws.Step.Anchors.{reach_of, reach_positive}
use Rattle.absstate.specs.laws.Step.Arithmetic.{held_is}

effect_taken : (offset : ℤ) (taken : Bool) → (if taken then effect.Jump offset else effect.Pass) ≡ effect_of_branch offset (branch_if taken)
effect_taken offset true = refl
effect_taken offset false = refl

proved_within : (proved d size : ℤ) (test : Bool) → int_lt proved d ≡ test → (if test then d else proved) ≤ℤ size → d ≤ℤ size
proved_within proved d size true e le = le
proved_within proved d size false e le = let above : d ≤ℤ proved = not_lt proved d e in omega (arith, ints)

pub proved_rises : (proved d : ℤ) (test : Bool) → int_lt proved d ≡ test → proved ≤ℤ (if test then d else proved)
proved_rises proved d true e = let below : proved <ℤ d = lt_of proved d e in omega (arith, ints)
proved_rises proved d false e = omega (arith, ints)

-- a loosening of a state, at another slot, is a strict member
pub record IsOpened {D : Type 0} (Member : D → ℕ → Type 0) (places : Places) (b : AbsState D) (s : State) (to : ℕ) : Type 0 where
  pub state : State
  pub loosens : Loosens (record s { slot = to }) state
  pub memory : state.memory ≡ s.memory
  pub member : IsMemberAt Member Strict places b state

module _ {D : Type 0} (ops : Operations D) (Member : D → ℕ → Type 0) (sound : AreSound ops Member) where
  -- ---- what is left of the operands of a test

  module _ (mode : Mode) (places : Places) (a : AbsState D) (s : State) (member : IsMemberAt Member mode places a s) (dst : Reg) where
    -- the operands are members of what is left of them
    operands_known : (w : Width) (o : Operand) (left : D × D) (m n to : ℕ) → value_at s.registers dst ≡ value.Scalar m → effects.operand_value w s.registers o ≡ Ok (value.Scalar n) → Member left.0 m → Member left.1 n
        → IsMemberAt Member mode places (abstract.with_operands a dst o left) (record s { slot = to })
    operands_known w (operand.Imm k) left m n to dst_is o_is h g = member_known Member mode places a s member dst (known.Scalar left.0) to (m, h, dst_is)
    operands_known w (operand.Reg src) left m n to dst_is o_is h g =
        cond_both (number_of dst == number_of src) a (with_value (with_value a dst (known.Scalar left.0)) src (known.Scalar left.1)) (λ b. IsMemberAt Member mode places b (record s { slot = to }))
        (λ e. member_moved Member mode places a s member to)
        (λ e. member_known Member mode places (with_value a dst (known.Scalar left.0)) (record s { slot = to }) (member_known Member mode places a s member dst (known.Scalar left.0) to (m, h, dst_is)) src (known.Scalar left.1) to (n, g, held_is (value_at s.registers src) (value.Scalar n) o_is))

  -- where what is left has members, a loosening of the state is a member
  module _ (places : Places) (a : AbsState D) (s : State) (member : IsMemberAt Member Strict places a s) (dst : Reg) where
    pub word_held : (m : ℕ) → m < 2 ^ 64 → IsHeld Member places s.memory.length (known.Scalar ops.top) (value.Scalar m)
    word_held m lt = (m, sound.top m lt, refl)

    pub register_held : (r : Reg) (x : D) (m : ℕ) → Member x m → value_at s.registers r ≡ value.Scalar m → IsHeld Member places s.memory.length (known.Scalar ops.top) (value_at s.registers r)
    register_held r x m h e = (m, sound.top m (sound.words x m h), e)

    abbrev pub replaced : (r : Reg) (x y : D) (m n to : ℕ) → Member x m → value_at s.registers r ≡ value.Scalar m → Member y n → IsOpened Member places (with_value a r (known.Scalar y)) s to
    replaced r x y m n to h e g = record {
      state = record s { slot = to; registers = registers_with s r (value.Scalar n) };
      loosens =
          members_loosen Member sound.words places (with_value a r (known.Scalar ops.top)) (record s { slot = to }) (record s { slot = to; registers = registers_with s r (value.Scalar n) })
          (member_known Member Strict places a s member r (known.Scalar ops.top) to (register_held r x m h e))
          (member_written Member Strict places a s member r (known.Scalar ops.top) (value.Scalar n) to (word_held n (sound.words y n g)) (sound.words y n g))
          refl refl refl;
      memory = refl;
      member = member_written Member Strict places a s member r (known.Scalar y) (value.Scalar n) to (n, g, refl) (sound.words y n g);
    }

    both_replaced : (src : Reg) (x y : D) (left : D × D) (m n to : ℕ) → Member x m → Member y n → value_at s.registers dst ≡ value.Scalar m → value_at s.registers src ≡ value.Scalar n → HasMembers Member left
        → IsOpened Member places (with_value (with_value a dst (known.Scalar left.0)) src (known.Scalar left.1)) s to
    both_replaced src x y left m n to h g dst_is src_is has =
        let first : State = record s { slot = to; registers = registers_with s dst (value.Scalar has.first) } in
        let both : State = record s { slot = to; registers = registers_with first src (value.Scalar has.second) } in
        let wide : AbsState D = with_value a dst (known.Scalar ops.top) in
        let first_word : has.first < 2 ^ 64 = sound.words left.0 has.first has.of_first in
        let second_word : has.second < 2 ^ 64 = sound.words left.1 has.second has.of_second in
        record {
          state = both;
          loosens =
              members_loosen Member sound.words places (with_value wide src (known.Scalar ops.top)) (record s { slot = to }) both
              (member_known Member Strict places wide (record s { slot = to }) (member_known Member Strict places a s member dst (known.Scalar ops.top) to (register_held dst x m h dst_is)) src (known.Scalar ops.top) to (register_held src y n g src_is))
              (member_written Member Strict places wide first (member_written Member Strict places a s member dst (known.Scalar ops.top) (value.Scalar has.first) to (word_held has.first first_word) first_word) src (known.Scalar ops.top) (value.Scalar has.second) to (word_held has.second second_word) second_word)
              refl refl refl;
          memory = refl;
          member = member_written Member Strict places (with_value a dst (known.Scalar left.0)) first (member_written Member Strict places a s member dst (known.Scalar left.0) (value.Scalar has.first) to (has.first, has.of_first, refl) first_word) src (known.Scalar left.1) (value.Scalar has.second) to (has.second, has.of_second, refl) second_word;
        }

    stays : (to : ℕ) → IsOpened Member places a s to
    stays to =
        let moved = member_moved Member Strict places a s member to in
        record {
          state = record s { slot = to };
          loosens = loosens_itself Member sound.words places a (record s { slot = to }) moved;
          memory = refl;
          member = moved;
        }

    operands_opened : (w : Width) (o : Operand) (x y : D) (left : D × D) (m n to : ℕ) → Member x m → Member y n → value_at s.registers dst ≡ value.Scalar m → effects.operand_value w s.registers o ≡ Ok (value.Scalar n) → HasMembers Member left
        → IsOpened Member places (abstract.with_operands a dst o left) s to
    operands_opened w (operand.Imm k) x y left m n to h g dst_is o_is has = replaced dst x left.0 m has.first to h dst_is has.of_first
    operands_opened w (operand.Reg src) x y left m n to h g dst_is o_is has =
        cond_both (number_of dst == number_of src) a (with_value (with_value a dst (known.Scalar left.0)) src (known.Scalar left.1)) (λ b. IsOpened Member places b s to)
        (λ e. stays to)
        (λ e. both_replaced src x y left m n to h g dst_is (held_is (value_at s.registers src) (value.Scalar n) o_is) has)

  -- ---- conditional jumps

  pub length_within : (a : AbsState D) (least : Option ℤ) (size : ℕ) → (with_least a First least).proved ≤ℤ pos size → IsLeast (pos 0) least size
  length_within a None size le = tt
  length_within a (Some n) size le = let more = proved_within a.proved n (pos size) (int_lt a.proved n) refl le in omega (arith, ints, more)

  least_rises : (a : AbsState D) (anchor : Anchor) (least : Option ℤ) → a.proved ≤ℤ (with_least a anchor least).proved
  least_rises a anchor None = omega (arith, ints)
  least_rises a First (Some n) = proved_rises a.proved n (int_lt a.proved n) refl
  least_rises a (Variable id low high proved) (Some n) = omega (arith, ints)

  operands_proved : (a : AbsState D) (dst : Reg) (o : Operand) (left : D × D) → a.proved ≤ℤ (abstract.with_operands a dst o left).proved
  operands_proved a dst (operand.Imm n) left = omega (arith, ints)
  operands_proved a dst (operand.Reg src) left =
      cond_both (number_of dst == number_of src) a (with_value (with_value a dst (known.Scalar left.0)) src (known.Scalar left.1)) (λ b. a.proved ≤ℤ b.proved) (λ e. omega (arith, ints)) (λ e. omega (arith, ints))

  -- The branches of a conditional jump: the machine takes one of them, to a member, and loosely any that can be taken, where
  -- its bound holds.
  pub record Forks (mode : Mode) (places : Places) (a : AbsState D) (s : State) (i : Insn) (not_taken taken : Option (AbsState D)) (effect : Effect) : Type 0 where
    pub width : Width
    pub condition : Condition
    pub dst : Reg
    pub operand : Operand
    pub offset : ℤ
    pub jump : i ≡ insn.JumpIf width condition dst operand offset
    pub second : Value
    pub operand_is : effects.operand_value width s.registers operand ≡ Ok second
    pub branch : Branch
    pub effect_is : effect ≡ effect_of_branch offset branch
    pub after : AbsState D
    pub after_is : state_after (next.Fork not_taken taken) branch ≡ Some after
    pub member : (to : ℕ) → IsMemberAt Member mode places after (record s { slot = to })
    pub extra : ℤ
    pub within : extra ≤ℤ reach_of a.values
    pub rises : (way : Branch) (b : AbsState D) → state_after (next.Fork not_taken taken) way ≡ Some b → a.proved ≤ℤ b.proved
    pub holds_of : (way : Branch) (b : AbsState D) → state_after (next.Fork not_taken taken) way ≡ Some b → b.proved ≤ℤ pos s.memory.length → extra ≤ℤ pos s.memory.length → HoldsOf (bound_of condition (value_at s.registers dst) second way) s.memory.length
    pub opens : ArePrecise ops Member → mode ≡ Strict → (way : Branch) (b : AbsState D) → state_after (next.Fork not_taken taken) way ≡ Some b → b.proved ≤ℤ pos s.memory.length → extra ≤ℤ pos s.memory.length → (to : ℕ) → IsOpened Member places b s to

  some_is : (x y : AbsState D) → ◌≡◌ {A = Option (AbsState D)} (Some x) (Some y) → x ≡ y
  some_is x y e = cc

  module _ (mode : Mode) (places : Places) (a : AbsState D) (s : State) (member : IsMemberAt Member mode places a s) (w : Width) (c : Condition) (dst : Reg) (o : Operand) (offset : ℤ) where
    -- two numbers
    module _ (x y : D) (m n : ℕ) (h : Member x m) (g : Member y n) (dst_is : value_at s.registers dst ≡ value.Scalar m) (o_is : effects.operand_value w s.registers o ≡ Ok (value.Scalar n)) where
      passed_by : (e : Option (D × D)) → KeepsPair Member e m n → (after : AbsState D) × (abstract.state_with_operands a dst o e ≡ Some after) × ((to : ℕ) → IsMemberAt Member mode places after (record s { slot = to }))
      passed_by None kept = absurd kept
      passed_by (Some left) kept = (abstract.with_operands a dst o left, refl, λ to. operands_known mode places a s member dst w o left m n to dst_is o_is kept.0 kept.1)

      refined_rises : (e : Option (D × D)) (b : AbsState D) → abstract.state_with_operands a dst o e ≡ Some b → a.proved ≤ℤ b.proved
      refined_rises None b e = absurd cc
      refined_rises (Some left) b e = subst (λ (z : AbsState D). a.proved ≤ℤ z.proved) (some_is (abstract.with_operands a dst o left) b e) (operands_proved a dst o left)

      refined_opens : (strict : IsMemberAt Member Strict places a s) (e : Option (D × D)) → ((left : D × D) → e ≡ Some left → HasMembers Member left) → (b : AbsState D) → abstract.state_with_operands a dst o e ≡ Some b → (to : ℕ) → IsOpened Member places b s to
      refined_opens strict None has b e to = absurd cc
      refined_opens strict (Some left) has b e to = subst (λ (z : AbsState D). IsOpened Member places z s to) (some_is (abstract.with_operands a dst o left) b e) (operands_opened places a s strict dst w o x y left m n to h g dst_is o_is (has left refl))

      numbers_fork : (test : Test) (branch : Branch) (effect : Effect) → effect ≡ effect_of_branch offset branch → passes test w m n ≡ true
          → state_after (next.Fork (abstract.state_past_test ops a (Fails c) w dst o x y) (abstract.state_past_test ops a (Holds c) w dst o x y)) branch ≡ abstract.state_past_test ops a test w dst o x y
          → Forks mode places a s (insn.JumpIf w c dst o offset) (abstract.state_past_test ops a (Fails c) w dst o x y) (abstract.state_past_test ops a (Holds c) w dst o x y) effect
      numbers_fork test branch effect e_is passed way_is =
          let after = passed_by (ops.refine test w x y) (sound.refine test w x y m n h g passed) in
          record {
            width = w;
            condition = c;
            dst = dst;
            operand = o;
            offset = offset;
            jump = refl;
            second = value.Scalar n;
            operand_is = o_is;
            branch = branch;
            effect_is = e_is;
            after = after.0;
            after_is = way_is ∙ after.1;
            member = after.2;
            extra = pos 0;
            within = reach_positive a.values;
            rises = rises;
            holds_of = λ way b f le le'. subst (λ (v : Value). HoldsOf (bound_of c v (value.Scalar n) way) s.memory.length) (sym dst_is) tt;
            opens = opens;
          } where
            rises : (way : Branch) (b : AbsState D) → state_after (next.Fork (abstract.state_past_test ops a (Fails c) w dst o x y) (abstract.state_past_test ops a (Holds c) w dst o x y)) way ≡ Some b → a.proved ≤ℤ b.proved
            rises NotTaken b f = refined_rises (ops.refine (Fails c) w x y) b f
            rises Taken b f = refined_rises (ops.refine (Holds c) w x y) b f

            opens : ArePrecise ops Member → mode ≡ Strict → (way : Branch) (b : AbsState D) → state_after (next.Fork (abstract.state_past_test ops a (Fails c) w dst o x y) (abstract.state_past_test ops a (Holds c) w dst o x y)) way ≡ Some b → b.proved ≤ℤ pos s.memory.length → pos 0 ≤ℤ pos s.memory.length → (to : ℕ) → IsOpened Member places b s to
            opens precise strict NotTaken b f le le' to = refined_opens (subst (λ (k : Mode). IsMemberAt Member k places a s) strict member) (ops.refine (Fails c) w x y) (λ left. precise.refine (Fails c) w x y m n left h g) b f to
            opens precise strict Taken b f le le' to = refined_opens (subst (λ (k : Mode). IsMemberAt Member k places a s) strict member) (ops.refine (Holds c) w x y) (λ left. precise.refine (Holds c) w x y m n left h g) b f to

      pub fork_by : (test : Bool) → holds c w m n ≡ test → Forks mode places a s (insn.JumpIf w c dst o offset) (abstract.state_past_test ops a (Fails c) w dst o x y) (abstract.state_past_test ops a (Holds c) w dst o x y) (if test then effect.Jump offset else effect.Pass)
      fork_by true e = numbers_fork (Holds c) Taken (effect.Jump offset) refl e refl
      fork_by false e = numbers_fork (Fails c) NotTaken effect.Pass refl (ap not e) refl

    -- a place and the end
    module _ (anchor : Anchor) (bound : Branch → Option Bound) (extra : ℤ) (within : extra ≤ℤ reach_of a.values)
        (enough : (way : Branch) → (with_least a anchor (abstract.least_of (bound way))).proved ≤ℤ pos s.memory.length → extra ≤ℤ pos s.memory.length → IsLeast (place_of places anchor) (abstract.least_of (bound way)) s.memory.length)
        (second : Value) (o_is : effects.operand_value w s.registers o ≡ Ok second) (bound_is : (way : Branch) → bound_of c (value_at s.registers dst) second way ≡ bound_on_places (place_of places anchor) (bound way)) where
      way_is : (way : Branch) → state_after (next.Fork (Some (with_least a anchor (abstract.implied_by bound).not_taken)) (Some (with_least a anchor (abstract.implied_by bound).taken))) way ≡ Some (with_least a anchor (abstract.least_of (bound way)))
      way_is NotTaken = refl
      way_is Taken = refl

      least_is : (way : Branch) (b : AbsState D) → state_after (next.Fork (Some (with_least a anchor (abstract.implied_by bound).not_taken)) (Some (with_least a anchor (abstract.implied_by bound).taken))) way ≡ Some b → with_least a anchor (abstract.least_of (bound way)) ≡ b
      least_is way b e = some_is (with_least a anchor (abstract.least_of (bound way))) b (sym (way_is way) ∙ e)

      least_holds : (way : Branch) (b : AbsState D) → state_after (next.Fork (Some (with_least a anchor (abstract.implied_by bound).not_taken)) (Some (with_least a anchor (abstract.implied_by bound).taken))) way ≡ Some b → b.proved ≤ℤ pos s.memory.length → extra ≤ℤ pos s.memory.length → IsLeast (place_of places anchor) (abstract.least_of (bound way)) s.memory.length
      least_holds way b e le le' = enough way (subst (λ (z : AbsState D). z.proved ≤ℤ pos s.memory.length) (sym (least_is way b e)) le) le'

      least_opens : (strict : IsMemberAt Member Strict places a s) (least : Option ℤ) → IsLeast (place_of places anchor) least s.memory.length → (b : AbsState D) → with_least a anchor least ≡ b → (to : ℕ) → IsOpened Member places b s to
      least_opens strict least le b e to =
          subst (λ (z : AbsState D). IsOpened Member places z s to) e
          (let known_more = member_least Member Strict places a s strict anchor least to le in
          record {
            state = record s { slot = to };
            loosens = loosens_itself Member sound.words places (with_least a anchor least) (record s { slot = to }) known_more;
            memory = refl;
            member = known_more;
          })

      places_forked : (taken : Bool) → HoldsOf (bound_on_places (place_of places anchor) (bound (branch_if taken))) s.memory.length
          → Forks mode places a s (insn.JumpIf w c dst o offset) (Some (with_least a anchor (abstract.implied_by bound).not_taken)) (Some (with_least a anchor (abstract.implied_by bound).taken)) (if taken then effect.Jump offset else effect.Pass)
      places_forked taken true_of = record {
        width = w;
        condition = c;
        dst = dst;
        operand = o;
        offset = offset;
        jump = refl;
        second = second;
        operand_is = o_is;
        branch = branch_if taken;
        effect_is = effect_taken offset taken;
        after = with_least a anchor (abstract.least_of (bound (branch_if taken)));
        after_is = way_is (branch_if taken);
        member = λ to. member_least Member mode places a s member anchor (abstract.least_of (bound (branch_if taken))) to (least_from_bound (place_of places anchor) (bound (branch_if taken)) s.memory.length true_of);
        extra = extra;
        within = within;
        rises = λ way b e. subst (λ (z : AbsState D). a.proved ≤ℤ z.proved) (least_is way b e) (least_rises a anchor (abstract.least_of (bound way)));
        holds_of = λ way b e le le'. subst (λ (found : Option Bound). HoldsOf found s.memory.length) (sym (bound_is way)) (bound_from_least (place_of places anchor) (bound way) s.memory.length (least_holds way b e le le'));
        opens = λ precise strict way b e le le' to. least_opens (subst (λ (k : Mode). IsMemberAt Member k places a s) strict member) (abstract.least_of (bound way)) (least_holds way b e le le') b (least_is way b e) to;
      }

      pub forked : (t : Implied) (taken : Bool) → Implies bound (λ way. bound_on_places (place_of places anchor) (bound way)) s.memory.length t taken
          → Forks mode places a s (insn.JumpIf w c dst o offset) (Some (with_least a anchor t.not_taken)) (Some (with_least a anchor t.taken)) (if taken then effect.Jump offset else effect.Pass)
      forked t taken implies =
          subst (λ (l : Implied). Forks mode places a s (insn.JumpIf w c dst o offset) (Some (with_least a anchor l.not_taken)) (Some (with_least a anchor l.taken)) (if taken then effect.Jump offset else effect.Pass)) (sym implies.0)
          (places_forked taken implies.1)
