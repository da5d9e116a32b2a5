-- Interface. Where the abstract step refuses an instruction, a loosening of each strict member is stuck for that
-- reason.
use Rattle.std.proofs.Common.{◌≡◌, ℕ, ◌<◌, ◌^◌, Bool, true, false, ◌&&◌, ℤ, pos, negsuc, ◌+ℤ◌, ◌-ℤ◌, ◌≤ℤ◌, ◌<ℤ◌, Option, Some, None, Result, Ok, Err, refl, sym, ap, ◌∙◌, subst, arith, rules, inl, inr}
use Rattle.std.specs.Prelude.{◌⊎◌, int_le, slice_index_or, ◌==◌, if◌then◌else◌}
use Rattle.std.specs.Int.{w64, cast_signed}
use Rattle.std.proofs.lemmas.Int.{ints}
use Rattle.std.proofs.lemmas.List.{get_or-set_other}
use Rattle.std.proofs.lemmas.Grind.{get_or-set_at}
use Rattle.insn.specs.Encoding.{OperandFits, Fits}
use Rattle.insn.specs.Words.{imm_word}
use Rattle.semantics.specs.laws.Number.{imm_below}
use Rattle.std.specs.Option.{ok_or, option_map}
use Rattle.semantics.specs.declared.effect.Effect.{Effect}
use Rattle.insn.specs.Register.{number_of}
use Rattle.insn.specs.declared.register.Reg.{Reg}
use Rattle.insn.specs.declared.width.Width.{Width}
use Rattle.insn.specs.declared.width.Width.TheVariants.{W64}
use Rattle.insn.specs.declared.operator.AluOp.{AluOp}
use Rattle.insn.specs.declared.operator.AluOp.TheVariants.{Add, Sub}
use Rattle.insn.specs.declared.instruction.Operand.TheVariants as operand
use Rattle.insn.specs.declared.instruction.Insn.{Insn}
use Rattle.insn.specs.declared.instruction.Insn.TheVariants as insn
use Rattle.basics.specs.Fallible.{◌>>=◌}
use Rattle.semantics.specs.laws.Kept.{in_eleven}
use Rattle.semantics.specs.Machine.{Context, IsContext, State}
use Rattle.semantics.specs.Effects as effects
use Rattle.semantics.specs.Effects.{is_near, near_place, moved_place, writable}
use Rattle.semantics.specs.LooseRuns.{Loosens}
use Rattle.semantics.specs.declared.reason.Reason.{Reason}
use Rattle.semantics.specs.declared.reason.Reason.TheVariants.{DatagramBounds, PointerArithmetic}
use Rattle.semantics.specs.declared.value.Value.{Value}
use Rattle.semantics.specs.declared.value.Value.TheVariants as value
use Rattle.interval.specs.Domains.{Operations, AreSound, ArePrecise}
use Rattle.interval.specs.declared.domain.Bounds.{Bounds}
use Rattle.absstate.specs.AbstractStates.{abstract_at}
use Rattle.absstate.specs.AbstractSteps as abstract
use Rattle.absstate.specs.Membership.{Strict, Places, place_of, IsHeld, IsValue, IsMemberAt}
use Rattle.absstate.specs.StepReasons.{IsAboutPlaces, IsConstantSum}
use Rattle.absstate.specs.declared.abstract_state.Anchor.{Anchor}
use Rattle.absstate.specs.declared.abstract_state.Anchor.TheVariants.{First, Variable}
use Rattle.absstate.specs.declared.abstract_state.AbstractValue.{AbstractValue}
use Rattle.absstate.specs.declared.abstract_state.AbstractValue.TheVariants as known
use Rattle.absstate.specs.declared.abstract_state.AbsState.{AbsState}
use Rattle.absstate.specs.declared.abstract_step.Next.{Next}
use Rattle.absstate.specs.laws.Step.Agreement.{Agree}
use Rattle.absstate.specs.laws.Step.Bounds.{le_of}
use Rattle.absstate.specs.laws.Step.MemoryValues.{first_of_and, rest_of_and}
use Rattle.absstate.specs.laws.Step.Members.{loosens_itself}
use Rattle.absstate.specs.laws.Step.Anchors.{IsVariable, NameNoVariableAnchor}
use Rattle.absstate.specs.laws.Step.Arithmetic.{StraysBy, Strays, strays_same, held_is, held_known, ok_is, AreClaims}
use Rattle.absstate.specs.laws.Step.Forking.{replaced}
use Rattle.absstate.specs.laws.Step.Simulation.{IsEffectOf, steps_agree}

-- ---- a number that leads a pointer out of range

and_false : (b : Bool) → (b && false) ≡ false
and_false true = refl
and_false false = refl

le_is_false : (z k : ℤ) → k <ℤ z → int_le z k ≡ false
le_is_false z k h = grind (arith, ints)

is_too_far : (z : ℤ) → pos 1048576 <ℤ z → near_place z ≡ None
is_too_far z h =
    ap (λ (b : Bool). if (int_le (negsuc 1048575) z && b) then Some z else None) (le_is_false z (pos 1048576) h)
    ∙ ap (λ (b : Bool). if b then Some z else None) (and_false (int_le (negsuc 1048575) z))

is_too_low : (z : ℤ) → z <ℤ negsuc 1048575 → near_place z ≡ None
is_too_low z h = ap (λ (b : Bool). if (b && int_le z (pos 1048576)) then Some z else None) (le_is_false (negsuc 1048575) z h)

-- 2^62, or 0 for a place that is out of range already
abbrev stray_if : Bool → ℕ
stray_if true = 4611686018427387904
stray_if false = 0

stray_fits : (b : Bool) → stray_if b < 2 ^ 64
stray_fits true = omega arith
stray_fits false = omega arith

-- a number that moves a place out of range, by any operator
strays_off : (k : ℤ) (b : Bool) → is_near k ≡ b → (near_place (k +ℤ cast_signed w64 (stray_if b)) ≡ None) × (near_place (k -ℤ cast_signed w64 (stray_if b)) ≡ None)
strays_off k true e =
    let low : negsuc 1048575 ≤ℤ k = le_of (negsuc 1048575) k (first_of_and (int_le (negsuc 1048575) k) (int_le k (pos 1048576)) e) in
    let high : k ≤ℤ pos 1048576 = le_of k (pos 1048576) (rest_of_and (int_le (negsuc 1048575) k) (int_le k (pos 1048576)) e) in
    (is_too_far (k +ℤ pos 4611686018427387904) (omega (arith, ints)), is_too_low (k -ℤ pos 4611686018427387904) (omega (arith, ints)))
strays_off k false e =
    let far : near_place k ≡ None = ap (λ (b : Bool). if b then Some k else None) e in
    let same : (k +ℤ pos 0) ≡ k = omega (arith, ints) in
    let same' : (k -ℤ pos 0) ≡ k = omega (arith, ints) in
    (ap near_place same ∙ far, ap near_place same' ∙ far)

moves_off : (op : AluOp) (w : Width) (k : ℤ) → moved_place op w k (stray_if (is_near k)) ≡ None
moves_off Add W64 k = (strays_off k (is_near k) refl).0
moves_off Sub W64 k = (strays_off k (is_near k) refl).1
moves_off op w k = refl

data_strays : (op : AluOp) (w : Width) (k : ℤ) → effects.alu_result op w (value.Data k) (value.Scalar (stray_if (is_near k))) ≡ Err PointerArithmetic
data_strays op w k = ap (effects.pointer_to value.Data) (moves_off op w k)

stack_strays : (op : AluOp) (w : Width) (k : ℤ) → effects.alu_result op w (value.Stack k) (value.Scalar (stray_if (is_near k))) ≡ Err PointerArithmetic
stack_strays op w k = ap (effects.pointer_to value.Stack) (moves_off op w k)

refused : {A B : Type 0} (claimed : Reason → Type 0) (F : A → B → Type 0) (result : Result A Reason) (l : Result B Reason) (r : Reason) → Agree claimed F result l → result ≡ Err r → claimed r → l ≡ Err r
refused claimed F (Ok a) l r agree is c = absurd cc
refused claimed F (Err f) (Ok b) r agree is c = absurd (agree (subst claimed (let same : r ≡ f = cc in same) c))
refused claimed F (Err f) (Err g) r agree is c =
    let same : r ≡ f = cc in
    let other : f ≡ g = agree (subst claimed same c) in
    ap Err (sym other ∙ sym same)

-- an instruction with a constant moves pointers, or moves none, since it is no sum of 64 bits
moves_or_not : (op : AluOp) (w : Width) (dst : Reg) (z : ℤ) (P : Type 0) → (IsConstantSum (insn.Alu w op dst (operand.Imm z)) → P) → P ⊎ ((k : ℤ) (n : ℕ) → moved_place op w k n ≡ None)
moves_or_not Add W64 dst z P claimed = inl (claimed tt)
moves_or_not Sub W64 dst z P claimed = inl (claimed tt)
moves_or_not op w dst z P claimed = inr (λ k n. refl)

same_number : (n : ℕ) → (n == n) ≡ true
same_number n = search rules

module _ {D : Type 0} (ops : Operations D) (Member : D → ℕ → Type 0) (sound : AreSound ops Member) (precise : ArePrecise ops Member) where
  -- ---- single numbers

  single_if : (bounds : Bounds) (n : ℕ) → bounds ≡ record { lo = n; hi = n } → (if bounds.lo == bounds.hi then Some bounds.lo else None) ≡ Some n
  single_if bounds n e = ap (λ (d : Bounds). if d.lo == d.hi then Some d.lo else None) e ∙ ap (λ (t : Bool). if t then Some n else None) (same_number n)

  exact_single : (n : ℕ) → n < 2 ^ 64 → abstract.single_of ops (ops.exact n) ≡ Some n
  exact_single n fits = single_if (ops.bounds (ops.exact n)) n (precise.exact n fits)

  -- a single number moves the offset
  pub exact_sum : (a : AbsState D) (anchor : Anchor) (op : AluOp) (w : Width) (k : ℤ) (n : ℕ) → n < 2 ^ 64 → abstract.data_sum a anchor op w k (ops.bounds (ops.exact n)) ≡ option_map (λ (z : ℤ). known.Data anchor z) (abstract.single_sum anchor op w k n)
  exact_sum a anchor op w k n fits =
      ap (abstract.data_sum a anchor op w k) (precise.exact n fits)
      ∙ ap (λ (t : Bool). if t then option_map (λ (z : ℤ). known.Data anchor z) (abstract.single_sum anchor op w k n) else abstract.made_sum a anchor op w k (record { lo = n; hi = n })) (same_number n)

  none_mapped : (option : Option ℤ) (anchor : Anchor) → ◌≡◌ {A = Option (AbstractValue D)} (option_map (λ (z : ℤ). known.Data anchor z) option) None → option ≡ None
  none_mapped None anchor e = refl
  none_mapped (Some z) anchor e = absurd cc

  no_value : (x : AbstractValue D) → ◌≡◌ {A = Option (AbstractValue D)} (Some x) None → ⊥
  no_value x e = absurd cc

  -- The machine is stuck for that reason at a loosening of a strict member.
  pub record IsStuckFrom (s : State) (i : Insn) (reason : Reason) : Type 0 where
    pub state : State
    pub loosens : Loosens s state
    pub stuck : (c : Context) → IsContext c → effects.effect c state.memory state.registers i ≡ Err reason

  -- a refusal of the arithmetic, where the register may be written
  refused_alike : (allowed : Result (Unit {0}) Reason) (reason : Reason) → ◌≡◌ {A = Result (Next D) Reason} (allowed >>= λ u. Err PointerArithmetic) (Err reason) → ◌≡◌ {A = Result Effect Reason} (allowed >>= λ u. Err PointerArithmetic) (Err reason)
  refused_alike (Ok u) reason e = cc
  refused_alike (Err f) reason e = cc

  module _ (places : Places) (a : AbsState D) (s : State) (member : IsMemberAt Member Strict places a s) (reason : Reason)
      (bounds : reason ≡ DatagramBounds → (pos s.memory.length ≡ a.proved) × NameNoVariableAnchor a.values) where
    -- the member itself
    stuck_itself : (i : Insn) → Fits i → abstract.abstract_step ops a i ≡ Err reason → (reason ≡ PointerArithmetic → Strays ops Member sound a s i) → IsStuckFrom s i reason
    stuck_itself i fit is strays =
        let claims : AreClaims ops Member sound (λ e. e ≡ reason) Strict a s i = record {
          registers = λ c. refl;
          cells = λ c. refl;
          bounds = λ c. (bounds (sym c)).0;
          plain = λ c r made. (bounds (sym c)).1 (number_of r) made;
          arithmetic = λ c. strays (sym c);
        } in
        record {
          state = s;
          loosens = loosens_itself Member sound.words places a s member;
          stuck = λ c real.
              refused (λ e. e ≡ reason) (IsEffectOf ops Member sound Strict places a s i) (abstract.abstract_step ops a i) (effects.effect c s.memory s.registers i) reason
              (steps_agree ops Member sound (λ e. e ≡ reason) Strict places a s member c real i fit claims) is refl;
        }

    module _ (w : Width) (op : AluOp) (dst : Reg) where
      -- ---- a sum with an imm

      module _ (n : ℕ) (fits : n < 2 ^ 64) where
        imm_first : (k : ℤ) (u : Value) → u ≡ value.Data (pos 0 +ℤ k) → abstract.data_sum a First op w k (ops.bounds (ops.exact n)) ≡ None → effects.alu_result op w u (value.Scalar n) ≡ Err PointerArithmetic
        imm_first k u is none =
            let stays : moved_place op w k n ≡ None = none_mapped (moved_place op w k n) First (sym (exact_sum a First op w k n fits) ∙ none) in
            let place : (pos 0 +ℤ k) ≡ k = omega (arith, ints) in
            ap (λ (v : Value). effects.alu_result op w v (value.Scalar n)) is ∙ ap (effects.pointer_to value.Data) (ap (λ (z : ℤ). moved_place op w z n) place ∙ stays)

        imm_stack : (k : ℤ) (u : Value) → abstract.single_of ops (ops.exact n) ≡ None → effects.alu_result op w u (value.Scalar n) ≡ Err PointerArithmetic
        imm_stack k u none = let bad : Some n ≡ None = sym (exact_single n fits) ∙ none in absurd cc

        imm_none : (z : ℤ) (u : Value) → u ≡ value.Data z → moved_place op w z n ≡ None → effects.alu_result op w u (value.Scalar n) ≡ Err PointerArithmetic
        imm_none z u is none = ap (λ (v : Value). effects.alu_result op w v (value.Scalar n)) is ∙ ap (effects.pointer_to value.Data) none

        imm_by : (x : AbstractValue D) (u : Value) → (IsVariable x → ⊥) ⊎ ((k : ℤ) (m : ℕ) → moved_place op w k m ≡ None) → IsValue Member Strict places s.memory.length x u → StraysBy ops Member sound a op w x (known.Scalar (ops.exact n)) u (value.Scalar n)
        imm_by (known.Data First k) u plain h = imm_first k u h.2
        imm_by (known.Data (Variable id low high proved) k) u (inl plain) h = absurd (plain tt)
        imm_by (known.Data (Variable id low high proved) k) u (inr none) h = λ refused. imm_none (place_of places (Variable id low high proved) +ℤ k) u h.2 (none (place_of places (Variable id low high proved) +ℤ k) n)
        imm_by (known.Stack k) u plain h = imm_stack k u
        imm_by x u plain h = tt

      scalar_is : (m : ℕ) (v : Value) → ◌≡◌ {A = Result Value Reason} (Ok (value.Scalar m)) (Ok v) → value.Scalar m ≡ v
      scalar_is m v e = cc

      imm_strays : (z : ℤ) → OperandFits (operand.Imm z) → (IsConstantSum (insn.Alu w op dst (operand.Imm z)) → NameNoVariableAnchor a.values) → Strays ops Member sound a s (insn.Alu w op dst (operand.Imm z))
      imm_strays z fit plain x y u v p p' q q' =
          strays_same ops Member sound a op w (abstract_at a.values dst) x (known.Scalar (ops.exact (imm_word w z))) y (effects.value_at s.registers dst) u (value.Scalar (imm_word w z)) v
          (held_known ops Member sound (abstract_at a.values dst) x p) (ok_is ops Member sound (known.Scalar (ops.exact (imm_word w z))) y p') (held_is (effects.value_at s.registers dst) u q) (scalar_is (imm_word w z) v q')
          (imm_by (imm_word w z) (imm_below w z fit) (abstract_at a.values dst) (effects.value_at s.registers dst) (moves_or_not op w dst z (IsVariable (abstract_at a.values dst) → ⊥) (λ sums. plain sums (number_of dst))) (member.registers dst))

      -- ---- a sum with a register

      module _ (reg : Reg) where
        sum : Insn
        sum = insn.Alu w op dst (operand.Reg reg)

        -- the step, where both registers are known
        step_at : (x y : AbstractValue D) → abstract_at a.values dst ≡ x → abstract_at a.values reg ≡ y → abstract.abstract_content x ≡ Ok x → abstract.abstract_content y ≡ Ok y → abstract.abstract_step ops a sum ≡ abstract.abstract_register_write a dst (abstract.abstract_alu_result ops a op w x y)
        unfolding sum
        step_at x y p q e f =
            (λ i. abstract.abstract_content (p i) >>= λ x'. abstract.abstract_content (q i) >>= λ y'. abstract.abstract_register_write a dst (abstract.abstract_alu_result ops a op w x' y'))
            ∙ (λ i. e i >>= λ x'. f i >>= λ y'. abstract.abstract_register_write a dst (abstract.abstract_alu_result ops a op w x' y'))

        effect_at : (s : State) (u v : Value) → effects.value_at s.registers dst ≡ u → effects.value_at s.registers reg ≡ v → effects.content_of u ≡ Ok u → effects.content_of v ≡ Ok v → (context : Context) → effects.effect context s.memory s.registers sum ≡ effects.register_write dst (effects.alu_result op w u v)
        unfolding sum
        effect_at s u v p q e f context =
            (λ i. effects.content_of (p i) >>= λ u'. effects.content_of (q i) >>= λ v'. effects.register_write dst (effects.alu_result op w u' v'))
            ∙ (λ i. e i >>= λ u'. f i >>= λ v'. effects.register_write dst (effects.alu_result op w u' v'))

        -- the number of the second register is replaced by one that leads out of range
        stuck_off : (x : AbstractValue D) (y : D) (u : Value) (n : ℕ) → abstract_at a.values dst ≡ x → abstract_at a.values reg ≡ known.Scalar y → (x ≡ known.Scalar y → ⊥) → effects.value_at s.registers dst ≡ u → n < 2 ^ 64
            → abstract.abstract_content x ≡ Ok x → effects.content_of u ≡ Ok u → abstract.abstract_alu_result ops a op w x (known.Scalar y) ≡ Err PointerArithmetic → effects.alu_result op w u (value.Scalar n) ≡ Err PointerArithmetic → abstract.abstract_step ops a sum ≡ Err reason → IsStuckFrom s sum reason
        stuck_off x y u n p q other u_is fits held held_u none strays is =
            let apart : number_of dst ≡ number_of reg → ⊥ = λ same. other (sym p ∙ ap (λ (number : ℕ). slice_index_or a.values number known.Nothing) same ∙ q) in
            let number : IsHeld Member places s.memory.length (known.Scalar y) (effects.value_at s.registers reg) = subst (λ (value : AbstractValue D). IsValue Member Strict places s.memory.length value (effects.value_at s.registers reg)) q (member.registers reg) in
            let opened = replaced ops Member sound places a s member dst reg y ops.top number.0 n s.slot number.1 number.2 (sound.top n fits) in
            let new : State = opened.state in
            let dst_is : effects.value_at new.registers dst ≡ u = get_or-set_other s.registers (number_of reg) (number_of dst) (value.Scalar n) value.Nothing apart ∙ u_is in
            let r_is : effects.value_at new.registers reg ≡ value.Scalar n = get_or-set_at s.registers (number_of reg) (number_of reg) (value.Scalar n) value.Nothing refl (omega (arith, in_eleven reg, member.tagged.count)) in
            let abstract_is : ◌≡◌ {A = Result (Next D) Reason} (writable dst >>= λ t. Err PointerArithmetic) (Err reason) =
            sym (step_at x (known.Scalar y) p q held refl ∙ ap (abstract.abstract_register_write a dst) none) ∙ is in
            record {
              state = new;
              loosens = opened.loosens;
              stuck = λ c real. effect_at new u (value.Scalar n) dst_is r_is held_u refl c ∙ ap (effects.register_write dst) strays ∙ refused_alike (writable dst) reason abstract_is;
            }

        -- no sum, or one that is accepted
        no_stray : (x y : AbstractValue D) → abstract_at a.values dst ≡ x → abstract_at a.values reg ≡ y → Fits sum → ((u v : Value) → StraysBy ops Member sound a op w x y u v) → abstract.abstract_step ops a sum ≡ Err reason → IsStuckFrom s sum reason
        unfolding sum
        no_stray x y p q fit g is =
            stuck_itself sum fit is (λ e x' y' u v p' q' f f'. strays_same ops Member sound a op w x x' y y' u u v v (sym p ∙ held_known ops Member sound (abstract_at a.values dst) x' p') (sym q ∙ held_known ops Member sound (abstract_at a.values reg) y' q') refl refl (g u v))

        data_stuck : (anchor : Anchor) (k : ℤ) (y : D) (o : Option (AbstractValue D)) → abstract.data_sum a anchor op w k (ops.bounds y) ≡ o → abstract_at a.values dst ≡ known.Data anchor k → abstract_at a.values reg ≡ known.Scalar y → Fits sum → abstract.abstract_step ops a sum ≡ Err reason → IsStuckFrom s sum reason
        data_stuck anchor k y None e p q fit is =
            let place : ℤ = place_of places anchor +ℤ k in
            let held : IsHeld Member places s.memory.length (known.Data anchor k) (effects.value_at s.registers dst) = subst (λ (x : AbstractValue D). IsValue Member Strict places s.memory.length x (effects.value_at s.registers dst)) p (member.registers dst) in
            stuck_off (known.Data anchor k) y (value.Data place) (stray_if (is_near place)) p q (λ f. absurd cc) held.2 (stray_fits (is_near place)) refl refl (ap (λ (o : Option (AbstractValue D)). ok_or o PointerArithmetic) e) (data_strays op w place) is
        data_stuck anchor k y (Some v) e p q fit is = no_stray (known.Data anchor k) (known.Scalar y) p q fit (λ u u' none. absurd (no_value v (sym e ∙ none))) is

        stack_stuck : (k : ℤ) (y : D) (option : Option ℕ) → abstract.single_of ops y ≡ option → abstract_at a.values dst ≡ known.Stack k → abstract_at a.values reg ≡ known.Scalar y → Fits sum → abstract.abstract_step ops a sum ≡ Err reason → IsStuckFrom s sum reason
        stack_stuck k y None e p q fit is =
            let held : IsHeld Member places s.memory.length (known.Stack k) (effects.value_at s.registers dst) = subst (λ (x : AbstractValue D). IsValue Member Strict places s.memory.length x (effects.value_at s.registers dst)) p (member.registers dst) in
            stuck_off (known.Stack k) y (value.Stack k) (stray_if (is_near k)) p q (λ f. absurd cc) held.2 (stray_fits (is_near k)) refl refl (ap (λ (option : Option ℕ). abstract.abstract_pointer_to known.Stack (abstract.moved_by op w k option)) e) (stack_strays op w k) is
        stack_stuck k y (Some n) e p q fit is = no_stray (known.Stack k) (known.Scalar y) p q fit (λ u v none. absurd (let bad : Some n ≡ None = sym e ∙ none in cc)) is

        sum_stuck : (x y : AbstractValue D) → abstract_at a.values dst ≡ x → abstract_at a.values reg ≡ y → Fits sum → abstract.abstract_step ops a sum ≡ Err reason → IsStuckFrom s sum reason
        sum_stuck (known.Data anchor k) (known.Scalar y) p q fit is = data_stuck anchor k y (abstract.data_sum a anchor op w k (ops.bounds y)) refl p q fit is
        sum_stuck (known.Stack k) (known.Scalar y) p q fit is = stack_stuck k y (abstract.single_of ops y) refl p q fit is
        sum_stuck x y p q fit is = no_stray x y p q fit (λ u v. tt) is

    stuck_from : (i : Insn) → Fits i → abstract.abstract_step ops a i ≡ Err reason → (IsAboutPlaces reason i → NameNoVariableAnchor a.values) → IsStuckFrom s i reason
    unfolding sum
    stuck_from (insn.Alu w op dst (operand.Reg r)) fit is plain = sum_stuck w op dst r (abstract_at a.values dst) (abstract_at a.values r) refl refl fit is
    stuck_from (insn.Alu w op dst (operand.Imm n)) fit is plain = stuck_itself (insn.Alu w op dst (operand.Imm n)) fit is (λ e. imm_strays w op dst n fit (λ sums. plain (subst (λ (r : Reason). IsAboutPlaces r (insn.Alu w op dst (operand.Imm n))) (sym e) sums)))
    stuck_from i fit is plain = stuck_itself i fit is (λ e. tt)

  -- The machine is stuck at a loosening of a strict member. Where a bound of the datagram is the reason, the datagram has no
  -- more bytes than are proved, and no register names a variable anchor; where a constant is added to a pointer, no
  -- register does either.
  pub refusal_is_real : (places : Places) (a : AbsState D) (s : State) → IsMemberAt Member Strict places a s → (i : Insn) → Fits i → (reason : Reason) → abstract.abstract_step ops a i ≡ Err reason
      → (IsAboutPlaces reason i → NameNoVariableAnchor a.values) → (reason ≡ DatagramBounds → pos s.memory.length ≡ a.proved) → IsStuckFrom s i reason
  refusal_is_real places a s member i fit reason is plain size = stuck_from places a s member reason (λ e. (size e, plain (subst (λ (r : Reason). IsAboutPlaces r i) (sym e) tt))) i fit is plain
