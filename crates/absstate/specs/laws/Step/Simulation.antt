-- Internal. The abstract step of an instruction agrees with the machine's step at each member, over any sound domain.
use Rattle.std.proofs.Common.{◌≡◌, ℕ, ℤ, pos, Bool, ◌+ℤ◌, ◌≤ℤ◌, Option, Some, None, Result, Ok, Err, refl, sym, ap, ◌∙◌, subst, arith}
use Rattle.std.specs.Prelude.{◌+◌, ◌<◌, ◌≤◌, IfSome, if◌then◌else◌}
use Rattle.std.specs.Option.{ok_or}
use Rattle.insn.specs.Codes.{byte_count}
use Rattle.insn.specs.Register.{number_of}
use Rattle.insn.specs.Encoding.{OperandFits, Fits}
use Rattle.insn.specs.Words.{holds, imm_word, target_of}
use Rattle.insn.specs.declared.width.Width.{Width}
use Rattle.insn.specs.declared.width.Width.TheVariants.{W64}
use Rattle.insn.specs.declared.operator.UnaryOp.{UnaryOp}
use Rattle.insn.specs.declared.operator.UnaryOp.TheVariants.{Mov, Neg, SignExtend, Swap}
use Rattle.insn.specs.declared.register.Reg.{Reg}
use Rattle.insn.specs.declared.register.Reg.TheVariants as reg
use Rattle.insn.specs.declared.size.Size.{Size}
use Rattle.insn.specs.declared.operator.AluOp.{AluOp}
use Rattle.insn.specs.declared.condition.Condition.{Condition}
use Rattle.insn.specs.declared.instruction.Operand.{Operand}
use Rattle.insn.specs.declared.instruction.Operand.TheVariants as operand
use Rattle.insn.specs.declared.instruction.Insn.{Insn}
use Rattle.insn.specs.declared.instruction.Insn.TheVariants as insn
use Rattle.basics.specs.Fallible.{◌>>=◌, check}
use Rattle.semantics.specs.Access.{location, index_within, stack_first, group_of}
use Rattle.semantics.specs.laws.Access.{index_short}
use Rattle.semantics.specs.declared.limits.TheConstants.{GROUPS}
use Rattle.insn.specs.declared.size.Size.TheVariants as size
use Rattle.semantics.specs.Calls.{helper_of, helper_number, signature_of, question, record_bytes}
use Rattle.semantics.specs.Machine.{AddressRecord, AreBytes, Context, IsContext, State}
use Rattle.semantics.specs.declared.helper.Helper.{Helper}
use Rattle.semantics.specs.declared.helper.Helper.TheVariants as helper
use Rattle.semantics.specs.declared.helper.Inputs.{Inputs}
use Rattle.semantics.specs.declared.helper.Question.{Question}
use Rattle.semantics.specs.Effects as effects
use Rattle.semantics.specs.Loading as loading
use Rattle.semantics.specs.Effects.{value_at, writable, is_group_place}
use Rattle.semantics.specs.Runs.{IsLawful}
use Rattle.semantics.specs.declared.helper.RecordForm.{RecordForm}
use Rattle.semantics.specs.declared.helper.RecordForm.TheVariants.{Narrow}
use Rattle.semantics.specs.declared.helper.Room.{Room}
use Rattle.semantics.specs.Flow.{Straight, Jumps, flow_of}
use Rattle.semantics.specs.LooseRuns.{Bound, AtMost, Below, HoldsOf, data_bound, converse, bound_of}
use Rattle.semantics.specs.declared.reason.Reason.{Reason}
use Rattle.semantics.specs.declared.reason.Reason.TheVariants.{DatagramBounds, PointerArithmetic, PointerStored, StackBounds, UnknownHelper}
use Rattle.semantics.specs.declared.value.Value.{Value}
use Rattle.semantics.specs.declared.value.Value.TheVariants as value
use Rattle.semantics.specs.declared.effect.Effect.{Effect}
use Rattle.semantics.specs.declared.effect.Effect.TheVariants as effect
use Rattle.interval.specs.Domains.{Operations, AreSound}
use Rattle.semantics.specs.declared.fetching.Branch.{Branch}
use Rattle.std.proofs.lemmas.Int.{ints}
use Rattle.absstate.specs.declared.branching.Implied.{Implied}
use Rattle.absstate.specs.AbstractStates.{abstract_at, greatest_id, with_value, abstract_with_pointer, with_least}
use Rattle.absstate.specs.AbstractSteps as abstract
use Rattle.absstate.specs.AbstractSteps.{access_region}
use Rattle.absstate.specs.Membership.{Mode, Places, IsNumberOf, IsHeld, IsMemberAt, IsAnchorPlace, IsAnchored, place_of, concrete_value}
use Rattle.absstate.specs.declared.abstract_state.Anchor.{Anchor}
use Rattle.absstate.specs.declared.abstract_state.Anchor.TheVariants.{First, Variable}
use Rattle.absstate.specs.laws.Step.Anchors.{Extends, extends_itself}
use Rattle.absstate.specs.declared.abstract_state.AbstractValue.{AbstractValue}
use Rattle.absstate.specs.declared.abstract_state.AbstractValue.TheVariants as known
use Rattle.absstate.specs.declared.abstract_state.AbsState.{AbsState}
use Rattle.absstate.specs.declared.memory.Region.{Region}
use Rattle.absstate.specs.declared.abstract_step.Next.{Next}
use Rattle.absstate.specs.declared.abstract_step.Next.TheVariants as next
use Rattle.absstate.specs.laws.Step.Agreement.{Agree, and_then, same_test}
use Rattle.absstate.specs.laws.Step.Bounds.{Implies, IsLeast, IsNearBound, near_bound, bound_on_places, data_shifts, branch_if, first_agree, second_agree}
use Rattle.absstate.specs.laws.Step.MemoryValues.{IsRegionOf}
use Rattle.absstate.specs.laws.Step.Anchors.{IsVariable, reach_at, reach_of, reach_positive, reach_at_most}
use Rattle.absstate.specs.laws.Step.Arithmetic.{IsHeldAnew, held_is, held_known, ok_is, read_agrees, operand_agrees, StraysBy, result_held, unary_held, AreClaims}
use Rattle.absstate.specs.laws.Step.Forking.{Forks, fork_by, forked, length_within}
use Rattle.absstate.specs.laws.Step.Reading.{IsGiven, locations_agree, load_agrees, signed_agrees, inputs_agree}
use Rattle.absstate.specs.laws.Step.Results.{IsResult, of_member, held_results}

-- its one branch leads to the next instruction
abbrev pub GoesPast : Insn → Type 0
GoesPast i = flow_of i ≡ Straight

module _ {D : Type 0} (ops : Operations D) (Member : D → ℕ → Type 0) (sound : AreSound ops Member) where
  -- ---- what follows

  -- a question to lawful helpers: the answer lies within its bound, and the record that is given is a wide one
  pub record IsAsked (a : AbsState D) (i : Insn) (state : AbsState D) (q : Question) (out : Option Room) : Type 0 where
    pub asked : Helper
    pub after : state ≡ abstract.state_after_call ops a asked out
    pub past : GoesPast i
    pub room : IfSome out (λ room. room.index + record_bytes room.form ≤ 512)
    pub lawful : (answer : ℕ → ℕ → AddressRecord → ℕ × AddressRecord) → IsLawful answer → ((answer q.helper q.number q.address).0 ≤ (signature_of asked).greatest) × IfSome out (λ room. AreBytes 20 (answer q.helper q.number q.address).1)

  -- a result, with the anchors at places at which those that registers name stay
  pub record IsResultAnew (places : Places) (size : ℕ) (a : AbsState D) (x : AbstractValue D) (v : Value) : Type 0 where
    pub more : Places
    pub extends : Extends (greatest_id a.values) places more
    pub result : IsResult Member more size x v

  -- the effect of an instruction, and the abstract state after it
  abbrev pub IsEffectOf : Mode → Places → AbsState D → State → Insn → Next D → Effect → Type 0
  IsEffectOf mode places a s i (next.On b) (effect.Write r v) = (known : AbstractValue D) × (b ≡ with_value a r known) × IsResultAnew places s.memory.length a known v × GoesPast i
  IsEffectOf mode places a s i (next.On b) (effect.Store at z n) = (region : Region) × (b ≡ abstract.with_region a (byte_count z) region) × IsRegionOf (byte_count z) region at × GoesPast i
  IsEffectOf mode places a s i (next.On b) (effect.StorePointer g v) = (known : AbstractValue D) × (b ≡ abstract_with_pointer a g known) × IsHeld Member places s.memory.length known v × (g < GROUPS) × GoesPast i
  IsEffectOf mode places a s i (next.On b) (effect.Ask q out) = IsAsked a i b q out
  IsEffectOf mode places a s i (next.On b) (effect.SetWindow window) = (b ≡ abstract.state_after_call ops a helper.Window None) × GoesPast i
  IsEffectOf mode places a s i (next.On b) (effect.SetDestination destination) = (b ≡ abstract.state_after_call ops a (helper.Destination Narrow) None) × GoesPast i
  IsEffectOf mode places a s i (next.On b) (effect.Jump offset) = (b ≡ a) × (flow_of i ≡ Jumps offset)
  IsEffectOf mode places a s i (next.On b) effect.Pass = ⊥
  IsEffectOf mode places a s i (next.On b) (effect.Exit verdict) = ⊥
  IsEffectOf mode places a s i (next.Fork not_taken taken) effect = Forks ops Member sound mode places a s i not_taken taken effect
  IsEffectOf mode places a s i next.Exit (effect.Exit verdict) = Unit {0}
  IsEffectOf mode places a s i next.Exit (effect.Write r v) = ⊥
  IsEffectOf mode places a s i next.Exit (effect.Store at z n) = ⊥
  IsEffectOf mode places a s i next.Exit (effect.StorePointer g v) = ⊥
  IsEffectOf mode places a s i next.Exit (effect.Ask q out) = ⊥
  IsEffectOf mode places a s i next.Exit (effect.SetWindow window) = ⊥
  IsEffectOf mode places a s i next.Exit (effect.SetDestination destination) = ⊥
  IsEffectOf mode places a s i next.Exit (effect.Jump offset) = ⊥
  IsEffectOf mode places a s i next.Exit effect.Pass = ⊥

  module _ (claimed : Reason → Type 0) (mode : Mode) (places : Places) (a : AbsState D) (s : State) (member : IsMemberAt Member mode places a s) where
    -- the refusals of an instruction that are claimed
    abbrev Claims : Insn → Type 0
    Claims i = AreClaims ops Member sound claimed mode a s i

    strays_if : (w : Width) (op : AluOp) (o : Operand) (dst : Reg) → OperandFits o → Claims (insn.Alu w op dst o) → (x y : AbstractValue D) (u v : Value) → abstract.abstract_register_value a dst ≡ Ok x → abstract.operand_abstract ops w a o ≡ Ok y
        → effects.register_value s.registers dst ≡ Ok u → effects.operand_value w s.registers o ≡ Ok v → claimed PointerArithmetic → StraysBy ops Member sound a op w x y u v
    strays_if w op o dst fit claims x y u v p p' h q' l = claims.arithmetic l x y u v p p' h q'

    -- a result is written
    anew_written : (i : Insn) (dst : Reg) (r : Result (AbstractValue D) Reason) (r' : Result Value Reason) → GoesPast i → Agree claimed (IsResultAnew places s.memory.length a) r r' → Agree claimed (IsEffectOf mode places a s i) (abstract.abstract_register_write a dst r) (effects.register_write dst r')
    anew_written i dst r r' past agree =
        same_test claimed (IsEffectOf mode places a s i) (writable dst) _ _
        (and_then claimed (IsResultAnew places s.memory.length a) (IsEffectOf mode places a s i) r r' _ _ agree (λ k v p q result. (k, refl, result, past)))

    anew : (r : Result (AbstractValue D) Reason) (r' : Result Value Reason) → Agree claimed (IsResult Member places s.memory.length) r r' → Agree claimed (IsResultAnew places s.memory.length a) r r'
    anew (Ok k) (Ok v) h = record { more = places; extends = extends_itself (greatest_id a.values) places; result = h }
    anew (Ok k) (Err e) h = absurd h
    anew (Err e) (Ok v) h = h
    anew (Err e) (Err f) h = h

    held_anew : (r : Result (AbstractValue D) Reason) (r' : Result Value Reason) → Agree claimed (IsHeldAnew ops Member sound places s.memory.length a) r r' → Agree claimed (IsResultAnew places s.memory.length a) r r'
    held_anew (Ok k) (Ok v) h = record { more = h.more; extends = h.extends; result = of_member Member h.more s.memory.length k v h.held }
    held_anew (Ok k) (Err e) h = absurd h
    held_anew (Err e) (Ok v) h = h
    held_anew (Err e) (Err f) h = h

    result_written : (i : Insn) (dst : Reg) (r : Result (AbstractValue D) Reason) (r' : Result Value Reason) → GoesPast i → Agree claimed (IsResult Member places s.memory.length) r r' → Agree claimed (IsEffectOf mode places a s i) (abstract.abstract_register_write a dst r) (effects.register_write dst r')
    result_written i dst r r' past agree = anew_written i dst r r' past (anew r r' agree)

    written_agrees : (i : Insn) (dst : Reg) (r : Result (AbstractValue D) Reason) (r' : Result Value Reason) → GoesPast i → Agree claimed (IsHeld Member places s.memory.length) r r' → Agree claimed (IsEffectOf mode places a s i) (abstract.abstract_register_write a dst r) (effects.register_write dst r')
    written_agrees i dst r r' past agree = result_written i dst r r' past (held_results claimed Member places s.memory.length r r' agree)

    alu_agrees : (w : Width) (op : AluOp) (dst : Reg) (o : Operand) → OperandFits o → Claims (insn.Alu w op dst o)
        → Agree claimed (IsEffectOf mode places a s (insn.Alu w op dst o)) (abstract.alu_step ops a w op dst o) (effects.alu_effect s.registers w op dst o)
    alu_agrees w op dst o fit claims =
        and_then claimed (IsHeld Member places s.memory.length) (IsEffectOf mode places a s (insn.Alu w op dst o)) (abstract.abstract_register_value a dst) (effects.register_value s.registers dst) _ _
        (read_agrees ops Member sound claimed mode places claims.registers a s member dst)
        (λ x u p q held_x. and_then claimed (IsHeld Member places s.memory.length) (IsEffectOf mode places a s (insn.Alu w op dst o)) (abstract.operand_abstract ops w a o) (effects.operand_value w s.registers o) _ _
        (operand_agrees ops Member sound claimed mode places claims.registers a s member w o fit)
        (λ y v p' q' held_y. anew_written (insn.Alu w op dst o) dst (abstract.abstract_alu_result ops a op w x y) (effects.alu_result op w u v) refl
        (held_anew (abstract.abstract_alu_result ops a op w x y) (effects.alu_result op w u v) (result_held ops Member sound claimed places s.memory.length a member.reaches op w x y u v held_x held_y (strays_if w op o dst fit claims x y u v p p' q q')))))

    unary_agrees : (i : Insn) (w : Width) (op : UnaryOp) (dst : Reg) (o : Operand) → GoesPast i → OperandFits o → Claims i
        → Agree claimed (IsEffectOf mode places a s i) (abstract.unary_step ops a w op dst o) (effects.unary_effect s.registers w op dst o)
    unary_agrees i w op dst o past fit claims =
        and_then claimed (IsHeld Member places s.memory.length) (IsEffectOf mode places a s i) (abstract.operand_abstract ops w a o) (effects.operand_value w s.registers o) _ _
        (operand_agrees ops Member sound claimed mode places claims.registers a s member w o fit)
        (λ x u p q held. written_agrees i dst (abstract.abstract_unary_result ops op x) (effects.unary_result op u) past (unary_held ops Member sound claimed places s.memory.length a member.reaches op x u held))

    module _ (w : Width) (condition : Condition) (dst : Reg) (o : Operand) (offset : ℤ) where
      abbrev ForksAgree : AbstractValue D → AbstractValue D → Value → Value → Type 0
      ForksAgree x y u v = Agree claimed (IsEffectOf mode places a s (insn.JumpIf w condition dst o offset)) (abstract.fork ops a w condition dst o x y) (effects.comparison_result s.memory.length w condition u v >>= λ taken. Ok (if taken then effect.Jump offset else effect.Pass))

    at_agrees : (anchor : Anchor) (bound real : Branch → Option Bound) (w : Width) (condition : Condition) (dst : Reg) (o : Operand) (offset : ℤ) (result : Result Implied Reason) (r' : Result Bool Reason) → Agree claimed (Implies bound real s.memory.length) result r'
        → ((t : Implied) (taken : Bool) → Implies bound real s.memory.length t taken → IsEffectOf mode places a s (insn.JumpIf w condition dst o offset) (next.Fork (Some (with_least a anchor t.not_taken)) (Some (with_least a anchor t.taken))) (if taken then effect.Jump offset else effect.Pass))
        → Agree claimed (IsEffectOf mode places a s (insn.JumpIf w condition dst o offset)) (abstract.at_anchor anchor result >>= λ t. Ok (next.Fork (Some (with_least a t.0 t.1.not_taken)) (Some (with_least a t.0 t.1.taken)))) (r' >>= λ taken. Ok (if taken then effect.Jump offset else effect.Pass))
    at_agrees anchor bound real w condition dst o offset (Ok t) (Ok taken) agree on = on t taken agree
    at_agrees anchor bound real w condition dst o offset (Ok t) (Err e) agree on = absurd agree
    at_agrees anchor bound real w condition dst o offset (Err e) (Ok taken) agree on = agree
    at_agrees anchor bound real w condition dst o offset (Err e) (Err f) agree on = agree

    abbrev extra_of : Anchor → ℤ → ℤ
    extra_of anchor k = reach_at {D = D} (known.Data anchor k)

    -- a pointer that a register holds reaches no farther than the registers do
    abbrev IsWithin : AbstractValue D → Type 0
    IsWithin x = reach_at x ≤ℤ reach_of a.values

    read_within : (reg : Reg) (x : AbstractValue D) → abstract.abstract_register_value a reg ≡ Ok x → IsWithin x
    read_within reg x p = subst IsWithin (held_known ops Member sound (abstract_at a.values reg) x p) (reach_at_most a.values (number_of reg))

    operand_within : (w : Width) (o : Operand) (y : AbstractValue D) → abstract.operand_abstract ops w a o ≡ Ok y → IsWithin y
    operand_within w (operand.Reg r) y p = read_within r y p
    operand_within w (operand.Imm n) y p = subst IsWithin (ok_is ops Member sound (known.Scalar (ops.exact (imm_word w n))) y p) (reach_positive a.values)

    made_enough : (id : ℕ) (low high proved : ℤ) (k : ℤ) (b : Option Bound) → IsNearBound k b → IsAnchorPlace s.memory.length low high proved (places id) → ((high +ℤ k) +ℤ pos 1) ≤ℤ pos s.memory.length → IsLeast (places id) (abstract.least_of b) s.memory.length
    made_enough id low high proved k None near is le = tt
    made_enough id low high proved k (Some (AtMost j)) near is le = omega (arith, ints, near, le, is.greatest)
    made_enough id low high proved k (Some (Below j)) near is le = omega (arith, ints, near, le, is.greatest)

    bound_enough : (anchor : Anchor) (k : ℤ) (b : Option Bound) → IsNearBound k b → IsAnchored places s.memory.length anchor → (with_least a anchor (abstract.least_of b)).proved ≤ℤ pos s.memory.length → extra_of anchor k ≤ℤ pos s.memory.length → IsLeast (place_of places anchor) (abstract.least_of b) s.memory.length
    bound_enough First k b near is le le' = length_within ops Member sound a (abstract.least_of b) s.memory.length le
    bound_enough (Variable id low high proved) k b near is le le' = made_enough id low high proved k b near is le'

    implies_shifted : (bound real : Branch → Option Bound) (place : ℤ) (t : Implied) (taken : Bool) → ((way : Branch) → real way ≡ bound_on_places place (bound way)) → Implies bound real s.memory.length t taken → Implies bound (λ way. bound_on_places place (bound way)) s.memory.length t taken
    implies_shifted bound real place t taken is f = (f.0, subst (λ (b : Option Bound). HoldsOf b s.memory.length) (is (branch_if taken)) f.1)

    data_fork : (condition : Condition) (dst : Reg) (o : Operand) (offset : ℤ) (anchor : Anchor) (k : ℤ) → IsWithin (known.Data anchor k) → IsAnchored places s.memory.length anchor → value_at s.registers dst ≡ value.Data (place_of places anchor +ℤ k) → effects.operand_value W64 s.registers o ≡ Ok value.End → ForksAgree W64 condition dst o offset (known.Data anchor k) known.End (value.Data (place_of places anchor +ℤ k)) value.End
    data_fork condition dst o offset anchor k within h dst_is o_is =
        at_agrees anchor (data_bound condition k) (data_bound condition (place_of places anchor +ℤ k)) W64 condition dst o offset (abstract.order_implication condition (data_bound condition k)) (effects.comparison_of_places condition (place_of places anchor +ℤ k) (pos s.memory.length)) (first_agree claimed k (place_of places anchor +ℤ k) s.memory.length condition)
        (λ t taken implies. forked ops Member sound mode places a s member W64 condition dst o offset anchor (data_bound condition k) (extra_of anchor k) within (λ way. bound_enough anchor k (data_bound condition k way) (near_bound k condition way) h) value.End o_is
        (λ way. ap (λ (v : Value). bound_of condition v value.End way) dst_is ∙ data_shifts (place_of places anchor) k condition way) t taken
        (implies_shifted (data_bound condition k) (data_bound condition (place_of places anchor +ℤ k)) (place_of places anchor) t taken (data_shifts (place_of places anchor) k condition) implies))

    end_fork : (condition : Condition) (dst : Reg) (o : Operand) (offset : ℤ) (anchor : Anchor) (k : ℤ) → IsWithin (known.Data anchor k) → IsAnchored places s.memory.length anchor → value_at s.registers dst ≡ value.End → effects.operand_value W64 s.registers o ≡ Ok (value.Data (place_of places anchor +ℤ k)) → ForksAgree W64 condition dst o offset known.End (known.Data anchor k) value.End (value.Data (place_of places anchor +ℤ k))
    end_fork condition dst o offset anchor k within h dst_is o_is =
        at_agrees anchor (data_bound (converse condition) k) (data_bound (converse condition) (place_of places anchor +ℤ k)) W64 condition dst o offset (abstract.order_implication condition (data_bound (converse condition) k)) (effects.comparison_of_places condition (pos s.memory.length) (place_of places anchor +ℤ k)) (second_agree claimed k (place_of places anchor +ℤ k) s.memory.length condition)
        (λ t taken implies. forked ops Member sound mode places a s member W64 condition dst o offset anchor (data_bound (converse condition) k) (extra_of anchor k) within (λ way. bound_enough anchor k (data_bound (converse condition) k way) (near_bound k (converse condition) way) h) (value.Data (place_of places anchor +ℤ k)) o_is
        (λ way. ap (λ (v : Value). bound_of condition v (value.Data (place_of places anchor +ℤ k)) way) dst_is ∙ data_shifts (place_of places anchor) k (converse condition) way) t taken
        (implies_shifted (data_bound (converse condition) k) (data_bound (converse condition) (place_of places anchor +ℤ k)) (place_of places anchor) t taken (data_shifts (place_of places anchor) k (converse condition)) implies))

    forks_agree : (w : Width) (condition : Condition) (dst : Reg) (o : Operand) (offset : ℤ) (x y : AbstractValue D) (m j : ℕ) → IsWithin x → IsWithin y → IsNumberOf Member places s.memory.length x m → IsNumberOf Member places s.memory.length y j → value_at s.registers dst ≡ concrete_value places x m → effects.operand_value w s.registers o ≡ Ok (concrete_value places y j)
        → ForksAgree w condition dst o offset x y (concrete_value places x m) (concrete_value places y j)
    forks_agree w condition dst o offset (known.Scalar x) (known.Scalar y) m j wx wy h g dst_is o_is = fork_by ops Member sound mode places a s member w condition dst o offset x y m j h g dst_is o_is (holds condition w m j) refl
    forks_agree W64 condition dst o offset (known.Data anchor k) known.End m j wx wy h g dst_is o_is = data_fork condition dst o offset anchor k wx h dst_is o_is
    forks_agree W64 condition dst o offset known.End (known.Data anchor k) m j wx wy h g dst_is o_is = end_fork condition dst o offset anchor k wy g dst_is o_is
    forks_agree w condition dst o offset x y m j wx wy h g dst_is o_is = λ claim. refl

    fork_held : (w : Width) (condition : Condition) (dst : Reg) (o : Operand) (offset : ℤ) (x y : AbstractValue D) (u v : Value) → IsWithin x → IsWithin y → IsHeld Member places s.memory.length x u → IsHeld Member places s.memory.length y v → effects.register_value s.registers dst ≡ Ok u → effects.operand_value w s.registers o ≡ Ok v → ForksAgree w condition dst o offset x y u v
    fork_held w condition dst o offset x y u v wx wy hx hy p h =
        subst (λ (u' : Value). ForksAgree w condition dst o offset x y u' v) (sym hx.2) (subst (λ (v' : Value). ForksAgree w condition dst o offset x y (concrete_value places x hx.0) v') (sym hy.2)
        (forks_agree w condition dst o offset x y hx.0 hy.0 wx wy hx.1 hy.1 (held_is (value_at s.registers dst) u p ∙ hx.2) (h ∙ ap Ok hy.2)))

    jumps_agree : (w : Width) (condition : Condition) (dst : Reg) (o : Operand) (offset : ℤ) → OperandFits o → Claims (insn.JumpIf w condition dst o offset)
        → Agree claimed (IsEffectOf mode places a s (insn.JumpIf w condition dst o offset)) (abstract.branch_step ops a w condition dst o) (effects.jump_if_effect s.registers s.memory.length w condition dst o offset)
    jumps_agree w condition dst o offset fit claims =
        and_then claimed (IsHeld Member places s.memory.length) (IsEffectOf mode places a s (insn.JumpIf w condition dst o offset)) (abstract.abstract_register_value a dst) (effects.register_value s.registers dst) _ _
        (read_agrees ops Member sound claimed mode places claims.registers a s member dst)
        (λ x u p q held_x. and_then claimed (IsHeld Member places s.memory.length) (IsEffectOf mode places a s (insn.JumpIf w condition dst o offset)) (abstract.operand_abstract ops w a o) (effects.operand_value w s.registers o) _ _
        (operand_agrees ops Member sound claimed mode places claims.registers a s member w o fit)
        (λ y v p' q' held_y. fork_held w condition dst o offset x y u v (read_within dst x p) (operand_within w o y p') held_x held_y q q'))

    plain_at : (i : Insn) → Claims i → (reg : Reg) (x : AbstractValue D) → abstract.abstract_register_value a reg ≡ Ok x → claimed DatagramBounds → IsVariable x → ⊥
    plain_at i claims reg x p c is = claims.plain c reg (subst IsVariable (sym (held_known ops Member sound (abstract_at a.values reg) x p)) is)

    loads_agree : (i : Insn) (known_of : AbstractValue D → Result (AbstractValue D) Reason) (loaded : Value → Result Value Reason) (dst base : Reg) → GoesPast i → Claims i
        → ((x : AbstractValue D) → (claimed DatagramBounds → IsVariable x → ⊥) → (m : ℕ) → IsNumberOf Member places s.memory.length x m → Agree claimed (IsResult Member places s.memory.length) (known_of x) (loaded (concrete_value places x m)))
        → Agree claimed (IsEffectOf mode places a s i) (abstract.loaded_step a known_of dst base) (effects.loaded_effect s.registers loaded dst base)
    loads_agree i known_of loaded dst base past claims agree =
        and_then claimed (IsHeld Member places s.memory.length) (IsEffectOf mode places a s i) (abstract.abstract_register_value a base) (effects.register_value s.registers base) _ _
        (read_agrees ops Member sound claimed mode places claims.registers a s member base)
        (λ x u p q held. result_written i dst (known_of x) (loaded u) past
        (subst (λ (u' : Value). Agree claimed (IsResult Member places s.memory.length) (known_of x) (loaded u')) (sym held.2) (agree x (plain_at i claims base x p) held.0 held.1)))

    -- ---- stores

    stores_agree : (z : Size) (base : Reg) (o : Operand) (d : ℤ) → OperandFits o → Claims (insn.Store z base o d)
        → Agree claimed (IsEffectOf mode places a s (insn.Store z base o d)) (abstract.store_step ops a z base o d) (effects.store_effect s.registers s.memory.length z base o d)
    stores_agree z base o d fit claims =
        and_then claimed (IsHeld Member places s.memory.length) (IsEffectOf mode places a s (insn.Store z base o d)) (abstract.abstract_register_value a base) (effects.register_value s.registers base) _ _
        (read_agrees ops Member sound claimed mode places claims.registers a s member base)
        (λ x u p q held_x. and_then claimed (IsHeld Member places s.memory.length) (IsEffectOf mode places a s (insn.Store z base o d)) (abstract.operand_abstract ops W64 a o) (effects.operand_value W64 s.registers o) _ _
        (operand_agrees ops Member sound claimed mode places claims.registers a s member W64 o fit)
        (λ y v p' q' held_y. store_held z base o d claims x (plain_at (insn.Store z base o d) claims base x p) y u v held_x held_y)) where
          pointers_agree : (x : AbstractValue D) (m : ℕ) → IsNumberOf Member places s.memory.length x m → Agree claimed (λ u v. Unit {0}) (abstract.abstract_pointer x) (effects.pointer (concrete_value places x m))
          pointers_agree (known.Scalar j) m h = λ c. refl
          pointers_agree known.Nothing m h = tt
          pointers_agree known.Ctx m h = tt
          pointers_agree (known.Stack k) m h = tt
          pointers_agree (known.Data anchor k) m h = tt
          pointers_agree known.End m h = tt

          -- a number is stored
          numbers_agree : (z : Size) (base : Reg) (o : Operand) (d : ℤ) → Claims (insn.Store z base o d) → (x : AbstractValue D) → (claimed DatagramBounds → IsVariable x → ⊥) → (m n : ℕ) → IsNumberOf Member places s.memory.length x m
              → Agree claimed (IsEffectOf mode places a s (insn.Store z base o d)) (abstract.abstract_store_number a x d z) (effects.store_number s.memory.length (concrete_value places x m) d z n)
          numbers_agree z base o d claims x plain m n h =
              and_then claimed (IsRegionOf (byte_count z)) (IsEffectOf mode places a s (insn.Store z base o d)) (abstract.access_region a x d (byte_count z)) (location s.memory.length (concrete_value places x m) d (byte_count z)) _ _
              (locations_agree ops Member sound claimed mode places a s member (insn.Store z base o d) claims x plain m d (byte_count z) h)
              (λ r at e f is. (r, refl, is, refl))

          -- a pointer is stored
          at_group : (i : Insn) → GoesPast i → (option : Option ℕ) (y : AbstractValue D) (v : Value) → IsHeld Member places s.memory.length y v → ((j : ℕ) → option ≡ Some j → j + 8 ≤ 512)
              → Agree claimed (IsEffectOf mode places a s i) (ok_or option StackBounds >>= λ j. Ok (next.On (abstract_with_pointer a (group_of j) y))) (ok_or option StackBounds >>= λ j. Ok (effect.StorePointer (group_of j) v))
          at_group i past None y v held short = λ c. refl
          at_group i past (Some j) y v held short = (y, refl, held, omega (arith, short j refl), past)

          pointers_stored : (z : Size) (base : Reg) (o : Operand) (d : ℤ) (x : AbstractValue D) (m : ℕ) → IsNumberOf Member places s.memory.length x m → (y : AbstractValue D) (v : Value) → IsHeld Member places s.memory.length y v
              → Agree claimed (IsEffectOf mode places a s (insn.Store z base o d)) (abstract.abstract_store_pointer a x d z y) (effects.store_pointer (concrete_value places x m) d z v)
          pointers_stored size.Double base o d (known.Stack k) m h y v held =
              same_test claimed (IsEffectOf mode places a s (insn.Store size.Double base o d)) (check (is_group_place (k +ℤ d)) PointerStored) _ _
              (at_group (insn.Store size.Double base o d) refl (index_within (k +ℤ d) 8 stack_first stack_first (pos 0)) y v held (λ j e. index_short (k +ℤ d) 8 j e))
          pointers_stored size.Word base o d (known.Stack k) m h y v held = λ c. refl
          pointers_stored size.Half base o d (known.Stack k) m h y v held = λ c. refl
          pointers_stored size.Byte base o d (known.Stack k) m h y v held = λ c. refl
          pointers_stored z base o d known.Nothing m h y v held = λ c. refl
          pointers_stored z base o d (known.Scalar n) m h y v held = λ c. refl
          pointers_stored z base o d known.Ctx m h y v held = λ c. refl
          pointers_stored z base o d (known.Data anchor k) m h y v held = λ c. refl
          pointers_stored z base o d known.End m h y v held = λ c. refl

          values_agree : (z : Size) (base : Reg) (o : Operand) (d : ℤ) → Claims (insn.Store z base o d) → (x : AbstractValue D) → (claimed DatagramBounds → IsVariable x → ⊥) → (m : ℕ) → IsNumberOf Member places s.memory.length x m → (y : AbstractValue D) (j : ℕ) → IsNumberOf Member places s.memory.length y j
              → Agree claimed (IsEffectOf mode places a s (insn.Store z base o d)) (abstract.store_known a x d z y) (effects.store_value s.memory.length (concrete_value places x m) d z (concrete_value places y j))
          values_agree z base o d claims x plain m h (known.Scalar number) j g = numbers_agree z base o d claims x plain m j h
          values_agree z base o d claims x plain m h known.Nothing j g = absurd g
          values_agree z base o d claims x plain m h known.Ctx j g = pointers_stored z base o d x m h known.Ctx value.Ctx (j, g, refl)
          values_agree z base o d claims x plain m h (known.Stack k) j g = pointers_stored z base o d x m h (known.Stack k) (value.Stack k) (j, g, refl)
          values_agree z base o d claims x plain m h (known.Data anchor k) j g = pointers_stored z base o d x m h (known.Data anchor k) (value.Data (place_of places anchor +ℤ k)) (j, g, refl)
          values_agree z base o d claims x plain m h known.End j g = pointers_stored z base o d x m h known.End value.End (j, g, refl)

          store_numbers : (z : Size) (base : Reg) (o : Operand) (d : ℤ) → Claims (insn.Store z base o d) → (x : AbstractValue D) → (claimed DatagramBounds → IsVariable x → ⊥) → (y : AbstractValue D) (m j : ℕ) → IsNumberOf Member places s.memory.length x m → IsNumberOf Member places s.memory.length y j
              → Agree claimed (IsEffectOf mode places a s (insn.Store z base o d)) (abstract.abstract_pointer x >>= λ u. abstract.store_known a x d z y) (effects.pointer (concrete_value places x m) >>= λ u. effects.store_value s.memory.length (concrete_value places x m) d z (concrete_value places y j))
          store_numbers z base o d claims x plain y m j h g =
              and_then claimed (λ u v. Unit {0}) (IsEffectOf mode places a s (insn.Store z base o d)) (abstract.abstract_pointer x) (effects.pointer (concrete_value places x m)) _ _ (pointers_agree x m h)
              (λ u u' p q t. values_agree z base o d claims x plain m h y j g)

          store_held : (z : Size) (base : Reg) (o : Operand) (d : ℤ) → Claims (insn.Store z base o d) → (x : AbstractValue D) → (claimed DatagramBounds → IsVariable x → ⊥) → (y : AbstractValue D) (u v : Value) → IsHeld Member places s.memory.length x u → IsHeld Member places s.memory.length y v
              → Agree claimed (IsEffectOf mode places a s (insn.Store z base o d)) (abstract.abstract_pointer x >>= λ t. abstract.store_known a x d z y) (effects.pointer u >>= λ t. effects.store_value s.memory.length u d z v)
          store_held z base o d claims x plain y u v hx hy =
              subst (λ (u' : Value). Agree claimed (IsEffectOf mode places a s (insn.Store z base o d)) (abstract.abstract_pointer x >>= λ t. abstract.store_known a x d z y) (effects.pointer u' >>= λ t. effects.store_value s.memory.length u' d z v)) (sym hx.2)
              (subst (λ (v' : Value). Agree claimed (IsEffectOf mode places a s (insn.Store z base o d)) (abstract.abstract_pointer x >>= λ t. abstract.store_known a x d z y) (effects.pointer (concrete_value places x hx.0) >>= λ t. effects.store_value s.memory.length (concrete_value places x hx.0) d z v')) (sym hy.2)
              (store_numbers z base o d claims x plain y hx.0 hy.0 hx.1 hy.1))

    asks : (i : Insn) (asked : Helper) (q : Question) (out : Option Room) → GoesPast i → IfSome out (λ room. room.index + record_bytes room.form ≤ 512) → ((answer : ℕ → ℕ → AddressRecord → ℕ × AddressRecord) → IsLawful answer → ((answer q.helper q.number q.address).0 ≤ (signature_of asked).greatest) × IfSome out (λ room. AreBytes 20 (answer q.helper q.number q.address).1))
        → IsAsked a i (abstract.state_after_call ops a asked out) q out
    asks i helper q out past room lawful = record { asked = helper; after = refl; past = past; room = room; lawful = lawful }

    -- helpers that write no record
    two_read : (result other : Result (Unit {0}) Reason) (out : Option Room) → ((result >>= λ u. Ok None) >>= λ first. (other >>= λ u. Ok first) >>= λ second. Ok second) ≡ Ok out → out ≡ None
    two_read (Ok u) (Ok v) out e = cc
    two_read (Ok u) (Err f) out e = absurd cc
    two_read (Err e') result out e = absurd cc

    three_read : (result other further : Result (Unit {0}) Reason) (out : Option Room) → ((result >>= λ u. Ok None) >>= λ first. (other >>= λ u. Ok first) >>= λ second. (further >>= λ u. Ok second) >>= λ third. Ok third) ≡ Ok out → out ≡ None
    three_read (Ok u) (Ok v) (Ok t) out e = cc
    three_read (Ok u) (Ok v) (Err f) out e = absurd cc
    three_read (Ok u) (Err f) result out e = absurd cc
    three_read (Err e') result further out e = absurd cc

    by_address : (form : RecordForm) (out : Option Room) → ((abstract.abstract_context_argument a reg.R1 >>= λ u. Ok None) >>= λ first. (abstract.abstract_record_argument a form reg.R2 >>= λ u. Ok first) >>= λ second. Ok second) ≡ Ok out → out ≡ None
    by_address form out e = two_read (abstract.abstract_context_argument a reg.R1) (abstract.abstract_record_argument a form reg.R2) out e

    -- the answer to a question without a record to write
    looks_up : (i : Insn) (helper : Helper) (out : Option Room) (given : Inputs) → GoesPast i → out ≡ None → IsGiven out given
        → ((answer : ℕ → ℕ → AddressRecord → ℕ × AddressRecord) → IsLawful answer → (answer (helper_number helper) given.number given.address).0 ≤ (signature_of helper).greatest)
        → IsAsked a i (abstract.state_after_call ops a helper out) (question helper given.number given.address) given.out
    looks_up i helper None given past e is lawful =
        subst (λ (option : Option Room). IsAsked a i (abstract.state_after_call ops a helper None) (question helper given.number given.address) option) is.2 (asks i helper (question helper given.number given.address) None past tt (λ answer lawful_answer. (lawful answer lawful_answer, tt)))
    looks_up i helper (Some j) given past e is lawful = absurd cc

    helped : (c : Context) (n : ℤ) (helper : Helper) (out : Option Room) (given : Inputs) → abstract.out_of a (signature_of helper).arguments ≡ Ok out → IsGiven out given
        → IsEffectOf mode places a s (insn.Call n) (next.On (abstract.state_after_call ops a helper out)) (effects.effect_with c s.memory helper given)
    helped c n (helper.ChannelPeer form) out given e is =
        subst (λ (option : Option Room). IsAsked a (insn.Call n) (abstract.state_after_call ops a (helper.ChannelPeer form) out) (question (helper.ChannelPeer form) given.number given.address) option) is.2
        (asks (insn.Call n) (helper.ChannelPeer form) (question (helper.ChannelPeer form) given.number given.address) out refl is.3
        (λ answer lawful. let peer = lawful.channel_peer form given.number given.address is.0 is.1 in (peer.0, of_out out (answer (helper_number (helper.ChannelPeer form)) given.number given.address).1 peer.1))) where
          of_out : (out : Option Room) (bytes : AddressRecord) → AreBytes 20 bytes → IfSome out (λ room. AreBytes 20 bytes)
          of_out None bytes are = tt
          of_out (Some room) bytes are = are
    helped c n (helper.ChannelTo form) out given e is = looks_up (insn.Call n) (helper.ChannelTo form) out given refl (by_address form out e) is (λ answer lawful. lawful.channel_to form given.number given.address is.0 is.1)
    helped c n (helper.Permitted form) out given e is = looks_up (insn.Call n) (helper.Permitted form) out given refl (by_address form out e) is (λ answer lawful. lawful.permitted form given.number given.address is.0 is.1)
    helped c n helper.Window out given e is =
        (ap (λ (option : Option Room). abstract.state_after_call ops a helper.Window option) (three_read (abstract.abstract_context_argument a reg.R1) (abstract.abstract_number_argument a reg.R2) (abstract.abstract_number_argument a reg.R3) out e), refl)
    helped c n (helper.Destination form) out given e is = (ap (λ (option : Option Room). abstract.state_after_call ops a (helper.Destination form) option) (by_address form out e), refl)

    helpers_agree : (c : Context) (n : ℤ) (helper : Helper) → Claims (insn.Call n) → Agree claimed (IsEffectOf mode places a s (insn.Call n)) (abstract.helper_step ops a helper) (effects.helper_effect c s.memory s.registers helper)
    helpers_agree c n helper claims =
        and_then claimed IsGiven (IsEffectOf mode places a s (insn.Call n)) (abstract.out_of a (signature_of helper).arguments) (effects.inputs s.memory s.registers (signature_of helper).arguments) _ _
        (inputs_agree ops Member sound claimed mode places a s member (insn.Call n) claims (signature_of helper).arguments) (λ out given p q is. helped c n helper out given p is)

    calls_agree : (c : Context) (n : ℤ) → Claims (insn.Call n) → Agree claimed (IsEffectOf mode places a s (insn.Call n)) (abstract.call_step ops a n) (effects.call_effect c s.memory s.registers n)
    calls_agree c n claims = of_helper (helper_of n) where
      of_helper : (option : Option Helper) → Agree claimed (IsEffectOf mode places a s (insn.Call n)) (ok_or option UnknownHelper >>= abstract.helper_step ops a) (ok_or option UnknownHelper >>= effects.helper_effect c s.memory s.registers)
      of_helper None = λ claim. refl
      of_helper (Some option) = helpers_agree c n option claims

    -- ---- the end

    exits_agree : (x : AbstractValue D) (m : ℕ) → IsNumberOf Member places s.memory.length x m → Agree claimed (IsEffectOf mode places a s insn.Exit) (abstract.exit_with x) (effects.verdict_of (concrete_value places x m) >>= λ verdict. Ok (effect.Exit verdict))
    exits_agree (known.Scalar n) m h = tt
    exits_agree x m h = λ c. refl

    exit_held : (x : AbstractValue D) (u : Value) → IsHeld Member places s.memory.length x u → Agree claimed (IsEffectOf mode places a s insn.Exit) (abstract.exit_with x) (effects.verdict_of u >>= λ verdict. Ok (effect.Exit verdict))
    exit_held x u h = subst (λ (u' : Value). Agree claimed (IsEffectOf mode places a s insn.Exit) (abstract.exit_with x) (effects.verdict_of u' >>= λ verdict. Ok (effect.Exit verdict))) (sym h.2) (exits_agree x h.0 h.1)

    -- the abstract step of each form agrees with the machine's
    pub steps_agree : (c : Context) → IsContext c → (i : Insn) → Fits i → AreClaims ops Member sound claimed mode a s i → Agree claimed (IsEffectOf mode places a s i) (abstract.abstract_step ops a i) (effects.effect c s.memory s.registers i)
    steps_agree c real (insn.Alu w op dst o) fit claims = alu_agrees w op dst o fit claims
    steps_agree c real (insn.Mov w dst o) fit claims = unary_agrees (insn.Mov w dst o) w (Mov w) dst o refl fit claims
    steps_agree c real (insn.Neg w dst) fit claims = unary_agrees (insn.Neg w dst) w (Neg w) dst (operand.Reg dst) refl tt claims
    steps_agree c real (insn.SignExtend e dst src) fit claims = unary_agrees (insn.SignExtend e dst src) (target_of e) (SignExtend e) dst (operand.Reg src) refl tt claims
    steps_agree c real (insn.Swap op z dst) fit claims = unary_agrees (insn.Swap op z dst) W64 (Swap op z) dst (operand.Reg dst) refl tt claims
    steps_agree c real (insn.Jump offset) fit claims = (refl, refl)
    steps_agree c real (insn.LongJump offset) fit claims = (refl, refl)
    steps_agree c real (insn.JumpIf w condition dst o offset) fit claims = jumps_agree w condition dst o offset fit.0 claims
    steps_agree c real (insn.Load z dst base d) fit claims = loads_agree (insn.Load z dst base d) (λ x. abstract.abstract_load ops a x d z) (λ v. loading.load c s.memory v d z) dst base refl claims (λ x plain m h. load_agrees ops Member sound claimed mode places a s member (insn.Load z dst base d) claims c real x plain m d z h)
    steps_agree c real (insn.LoadSigned z dst base d) fit claims =
        loads_agree (insn.LoadSigned z dst base d) (λ x. abstract.abstract_load_signed ops a x d z) (λ v. loading.load_signed s.memory v d z) dst base refl claims (λ x plain m h. signed_agrees ops Member sound claimed mode places a s member (insn.LoadSigned z dst base d) claims x plain m d z h)
    steps_agree c real (insn.Store z base o d) fit claims = stores_agree z base o d fit.0 claims
    steps_agree c real (insn.LoadImm dst n) fit claims = written_agrees (insn.LoadImm dst n) dst (Ok (known.Scalar (ops.exact n))) (Ok (value.Scalar n)) refl (n, sound.exact n fit, refl)
    steps_agree c real (insn.Call n) fit claims = calls_agree c n claims
    steps_agree c real insn.Exit fit claims =
        and_then claimed (IsHeld Member places s.memory.length) (IsEffectOf mode places a s insn.Exit) (abstract.abstract_register_value a reg.R0) (effects.register_value s.registers reg.R0) _ _
        (read_agrees ops Member sound claimed mode places claims.registers a s member reg.R0)
        (λ x u p q held. exit_held x u held)
