-- Interface. In code that adds and subtracts no two registers, on 64 bits, no register comes to name a variable anchor.
use Rattle.std.proofs.Common.{◌≡◌, ℕ, zero, suc, ◌<◌, ◌^◌, Bool, true, false, ℤ, ◌+ℤ◌, ◌-ℤ◌, List, [], ◌∷◌, Option, Some, None, Result, Ok, Err, refl, sym, ap, subst, pos}
use Rattle.std.specs.Prelude.{◌==◌, IfOk, slice_set, if◌then◌else◌}
use Rattle.std.specs.Option.{ok_or, option_map}
use Rattle.std.proofs.lemmas.Bool.{cond_both}
use Rattle.insn.specs.Codes.{byte_count, unsigned_size}
use Rattle.insn.specs.Encoding.{OperandFits, Fits}
use Rattle.insn.specs.Register.{number_of}
use Rattle.insn.specs.Words.{imm_word, target_of}
use Rattle.insn.specs.declared.register.Reg.{Reg}
use Rattle.insn.specs.declared.register.Reg.TheVariants as reg
use Rattle.insn.specs.declared.size.Size.{Size}
use Rattle.insn.specs.declared.width.Width.{Width}
use Rattle.insn.specs.declared.width.Width.TheVariants.{W32, W64}
use Rattle.insn.specs.declared.operator.AluOp.{AluOp}
use Rattle.insn.specs.declared.operator.AluOp.TheVariants as op
use Rattle.insn.specs.declared.operator.UnaryOp.{UnaryOp}
use Rattle.insn.specs.declared.operator.UnaryOp.TheVariants.{Mov, Neg, SignExtend, Swap}
use Rattle.insn.specs.declared.condition.Condition.{Condition}
use Rattle.insn.specs.declared.instruction.Operand.{Operand}
use Rattle.insn.specs.declared.instruction.Operand.TheVariants as operand
use Rattle.insn.specs.declared.instruction.Insn.{Insn}
use Rattle.insn.specs.declared.instruction.Insn.TheVariants as insn
use Rattle.semantics.specs.Calls.{helper_of, signature_of, record_bytes}
use Rattle.semantics.specs.declared.helper.Room.{Room}
use Rattle.semantics.specs.Effects.{writable, moved_place, is_group_place}
use Rattle.semantics.specs.Access.{index_within, stack_first, group_of, second_group, third_group, last_group}
use Rattle.basics.specs.Fallible.{◌>>=◌, check}
use Rattle.insn.specs.declared.size.Size.TheVariants as size
use Rattle.absstate.specs.AbstractSteps.{abstract_load_value}
use Rattle.semantics.specs.Loading.{field_at}
use Rattle.semantics.specs.LooseRuns.{data_bound, converse}
use Rattle.semantics.specs.laws.Number.{imm_below}
use Rattle.semantics.specs.declared.helper.Helper.{Helper}
use Rattle.semantics.specs.declared.loading.ContextField.{ContextField}
use Rattle.semantics.specs.declared.loading.ContextField.TheVariants as field
use Rattle.semantics.specs.declared.reason.Reason.{Reason}
use Rattle.semantics.specs.declared.reason.Reason.TheVariants.{PointerArithmetic, PointerStored, StackBounds, UnknownHelper, ContextAccess}
use Rattle.semantics.specs.declared.fetching.Branch.{Branch}
use Rattle.semantics.specs.declared.fetching.Branch.TheVariants.{NotTaken, Taken}
use Rattle.interval.specs.Domains.{Operations, AreSound, ArePrecise}
use Rattle.interval.specs.declared.domain.Bounds.{Bounds}
use Rattle.interval.specs.declared.domain.Test.TheVariants.{Holds, Fails}
use Rattle.absstate.specs.AbstractStates.{abstract_at, group_at, group_index, without_groups, abstract_with_pointer, low_of, high_of, with_value, with_least, with_answer, with_out}
use Rattle.absstate.specs.AbstractSteps as abstract
use Rattle.absstate.specs.MemberSteps.{state_after}
use Rattle.absstate.specs.StepReasons.{IsRegisterSum}
use Rattle.absstate.specs.declared.abstract_state.Anchor.{Anchor}
use Rattle.absstate.specs.declared.abstract_state.Anchor.TheVariants.{First, Variable}
use Rattle.absstate.specs.declared.abstract_state.AbstractValue.{AbstractValue}
use Rattle.absstate.specs.declared.abstract_state.AbstractValue.TheVariants as known
use Rattle.absstate.specs.declared.abstract_state.AbsState.{AbsState}
use Rattle.absstate.specs.declared.abstract_step.Next.{Next}
use Rattle.absstate.specs.declared.abstract_step.Next.TheVariants as next
use Rattle.absstate.specs.declared.branching.Implied.{Implied}
use Rattle.absstate.specs.declared.memory.Region.{Region}
use Rattle.absstate.specs.declared.memory.Region.TheVariants as regions
use Rattle.absstate.specs.laws.Step.Anchors.{IsVariable, NameNoVariableAnchor}
use Rattle.absstate.specs.laws.Step.Refusing.{exact_sum}

-- ---- lists of values

pub plain_set : {D : Type 0} (registers : List (AbstractValue D)) → NameNoVariableAnchor registers → (n : ℕ) (v : AbstractValue D) → (IsVariable v → ⊥) → NameNoVariableAnchor (slice_set registers n v)
plain_set [] plain n v h k = plain k
plain_set (x ∷ xs) plain zero v h zero = h
plain_set (x ∷ xs) plain zero v h (suc k) = plain (suc k)
plain_set (x ∷ xs) plain (suc n) v h zero = plain 0
plain_set (x ∷ xs) plain (suc n) v h (suc k) = plain_set xs (λ j. plain (suc j)) n v h k

-- what holds of each result of the second of two steps, and of the value of the first, holds of that of both
with_each : {A B : Type 0} (Q : A → Type 0) (P : B → Type 0) (result : Result A Reason) (f : A → Result B Reason) → IfOk result Q → ((v : A) → Q v → IfOk (f v) P) → IfOk (result >>= f) P
with_each Q P (Ok v) f holds h = h v holds
with_each Q P (Err e) f holds h = tt

every : {A B : Type 0} (P : B → Type 0) (result : Result A Reason) (f : A → Result B Reason) → ((v : A) → IfOk (f v) P) → IfOk (result >>= f) P
every P (Ok v) f h = h v
every P (Err e) f h = tt

-- ---- sums that aren't of 64 bits

abbrev IsSumOf : Width → AluOp → Type 0
IsSumOf W64 op.Add = Unit {0}
IsSumOf W64 op.Sub = Unit {0}
IsSumOf w o = ⊥

no_place : (o : AluOp) (w : Width) (k : ℤ) (n : ℕ) → (IsSumOf w o → ⊥) → moved_place o w k n ≡ None
no_place op.Add W64 k n bar = absurd (bar tt)
no_place op.Sub W64 k n bar = absurd (bar tt)
no_place o w k n bar = refl

no_lowest : (o : AluOp) (w : Width) (k : ℤ) (b : Bounds) → (IsSumOf w o → ⊥) → abstract.lowest o w k b ≡ None
no_lowest op.Add w k b bar = no_place op.Add w k b.lo bar
no_lowest op.Sub w k b bar = no_place op.Sub w k b.hi bar
no_lowest o w k b bar = refl

no_single : (anchor : Anchor) (o : AluOp) (w : Width) (k : ℤ) (n : ℕ) → (IsSumOf w o → ⊥) → abstract.single_sum anchor o w k n ≡ None
no_single First o w k n bar = no_place o w k n bar
no_single (Variable id low high proved) o w k n bar = ap (λ (option : Option ℤ). abstract.with_both option (moved_place o w (high +ℤ k) n) (λ least greatest. abstract.short_offset (least -ℤ low))) (no_place o w (low +ℤ k) n bar)

module _ {D : Type 0} where
  no_sum : (a : AbsState D) (anchor : Anchor) (o : AluOp) (w : Width) (k : ℤ) (b : Bounds) → (IsSumOf w o → ⊥) → abstract.data_sum a anchor o w k b ≡ None
  no_sum a anchor o w k b bar = by (b.lo == b.hi) where
    by : (t : Bool) → (if t then option_map (λ (d : ℤ). known.Data anchor d) (abstract.single_sum anchor o w k b.lo) else abstract.made_sum a anchor o w k b) ≡ None
    by true = ap (option_map (λ (d : ℤ). known.Data anchor d)) (no_single anchor o w k b.lo bar)
    by false = ap (λ (option : Option ℤ). abstract.with_both option (abstract.highest o w (high_of anchor +ℤ k) b) (abstract.made_between a anchor b)) (no_lowest o w (low_of anchor +ℤ k) b bar)

module _ {D : Type 0} (ops : Operations D) (Member : D → ℕ → Type 0) (sound : AreSound ops Member) (precise : ArePrecise ops Member) where
  -- ---- values that are read

  abbrev Plain : AbstractValue D → Type 0
  Plain v = IsVariable v → ⊥

  abbrev data_at : Anchor → ℤ → AbstractValue D
  data_at anchor k = known.Data anchor k

  abbrev stack_at : ℤ → AbstractValue D
  stack_at k = known.Stack k

  held_plain : (v : AbstractValue D) → Plain v → IfOk (abstract.abstract_content v) Plain
  held_plain known.Nothing h = tt
  held_plain (known.Scalar n) h = h
  held_plain known.Ctx h = h
  held_plain (known.Stack k) h = h
  held_plain (known.Data anchor k) h = h
  held_plain known.End h = h

  -- the states after a step
  abbrev Stays : Next D → Type 0
  Stays answer = (branch : Branch) (a : AbsState D) → state_after answer branch ≡ Some a → NameNoVariableAnchor a.values

  some_is : (a state : AbsState D) → ◌≡◌ {A = Option (AbsState D)} (Some a) (Some state) → a ≡ state
  some_is a state e = cc

  on_stays : (a : AbsState D) → NameNoVariableAnchor a.values → Stays (next.On a)
  on_stays a plain NotTaken c e = subst (λ (state : AbsState D). NameNoVariableAnchor state.values) (some_is a c e) plain
  on_stays a plain Taken c e = absurd cc

  abbrev PlainBranch : Option (AbsState D) → Type 0
  PlainBranch m = (a : AbsState D) → m ≡ Some a → NameNoVariableAnchor a.values

  fork_stays : (m option : Option (AbsState D)) → PlainBranch m → PlainBranch option → Stays (next.Fork m option)
  fork_stays m option l g NotTaken b e = l b e
  fork_stays m option l g Taken b e = g b e

  exit_stays : Stays next.Exit
  exit_stays branch b e = absurd cc

  module _ (a : AbsState D) (plain : NameNoVariableAnchor a.values) where
    with_plain : (r : Reg) (v : AbstractValue D) → Plain v → NameNoVariableAnchor (with_value a r v).values
    with_plain r v h = plain_set a.values plain (number_of r) v h

    read_plain : (r : Reg) → IfOk (abstract.abstract_register_value a r) Plain
    read_plain r = held_plain (abstract_at a.values r) (plain (number_of r))

    operand_plain : (w : Width) (operand : Operand) → IfOk (abstract.operand_abstract ops w a operand) Plain
    operand_plain w (operand.Reg r) = read_plain r
    operand_plain w (operand.Imm n) = λ h. h

    written_stays : (dst : Reg) (result : Result (AbstractValue D) Reason) → IfOk result Plain → IfOk (abstract.abstract_register_write a dst result) Stays
    written_stays dst result h = every Stays (writable dst) _ (λ u. with_each Plain Stays result _ h (λ v is. on_stays (with_value a dst v) (with_plain dst v is)))

    -- ---- arithmetic

    mapped_plain : (anchor : Anchor) (k : ℤ) → Plain (data_at anchor k) → (option : Option ℤ) → IfOk (ok_or (option_map (data_at anchor) option) PointerArithmetic) Plain
    mapped_plain anchor k h None = tt
    mapped_plain First k h (Some z) = h
    mapped_plain (Variable id low high proved) k h (Some z) = h

    moved_plain : (option : Option ℤ) → IfOk (abstract.abstract_pointer_to stack_at option) Plain
    moved_plain None = tt
    moved_plain (Some k) = λ h. h

    -- a sum with a constant
    imm_plain : (w : Width) (o : AluOp) (n : ℕ) → n < 2 ^ 64 → (x : AbstractValue D) → Plain x → IfOk (abstract.abstract_alu_result ops a o w x (known.Scalar (ops.exact n))) Plain
    imm_plain w o n fits (known.Scalar m) h = λ g. g
    imm_plain w o n fits (known.Data anchor k) h = subst (λ (option : Option (AbstractValue D)). IfOk (ok_or option PointerArithmetic) Plain) (sym (exact_sum ops Member sound precise a anchor o w k n fits)) (mapped_plain anchor k h (abstract.single_sum anchor o w k n))
    imm_plain w o n fits (known.Stack k) h = moved_plain (abstract.moved_by o w k (abstract.single_of ops (ops.exact n)))
    imm_plain w o n fits x h = tt

    -- another operator, or one of 32 bits
    other_plain : (w : Width) (o : AluOp) → (IsSumOf w o → ⊥) → (x y : AbstractValue D) → IfOk (abstract.abstract_alu_result ops a o w x y) Plain
    other_plain w o bar (known.Scalar m) (known.Scalar n) = λ g. g
    other_plain w o bar (known.Data anchor k) (known.Scalar n) = subst (λ (option : Option (AbstractValue D)). IfOk (ok_or option PointerArithmetic) Plain) (sym (no_sum a anchor o w k (ops.bounds n) bar)) tt
    other_plain w o bar (known.Stack k) (known.Scalar n) = moved_plain (abstract.moved_by o w k (abstract.single_of ops n))
    other_plain w o bar x y = tt

    alu_stays : (w : Width) (o : AluOp) (dst : Reg) (second : Operand) → OperandFits second → (IsRegisterSum (insn.Alu w o dst second) → ⊥) → IfOk (abstract.alu_step ops a w o dst second) Stays
    alu_stays w o dst (operand.Imm n) fit bar =
        with_each Plain Stays (abstract.abstract_register_value a dst) _ (read_plain dst) (λ x h. written_stays dst (abstract.abstract_alu_result ops a o w x (known.Scalar (ops.exact (imm_word w n)))) (imm_plain w o (imm_word w n) (imm_below w n fit) x h))
    alu_stays w o dst (operand.Reg r) fit bar =
        every Stays (abstract.abstract_register_value a dst) _ (λ x. every Stays (abstract.abstract_register_value a r) _ (λ y. written_stays dst (abstract.abstract_alu_result ops a o w x y) (other_plain w o (not_sum w o bar) x y))) where
          not_sum : (w : Width) (o : AluOp) → (IsRegisterSum (insn.Alu w o dst (operand.Reg r)) → ⊥) → IsSumOf w o → ⊥
          not_sum W64 op.Add bar h = bar tt
          not_sum W64 op.Sub bar h = bar tt
          not_sum w o bar h = h

    one_plain : (u : UnaryOp) (x : AbstractValue D) → IfOk (abstract.abstract_number_of_one ops u x) Plain
    one_plain u (known.Scalar m) = λ h. h
    one_plain u x = tt

    unary_plain : (u : UnaryOp) (x : AbstractValue D) → Plain x → IfOk (abstract.abstract_unary_result ops u x) Plain
    unary_plain (Mov W64) x h = h
    unary_plain (Mov W32) x h = one_plain (Mov W32) x
    unary_plain (Neg w) x h = one_plain (Neg w) x
    unary_plain (SignExtend e) x h = one_plain (SignExtend e) x
    unary_plain (Swap s z) x h = one_plain (Swap s z) x

    unary_stays : (w : Width) (u : UnaryOp) (dst : Reg) (second : Operand) → IfOk (abstract.unary_step ops a w u dst second) Stays
    unary_stays w u dst second = with_each Plain Stays (abstract.operand_abstract ops w a second) _ (operand_plain w second) (λ x h. written_stays dst (abstract.abstract_unary_result ops u x) (unary_plain u x h))

    -- ---- conditional jumps

    kept_plain : (dst : Reg) (operand : Operand) (left : D × D) → NameNoVariableAnchor (abstract.with_operands a dst operand left).values
    kept_plain dst (operand.Imm n) left = with_plain dst (known.Scalar left.0) (λ h. h)
    kept_plain dst (operand.Reg src) left =
        cond_both (number_of dst == number_of src) a (with_value (with_value a dst (known.Scalar left.0)) src (known.Scalar left.1)) (λ b. NameNoVariableAnchor b.values) (λ e. plain)
        (λ e. plain_set (with_value a dst (known.Scalar left.0)).values (with_plain dst (known.Scalar left.0) (λ h. h)) (number_of src) (known.Scalar left.1) (λ h. h))

    refined_plain : (dst : Reg) (operand : Operand) (h : Option (D × D)) → PlainBranch (abstract.state_with_operands a dst operand h)
    refined_plain dst operand None b e = absurd cc
    refined_plain dst operand (Some left) b e = subst (λ (state : AbsState D). NameNoVariableAnchor state.values) (some_is (abstract.with_operands a dst operand left) b e) (kept_plain dst operand left)

    least_plain : (least : Option ℤ) → PlainBranch (Some (with_least a First least))
    least_plain None b e = subst (λ (state : AbsState D). NameNoVariableAnchor state.values) (some_is a b e) plain
    least_plain (Some n) b e = subst (λ (state : AbsState D). NameNoVariableAnchor state.values) (some_is (with_least a First (Some n)) b e) plain

    at_first : (result : Result Implied Reason) → IfOk (abstract.at_anchor First result >>= λ t. Ok (next.Fork (Some (with_least a t.0 t.1.not_taken)) (Some (with_least a t.0 t.1.taken)))) Stays
    at_first (Ok i) = fork_stays (Some (with_least a First i.not_taken)) (Some (with_least a First i.taken)) (least_plain i.not_taken) (least_plain i.taken)
    at_first (Err e) = tt

    places_stay : (w : Width) (c : Condition) (x y : AbstractValue D) → Plain x → Plain y → IfOk (abstract.fork_of_places a w c x y) Stays
    places_stay w c (known.Scalar x) y p q = tt
    places_stay W64 c (known.Data First k) known.End p q = at_first (abstract.order_implication c (data_bound c k))
    places_stay W64 c (known.Data (Variable id low high proved) k) known.End p q = absurd (p tt)
    places_stay W64 c known.End (known.Data First k) p q = at_first (abstract.order_implication c (data_bound (converse c) k))
    places_stay W64 c known.End (known.Data (Variable id low high proved) k) p q = absurd (q tt)
    places_stay w c x y p q = tt

    fork_plain : (w : Width) (c : Condition) (dst : Reg) (operand : Operand) (x y : AbstractValue D) → Plain x → Plain y → IfOk (abstract.fork ops a w c dst operand x y) Stays
    fork_plain w c dst operand (known.Scalar x) (known.Scalar y) p q =
        fork_stays (abstract.state_past_test ops a (Fails c) w dst operand x y) (abstract.state_past_test ops a (Holds c) w dst operand x y) (refined_plain dst operand (ops.refine (Fails c) w x y)) (refined_plain dst operand (ops.refine (Holds c) w x y))
    fork_plain w c dst operand x y p q = places_stay w c x y p q

    branch_stays : (w : Width) (c : Condition) (dst : Reg) (operand : Operand) → IfOk (abstract.branch_step ops a w c dst operand) Stays
    branch_stays w c dst operand = with_each Plain Stays (abstract.abstract_register_value a dst) _ (read_plain dst) (λ x p. with_each Plain Stays (abstract.operand_abstract ops w a operand) _ (operand_plain w operand) (λ y q. fork_plain w c dst operand x y p q))

    -- ---- memory

    field_plain : (field : ContextField) → Plain (abstract.field_known ops field)
    field_plain field.Datagram = λ h. h
    field_plain field.End = λ h. h
    field_plain field.Length = λ h. h
    field_plain field.Source = λ h. h
    field_plain field.IdHead = λ h. h
    field_plain field.IdTail = λ h. h
    field_plain field.Side = λ h. h
    field_plain field.WideHead = λ h. h
    field_plain field.WideMiddle = λ h. h
    field_plain field.WideTail = λ h. h

    number_plain : (x : AbstractValue D) (d : ℤ) (n : ℕ) (number : D) → IfOk (abstract.abstract_load_number a x d n number) Plain
    number_plain x d n number = every Plain (abstract.readable a x d n) _ (λ u h. h)

    known_if : (k : AbstractValue D) → Plain k → (b : Bool) (allowed : Result (Unit {0}) Reason) (number : D) → IfOk (abstract.known_or (if b then Some k else None) allowed number) Plain
    known_if k h true allowed number = h
    known_if k h false allowed number = every Plain allowed _ (λ u g. g)

    known_plain : (o : Option ℕ) (allowed : Result (Unit {0}) Reason) (number : D) → IfOk (abstract.known_or (abstract.known_in a o) allowed number) Plain
    known_plain None allowed number = every Plain allowed _ (λ u h. h)
    known_plain (Some g) allowed number = known_if (group_at a.values g) (plain (group_index g)) (abstract.is_known_pointer (group_at a.values g)) allowed number

    value_plain : (x : AbstractValue D) (d : ℤ) (z : Size) → IfOk (abstract.abstract_load_value ops a x d z) Plain
    unfolding abstract_load_value
    value_plain x d z = every Plain (abstract.access_region a x d (byte_count z)) _ (λ r. known_plain (abstract.known_group r z) (abstract.region_readable a (byte_count z) r) (abstract.number_of_size ops z))

    load_plain : (x : AbstractValue D) (d : ℤ) (z : Size) → IfOk (abstract.abstract_load ops a x d z) Plain
    load_plain known.Ctx d z = every Plain (ok_or (field_at d z) ContextAccess) _ (λ f. field_plain f)
    load_plain known.Nothing d z = value_plain known.Nothing d z
    load_plain (known.Scalar n) d z = value_plain (known.Scalar n) d z
    load_plain (known.Stack k) d z = value_plain (known.Stack k) d z
    load_plain (known.Data anchor k) d z = value_plain (known.Data anchor k) d z
    load_plain known.End d z = value_plain known.End d z

    loaded_stays : (loaded : AbstractValue D → Result (AbstractValue D) Reason) (dst base : Reg) → ((x : AbstractValue D) → IfOk (loaded x) Plain) → IfOk (abstract.loaded_step a loaded dst base) Stays
    loaded_stays loaded dst base h = every Stays (abstract.abstract_register_value a base) _ (λ x. written_stays dst (loaded x) (h x))

    marks_plain : (state : AbsState D) → NameNoVariableAnchor state.values → (n i : ℕ) → NameNoVariableAnchor (without_groups state.values n i)
    marks_plain state h n i =
        let one = slice_set state.values (group_index (group_of i)) known.Nothing in
        let two = slice_set one (group_index (second_group n i)) known.Nothing in
        let three = slice_set two (group_index (third_group n i)) known.Nothing in
        let first : NameNoVariableAnchor one = plain_set state.values h (group_index (group_of i)) known.Nothing (λ g. g) in
        let second : NameNoVariableAnchor two = plain_set one first (group_index (second_group n i)) known.Nothing (λ g. g) in
        let third : NameNoVariableAnchor three = plain_set two second (group_index (third_group n i)) known.Nothing (λ g. g) in
        plain_set three third (group_index (last_group n i)) known.Nothing (λ g. g)

    region_plain : (n : ℕ) (region : Region) → NameNoVariableAnchor (abstract.with_region a n region).values
    region_plain n (regions.InStack i) = marks_plain a plain n i
    region_plain n regions.InBytes = plain

    number_stays : (to : AbstractValue D) (d : ℤ) (z : Size) → IfOk (abstract.abstract_store_number a to d z) Stays
    number_stays to d z = every Stays (abstract.access_region a to d (byte_count z)) _ (λ r. on_stays (abstract.with_region a (byte_count z) r) (region_plain (byte_count z) r))

    pointer_stays : (to : AbstractValue D) (d : ℤ) (z : Size) (v : AbstractValue D) → Plain v → IfOk (abstract.abstract_store_pointer a to d z v) Stays
    pointer_stays (known.Stack k) d size.Double v h =
        every Stays (check (is_group_place (k +ℤ d)) PointerStored) _ (λ u. every Stays (ok_or (index_within (k +ℤ d) 8 stack_first stack_first (pos 0)) StackBounds) _ (λ i. on_stays (abstract_with_pointer a (group_of i) v) (plain_set a.values plain (group_index (group_of i)) v h)))
    pointer_stays (known.Stack k) d size.Word v h = tt
    pointer_stays (known.Stack k) d size.Half v h = tt
    pointer_stays (known.Stack k) d size.Byte v h = tt
    pointer_stays known.Nothing d z v h = tt
    pointer_stays (known.Scalar n) d z v h = tt
    pointer_stays known.Ctx d z v h = tt
    pointer_stays (known.Data anchor k) d z v h = tt
    pointer_stays known.End d z v h = tt

    known_stays : (to : AbstractValue D) (d : ℤ) (z : Size) (v : AbstractValue D) → Plain v → IfOk (abstract.store_known a to d z v) Stays
    known_stays to d z (known.Scalar n) h = number_stays to d z
    known_stays to d z known.Nothing h = pointer_stays to d z known.Nothing h
    known_stays to d z known.Ctx h = pointer_stays to d z known.Ctx h
    known_stays to d z (known.Stack k) h = pointer_stays to d z (known.Stack k) h
    known_stays to d z (known.Data anchor k) h = pointer_stays to d z (known.Data anchor k) h
    known_stays to d z known.End h = pointer_stays to d z known.End h

    store_stays : (z : Size) (base : Reg) (operand : Operand) (d : ℤ) → IfOk (abstract.store_step ops a z base operand d) Stays
    store_stays z base operand d =
        every Stays (abstract.abstract_register_value a base) _ (λ to. with_each Plain Stays (abstract.operand_abstract ops W64 a operand) _ (operand_plain W64 operand) (λ v h. every Stays (abstract.abstract_pointer to) _ (λ u. known_stays to d z v h)))

    -- ---- calls

    answer_plain : (x : D) → NameNoVariableAnchor (with_answer a x).values
    answer_plain x =
        let p0 = with_plain reg.R0 (known.Scalar x) (λ h. h) in
        let p1 = plain_set _ p0 1 known.Nothing (λ h. h) in
        let p2 = plain_set _ p1 2 known.Nothing (λ h. h) in
        let p3 = plain_set _ p2 3 known.Nothing (λ h. h) in
        let p4 = plain_set _ p3 4 known.Nothing (λ h. h) in
        plain_set _ p4 5 known.Nothing (λ h. h)

    out_plain : (x : D) (out : Option Room) → NameNoVariableAnchor (with_out (with_answer a x) out).values
    out_plain x None = answer_plain x
    out_plain x (Some room) = marks_plain (with_answer a x) (answer_plain x) (record_bytes room.form) room.index

    helper_stays : (helper : Helper) → IfOk (abstract.helper_step ops a helper) Stays
    helper_stays helper = every Stays (abstract.out_of a (signature_of helper).arguments) _ (λ out. on_stays (abstract.state_after_call ops a helper out) (out_plain (ops.range 0 (signature_of helper).greatest) out))

    exits_stay : (v : AbstractValue D) → IfOk (abstract.exit_with v) Stays
    exits_stay (known.Scalar n) = exit_stays
    exits_stay v = tt

    -- ---- every form

    stays : (i : Insn) → Fits i → (IsRegisterSum i → ⊥) → IfOk (abstract.abstract_step ops a i) Stays
    stays (insn.Alu w o dst second) fit bar = alu_stays w o dst second fit bar
    stays (insn.Mov w dst o) fit bar = unary_stays w (Mov w) dst o
    stays (insn.Neg w dst) fit bar = unary_stays w (Neg w) dst (operand.Reg dst)
    stays (insn.SignExtend e dst src) fit bar = unary_stays (target_of e) (SignExtend e) dst (operand.Reg src)
    stays (insn.Swap s z dst) fit bar = unary_stays W64 (Swap s z) dst (operand.Reg dst)
    stays (insn.Jump offset) fit bar = on_stays a plain
    stays (insn.LongJump offset) fit bar = on_stays a plain
    stays (insn.JumpIf w c dst o offset) fit bar = branch_stays w c dst o
    stays (insn.Load z dst base d) fit bar = loaded_stays (λ x. abstract.abstract_load ops a x d z) dst base (λ x. load_plain x d z)
    stays (insn.LoadSigned z dst base d) fit bar = loaded_stays (λ x. abstract.abstract_load_signed ops a x d z) dst base (λ x. number_plain x d (byte_count (unsigned_size z)) ops.top)
    stays (insn.Store z base o d) fit bar = store_stays z base o d
    stays (insn.LoadImm dst n) fit bar = written_stays dst (Ok (known.Scalar (ops.exact n))) (λ h. h)
    stays (insn.Call n) fit bar = every Stays (ok_or (helper_of n) UnknownHelper) _ (λ h. helper_stays h)
    stays insn.Exit fit bar = every Stays (abstract.abstract_register_value a reg.R0) _ exits_stay

    accepted : (result : Result (Next D) Reason) (answer : Next D) → IfOk result Stays → result ≡ Ok answer → Stays answer
    accepted (Ok x) answer h e = subst Stays (let is : x ≡ answer = cc in is) h
    accepted (Err f) answer h e = absurd cc

    -- a step that adds bar register to another one
    pub step_plain : (i : Insn) → Fits i → (IsRegisterSum i → ⊥) → (answer : Next D) → abstract.abstract_step ops a i ≡ Ok answer → (branch : Branch) (state : AbsState D) → state_after answer branch ≡ Some state → NameNoVariableAnchor state.values
    step_plain i fit bar answer is = accepted (abstract.abstract_step ops a i) answer (stays i fit bar) is
