-- Internal. Registers and operands of members, what arithmetic makes of them, and which refusals are claimed.
use Rattle.std.proofs.Common.{◌≡◌, ℕ, Bool, true, false, ℤ, pos, ◌+ℤ◌, ◌≤ℤ◌, Option, Some, None, Result, Ok, Err, refl, sym, subst, arith}
use Rattle.std.specs.Prelude.{◌==◌, if◌then◌else◌}
use Rattle.std.proofs.lemmas.Bool.{eqb-true}
use Rattle.insn.specs.Encoding.{OperandFits}
use Rattle.insn.specs.Words.{alu, unary, imm_word}
use Rattle.insn.specs.declared.width.Width.{Width}
use Rattle.insn.specs.declared.width.Width.TheVariants.{W32, W64}
use Rattle.insn.specs.declared.operator.UnaryOp.{UnaryOp}
use Rattle.insn.specs.declared.operator.UnaryOp.TheVariants.{Mov, Neg, SignExtend, Swap}
use Rattle.insn.specs.declared.register.Reg.{Reg}
use Rattle.insn.specs.declared.operator.AluOp.{AluOp}
use Rattle.insn.specs.declared.instruction.Operand.{Operand}
use Rattle.insn.specs.declared.instruction.Operand.TheVariants as operand
use Rattle.insn.specs.declared.instruction.Insn.{Insn}
use Rattle.insn.specs.declared.instruction.Insn.TheVariants as insn
use Rattle.semantics.specs.laws.Number.{imm_below}
use Rattle.semantics.specs.Machine.{State}
use Rattle.semantics.specs.Effects as effects
use Rattle.semantics.specs.Effects.{value_at, moved_place}
use Rattle.semantics.specs.declared.reason.Reason.{Reason}
use Rattle.semantics.specs.declared.reason.Reason.TheVariants.{UninitRegister, UninitStack, DatagramBounds, PointerArithmetic}
use Rattle.semantics.specs.declared.value.Value.{Value}
use Rattle.semantics.specs.declared.value.Value.TheVariants as value
use Rattle.interval.specs.Domains.{Operations, AreSound}
use Rattle.absstate.specs.AbstractStates.{abstract_at, greatest_id}
use Rattle.std.specs.Option.{ok_or}
use Rattle.absstate.specs.AbstractSteps as abstract
use Rattle.absstate.specs.Membership.{Mode, Strict, Places, IsNumberOf, IsHeld, IsValue, IsMemberAt, concrete_value, place_of, IsAnchored}
use Rattle.absstate.specs.declared.abstract_state.Anchor.{Anchor}
use Rattle.absstate.specs.declared.abstract_state.AbstractValue.{AbstractValue}
use Rattle.absstate.specs.declared.abstract_state.AbstractValue.TheVariants as known
use Rattle.absstate.specs.declared.abstract_state.AbsState.{AbsState}
use Rattle.absstate.specs.laws.Step.Agreement.{Agree, refused_alike}
use Rattle.absstate.specs.laws.Step.Anchors.{IsVariable, Extends, extends_itself}
use Rattle.absstate.specs.laws.Step.Sums.{IsSum, data_is_sum, no_other}

no_scalar : (n : ℕ) → value.Scalar n ≡ value.Nothing → ⊥
no_scalar n e = absurd cc

no_ctx : value.Ctx ≡ value.Nothing → ⊥
no_ctx e = absurd cc

no_stack : (k : ℤ) → value.Stack k ≡ value.Nothing → ⊥
no_stack k e = absurd cc

no_data : (k : ℤ) → value.Data k ≡ value.Nothing → ⊥
no_data k e = absurd cc

no_end : value.End ≡ value.Nothing → ⊥
no_end e = absurd cc

pub held_is : (v u : Value) → effects.content_of v ≡ Ok u → v ≡ u
held_is value.Nothing u e = absurd cc
held_is (value.Scalar n) u e = cc
held_is value.Ctx u e = cc
held_is (value.Stack k) u e = cc
held_is (value.Data k) u e = cc
held_is value.End u e = cc

module _ {D : Type 0} (ops : Operations D) (Member : D → ℕ → Type 0) (sound : AreSound ops Member) where
  -- ---- registers and operands

  pub held_known : (y x : AbstractValue D) → abstract.abstract_content y ≡ Ok x → y ≡ x
  held_known known.Nothing x e = absurd cc
  held_known (known.Scalar n) x e = cc
  held_known known.Ctx x e = cc
  held_known (known.Stack k) x e = cc
  held_known (known.Data anchor k) x e = cc
  held_known known.End x e = cc

  pub ok_is : (x y : AbstractValue D) → ◌≡◌ {A = Result (AbstractValue D) Reason} (Ok x) (Ok y) → x ≡ y
  ok_is x y e = cc

  module _ (claimed : Reason → Type 0) (mode : Mode) (places : Places) (size : ℕ) (uninit : claimed UninitRegister → mode ≡ Strict) where
    held_agrees : (y : AbstractValue D) (v : Value) → IsValue Member mode places size y v → Agree claimed (IsHeld Member places size) (abstract.abstract_content y) (effects.content_of v)
    held_agrees known.Nothing value.Nothing h = λ c. refl
    held_agrees known.Nothing (value.Scalar n) h = λ c. no_scalar n (h (uninit c))
    held_agrees known.Nothing value.Ctx h = λ c. no_ctx (h (uninit c))
    held_agrees known.Nothing (value.Stack k) h = λ c. no_stack k (h (uninit c))
    held_agrees known.Nothing (value.Data k) h = λ c. no_data k (h (uninit c))
    held_agrees known.Nothing value.End h = λ c. no_end (h (uninit c))
    held_agrees (known.Scalar number) v h = subst (λ (u : Value). Agree claimed (IsHeld Member places size) (Ok (known.Scalar number)) (effects.content_of u)) (sym h.2) (h.0, h.1, refl)
    held_agrees known.Ctx v h = subst (λ (u : Value). Agree claimed (IsHeld Member places size) (Ok known.Ctx) (effects.content_of u)) (sym h.2) (h.0, h.1, refl)
    held_agrees (known.Stack k) v h = subst (λ (u : Value). Agree claimed (IsHeld Member places size) (Ok (known.Stack k)) (effects.content_of u)) (sym h.2) (h.0, h.1, refl)
    held_agrees (known.Data anchor k) v h = subst (λ (u : Value). Agree claimed (IsHeld Member places size) (Ok (known.Data anchor k)) (effects.content_of u)) (sym h.2) (h.0, h.1, refl)
    held_agrees known.End v h = subst (λ (u : Value). Agree claimed (IsHeld Member places size) (Ok known.End) (effects.content_of u)) (sym h.2) (h.0, h.1, refl)

  module _ (claimed : Reason → Type 0) (mode : Mode) (places : Places) (uninit : claimed UninitRegister → mode ≡ Strict) where
    pub read_agrees : (a : AbsState D) (s : State) → IsMemberAt Member mode places a s → (r : Reg) → Agree claimed (IsHeld Member places s.memory.length) (abstract.abstract_register_value a r) (effects.register_value s.registers r)
    read_agrees a s member r = held_agrees claimed mode places s.memory.length uninit (abstract_at a.values r) (value_at s.registers r) (member.registers r)

    pub operand_agrees : (a : AbsState D) (s : State) → IsMemberAt Member mode places a s → (w : Width) (operand : Operand) → OperandFits operand → Agree claimed (IsHeld Member places s.memory.length) (abstract.operand_abstract ops w a operand) (effects.operand_value w s.registers operand)
    operand_agrees a s member w (operand.Reg r) fit = read_agrees a s member r
    operand_agrees a s member w (operand.Imm n) fit = (imm_word w n, sound.exact (imm_word w n) (imm_below w n fit), refl)

  -- ---- arithmetic

  single_lo : (x : D) (b : Bool) → ((ops.bounds x).lo == (ops.bounds x).hi) ≡ b → (q : ℕ) → (if b then Some (ops.bounds x).lo else None) ≡ Some q → ((ops.bounds x).lo ≡ (ops.bounds x).hi) × ((ops.bounds x).lo ≡ q)
  single_lo x true e q f = (eqb-true (ops.bounds x).lo (ops.bounds x).hi e, cc)
  single_lo x false e q f = absurd cc

  -- the members of a single number are that number
  single_is : (x : D) (q n : ℕ) → abstract.single_of ops x ≡ Some q → Member x n → n ≡ q
  single_is x q n e h =
      let ends = single_lo x ((ops.bounds x).lo == (ops.bounds x).hi) refl q e in
      let within = sound.bounds x n h in
      omega (arith, ends.0, ends.1, within.0, within.1)

  -- a pointer that is moved by a number that isn't single is out of range
  abbrev pub StraysBy : AbsState D → AluOp → Width → AbstractValue D → AbstractValue D → Value → Value → Type 0
  StraysBy a op w (known.Data anchor k) (known.Scalar y) u v = abstract.data_sum a anchor op w k (ops.bounds y) ≡ None → effects.alu_result op w u v ≡ Err PointerArithmetic
  StraysBy a op w (known.Stack k) (known.Scalar y) u v = abstract.single_of ops y ≡ None → effects.alu_result op w u v ≡ Err PointerArithmetic
  StraysBy a op w _ _ u v = Unit {0}

  pub strays_same : (a : AbsState D) (op : AluOp) (w : Width) (x x' y y' : AbstractValue D) (u u' v v' : Value) → x ≡ x' → y ≡ y' → u ≡ u' → v ≡ v' → StraysBy a op w x y u v → StraysBy a op w x' y' u' v'
  strays_same a op w x x' y y' u u' v v' p e f t c =
      subst (λ (z : AbstractValue D). StraysBy a op w z y' u' v') p (subst (λ (z : AbstractValue D). StraysBy a op w x z u' v') e (subst (λ (kept : Value). StraysBy a op w x y kept v') f (subst (λ (kept : Value). StraysBy a op w x y u kept) t c)))

  -- a value that is held, with the anchors at places at which those that registers name stay
  pub record IsHeldAnew (places : Places) (size : ℕ) (a : AbsState D) (y : AbstractValue D) (v : Value) : Type 0 where
    pub more : Places
    pub extends : Extends (greatest_id a.values) places more
    pub held : IsHeld Member more size y v

  pub held_before : (places : Places) (size : ℕ) (a : AbsState D) (y : AbstractValue D) (v : Value) → IsHeld Member places size y v → IsHeldAnew places size a y v
  held_before places size a y v h = record { more = places; extends = extends_itself (greatest_id a.values) places; held = h }

  module _ (claimed : Reason → Type 0) (places : Places) (size : ℕ) (a : AbsState D) (reaches : a.proved ≤ℤ pos size) where
    stack_moved : (o : Option ℤ) → Agree claimed (IsHeldAnew places size a) (abstract.abstract_pointer_to known.Stack o) (effects.pointer_to value.Stack o)
    stack_moved None = λ c. refl
    stack_moved (Some place) = held_before places size a (known.Stack place) (value.Stack place) (0, tt, refl)

    module _ (op : AluOp) (w : Width) where
      sum_held : (anchor : Anchor) (k : ℤ) (n : ℕ) (made : Anchor) (l : ℤ) → IsSum places size a op w (place_of places anchor +ℤ k) n made l → Agree claimed (IsHeldAnew places size a) (Ok (known.Data made l)) (effects.alu_result op w (value.Data (place_of places anchor +ℤ k)) (value.Scalar n))
      sum_held anchor k n made l is =
          subst (λ (o : Option ℤ). Agree claimed (IsHeldAnew places size a) (Ok (known.Data made l)) (effects.pointer_to value.Data o)) (sym is.moved)
          (record { more = is.more; extends = is.extends; held = (0, is.anchored, refl) })

      -- what a sum gives is a place of the datagram
      data_by : (anchor : Anchor) (k : ℤ) (y : D) (n : ℕ) → IsAnchored places size anchor → Member y n → (option : Option (AbstractValue D)) → abstract.data_sum a anchor op w k (ops.bounds y) ≡ option → (claimed PointerArithmetic → option ≡ None → effects.alu_result op w (value.Data (place_of places anchor +ℤ k)) (value.Scalar n) ≡ Err PointerArithmetic)
          → Agree claimed (IsHeldAnew places size a) (ok_or option PointerArithmetic) (effects.alu_result op w (value.Data (place_of places anchor +ℤ k)) (value.Scalar n))
      data_by anchor k y n is h None e stray = refused_alike claimed (IsHeldAnew places size a) PointerArithmetic (effects.alu_result op w (value.Data (place_of places anchor +ℤ k)) (value.Scalar n)) (λ c. stray c refl)
      data_by anchor k y n is h (Some (known.Data made l)) e stray =
          let within = sound.bounds y n h in
          sum_held anchor k n made l (data_is_sum places size a reaches op w k (ops.bounds y) n within.0 within.1 (sound.words y n h) anchor is made l e)
      data_by anchor k y n is h (Some known.Nothing) e stray = absurd (no_other a anchor op w k (ops.bounds y) known.Nothing tt e)
      data_by anchor k y n is h (Some (known.Scalar x)) e stray = absurd (no_other a anchor op w k (ops.bounds y) (known.Scalar x) tt e)
      data_by anchor k y n is h (Some known.Ctx) e stray = absurd (no_other a anchor op w k (ops.bounds y) known.Ctx tt e)
      data_by anchor k y n is h (Some (known.Stack x)) e stray = absurd (no_other a anchor op w k (ops.bounds y) (known.Stack x) tt e)
      data_by anchor k y n is h (Some known.End) e stray = absurd (no_other a anchor op w k (ops.bounds y) known.End tt e)

      stack_by : (k : ℤ) (n : ℕ) (single : Option ℕ) → ((q : ℕ) → single ≡ Some q → n ≡ q) → (claimed PointerArithmetic → single ≡ None → effects.alu_result op w (value.Stack k) (value.Scalar n) ≡ Err PointerArithmetic)
          → Agree claimed (IsHeldAnew places size a) (abstract.abstract_pointer_to known.Stack (abstract.moved_by op w k single)) (effects.alu_result op w (value.Stack k) (value.Scalar n))
      stack_by k n None is stray = refused_alike claimed (IsHeldAnew places size a) PointerArithmetic (effects.alu_result op w (value.Stack k) (value.Scalar n)) (λ c. stray c refl)
      stack_by k n (Some q) is stray =
          subst (λ (m : ℕ). Agree claimed (IsHeldAnew places size a) (abstract.abstract_pointer_to known.Stack (moved_place op w k q)) (effects.alu_result op w (value.Stack k) (value.Scalar m))) (sym (is q refl)) (stack_moved (moved_place op w k q))

      results_agree : (x y : AbstractValue D) (m n : ℕ) → IsNumberOf Member places size x m → IsNumberOf Member places size y n → (claimed PointerArithmetic → StraysBy a op w x y (concrete_value places x m) (concrete_value places y n)) → Agree claimed (IsHeldAnew places size a) (abstract.abstract_alu_result ops a op w x y) (effects.alu_result op w (concrete_value places x m) (concrete_value places y n))
      results_agree (known.Scalar x) (known.Scalar y) m n hx hy stray = held_before places size a (known.Scalar (ops.alu op w x y)) (value.Scalar (alu op w m n)) (alu op w m n, sound.alu op w x y m n hx hy, refl)
      results_agree (known.Data anchor k) (known.Scalar y) m n hx hy stray = data_by anchor k y n hx hy (abstract.data_sum a anchor op w k (ops.bounds y)) refl stray
      results_agree (known.Stack k) (known.Scalar y) m n hx hy stray = stack_by k n (abstract.single_of ops y) (λ q e. single_is y q n e hy) stray
      results_agree x y m n hx hy stray = λ c. refl

      pub result_held : (x y : AbstractValue D) (u v : Value) → IsHeld Member places size x u → IsHeld Member places size y v → (claimed PointerArithmetic → StraysBy a op w x y u v) → Agree claimed (IsHeldAnew places size a) (abstract.abstract_alu_result ops a op w x y) (effects.alu_result op w u v)
      result_held x y u v hx hy stray =
          subst (λ (u' : Value). Agree claimed (IsHeldAnew places size a) (abstract.abstract_alu_result ops a op w x y) (effects.alu_result op w u' v)) (sym hx.2)
          (subst (λ (v' : Value). Agree claimed (IsHeldAnew places size a) (abstract.abstract_alu_result ops a op w x y) (effects.alu_result op w (concrete_value places x hx.0) v')) (sym hy.2)
          (results_agree x y hx.0 hy.0 hx.1 hy.1 (λ c. strays_same a op w x x y y u (concrete_value places x hx.0) v (concrete_value places y hy.0) refl refl hx.2 hy.2 (stray c))))

    ones_agree : (op : UnaryOp) (x : AbstractValue D) (m : ℕ) → IsNumberOf Member places size x m → Agree claimed (IsHeld Member places size) (abstract.abstract_number_of_one ops op x) (effects.number_of_one op (concrete_value places x m))
    ones_agree op (known.Scalar x) m hx = (unary op m, sound.unary op x m hx, refl)
    ones_agree op x m hx = λ c. refl

    one_held : (op : UnaryOp) (x : AbstractValue D) (u : Value) → IsHeld Member places size x u → Agree claimed (IsHeld Member places size) (abstract.abstract_number_of_one ops op x) (effects.number_of_one op u)
    one_held op x u h = subst (λ (u' : Value). Agree claimed (IsHeld Member places size) (abstract.abstract_number_of_one ops op x) (effects.number_of_one op u')) (sym h.2) (ones_agree op x h.0 h.1)

    pub unary_held : (op : UnaryOp) (x : AbstractValue D) (u : Value) → IsHeld Member places size x u → Agree claimed (IsHeld Member places size) (abstract.abstract_unary_result ops op x) (effects.unary_result op u)
    unary_held (Mov W64) x u h = h
    unary_held (Mov W32) x u h = one_held (Mov W32) x u h
    unary_held (Neg w) x u h = one_held (Neg w) x u h
    unary_held (SignExtend e) x u h = one_held (SignExtend e) x u h
    unary_held (Swap op z) x u h = one_held (Swap op z) x u h

  -- ---- claims

  -- a sum that is refused is one at which the machine is stuck
  abbrev pub Strays : AbsState D → State → Insn → Type 0
  Strays a s (insn.Alu w op dst o) =
      (x y : AbstractValue D) (u v : Value) → abstract.abstract_register_value a dst ≡ Ok x → abstract.operand_abstract ops w a o ≡ Ok y → effects.register_value s.registers dst ≡ Ok u → effects.operand_value w s.registers o ≡ Ok v → StraysBy a op w x y u v
  Strays a s i = Unit {0}

  -- what of the refusals is claimed to be the machine's own
  pub record AreClaims (claimed : Reason → Type 0) (mode : Mode) (a : AbsState D) (s : State) (i : Insn) : Type 0 where
    pub registers : claimed UninitRegister → mode ≡ Strict
    pub cells : claimed UninitStack → mode ≡ Strict
    pub bounds : claimed DatagramBounds → pos s.memory.length ≡ a.proved
    pub plain : claimed DatagramBounds → (r : Reg) → IsVariable (abstract_at a.values r) → ⊥
    pub arithmetic : claimed PointerArithmetic → Strays a s i
