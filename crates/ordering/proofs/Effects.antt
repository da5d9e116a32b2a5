-- The effect of an instruction, by how the instruction goes on, and with another distance.
use Rattle.std.proofs.Common.{◌≡◌, Bool, true, false, ℤ, List, Some, None, Result, Ok, Err, refl, inl, inr}
use Rattle.std.specs.Prelude.{IfOk, if◌then◌else◌}
use Rattle.std.specs.Option.{ok_or}
use Rattle.insn.specs.Jumps.{with_distance}
use Rattle.insn.specs.Words.{target_of}
use Rattle.insn.specs.declared.instruction.Insn.{Insn}
use Rattle.insn.specs.declared.instruction.Insn.TheVariants as insn
use Rattle.insn.specs.declared.instruction.Operand.{Operand}
use Rattle.insn.specs.declared.instruction.Operand.TheVariants as operand
use Rattle.insn.specs.declared.operator.UnaryOp.{UnaryOp}
use Rattle.insn.specs.declared.operator.UnaryOp.TheVariants.{Mov, Neg, SignExtend, Swap}
use Rattle.insn.specs.declared.register.Reg.{Reg}
use Rattle.insn.specs.declared.register.Reg.TheVariants as reg
use Rattle.insn.specs.declared.size.Size.{Size}
use Rattle.insn.specs.declared.size.Size.TheVariants as size
use Rattle.insn.specs.declared.width.Width.{Width}
use Rattle.insn.specs.declared.width.Width.TheVariants.{W64}
use Rattle.basics.specs.Fallible.{◌>>=◌, check}
use Rattle.semantics.specs.Access.{index_within, stack_first, location}
use Rattle.semantics.specs.Calls.{helper_of, signature_of}
use Rattle.semantics.specs.laws.Effect.{every}
use Rattle.semantics.specs.Effects.{register_value, operand_value, writable, register_write, alu_result, unary_result, unary_effect, comparison_result, loaded_effect, pointer, is_group_place, store_pointer, store_value, store_effect, inputs, effect_with, helper_effect, verdict_of, effect}
use Rattle.semantics.specs.Flow.{Flow, Straight, Jumps, Forks, flow_of, flow_distance, flow_branches}
use Rattle.semantics.specs.Flow as flow
use Rattle.semantics.specs.Loading.{load, load_signed}
use Rattle.semantics.specs.Machine.{Context, Memory}
use Rattle.semantics.specs.declared.effect.Effect.{Effect}
use Rattle.semantics.specs.declared.effect.Effect.TheVariants as effects
use Rattle.semantics.specs.declared.fetching.Branch.TheVariants.{NotTaken, Taken}
use Rattle.semantics.specs.declared.helper.Helper.{Helper}
use Rattle.semantics.specs.declared.helper.Helper.TheVariants as helper
use Rattle.semantics.specs.declared.helper.Inputs.{Inputs}
use Rattle.semantics.specs.declared.limits.TheConstants.{GROUP_BYTES}
use Rattle.semantics.specs.declared.reason.Reason.{Reason}
use Rattle.semantics.specs.declared.reason.Reason.TheVariants.{UnknownHelper, PointerStored, StackBounds}
use Rattle.semantics.specs.declared.value.Value.{Value}
use Rattle.semantics.specs.declared.value.Value.TheVariants as value
use Rattle.std.specs.Prelude.{◌+ℤ◌, pos}
use Rattle.ordering.specs.Orders.{IsOneOf}

-- ---- an effect is that of a branch

-- a jump is taken by its own distance, and every other effect but the exit goes on to the next instruction
abbrev pub EffectOf : Flow → Effect → Type 0
EffectOf f (effects.Jump d) = (flow_distance f ≡ Some d) × IsOneOf (flow_branches f) Taken
EffectOf f (effects.Exit verdict) = Unit {0}
EffectOf f e = IsOneOf (flow_branches f) NotTaken

module _ (context : Context) (m : Memory) (registers : List Value) where
  abbrev On : Effect → Type 0
  On = EffectOf Straight

  written_on : (dst : Reg) (result : Result Value Reason) → IfOk (register_write dst result) On
  written_on dst result = every On (writable dst) _ (λ u p. every On result _ (λ v q. inl refl))

  unary_on : (w : Width) (op : UnaryOp) (dst : Reg) (o : Operand) → IfOk (unary_effect registers w op dst o) On
  unary_on w op dst o = every On (operand_value w registers o) _ (λ a p. written_on dst (unary_result op a))

  load_on : (loaded : Value → Result Value Reason) (dst base : Reg) → IfOk (loaded_effect registers loaded dst base) On
  load_on loaded dst base = every On (register_value registers base) _ (λ from p. written_on dst (loaded from))

  pointer_on : (z : Size) (to : Value) (c : ℤ) (v : Value) → IfOk (store_pointer to c z v) On
  pointer_on size.Double (value.Stack k) c v =
      every On (check (is_group_place (k +ℤ c)) PointerStored) _ (λ u p. every On (ok_or (index_within (k +ℤ c) GROUP_BYTES stack_first stack_first (pos 0)) StackBounds) _ (λ i q. inl refl))
  pointer_on size.Double value.Nothing c v = tt
  pointer_on size.Double (value.Scalar n) c v = tt
  pointer_on size.Double value.Ctx c v = tt
  pointer_on size.Double (value.Data k) c v = tt
  pointer_on size.Double value.End c v = tt
  pointer_on size.Word (value.Stack k) c v = tt
  pointer_on size.Half (value.Stack k) c v = tt
  pointer_on size.Byte (value.Stack k) c v = tt
  pointer_on z to c v = tt

  value_on : (z : Size) (to : Value) (c : ℤ) (v : Value) → IfOk (store_value m.length to c z v) On
  value_on z to c (value.Scalar n) = every On (location m.length to c _) _ (λ at is. inl refl)
  value_on z to c v = pointer_on z to c v

  store_on : (z : Size) (base : Reg) (o : Operand) (c : ℤ) → IfOk (store_effect registers m.length z base o c) On
  store_on z base o c = every On (register_value registers base) _ (λ to p. every On (operand_value W64 registers o) _ (λ v q. every On (pointer to) _ (λ u r. value_on z to c v)))

  helper_on : (h : Helper) → IfOk (helper_effect context m registers h) On
  helper_on h = every On (inputs m registers (signature_of h).arguments) _ (λ given e. of_helper h given) where
    of_helper : (h : Helper) (given : Inputs) → On (effect_with context m h given)
    of_helper (helper.ChannelPeer form) given = inl refl
    of_helper (helper.ChannelTo form) given = inl refl
    of_helper (helper.Permitted form) given = inl refl
    of_helper helper.Window given = inl refl
    of_helper (helper.Destination form) given = inl refl

  exit_on : (v : Value) → IfOk (verdict_of v >>= λ verdict. Ok (effects.Exit verdict)) (EffectOf flow.Ends)
  exit_on (value.Scalar n) = tt
  exit_on v = tt

  branch_on : (taken : Bool) (d : ℤ) → EffectOf (Forks d) (if taken then effects.Jump d else effects.Pass)
  branch_on true d = (refl, inr (inl refl))
  branch_on false d = inl refl

  pub effect_flow : (i : Insn) → IfOk (effect context m registers i) (EffectOf (flow_of i))
  effect_flow (insn.Alu w op dst o) = every On (register_value registers dst) _ (λ a p. every On (operand_value w registers o) _ (λ b q. written_on dst (alu_result op w a b)))
  effect_flow (insn.Mov w dst o) = unary_on w (Mov w) dst o
  effect_flow (insn.Neg w dst) = unary_on w (Neg w) dst (operand.Reg dst)
  effect_flow (insn.SignExtend e dst src) = unary_on (target_of e) (SignExtend e) dst (operand.Reg src)
  effect_flow (insn.Swap op z dst) = unary_on W64 (Swap op z) dst (operand.Reg dst)
  effect_flow (insn.Jump offset) = (refl, inl refl)
  effect_flow (insn.LongJump offset) = (refl, inl refl)
  effect_flow (insn.JumpIf w condition dst o offset) =
      every (EffectOf (Forks offset)) (register_value registers dst) _ (λ a p. every (EffectOf (Forks offset)) (operand_value w registers o) _ (λ b q. every (EffectOf (Forks offset)) (comparison_result m.length w condition a b) _ (λ taken r. branch_on taken offset)))
  effect_flow (insn.Load z dst base d) = load_on (λ from. load context m from d z) dst base
  effect_flow (insn.LoadSigned z dst base d) = load_on (λ from. load_signed m from d z) dst base
  effect_flow (insn.Store z base o d) = store_on z base o d
  effect_flow (insn.LoadImm dst n) = written_on dst (Ok (value.Scalar n))
  effect_flow (insn.Call n) = every On (ok_or (helper_of n) UnknownHelper) _ (λ h p. helper_on h)
  effect_flow insn.Exit = every (EffectOf flow.Ends) (register_value registers reg.R0) _ (λ v p. exit_on v)

-- ---- an effect with another distance

abbrev pub redistanced : ℤ → Result Effect Reason → Result Effect Reason
redistanced d (Ok (effects.Jump offset)) = Ok (effects.Jump d)
redistanced d result = result

jump_is_straight : (f : Flow) (d : ℤ) → flow_distance f ≡ None → flow_distance f ≡ Some d → ⊥
jump_is_straight f d none some = absurd cc

-- what is no jump stays as it is
stays : (f : Flow) (r : Result Effect Reason) (d : ℤ) → flow_distance f ≡ None → IfOk r (EffectOf f) → r ≡ redistanced d r
stays f (Ok (effects.Jump offset)) d none is = absurd (jump_is_straight f offset none is.0)
stays f (Ok e) d none is = refl
stays f (Err reason) d none is = refl

along : {A : Type 0} (r : Result A Reason) (f g : A → Result Effect Reason) (d : ℤ) → ((a : A) → g a ≡ redistanced d (f a)) → (r >>= g) ≡ redistanced d (r >>= f)
along (Ok a) f g d same = same a
along (Err reason) f g d same = refl

other_branch : (taken : Bool) (offset d : ℤ) → ◌≡◌ {A = Result Effect Reason} (Ok (if taken then effects.Jump d else effects.Pass)) (redistanced d (Ok (if taken then effects.Jump offset else effects.Pass)))
other_branch true offset d = refl
other_branch false offset d = refl

pub moved_effect : (context : Context) (m : Memory) (registers : List Value) (i : Insn) (d : ℤ) → effect context m registers (with_distance i d) ≡ redistanced d (effect context m registers i)
moved_effect context m registers (insn.Jump offset) d = refl
moved_effect context m registers (insn.LongJump offset) d = refl
moved_effect context m registers (insn.JumpIf w condition dst o offset) d =
    along (register_value registers dst) _ _ d (λ a. along (operand_value w registers o) _ _ d (λ b. along (comparison_result m.length w condition a b) _ _ d (λ taken. other_branch taken offset d)))
moved_effect context m registers i d = stays (flow_of i) (effect context m registers i) d refl (effect_flow context m registers i)
