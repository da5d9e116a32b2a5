-- Internal. An accepted step has as many successors as its instruction, and a refused one a reason of the steps.
use Rattle.std.proofs.Common.{◌≡◌, ℕ, Bool, true, false, not, Result, Ok, Err, refl}
use Rattle.std.specs.Prelude.{ℤ, pos, List, Option, Some, None, ◌+ℤ◌, ◌-ℤ◌, IfOk, IfErr}
use Rattle.std.specs.Option.{ok_or}
use Rattle.insn.specs.Codes.{byte_count, unsigned_size}
use Rattle.insn.specs.Words.{target_of}
use Rattle.insn.specs.declared.register.Reg.{Reg}
use Rattle.insn.specs.declared.register.Reg.TheVariants as reg
use Rattle.insn.specs.declared.width.Width.{Width}
use Rattle.insn.specs.declared.width.Width.TheVariants.{W32, W64}
use Rattle.insn.specs.declared.operator.AluOp.{AluOp}
use Rattle.insn.specs.declared.operator.UnaryOp.{UnaryOp}
use Rattle.insn.specs.declared.operator.UnaryOp.TheVariants.{Mov, Neg, SignExtend, Swap}
use Rattle.insn.specs.declared.condition.Condition.{Condition}
use Rattle.insn.specs.declared.size.Size.{Size}
use Rattle.insn.specs.declared.size.Size.TheVariants as size
use Rattle.insn.specs.declared.instruction.Operand.{Operand}
use Rattle.insn.specs.declared.instruction.Operand.TheVariants as operand
use Rattle.insn.specs.declared.instruction.Insn.{Insn}
use Rattle.insn.specs.declared.instruction.Insn.TheVariants as insn
use Rattle.basics.specs.Fallible.{◌>>=◌, check}
use Rattle.semantics.specs.Access.{is_within, index_within, stack_first, headroom_first}
use Rattle.semantics.specs.Loading.{field_at}
use Rattle.semantics.specs.Calls.{helper_of, signature_of, argument_at, record_bytes}
use Rattle.semantics.specs.declared.helper.RecordForm.{RecordForm}
use Rattle.semantics.specs.declared.helper.Room.{Room}
use Rattle.semantics.specs.declared.helper.Argument.{Argument}
use Rattle.semantics.specs.declared.helper.Argument.TheVariants as argument
use Rattle.semantics.specs.declared.helper.Helper.{Helper}
use Rattle.insn.specs.Register.{number_of}
use Rattle.semantics.specs.Effects.{is_writable, writable, is_group_place}
use Rattle.semantics.specs.LooseRuns.{Bound, data_bound, converse}
use Rattle.semantics.specs.declared.fetching.Branch.{Branch}
use Rattle.semantics.specs.declared.limits.TheConstants.{TAILROOM}
use Rattle.semantics.specs.declared.reason.Reason.{Reason}
use Rattle.semantics.specs.declared.reason.Reason.TheVariants as reasons
use Rattle.interval.specs.Domains.{Operations}
use Rattle.absstate.specs.AbstractStates.{abstract_at, are_marked, low_of, proved_of}
use Rattle.absstate.specs.AbstractSteps as abstract
use Rattle.absstate.specs.AbstractSteps.{access_region, readable, abstract_load_value}
use Rattle.absstate.specs.StepReasons.{IsStepReason}
use Rattle.absstate.specs.Successors.{One, Two, successors_of, successors_in}
use Rattle.absstate.specs.declared.abstract_state.AbsState.{AbsState}
use Rattle.absstate.specs.declared.abstract_state.AbstractValue.{AbstractValue}
use Rattle.absstate.specs.declared.abstract_state.AbstractValue.TheVariants as known
use Rattle.absstate.specs.declared.abstract_step.Next.{Next}
use Rattle.absstate.specs.declared.memory.Region.{Region}
use Rattle.absstate.specs.declared.memory.Region.TheVariants.{InStack, InBytes}

-- ---- accepted steps

every : {A B : Type 0} (P : B → Type 0) (result : Result A Reason) (f : A → Result B Reason) → ((v : A) → IfOk (f v) P) → IfOk (result >>= f) P
every P (Ok v) f h = h v
every P (Err e) f h = tt

faults : {A B : Type 0} (P : Reason → Type 0) (result : Result A Reason) (f : A → Result B Reason) → IfErr result P → ((v : A) → IfErr (f v) P) → IfErr (result >>= f) P
faults P (Ok v) f h g = g v
faults P (Err e) f h g = h

module _ {D : Type 0} (ops : Operations D) where
  HasOne : Next D → Type 0
  HasOne answer = successors_in answer ≡ One

  HasTwo : Next D → Type 0
  HasTwo answer = successors_in answer ≡ Two

  goes_straight : (a : AbsState D) (dst : Reg) (known : Result (AbstractValue D) Reason) → IfOk (abstract.abstract_register_write a dst known) HasOne
  unfolding HasOne
  goes_straight a dst known = every HasOne (writable dst) _ (λ u. every HasOne known _ (λ k. refl))

  unary_straight : (a : AbsState D) (w : Width) (op : UnaryOp) (dst : Reg) (o : Operand) → IfOk (abstract.unary_step ops a w op dst o) HasOne
  unary_straight a w op dst o = every HasOne (abstract.operand_abstract ops w a o) _ (λ x. goes_straight a dst (abstract.abstract_unary_result ops op x))

  load_straight : (a : AbsState D) (loaded : AbstractValue D → Result (AbstractValue D) Reason) (dst base : Reg) → IfOk (abstract.loaded_step a loaded dst base) HasOne
  load_straight a loaded dst base = every HasOne (abstract.abstract_register_value a base) _ (λ x. goes_straight a dst (loaded x))

  places_forks : (a : AbsState D) (w : Width) (c : Condition) (x y : AbstractValue D) → IfOk (abstract.fork_of_places a w c x y) HasTwo
  unfolding HasTwo
  places_forks a w c x y = every HasTwo (abstract.places_compared w c x y) _ (λ t. refl)

  forks : (a : AbsState D) (w : Width) (c : Condition) (dst : Reg) (o : Operand) (x y : AbstractValue D) → IfOk (abstract.fork ops a w c dst o x y) HasTwo
  unfolding HasTwo
  forks a w c dst o (known.Scalar x) (known.Scalar y) = refl
  forks a w c dst o x y = places_forks a w c x y

  number_straight : (a : AbsState D) (to : AbstractValue D) (d : ℤ) (z : Size) → IfOk (abstract.abstract_store_number a to d z) HasOne
  unfolding HasOne
  number_straight a to d z = every HasOne (abstract.access_region a to d (byte_count z)) _ (λ r. refl)

  pointer_straight : (a : AbsState D) (to : AbstractValue D) (d : ℤ) (z : Size) (v : AbstractValue D) → IfOk (abstract.abstract_store_pointer a to d z v) HasOne
  unfolding HasOne
  pointer_straight a (known.Stack k) d size.Double v = every HasOne (check (is_group_place (k +ℤ d)) reasons.PointerStored) _ (λ u. every HasOne (ok_or (index_within (k +ℤ d) 8 stack_first stack_first (pos 0)) reasons.StackBounds) _ (λ i. refl))
  pointer_straight a (known.Stack k) d size.Word v = tt
  pointer_straight a (known.Stack k) d size.Half v = tt
  pointer_straight a (known.Stack k) d size.Byte v = tt
  pointer_straight a known.Nothing d z v = tt
  pointer_straight a (known.Scalar n) d z v = tt
  pointer_straight a known.Ctx d z v = tt
  pointer_straight a (known.Data anchor k) d z v = tt
  pointer_straight a known.End d z v = tt

  store_straight : (a : AbsState D) (to : AbstractValue D) (d : ℤ) (z : Size) (v : AbstractValue D) → IfOk (abstract.store_known a to d z v) HasOne
  store_straight a to d z (known.Scalar n) = number_straight a to d z
  store_straight a to d z known.Nothing = pointer_straight a to d z known.Nothing
  store_straight a to d z known.Ctx = pointer_straight a to d z known.Ctx
  store_straight a to d z (known.Stack k) = pointer_straight a to d z (known.Stack k)
  store_straight a to d z (known.Data anchor k) = pointer_straight a to d z (known.Data anchor k)
  store_straight a to d z known.End = pointer_straight a to d z known.End

  helper_straight : (a : AbsState D) (helper : Helper) → IfOk (abstract.helper_step ops a helper) HasOne
  unfolding HasOne
  helper_straight a helper = every HasOne (abstract.out_of a (signature_of helper).arguments) _ (λ out. refl)

  exits : (k : AbstractValue D) → IfOk (abstract.exit_with k) (λ (answer : Next D). successors_in answer ≡ successors_of insn.Exit)
  exits (known.Scalar n) = refl
  exits k = tt

  -- an accepted step has the successors of its instruction
  pub step_successors : (a : AbsState D) (i : Insn) → IfOk (abstract.abstract_step ops a i) (λ answer. successors_in answer ≡ successors_of i)
  unfolding HasOne HasTwo
  step_successors a (insn.Alu w op dst o) = every HasOne (abstract.abstract_register_value a dst) _ (λ x. every HasOne (abstract.operand_abstract ops w a o) _ (λ y. goes_straight a dst (abstract.abstract_alu_result ops a op w x y)))
  step_successors a (insn.Mov w dst o) = unary_straight a w (Mov w) dst o
  step_successors a (insn.Neg w dst) = unary_straight a w (Neg w) dst (operand.Reg dst)
  step_successors a (insn.SignExtend e dst src) = unary_straight a (target_of e) (SignExtend e) dst (operand.Reg src)
  step_successors a (insn.Swap op z dst) = unary_straight a W64 (Swap op z) dst (operand.Reg dst)
  step_successors a (insn.Jump offset) = refl
  step_successors a (insn.LongJump offset) = refl
  step_successors a (insn.JumpIf w c dst o offset) = every HasTwo (abstract.abstract_register_value a dst) _ (λ x. every HasTwo (abstract.operand_abstract ops w a o) _ (λ y. forks a w c dst o x y))
  step_successors a (insn.Load z dst base d) = load_straight a (λ pointer. abstract.abstract_load ops a pointer d z) dst base
  step_successors a (insn.LoadSigned z dst base d) = load_straight a (λ pointer. abstract.abstract_load_signed ops a pointer d z) dst base
  step_successors a (insn.Store z base o d) =
      every HasOne (abstract.abstract_register_value a base) _ (λ to. every HasOne (abstract.operand_abstract ops W64 a o) _ (λ known. every HasOne (abstract.abstract_pointer to) _ (λ u. store_straight a to d z known)))
  step_successors a (insn.LoadImm dst value) = goes_straight a dst (Ok (known.Scalar (ops.exact value)))
  step_successors a (insn.Call n) = every HasOne (ok_or (helper_of n) reasons.UnknownHelper) _ (λ h. helper_straight a h)
  step_successors a insn.Exit = every (λ (answer : Next D). successors_in answer ≡ successors_of insn.Exit) (abstract.abstract_register_value a reg.R0) _ exits

  -- ---- refused steps

  checked : (b : Bool) (reason : Reason) → IsStepReason reason → IfErr (check b reason) IsStepReason
  checked true reason h = tt
  checked false reason h = h

  found : {X : Type 0} (option : Option X) (reason : Reason) → IsStepReason reason → IfErr (ok_or option reason) IsStepReason
  found None reason h = h
  found (Some x) reason h = tt

  held_reasons : (k : AbstractValue D) → IfErr (abstract.abstract_content k) IsStepReason
  held_reasons known.Nothing = tt
  held_reasons k = tt

  operand_reasons : (w : Width) (a : AbsState D) (o : Operand) → IfErr (abstract.operand_abstract ops w a o) IsStepReason
  operand_reasons w a (operand.Reg r) = held_reasons (abstract_at a.values r)
  operand_reasons w a (operand.Imm n) = tt

  moved_reasons : (kind : ℤ → AbstractValue D) (option : Option ℤ) → IfErr (abstract.abstract_pointer_to kind option) IsStepReason
  moved_reasons kind None = tt
  moved_reasons kind (Some place) = tt

  alu_reasons : (a : AbsState D) (op : AluOp) (w : Width) (x y : AbstractValue D) → IfErr (abstract.abstract_alu_result ops a op w x y) IsStepReason
  alu_reasons a op w (known.Scalar m) (known.Scalar n) = tt
  alu_reasons a op w (known.Data anchor k) (known.Scalar n) = found (abstract.data_sum a anchor op w k (ops.bounds n)) reasons.PointerArithmetic tt
  alu_reasons a op w (known.Stack k) (known.Scalar n) = moved_reasons known.Stack (abstract.moved_by op w k (abstract.single_of ops n))
  alu_reasons a op w x y = tt

  one_reasons : (op : UnaryOp) (x : AbstractValue D) → IfErr (abstract.abstract_number_of_one ops op x) IsStepReason
  one_reasons op (known.Scalar m) = tt
  one_reasons op x = tt

  unary_reasons : (op : UnaryOp) (x : AbstractValue D) → IfErr (abstract.abstract_unary_result ops op x) IsStepReason
  unary_reasons (Mov W64) x = tt
  unary_reasons (Mov W32) x = one_reasons (Mov W32) x
  unary_reasons (Neg w) x = one_reasons (Neg w) x
  unary_reasons (SignExtend e) x = one_reasons (SignExtend e) x
  unary_reasons (Swap op z) x = one_reasons (Swap op z) x

  order_reasons : (c : Condition) (bound : Branch → Option Bound) → IfErr (abstract.order_implication c bound) IsStepReason
  order_reasons c bound = faults IsStepReason (check (abstract.is_order c) reasons.PointerCompare) _ (checked (abstract.is_order c) reasons.PointerCompare tt) (λ u. tt)

  compared_reasons : (w : Width) (c : Condition) (x y : AbstractValue D) → IfErr (abstract.places_compared w c x y) IsStepReason
  compared_reasons w c (known.Scalar x) y = tt
  compared_reasons W64 c (known.Data anchor k) known.End = faults IsStepReason (abstract.order_implication c (data_bound c k)) _ (order_reasons c (data_bound c k)) (λ i. tt)
  compared_reasons W64 c known.End (known.Data anchor k) = faults IsStepReason (abstract.order_implication c (data_bound (converse c) k)) _ (order_reasons c (data_bound (converse c) k)) (λ i. tt)
  compared_reasons w c x y = tt

  places_reasons : (a : AbsState D) (w : Width) (c : Condition) (x y : AbstractValue D) → IfErr (abstract.fork_of_places a w c x y) IsStepReason
  places_reasons a w c x y = faults IsStepReason (abstract.places_compared w c x y) _ (compared_reasons w c x y) (λ t. tt)

  fork_reasons : (a : AbsState D) (w : Width) (c : Condition) (dst : Reg) (o : Operand) (x y : AbstractValue D) → IfErr (abstract.fork ops a w c dst o x y) IsStepReason
  fork_reasons a w c dst o (known.Scalar x) (known.Scalar y) = tt
  fork_reasons a w c dst o x y = places_reasons a w c x y

  field_reasons : (d : ℤ) (z : Size) → IfErr (abstract.abstract_load_field ops d z) IsStepReason
  field_reasons d z = faults IsStepReason (ok_or (field_at d z) reasons.ContextAccess) _ (found (field_at d z) reasons.ContextAccess tt) (λ f. tt)

  region_reasons : (a : AbsState D) (x : AbstractValue D) (d : ℤ) (n : ℕ) → IfErr (abstract.access_region a x d n) IsStepReason
  unfolding access_region
  region_reasons a known.Nothing d n = tt
  region_reasons a (known.Scalar m) d n = tt
  region_reasons a known.Ctx d n = tt
  region_reasons a (known.Stack k) d n =
      faults IsStepReason (ok_or (index_within (k +ℤ d) n stack_first stack_first (pos 0)) reasons.StackBounds) _ (found (index_within (k +ℤ d) n stack_first stack_first (pos 0)) reasons.StackBounds tt) (λ i. tt)
  region_reasons a (known.Data anchor k) d n =
      faults IsStepReason (check (is_within (k +ℤ d) n (headroom_first -ℤ low_of anchor) (proved_of a anchor)) reasons.DatagramBounds) _ (checked (is_within (k +ℤ d) n (headroom_first -ℤ low_of anchor) (proved_of a anchor)) reasons.DatagramBounds tt) (λ u. tt)
  region_reasons a known.End d n =
      faults IsStepReason (check (is_within (pos 0 +ℤ d) n (pos 0) (pos TAILROOM)) reasons.DatagramBounds) _ (checked (is_within (pos 0 +ℤ d) n (pos 0) (pos TAILROOM)) reasons.DatagramBounds tt) (λ u. tt)

  cells_reasons : (a : AbsState D) (n i : ℕ) → IfErr (abstract.cells_readable a n i) IsStepReason
  cells_reasons a n i = faults IsStepReason (check (not (abstract.touches_known a n i)) reasons.PointerBytes) _ (checked (not (abstract.touches_known a n i)) reasons.PointerBytes tt) (λ u. checked (are_marked a.marks i n) reasons.UninitStack tt)

  marks_reasons : (a : AbsState D) (n : ℕ) (region : Region) → IfErr (abstract.region_readable a n region) IsStepReason
  marks_reasons a n (InStack i) = cells_reasons a n i
  marks_reasons a n InBytes = tt

  known_reasons : (o : Option (AbstractValue D)) (allowed : Result (Unit {0}) Reason) (number : D) → IfErr allowed IsStepReason → IfErr (abstract.known_or o allowed number) IsStepReason
  known_reasons (Some k) allowed number h = tt
  known_reasons None allowed number h = faults IsStepReason allowed _ h (λ u. tt)

  value_reasons : (a : AbsState D) (x : AbstractValue D) (d : ℤ) (z : Size) → IfErr (abstract.abstract_load_value ops a x d z) IsStepReason
  unfolding abstract_load_value
  value_reasons a x d z = faults IsStepReason (abstract.access_region a x d (byte_count z)) _ (region_reasons a x d (byte_count z)) (λ r. known_reasons (abstract.known_in a (abstract.known_group r z)) (abstract.region_readable a (byte_count z) r) (abstract.number_of_size ops z) (marks_reasons a (byte_count z) r))

  readable_reasons : (a : AbsState D) (x : AbstractValue D) (d : ℤ) (n : ℕ) → IfErr (abstract.readable a x d n) IsStepReason
  unfolding readable
  readable_reasons a x d n = faults IsStepReason (abstract.access_region a x d n) _ (region_reasons a x d n) (λ r. marks_reasons a n r)

  number_reasons : (a : AbsState D) (x : AbstractValue D) (d : ℤ) (n : ℕ) (number : D) → IfErr (abstract.abstract_load_number a x d n number) IsStepReason
  number_reasons a x d n number = faults IsStepReason (abstract.readable a x d n) _ (readable_reasons a x d n) (λ u. tt)

  load_reasons : (a : AbsState D) (x : AbstractValue D) (d : ℤ) (z : Size) → IfErr (abstract.abstract_load ops a x d z) IsStepReason
  load_reasons a known.Ctx d z = field_reasons d z
  load_reasons a known.Nothing d z = value_reasons a known.Nothing d z
  load_reasons a (known.Scalar n) d z = value_reasons a (known.Scalar n) d z
  load_reasons a (known.Stack k) d z = value_reasons a (known.Stack k) d z
  load_reasons a (known.Data anchor k) d z = value_reasons a (known.Data anchor k) d z
  load_reasons a known.End d z = value_reasons a known.End d z

  pointer_reasons : (x : AbstractValue D) → IfErr (abstract.abstract_pointer x) IsStepReason
  pointer_reasons (known.Scalar n) = tt
  pointer_reasons x = tt

  number_stored : (a : AbsState D) (to : AbstractValue D) (d : ℤ) (z : Size) → IfErr (abstract.abstract_store_number a to d z) IsStepReason
  number_stored a to d z = faults IsStepReason (abstract.access_region a to d (byte_count z)) _ (region_reasons a to d (byte_count z)) (λ r. tt)

  pointer_stored : (a : AbsState D) (to : AbstractValue D) (d : ℤ) (z : Size) (v : AbstractValue D) → IfErr (abstract.abstract_store_pointer a to d z v) IsStepReason
  pointer_stored a (known.Stack k) d size.Double v =
      faults IsStepReason (check (is_group_place (k +ℤ d)) reasons.PointerStored) _ (checked (is_group_place (k +ℤ d)) reasons.PointerStored tt)
      (λ u. faults IsStepReason (ok_or (index_within (k +ℤ d) 8 stack_first stack_first (pos 0)) reasons.StackBounds) _ (found (index_within (k +ℤ d) 8 stack_first stack_first (pos 0)) reasons.StackBounds tt) (λ i. tt))
  pointer_stored a (known.Stack k) d size.Word v = tt
  pointer_stored a (known.Stack k) d size.Half v = tt
  pointer_stored a (known.Stack k) d size.Byte v = tt
  pointer_stored a known.Nothing d z v = tt
  pointer_stored a (known.Scalar n) d z v = tt
  pointer_stored a known.Ctx d z v = tt
  pointer_stored a (known.Data anchor k) d z v = tt
  pointer_stored a known.End d z v = tt

  stored_reasons : (a : AbsState D) (to : AbstractValue D) (d : ℤ) (z : Size) (v : AbstractValue D) → IfErr (abstract.store_known a to d z v) IsStepReason
  stored_reasons a to d z (known.Scalar n) = number_stored a to d z
  stored_reasons a to d z known.Nothing = pointer_stored a to d z known.Nothing
  stored_reasons a to d z known.Ctx = pointer_stored a to d z known.Ctx
  stored_reasons a to d z (known.Stack k) = pointer_stored a to d z (known.Stack k)
  stored_reasons a to d z (known.Data anchor k) = pointer_stored a to d z (known.Data anchor k)
  stored_reasons a to d z known.End = pointer_stored a to d z known.End

  store_reasons : (a : AbsState D) (z : Size) (base : Reg) (o : Operand) (d : ℤ) → IfErr (abstract.store_step ops a z base o d) IsStepReason
  store_reasons a z base o d =
      faults IsStepReason (abstract.abstract_register_value a base) _ (held_reasons (abstract_at a.values base)) (λ to. faults IsStepReason (abstract.operand_abstract ops W64 a o) _ (operand_reasons W64 a o)
      (λ known. faults IsStepReason (abstract.abstract_pointer to) _ (pointer_reasons to) (λ u. stored_reasons a to d z known)))

  context_value_reasons : (r : Reg) (x : AbstractValue D) → IfErr (abstract.abstract_context_value r x) IsStepReason
  context_value_reasons r known.Ctx = tt
  context_value_reasons r x = tt

  context_reasons : (a : AbsState D) (r : Reg) → IfErr (abstract.abstract_context_argument a r) IsStepReason
  context_reasons a r = faults IsStepReason (abstract.abstract_register_value a r) _ (held_reasons (abstract_at a.values r)) (context_value_reasons r)

  number_value_reasons : (r : Reg) (x : AbstractValue D) → IfErr (abstract.abstract_number_value r x) IsStepReason
  number_value_reasons r (known.Scalar n) = tt
  number_value_reasons r x = tt

  argument_reasons : (a : AbsState D) (r : Reg) → IfErr (abstract.abstract_number_argument a r) IsStepReason
  argument_reasons a r = faults IsStepReason (abstract.abstract_register_value a r) _ (held_reasons (abstract_at a.values r)) (number_value_reasons r)

  pointer_argument_reasons : (a : AbsState D) (n : ℕ) (r : Reg) → IfErr (abstract.abstract_stack_argument a n r) IsStepReason
  pointer_argument_reasons a n r = faults IsStepReason (abstract.abstract_register_value a r) _ (held_reasons (abstract_at a.values r)) (λ x. found (abstract.abstract_stack_index n x) (reasons.HelperArgument (number_of r)) tt)

  record_argument_reasons : (a : AbsState D) (form : RecordForm) (r : Reg) → IfErr (abstract.abstract_record_argument a form r) IsStepReason
  record_argument_reasons a form r = faults IsStepReason (abstract.abstract_stack_argument a (record_bytes form) r) _ (pointer_argument_reasons a (record_bytes form) r) (λ i. cells_reasons a (record_bytes form) i)

  kind_reasons : (a : AbsState D) (r : Reg) (argument : Argument) (out : Option Room) → IfErr (abstract.abstract_with_argument a r argument out) IsStepReason
  kind_reasons a r argument.Unused out = tt
  kind_reasons a r argument.Context out = faults IsStepReason (abstract.abstract_context_argument a r) _ (context_reasons a r) (λ u. tt)
  kind_reasons a r argument.Number out = faults IsStepReason (abstract.abstract_number_argument a r) _ (argument_reasons a r) (λ u. tt)
  kind_reasons a r (argument.RecordIn form) out = faults IsStepReason (abstract.abstract_record_argument a form r) _ (record_argument_reasons a form r) (λ u. tt)
  kind_reasons a r (argument.RecordOut form) out = faults IsStepReason (abstract.abstract_stack_argument a (record_bytes form) r) _ (pointer_argument_reasons a (record_bytes form) r) (λ i. tt)

  out_reasons : (a : AbsState D) (xs : List Argument) → IfErr (abstract.out_of a xs) IsStepReason
  out_reasons a xs =
      faults IsStepReason (abstract.abstract_with_argument a reg.R1 (argument_at xs 0) None) _ (kind_reasons a reg.R1 (argument_at xs 0) None)
      (λ b. faults IsStepReason (abstract.abstract_with_argument a reg.R2 (argument_at xs 1) b) _ (kind_reasons a reg.R2 (argument_at xs 1) b)
      (λ c. faults IsStepReason (abstract.abstract_with_argument a reg.R3 (argument_at xs 2) c) _ (kind_reasons a reg.R3 (argument_at xs 2) c)
      (λ d. faults IsStepReason (abstract.abstract_with_argument a reg.R4 (argument_at xs 3) d) _ (kind_reasons a reg.R4 (argument_at xs 3) d)
      (λ e. kind_reasons a reg.R5 (argument_at xs 4) e))))

  helper_reasons : (a : AbsState D) (helper : Helper) → IfErr (abstract.helper_step ops a helper) IsStepReason
  helper_reasons a helper = faults IsStepReason (abstract.out_of a (signature_of helper).arguments) _ (out_reasons a (signature_of helper).arguments) (λ out. tt)

  exit_reasons : (k : AbstractValue D) → IfErr (abstract.exit_with k) IsStepReason
  exit_reasons (known.Scalar n) = tt
  exit_reasons k = tt

  may_write : (r : Reg) → IfErr (writable r) IsStepReason
  may_write r = checked (is_writable r) reasons.WritesFramePointer tt

  written_reasons : (a : AbsState D) (dst : Reg) (known : Result (AbstractValue D) Reason) → IfErr known IsStepReason → IfErr (abstract.abstract_register_write a dst known) IsStepReason
  written_reasons a dst known h = faults IsStepReason (writable dst) _ (may_write dst) (λ u. faults IsStepReason known _ h (λ k. tt))

  one_step_reasons : (a : AbsState D) (w : Width) (op : UnaryOp) (dst : Reg) (o : Operand) → IfErr (abstract.unary_step ops a w op dst o) IsStepReason
  one_step_reasons a w op dst o = faults IsStepReason (abstract.operand_abstract ops w a o) _ (operand_reasons w a o) (λ x. written_reasons a dst (abstract.abstract_unary_result ops op x) (unary_reasons op x))

  load_step_reasons : (a : AbsState D) (loaded : AbstractValue D → Result (AbstractValue D) Reason) (dst base : Reg) → ((x : AbstractValue D) → IfErr (loaded x) IsStepReason) → IfErr (abstract.loaded_step a loaded dst base) IsStepReason
  load_step_reasons a loaded dst base h = faults IsStepReason (abstract.abstract_register_value a base) _ (held_reasons (abstract_at a.values base)) (λ x. written_reasons a dst (loaded x) (h x))

  -- a refused step has one of the reasons of steps
  pub step_reasons : (a : AbsState D) (i : Insn) → IfErr (abstract.abstract_step ops a i) IsStepReason
  step_reasons a (insn.Alu w op dst o) =
      faults IsStepReason (abstract.abstract_register_value a dst) _ (held_reasons (abstract_at a.values dst)) (λ x. faults IsStepReason (abstract.operand_abstract ops w a o) _ (operand_reasons w a o)
      (λ y. written_reasons a dst (abstract.abstract_alu_result ops a op w x y) (alu_reasons a op w x y)))
  step_reasons a (insn.Mov w dst o) = one_step_reasons a w (Mov w) dst o
  step_reasons a (insn.Neg w dst) = one_step_reasons a w (Neg w) dst (operand.Reg dst)
  step_reasons a (insn.SignExtend e dst src) = one_step_reasons a (target_of e) (SignExtend e) dst (operand.Reg src)
  step_reasons a (insn.Swap op z dst) = one_step_reasons a W64 (Swap op z) dst (operand.Reg dst)
  step_reasons a (insn.Jump offset) = tt
  step_reasons a (insn.LongJump offset) = tt
  step_reasons a (insn.JumpIf w c dst o offset) =
      faults IsStepReason (abstract.abstract_register_value a dst) _ (held_reasons (abstract_at a.values dst)) (λ x. faults IsStepReason (abstract.operand_abstract ops w a o) _ (operand_reasons w a o)
      (λ y. fork_reasons a w c dst o x y))
  step_reasons a (insn.Load z dst base d) = load_step_reasons a (λ pointer. abstract.abstract_load ops a pointer d z) dst base (λ x. load_reasons a x d z)
  step_reasons a (insn.LoadSigned z dst base d) = load_step_reasons a (λ pointer. abstract.abstract_load_signed ops a pointer d z) dst base (λ x. number_reasons a x d (byte_count (unsigned_size z)) ops.top)
  step_reasons a (insn.Store z base o d) = store_reasons a z base o d
  step_reasons a (insn.LoadImm dst value) = written_reasons a dst (Ok (known.Scalar (ops.exact value))) tt
  step_reasons a (insn.Call n) = faults IsStepReason (ok_or (helper_of n) reasons.UnknownHelper) _ (found (helper_of n) reasons.UnknownHelper tt) (λ h. helper_reasons a h)
  step_reasons a insn.Exit = faults IsStepReason (abstract.abstract_register_value a reg.R0) _ (held_reasons (abstract_at a.values reg.R0)) exit_reasons
