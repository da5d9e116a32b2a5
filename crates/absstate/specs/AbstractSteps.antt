-- Interface. The abstract step: the abstract states after an instruction, or the reason for which a step from here
-- could be stuck. The tests come in the order of the tagged machine. Numbers are computed by the operations of a
-- domain.
use Rattle.std.specs.Prelude.{ℕ, suc, ◌+◌, ◌-◌, ◌^◌, ◌≤◌, Bool, true, false, not, ◌&&◌, ℤ, pos, negsuc, ◌+ℤ◌, ◌-ℤ◌, int_le, int_lt, List, Option, Some, None, Result, Ok, Err, ◌==◌, if◌then◌else◌}
use Rattle.std.specs.List.{list_any, range_with_len}
use Rattle.std.specs.Option.{ok_or, option_map}
use Rattle.std.specs.Int.{w64, cast_signed}
use Rattle.insn.specs.Codes.{byte_count, unsigned_size}
use Rattle.insn.specs.Register.{number_of}
use Rattle.insn.specs.Words.{imm_word, target_of}
use Rattle.insn.specs.declared.register.Reg.{Reg}
use Rattle.insn.specs.declared.register.Reg.TheVariants as reg
use Rattle.insn.specs.declared.size.Size.{Size}
use Rattle.insn.specs.declared.size.Size.TheVariants as size
use Rattle.insn.specs.declared.operator.AluOp.{AluOp}
use Rattle.insn.specs.declared.operator.UnaryOp.{UnaryOp}
use Rattle.insn.specs.declared.operator.UnaryOp.TheVariants.{Mov, Neg, SignExtend, Swap}
use Rattle.insn.specs.declared.width.Width.{Width}
use Rattle.insn.specs.declared.width.Width.TheVariants.{W32, W64}
use Rattle.insn.specs.declared.size.SignedSize.{SignedSize}
use Rattle.insn.specs.declared.condition.Condition.{Condition}
use Rattle.insn.specs.declared.condition.Condition.TheVariants as condition
use Rattle.insn.specs.declared.instruction.Operand.{Operand}
use Rattle.insn.specs.declared.instruction.Operand.TheVariants as operand
use Rattle.insn.specs.declared.instruction.Insn.{Insn}
use Rattle.insn.specs.declared.instruction.Insn.TheVariants as insn
use Rattle.basics.specs.Fallible.{◌>>=◌, check}
use Rattle.semantics.specs.Access.{is_within, index_within, stack_first, headroom_first, group_of, is_aligned}
use Rattle.semantics.specs.Loading.{field_at}
use Rattle.semantics.specs.Calls.{helper_of, signature_of, argument_at}
use Rattle.semantics.specs.Effects.{writable, moved_place, is_group_place}
use Rattle.semantics.specs.declared.helper.Argument.{Argument}
use Rattle.semantics.specs.declared.helper.Argument.TheVariants as argument
use Rattle.semantics.specs.declared.helper.Helper.{Helper}
use Rattle.semantics.specs.Calls.{record_bytes}
use Rattle.semantics.specs.declared.helper.RecordForm.{RecordForm}
use Rattle.semantics.specs.declared.helper.Room.{Room}
use Rattle.semantics.specs.LooseRuns.{Bound, AtMost, Below, data_bound, converse}
use Rattle.semantics.specs.declared.fetching.Branch.{Branch}
use Rattle.semantics.specs.declared.fetching.Branch.TheVariants.{NotTaken, Taken}
use Rattle.semantics.specs.declared.limits.TheConstants.{MAX_DATAGRAM, STACK_BYTES, GROUP_BYTES, TAILROOM}
use Rattle.semantics.specs.declared.loading.ContextField.{ContextField}
use Rattle.semantics.specs.declared.loading.ContextField.TheVariants as field
use Rattle.semantics.specs.declared.reason.Reason.{Reason}
use Rattle.semantics.specs.declared.reason.Reason.TheVariants.{UninitRegister, UninitStack, StackBounds, ContextAccess, DatagramBounds, PointerArithmetic, PointerCompare, PointerStored, UnknownHelper, HelperArgument, ExitNotScalar, NotAPointer, PointerBytes}
use Rattle.interval.specs.Domains.{Operations}
use Rattle.interval.specs.declared.domain.Test.{Test}
use Rattle.interval.specs.declared.domain.Test.TheVariants.{Holds, Fails}
use Rattle.absstate.specs.AbstractStates.{abstract_at, group_at, are_marked, low_of, high_of, proved_of, greatest_id, with_value, with_least, with_marks, abstract_with_pointer, with_answer, with_out}
use Rattle.absstate.specs.declared.abstract_state.Anchor.{Anchor}
use Rattle.absstate.specs.declared.abstract_state.Anchor.TheVariants.{First, Variable}
use Rattle.interval.specs.declared.domain.Bounds.{Bounds}
use Rattle.insn.specs.declared.operator.AluOp.TheVariants.{Add, Sub}
use Rattle.absstate.specs.declared.abstract_state.AbstractValue.{AbstractValue}
use Rattle.absstate.specs.declared.abstract_state.AbstractValue.TheVariants.{Nothing, Scalar, Ctx, Stack, Data, End}
use Rattle.absstate.specs.declared.abstract_state.AbsState.{AbsState}
use Rattle.absstate.specs.declared.abstract_step.Next.{Next}
use Rattle.absstate.specs.declared.abstract_step.Next.TheVariants as next
use Rattle.absstate.specs.declared.branching.Implied.{Implied}
use Rattle.absstate.specs.declared.memory.Region.{Region}
use Rattle.absstate.specs.declared.memory.Region.TheVariants.{InStack, InBytes}

-- ---- what is read

abbrev pub abstract_content : {D : Type 0} → AbstractValue D → Result (AbstractValue D) Reason
abstract_content Nothing = Err UninitRegister
abstract_content (Scalar n) = Ok (Scalar n)
abstract_content Ctx = Ok Ctx
abstract_content (Stack k) = Ok (Stack k)
abstract_content (Data anchor k) = Ok (Data anchor k)
abstract_content End = Ok End

abbrev pub abstract_register_value : {D : Type 0} → AbsState D → Reg → Result (AbstractValue D) Reason
abstract_register_value a r = abstract_content (abstract_at a.values r)

-- a register, or the imm as a word of the instruction's width
abbrev pub operand_abstract : {D : Type 0} → Operations D → Width → AbsState D → Operand → Result (AbstractValue D) Reason
operand_abstract ops w a (operand.Reg r) = abstract_register_value a r
operand_abstract ops w a (operand.Imm n) = Ok (Scalar (ops.exact (imm_word w n)))

-- ---- arithmetic

-- the one number within the bounds of an abstract number, if there is one alone
abbrev pub single_of : {D : Type 0} → Operations D → D → Option ℕ
single_of ops x = if (ops.bounds x).lo == (ops.bounds x).hi then Some (ops.bounds x).lo else None

-- a pointer into the stack moves by a single number only
abbrev pub moved_by : AluOp → Width → ℤ → Option ℕ → Option ℤ
moved_by op w k None = None
moved_by op w k (Some n) = moved_place op w k n

abbrev pub with_both : {A : Type 0} → Option ℤ → Option ℤ → (ℤ → ℤ → Option A) → Option A
with_both (Some x) (Some y) f = f x y
with_both (Some x) None f = None
with_both None other f = None

-- an offset of 32 bits
abbrev pub short_offset : ℤ → Option ℤ
short_offset offset = if (int_le (negsuc 2147483647) offset && int_le offset (pos 2147483647)) then Some offset else None

-- an offset from an anchor with places from low to high, moved by a single number: both ends stay near
abbrev pub moved_offset : AluOp → Width → ℤ → ℤ → ℤ → ℕ → Option ℤ
moved_offset op w low high k n = with_both (moved_place op w (low +ℤ k) n) (moved_place op w (high +ℤ k) n) (λ least greatest. short_offset (least -ℤ low))

-- the least and the greatest place after a sum with a number within bounds
abbrev pub lowest : AluOp → Width → ℤ → Bounds → Option ℤ
lowest Add w low b = moved_place Add w low b.lo
lowest Sub w low b = moved_place Sub w low b.hi
lowest op w low b = None

abbrev pub highest : AluOp → Width → ℤ → Bounds → Option ℤ
highest Add w high b = moved_place Add w high b.hi
highest Sub w high b = moved_place Sub w high b.lo
highest op w high b = None

-- bounds on one side of 2^63: their numbers lie, read with their sign, between the ends
abbrev pub is_one_sided : Bounds → Bool
is_one_sided b = int_le (cast_signed w64 b.lo) (cast_signed w64 b.hi)

-- what is proved of an anchor, between -2^21 and what 32 bits hold
abbrev pub proved_within : ℤ → ℤ
proved_within p = if int_lt p (negsuc 2097151) then negsuc 2097151 else if int_lt (pos 2147483647) p then pos 2147483647 else p

-- an anchor of its own, with the next number that no register has
abbrev pub made_anchor : {D : Type 0} → AbsState D → Anchor → ℤ → ℤ → Anchor
made_anchor a anchor least greatest = Variable (suc (greatest_id a.values)) least greatest (proved_within (proved_of a anchor -ℤ (greatest -ℤ high_of anchor)))

abbrev pub made_between : {D : Type 0} → AbsState D → Anchor → Bounds → ℤ → ℤ → Option (AbstractValue D)
made_between a anchor b least greatest = if (is_one_sided b && int_le (pos (suc (greatest_id a.values))) (pos 4294967295)) then Some (Data (made_anchor a anchor least greatest) (pos 0)) else None

abbrev pub made_sum : {D : Type 0} → AbsState D → Anchor → AluOp → Width → ℤ → Bounds → Option (AbstractValue D)
made_sum a anchor op w k b = with_both (lowest op w (low_of anchor +ℤ k) b) (highest op w (high_of anchor +ℤ k) b) (made_between a anchor b)

-- a single number moves the offset, any other one makes an anchor
abbrev pub single_sum : Anchor → AluOp → Width → ℤ → ℕ → Option ℤ
single_sum First op w k n = moved_place op w k n
single_sum (Variable id low high proved) op w k n = moved_offset op w low high k n

abbrev pub data_sum : {D : Type 0} → AbsState D → Anchor → AluOp → Width → ℤ → Bounds → Option (AbstractValue D)
data_sum a anchor op w k b = if b.lo == b.hi then option_map (Data anchor) (single_sum anchor op w k b.lo) else made_sum a anchor op w k b

abbrev pub abstract_pointer_to : {D : Type 0} → (ℤ → AbstractValue D) → Option ℤ → Result (AbstractValue D) Reason
abstract_pointer_to kind place = do
  k ← ok_or place PointerArithmetic
  Ok (kind k)

-- two numbers give a number, and a pointer is moved by a number
abbrev pub abstract_alu_result : {D : Type 0} → Operations D → AbsState D → AluOp → Width → AbstractValue D → AbstractValue D → Result (AbstractValue D) Reason
abstract_alu_result ops state op w (Scalar a) (Scalar b) = Ok (Scalar (ops.alu op w a b))
abstract_alu_result ops state op w (Data anchor k) (Scalar b) = ok_or (data_sum state anchor op w k (ops.bounds b)) PointerArithmetic
abstract_alu_result ops state op w (Stack k) (Scalar b) = abstract_pointer_to Stack (moved_by op w k (single_of ops b))
abstract_alu_result ops state op w _ _ = Err PointerArithmetic

-- a number gives a number
abbrev pub abstract_number_of_one : {D : Type 0} → Operations D → UnaryOp → AbstractValue D → Result (AbstractValue D) Reason
abstract_number_of_one ops op (Scalar a) = Ok (Scalar (ops.unary op a))
abstract_number_of_one ops op _ = Err PointerArithmetic

-- a move of 64 bits copies any value
abbrev pub abstract_unary_result : {D : Type 0} → Operations D → UnaryOp → AbstractValue D → Result (AbstractValue D) Reason
abstract_unary_result ops (Mov W64) v = Ok v
abstract_unary_result ops (Mov W32) v = abstract_number_of_one ops (Mov W32) v
abstract_unary_result ops (Neg w) v = abstract_number_of_one ops (Neg w) v
abstract_unary_result ops (SignExtend e) v = abstract_number_of_one ops (SignExtend e) v
abstract_unary_result ops (Swap op z) v = abstract_number_of_one ops (Swap op z) v

-- the register has to be writable, and then there has to be a result
abbrev pub abstract_register_write : {D : Type 0} → AbsState D → Reg → Result (AbstractValue D) Reason → Result (Next D) Reason
abstract_register_write a dst result = do
  allowed ← writable dst
  known ← result
  Ok (next.On (with_value a dst known))

abbrev pub alu_step : {D : Type 0} → Operations D → AbsState D → Width → AluOp → Reg → Operand → Result (Next D) Reason
alu_step ops a w op dst o = do
  x ← abstract_register_value a dst
  y ← operand_abstract ops w a o
  abstract_register_write a dst (abstract_alu_result ops a op w x y)

abbrev pub unary_step : {D : Type 0} → Operations D → AbsState D → Width → UnaryOp → Reg → Operand → Result (Next D) Reason
unary_step ops a w op dst o = do
  x ← operand_abstract ops w a o
  abstract_register_write a dst (abstract_unary_result ops op x)

-- ---- conditional jumps of two numbers

-- What is left of the operands of a test is written to their registers. An imm isn't changed, and of a register that is
-- compared with itself no more is known.
abbrev pub with_operands : {D : Type 0} → AbsState D → Reg → Operand → D × D → AbsState D
with_operands a dst (operand.Imm n) left = with_value a dst (Scalar left.0)
with_operands a dst (operand.Reg src) left =
    if number_of dst == number_of src then a else with_value (with_value a dst (Scalar left.0)) src (Scalar left.1)

-- no state where no pair of numbers passes the test
abbrev pub state_with_operands : {D : Type 0} → AbsState D → Reg → Operand → Option (D × D) → Option (AbsState D)
state_with_operands a dst o None = None
state_with_operands a dst o (Some left) = Some (with_operands a dst o left)

abbrev pub state_past_test : {D : Type 0} → Operations D → AbsState D → Test → Width → Reg → Operand → D → D → Option (AbsState D)
state_past_test ops a test w dst o x y = state_with_operands a dst o (ops.refine test w x y)

-- ---- conditional jumps of a place and the end

-- the least length of the datagram that a bound implies
abbrev pub least_length : Bound → ℤ
least_length (AtMost k) = k
least_length (Below k) = k +ℤ pos 1

abbrev pub least_of : Option Bound → Option ℤ
least_of bound = option_map least_length bound

abbrev pub implied_by : (Branch → Option Bound) → Implied
implied_by bound = record { not_taken = least_of (bound NotTaken); taken = least_of (bound Taken) }

-- a place may be compared with the end by the four unsigned orders
abbrev pub is_order : Condition → Bool
is_order condition.Gt = true
is_order condition.Ge = true
is_order condition.Lt = true
is_order condition.Le = true
is_order condition.Eq = false
is_order condition.Set = false
is_order condition.Ne = false
is_order condition.SignedGt = false
is_order condition.SignedGe = false
is_order condition.SignedLt = false
is_order condition.SignedLe = false

abbrev pub order_implication : Condition → (Branch → Option Bound) → Result Implied Reason
order_implication c bound = do
  allowed ← check (is_order c) PointerCompare
  Ok (implied_by bound)

-- what the branches of a comparison imply of how far the datagram reaches from an anchor on
abbrev pub at_anchor : Anchor → Result Implied Reason → Result (Anchor × Implied) Reason
at_anchor anchor implied = do
  i ← implied
  Ok (anchor, i)

abbrev pub places_compared : {D : Type 0} → Width → Condition → AbstractValue D → AbstractValue D → Result (Anchor × Implied) Reason
places_compared w c (Scalar x) y = Err PointerCompare
places_compared W64 c (Data anchor k) End = at_anchor anchor (order_implication c (data_bound c k))
places_compared W64 c End (Data anchor k) = at_anchor anchor (order_implication c (data_bound (converse c) k))
places_compared w c _ _ = Err PointerCompare

abbrev pub fork_of_places : {D : Type 0} → AbsState D → Width → Condition → AbstractValue D → AbstractValue D → Result (Next D) Reason
fork_of_places a w c x y = do
  implied ← places_compared w c x y
  Ok (next.Fork (Some (with_least a implied.0 implied.1.not_taken)) (Some (with_least a implied.0 implied.1.taken)))

-- ---- conditional jumps

abbrev pub fork : {D : Type 0} → Operations D → AbsState D → Width → Condition → Reg → Operand → AbstractValue D → AbstractValue D → Result (Next D) Reason
fork ops a w c dst o (Scalar x) (Scalar y) = Ok (next.Fork (state_past_test ops a (Fails c) w dst o x y) (state_past_test ops a (Holds c) w dst o x y))
fork ops a w c dst o x y = fork_of_places a w c x y

abbrev pub branch_step : {D : Type 0} → Operations D → AbsState D → Width → Condition → Reg → Operand → Result (Next D) Reason
branch_step ops a w c dst o = do
  x ← abstract_register_value a dst
  y ← operand_abstract ops w a o
  fork ops a w c dst o x y

-- ---- memory

-- Where n bytes lie that a base with a displacement reaches, as far as that is known: in the stack by their index, in the
-- datagram as far as is proved.
abbrev pub region_in_stack : ℤ → ℕ → Result Region Reason
region_in_stack place n = do
  i ← ok_or (index_within place n stack_first stack_first (pos 0)) StackBounds
  Ok (InStack i)

abbrev pub region_in_datagram : ℤ → ℕ → ℤ → ℤ → Result Region Reason
region_in_datagram place n low high = do
  inside ← check (is_within place n low high) DatagramBounds
  Ok InBytes

unfoldable pub access_region : {D : Type 0} → AbsState D → AbstractValue D → ℤ → ℕ → Result Region Reason
access_region a Nothing d n = Err UninitRegister
access_region a (Scalar number) d n = Err NotAPointer
access_region a Ctx d n = Err ContextAccess
access_region a (Stack k) d n = region_in_stack (k +ℤ d) n
access_region a (Data anchor k) d n = region_in_datagram (k +ℤ d) n (headroom_first -ℤ low_of anchor) (proved_of a anchor)
access_region a End d n = region_in_datagram (pos 0 +ℤ d) n (pos 0) (pos TAILROOM)

-- n bytes of a region of the stack lie inside
abbrev pub IsInStack : ℕ → Region → Type 0
IsInStack n (InStack i) = i + n ≤ STACK_BYTES
IsInStack n InBytes = Unit {0}

abbrev pub is_known_pointer : {D : Type 0} → AbstractValue D → Bool
is_known_pointer Nothing = false
is_known_pointer (Scalar n) = false
is_known_pointer Ctx = true
is_known_pointer (Stack k) = true
is_known_pointer (Data anchor k) = true
is_known_pointer End = true

-- whether one of the n cells from an index on lies in a group that is known to hold a pointer
abbrev pub touches_known : {D : Type 0} → AbsState D → ℕ → ℕ → Bool
touches_known a n i = list_any (λ j. is_known_pointer (group_at a.values (group_of j))) (range_with_len i n)

-- n cells from an index on may be read as bytes: no pointer's, and those that are set
abbrev pub cells_readable : {D : Type 0} → AbsState D → ℕ → ℕ → Result (Unit {0}) Reason
cells_readable a n i = do
  whole ← check (not (touches_known a n i)) PointerBytes
  check (are_marked a.marks i n) UninitStack

-- n bytes of a region may be read
abbrev pub region_readable : {D : Type 0} → AbsState D → ℕ → Region → Result (Unit {0}) Reason
region_readable a n (InStack i) = cells_readable a n i
region_readable a n InBytes = Ok tt

-- the group that an access reads as a whole
abbrev pub known_group : Region → Size → Option ℕ
known_group (InStack i) size.Double = if is_aligned i then Some (group_of i) else None
known_group r z = None

-- the pointer that it is known to hold
abbrev pub known_pointer : {D : Type 0} → AbstractValue D → Option (AbstractValue D)
known_pointer k = if is_known_pointer k then Some k else None

abbrev pub known_in : {D : Type 0} → AbsState D → Option ℕ → Option (AbstractValue D)
known_in a None = None
known_in a (Some g) = known_pointer (group_at a.values g)

-- the state in which n bytes of a region are set
abbrev pub with_region : {D : Type 0} → AbsState D → ℕ → Region → AbsState D
with_region a n (InStack i) = with_marks a i n
with_region a n InBytes = a

-- ---- loads

-- any number of that many bytes
abbrev pub number_of_size : {D : Type 0} → Operations D → Size → D
number_of_size ops z = ops.range 0 (256 ^ byte_count z - 1)

-- the fields of the context record: a datagram has at most 65,507 bytes, and a side is 0 or 1
abbrev pub field_known : {D : Type 0} → Operations D → ContextField → AbstractValue D
field_known ops field.Datagram = Data First (pos 0)
field_known ops field.End = End
field_known ops field.Length = Scalar (ops.range 0 MAX_DATAGRAM)
field_known ops field.Source = Scalar (number_of_size ops size.Double)
field_known ops field.IdHead = Scalar (number_of_size ops size.Double)
field_known ops field.IdTail = Scalar (number_of_size ops size.Word)
field_known ops field.Side = Scalar (ops.range 0 1)
field_known ops field.WideHead = Scalar (number_of_size ops size.Double)
field_known ops field.WideMiddle = Scalar (number_of_size ops size.Double)
field_known ops field.WideTail = Scalar (number_of_size ops size.Word)

abbrev pub abstract_load_field : {D : Type 0} → Operations D → ℤ → Size → Result (AbstractValue D) Reason
abstract_load_field ops d z = do
  f ← ok_or (field_at d z) ContextAccess
  Ok (field_known ops f)

-- n bytes may be read
unfoldable pub readable : {D : Type 0} → AbsState D → AbstractValue D → ℤ → ℕ → Result (Unit {0}) Reason
readable a base d n = do
  r ← access_region a base d n
  region_readable a n r

-- what is known of the number in n bytes that may be read
abbrev pub abstract_load_number : {D : Type 0} → AbsState D → AbstractValue D → ℤ → ℕ → D → Result (AbstractValue D) Reason
abstract_load_number a base d n number = do
  allowed ← readable a base d n
  Ok (Scalar number)

-- what is known of the pointer of a group, or of the number in bytes that may be read
abbrev pub known_or : {D : Type 0} → Option (AbstractValue D) → Result (Unit {0}) Reason → D → Result (AbstractValue D) Reason
known_or (Some k) allowed number = Ok k
known_or None allowed number = do
  u ← allowed
  Ok (Scalar number)

unfoldable pub abstract_load_value : {D : Type 0} → Operations D → AbsState D → AbstractValue D → ℤ → Size → Result (AbstractValue D) Reason
abstract_load_value ops a base d z = do
  r ← access_region a base d (byte_count z)
  known_or (known_in a (known_group r z)) (region_readable a (byte_count z) r) (number_of_size ops z)

abbrev pub abstract_load : {D : Type 0} → Operations D → AbsState D → AbstractValue D → ℤ → Size → Result (AbstractValue D) Reason
abstract_load ops a Ctx d z = abstract_load_field ops d z
abstract_load ops a base d z = abstract_load_value ops a base d z

abbrev pub abstract_load_signed : {D : Type 0} → Operations D → AbsState D → AbstractValue D → ℤ → SignedSize → Result (AbstractValue D) Reason
abstract_load_signed ops a base d size = abstract_load_number a base d (byte_count (unsigned_size size)) ops.top

abbrev pub loaded_step : {D : Type 0} → AbsState D → (AbstractValue D → Result (AbstractValue D) Reason) → Reg → Reg → Result (Next D) Reason
loaded_step a loaded dst base = do
  from ← abstract_register_value a base
  abstract_register_write a dst (loaded from)

abbrev pub load_step : {D : Type 0} → Operations D → AbsState D → Size → Reg → Reg → ℤ → Result (Next D) Reason
load_step ops a z dst base d = loaded_step a (λ from. abstract_load ops a from d z) dst base

abbrev pub load_signed_step : {D : Type 0} → Operations D → AbsState D → SignedSize → Reg → Reg → ℤ → Result (Next D) Reason
load_signed_step ops a size dst base d = loaded_step a (λ from. abstract_load_signed ops a from d size) dst base

-- ---- stores

-- a number is no pointer
abbrev pub abstract_pointer : {D : Type 0} → AbstractValue D → Result (Unit {0}) Reason
abstract_pointer (Scalar number) = Err NotAPointer
abstract_pointer _ = Ok tt

-- a pointer is stored in a group of the stack, as a whole, and nowhere else
abbrev pub abstract_store_pointer : {D : Type 0} → AbsState D → AbstractValue D → ℤ → Size → AbstractValue D → Result (Next D) Reason
abstract_store_pointer a (Stack k) d size.Double known = do
  aligned ← check (is_group_place (k +ℤ d)) PointerStored
  i ← ok_or (index_within (k +ℤ d) GROUP_BYTES stack_first stack_first (pos 0)) StackBounds
  Ok (next.On (abstract_with_pointer a (group_of i) known))
abstract_store_pointer a base d z known = Err PointerStored

abbrev pub abstract_store_number : {D : Type 0} → AbsState D → AbstractValue D → ℤ → Size → Result (Next D) Reason
abstract_store_number a base d z = do
  r ← access_region a base d (byte_count z)
  Ok (next.On (with_region a (byte_count z) r))

abbrev pub store_known : {D : Type 0} → AbsState D → AbstractValue D → ℤ → Size → AbstractValue D → Result (Next D) Reason
store_known a base d z (Scalar number) = abstract_store_number a base d z
store_known a base d z known = abstract_store_pointer a base d z known

abbrev pub store_step : {D : Type 0} → Operations D → AbsState D → Size → Reg → Operand → ℤ → Result (Next D) Reason
store_step ops a z base o d = do
  to ← abstract_register_value a base
  known ← operand_abstract ops W64 a o
  u ← abstract_pointer to
  store_known a to d z known

-- ---- calls

abbrev pub abstract_context_value : {D : Type 0} → Reg → AbstractValue D → Result (Unit {0}) Reason
abstract_context_value r Ctx = Ok tt
abstract_context_value r _ = Err (HelperArgument (number_of r))

abbrev pub abstract_context_argument : {D : Type 0} → AbsState D → Reg → Result (Unit {0}) Reason
abstract_context_argument a r = abstract_register_value a r >>= abstract_context_value r

abbrev pub abstract_number_value : {D : Type 0} → Reg → AbstractValue D → Result (Unit {0}) Reason
abstract_number_value r (Scalar number) = Ok tt
abstract_number_value r _ = Err (HelperArgument (number_of r))

abbrev pub abstract_number_argument : {D : Type 0} → AbsState D → Reg → Result (Unit {0}) Reason
abstract_number_argument a r = abstract_register_value a r >>= abstract_number_value r

-- the index, among the stack cells, of the n bytes that a pointer points to
abbrev pub abstract_stack_index : {D : Type 0} → ℕ → AbstractValue D → Option ℕ
abstract_stack_index n (Stack k) = index_within (k +ℤ pos 0) n stack_first stack_first (pos 0)
abstract_stack_index n Nothing = None
abstract_stack_index n (Scalar number) = None
abstract_stack_index n Ctx = None
abstract_stack_index n (Data anchor k) = None
abstract_stack_index n End = None

abbrev pub abstract_stack_value : {D : Type 0} → ℕ → Reg → AbstractValue D → Result ℕ Reason
abstract_stack_value n r v = ok_or (abstract_stack_index n v) (HelperArgument (number_of r))

abbrev pub abstract_stack_argument : {D : Type 0} → AbsState D → ℕ → Reg → Result ℕ Reason
abstract_stack_argument a n r = abstract_register_value a r >>= abstract_stack_value n r

abbrev pub abstract_record_argument : {D : Type 0} → AbsState D → RecordForm → Reg → Result (Unit {0}) Reason
abstract_record_argument a form r = abstract_stack_argument a (record_bytes form) r >>= cells_readable a (record_bytes form)

-- the room of the record that is written, with the argument in a register
abbrev pub abstract_with_argument : {D : Type 0} → AbsState D → Reg → Argument → Option Room → Result (Option Room) Reason
abstract_with_argument a r argument.Unused out = Ok out
abstract_with_argument a r argument.Context out = do
  u ← abstract_context_argument a r
  Ok out
abstract_with_argument a r argument.Number out = do
  u ← abstract_number_argument a r
  Ok out
abstract_with_argument a r (argument.RecordIn form) out = do
  u ← abstract_record_argument a form r
  Ok out
abstract_with_argument a r (argument.RecordOut form) out = do
  i ← abstract_stack_argument a (record_bytes form) r
  Ok (Some (record { index = i; form = form }))

-- each argument is tested after those before it
abbrev pub out_of : {D : Type 0} → AbsState D → List Argument → Result (Option Room) Reason
out_of a arguments = do
  first ← abstract_with_argument a reg.R1 (argument_at arguments 0) None
  second ← abstract_with_argument a reg.R2 (argument_at arguments 1) first
  third ← abstract_with_argument a reg.R3 (argument_at arguments 2) second
  fourth ← abstract_with_argument a reg.R4 (argument_at arguments 3) third
  abstract_with_argument a reg.R5 (argument_at arguments 4) fourth

-- after a call by which a record is written, if room for it is given
abbrev pub state_after_call : {D : Type 0} → Operations D → AbsState D → Helper → Option Room → AbsState D
state_after_call ops a h out = with_out (with_answer a (ops.range 0 (signature_of h).greatest)) out

abbrev pub helper_step : {D : Type 0} → Operations D → AbsState D → Helper → Result (Next D) Reason
helper_step ops a h = do
  out ← out_of a (signature_of h).arguments
  Ok (next.On (state_after_call ops a h out))

abbrev pub call_step : {D : Type 0} → Operations D → AbsState D → ℤ → Result (Next D) Reason
call_step ops a number = ok_or (helper_of number) UnknownHelper >>= helper_step ops a

-- ---- the end

abbrev pub exit_with : {D : Type 0} → AbstractValue D → Result (Next D) Reason
exit_with (Scalar n) = Ok next.Exit
exit_with Nothing = Err ExitNotScalar
exit_with Ctx = Err ExitNotScalar
exit_with (Stack k) = Err ExitNotScalar
exit_with (Data anchor k) = Err ExitNotScalar
exit_with End = Err ExitNotScalar

abbrev pub exit_step : {D : Type 0} → AbsState D → Result (Next D) Reason
exit_step a = do
  known ← abstract_register_value a reg.R0
  exit_with known

-- ---- every form

abbrev pub abstract_step : {D : Type 0} → Operations D → AbsState D → Insn → Result (Next D) Reason
abstract_step ops a (insn.Alu w op dst o) = alu_step ops a w op dst o
abstract_step ops a (insn.Mov w dst o) = unary_step ops a w (Mov w) dst o
abstract_step ops a (insn.Neg w dst) = unary_step ops a w (Neg w) dst (operand.Reg dst)
abstract_step ops a (insn.SignExtend e dst src) = unary_step ops a (target_of e) (SignExtend e) dst (operand.Reg src)
abstract_step ops a (insn.Swap op z dst) = unary_step ops a W64 (Swap op z) dst (operand.Reg dst)
abstract_step ops a (insn.Jump offset) = Ok (next.On a)
abstract_step ops a (insn.LongJump offset) = Ok (next.On a)
abstract_step ops a (insn.JumpIf w c dst o offset) = branch_step ops a w c dst o
abstract_step ops a (insn.Load z dst base d) = load_step ops a z dst base d
abstract_step ops a (insn.LoadSigned z dst base d) = load_signed_step ops a z dst base d
abstract_step ops a (insn.Store z base o d) = store_step ops a z base o d
abstract_step ops a (insn.LoadImm dst value) = abstract_register_write a dst (Ok (Scalar (ops.exact value)))
abstract_step ops a (insn.Call n) = call_step ops a n
abstract_step ops a insn.Exit = exit_step a
