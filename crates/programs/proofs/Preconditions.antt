-- The precondition of a state: what has to hold there so that every run from it that exits ends as is wanted. It is computed
-- along the code, up to the cuts. Nothing is asked of a run that is stuck or still running: safe code has none.
use Rattle.std.proofs.Common.{◌≡◌, ◌≢◌, ℕ, zero, suc, ◌+◌, ◌<◌, ◌≤◌, ◌^◌, ◌⊎◌, inl, inr, length, Bool, true, false, ◌&&◌, ℤ, pos, negsuc, ◌+ℤ◌, ◌-ℤ◌, List, Option, Some, None, Result, Ok, Err, refl, ap, subst, arith, ◌∙◌}
use Rattle.std.specs.Prelude.{unsigned_abs, nat_lt, nat_le, ⊤, IfOk, if◌then◌else◌, ◌==◌}
use Rattle.std.specs.Option.{ok_or}
use Rattle.std.specs.Int.{w64, cast_signed}
use Rattle.std.proofs.lemmas.Int.{ints}
use Rattle.std.proofs.lemmas.Bool.Decides.{nat_tests}
use Rattle.insn.specs.Codes.{byte_count}
use Rattle.insn.specs.Encoding.{slots_of}
use Rattle.insn.specs.Endian.{little_number, little_bytes}
use Rattle.insn.specs.Words.{compares, cut, int_width, holds, target_of}
use Rattle.insn.specs.declared.width.Width.{Width}
use Rattle.insn.specs.declared.width.Width.TheVariants.{W32, W64}
use Rattle.insn.specs.declared.register.Reg.{Reg}
use Rattle.insn.specs.declared.size.Size.{Size}
use Rattle.insn.specs.declared.size.Size.TheVariants as sizes
use Rattle.insn.specs.declared.operator.AluOp.{AluOp}
use Rattle.insn.specs.declared.operator.AluOp.TheVariants.{Add}
use Rattle.insn.specs.declared.operator.UnaryOp.{UnaryOp}
use Rattle.insn.specs.declared.operator.UnaryOp.TheVariants.{Mov, Neg, SignExtend, Swap}
use Rattle.insn.specs.declared.condition.Condition.{Condition}
use Rattle.insn.specs.declared.instruction.Operand.{Operand}
use Rattle.insn.specs.declared.instruction.Insn.{Insn}
use Rattle.basics.specs.Fallible.{◌>>=◌}
use Rattle.semantics.specs.Access.{location, number_in, no_pointer, cells_number, cells_bytes, part, headroom_first, written_at}
use Rattle.semantics.specs.Calls.{helper_of, helper_number, no_address, is_valid, bytes_at, record_bytes, widened}
use Rattle.semantics.specs.Loading.{load, load_field, load_signed, reached_value, value_in}
use Rattle.semantics.specs.Machine.{State, AddressRecord, Environment, context_bytes, start}
use Rattle.semantics.specs.Effects.{unary_effect, load_effect, jump_if_effect, register_value, operand_value, writable, register_write, pointer_to, alu_result, unary_result, comparison_result, comparison_of_places, pointer, store_value, store_effect, context_argument, number_argument, stack_argument, record_argument, helper_effect, verdict_of, effect}
use Rattle.semantics.specs.Slots.{fetch, target}
use Rattle.semantics.specs.Runs.{StepResult, Goes, Exits, Sticks, Ending, Exited, Stuck, Running, step_by_effect, Run, step_to, step_of_fetched, step, run_onwards, run, registers_with, IsSafe, IsPossible, IsDatagram, state_after_answer, state_with_plan, with_window, with_destination}
use Rattle.semantics.specs.laws.Run.{exits_the_same}
use Rattle.machine.specs.Tracing.{run_over}
use Rattle.semantics.specs.declared.access.Location.{Location}
use Rattle.semantics.specs.declared.access.Location.TheVariants.{InStack, InBytes}
use Rattle.semantics.specs.declared.effect.Effect.{Effect}
use Rattle.semantics.specs.declared.fetching.Fetched.{Fetched}
use Rattle.semantics.specs.declared.fetching.Fetched.TheVariants.{Begins, Inside, Past}
use Rattle.semantics.specs.declared.helper.Helper.{Helper}
use Rattle.semantics.specs.declared.helper.RecordForm.{RecordForm}
use Rattle.semantics.specs.declared.helper.Room.{Room}
use Rattle.semantics.specs.declared.limits.TheConstants.{HEADROOM, TAILROOM, MAX_DATAGRAM}
use Rattle.semantics.specs.declared.reason.Reason.{Reason}
use Rattle.semantics.specs.declared.reason.Reason.TheVariants.{UnknownHelper, DatagramBounds, UninitStack}
use Rattle.semantics.specs.declared.value.Value.{Value}
use Rattle.semantics.specs.declared.value.Value.TheVariants.{Scalar, Data, End, Ctx}
use Rattle.std.specs.Int as int
use Rattle.insn.specs.declared.register.Reg.TheVariants as reg
use Rattle.insn.specs.declared.condition.Condition.TheVariants as condition
use Rattle.insn.specs.declared.instruction.Operand.TheVariants as operand
use Rattle.insn.specs.declared.instruction.Insn.TheVariants as insn
use Rattle.semantics.specs.declared.effect.Effect.TheVariants as effects
use Rattle.semantics.specs.declared.helper.Helper.TheVariants as helper

-- what a comparison of numbers implies on each of its branches
abbrev pub BranchFact : Condition → int.Width → ℕ → ℕ → Bool → Type 0
BranchFact condition.Eq w a b true = a ≡ b
BranchFact condition.Eq w a b false = a ≢ b
BranchFact condition.Ne w a b true = a ≢ b
BranchFact condition.Ne w a b false = a ≡ b
BranchFact condition.Gt w a b true = b < a
BranchFact condition.Gt w a b false = a ≤ b
BranchFact condition.Ge w a b true = b ≤ a
BranchFact condition.Ge w a b false = a < b
BranchFact condition.Lt w a b true = a < b
BranchFact condition.Lt w a b false = b ≤ a
BranchFact condition.Le w a b true = a ≤ b
BranchFact condition.Le w a b false = b < a
BranchFact condition.Set w a b t = compares condition.Set w a b ≡ t
BranchFact condition.SignedGt w a b t = compares condition.SignedGt w a b ≡ t
BranchFact condition.SignedGe w a b t = compares condition.SignedGe w a b ≡ t
BranchFact condition.SignedLt w a b t = compares condition.SignedLt w a b ≡ t
BranchFact condition.SignedLe w a b t = compares condition.SignedLe w a b ≡ t

pub branch_fact : (c : Condition) (w : int.Width) (a b : ℕ) (t : Bool) → compares c w a b ≡ t → BranchFact c w a b t
branch_fact condition.Eq w a b true e = grind (arith, nat_tests)
branch_fact condition.Eq w a b false e = grind (arith, nat_tests)
branch_fact condition.Ne w a b true e = grind (arith, nat_tests)
branch_fact condition.Ne w a b false e = grind (arith, nat_tests)
branch_fact condition.Gt w a b true e = grind (arith, nat_tests)
branch_fact condition.Gt w a b false e = grind (arith, nat_tests)
branch_fact condition.Ge w a b true e = grind (arith, nat_tests)
branch_fact condition.Ge w a b false e = grind (arith, nat_tests)
branch_fact condition.Lt w a b true e = grind (arith, nat_tests)
branch_fact condition.Lt w a b false e = grind (arith, nat_tests)
branch_fact condition.Le w a b true e = grind (arith, nat_tests)
branch_fact condition.Le w a b false e = grind (arith, nat_tests)
branch_fact condition.Set w a b t e = e
branch_fact condition.SignedGt w a b t e = e
branch_fact condition.SignedGe w a b t e = e
branch_fact condition.SignedLt w a b t e = e
branch_fact condition.SignedLe w a b t e = e

at_most : (a b : ℕ) → nat_le a b ≡ true → a ≤ b
at_most a b e = grind (arith, nat_tests)

more_than : (a b : ℕ) → nat_le a b ≡ false → b < a
more_than a b e = grind (arith, nat_tests)

less_than : (a b : ℕ) → nat_lt a b ≡ true → a < b
less_than a b e = grind (arith, nat_tests)

no_less : (a b : ℕ) → nat_lt a b ≡ false → b ≤ a
no_less a b e = grind (arith, nat_tests)

same : (a b : ℕ) → (a == b) ≡ true → a ≡ b
same a b e = grind (arith, nat_tests)

other : (a b : ℕ) → (a == b) ≡ false → a ≢ b
other a b e = grind (arith, nat_tests)

signed_small : (b : ℕ) → b < 2 ^ 63 → cast_signed w64 b ≡ pos b
signed_small b lt = omega (arith, ints)

module _ (w : Environment) (code : List Insn) (cuts : ℕ → Bool) (Post : ℕ → State → Type 0) where
  -- how a run may end
  abbrev pub EndMeets : Ending → State → Type 0
  EndMeets (Exited v) s = Post v s
  EndMeets (Stuck reason slot) s = ⊤
  EndMeets Running s = ⊤

  abbrev after_insn : State → Insn → ℕ
  after_insn s i = s.slot + slots_of i

  abbrev jumps_to : State → ℤ → (State → Type 0) → Type 0
  jumps_to s offset k = IfOk (target code s.slot offset) (λ slot. k (record s { slot = slot }))

  abbrev writes_register : State → Insn → Reg → Value → (State → Type 0) → Type 0
  writes_register s i r v k = k (record s { slot = after_insn s i; registers = registers_with s r v })

  -- a number that is computed gets a name and an equation
  abbrev writes_named : State → Insn → Reg → Value → (State → Type 0) → Type 0
  writes_named s i r (Scalar n) k = (v : ℕ) → v ≡ n → writes_register s i r (Scalar v) k
  writes_named s i r v k = writes_register s i r v k

  -- ---- arithmetic

  -- a place that is moved by an imm, or by a number below 2^63
  abbrev moves_place : State → Insn → AluOp → Width → Reg → ℤ → ℕ → Operand → (State → Type 0) → Type 0
  moves_place s i Add W64 dst place b (operand.Imm n) k = writes_register s i dst (Data (place +ℤ cast_signed w64 b)) k
  moves_place s i Add W64 dst (pos p) b (operand.Reg r) k = (b < 2 ^ 63) × ((q : ℕ) → q ≡ p + b → writes_register s i dst (Data (pos q)) k)
  moves_place s i op w dst place b o k = IfOk (alu_result op w (Data place) (Scalar b)) (λ v. writes_register s i dst v k)

  abbrev computes : State → Insn → AluOp → Width → Reg → Operand → Value → Value → (State → Type 0) → Type 0
  computes s i op w dst o (Data place) (Scalar b) k = moves_place s i op w dst place b o k
  computes s i op w dst o a b k = IfOk (alu_result op w a b) (λ v. writes_named s i dst v k)

  abbrev of_alu : State → Insn → Width → AluOp → Reg → Operand → (State → Type 0) → Type 0
  of_alu s i w' op dst o k = IfOk (register_value s.registers dst) (λ a. IfOk (operand_value w' s.registers o) (λ b. IfOk (writable dst) (λ u. computes s i op w' dst o a b k)))

  -- a move of 64 bits names nothing
  abbrev of_mov : State → Insn → Reg → Operand → (State → Type 0) → Type 0
  of_mov s i dst o k = IfOk (operand_value W64 s.registers o) (λ a. IfOk (writable dst) (λ u. writes_register s i dst a k))

  abbrev of_unary : State → Insn → Width → UnaryOp → Reg → Operand → (State → Type 0) → Type 0
  of_unary s i w' op dst o k = IfOk (operand_value w' s.registers o) (λ a. IfOk (writable dst) (λ u. IfOk (unary_result op a) (λ v. writes_named s i dst v k)))

  -- ---- jumps

  abbrev branches_on : State → Insn → ℤ → Type 0 → Type 0 → (State → Type 0) → Type 0
  branches_on s i offset IsTrue IsFalse k = (IsTrue → jumps_to s offset k) × (IsFalse → k (record s { slot = after_insn s i }))

  -- a place that is not before the datagram, compared with its end
  abbrev compares_places : State → Insn → ℤ → Condition → ℕ → ℕ → (State → Type 0) → Type 0
  compares_places s i offset condition.Gt a b k = branches_on s i offset (b < a) (a ≤ b) k
  compares_places s i offset condition.Ge a b k = branches_on s i offset (b ≤ a) (a < b) k
  compares_places s i offset condition.Lt a b k = branches_on s i offset (a < b) (b ≤ a) k
  compares_places s i offset condition.Le a b k = branches_on s i offset (a ≤ b) (b < a) k
  compares_places s i offset c a b k = ⊤

  abbrev compares_with : State → Insn → ℤ → Width → Condition → Value → Value → (State → Type 0) → Type 0
  compares_with s i offset w c (Scalar a) (Scalar b) k = branches_on s i offset (BranchFact c (int_width w) (cut w a) (cut w b) true) (BranchFact c (int_width w) (cut w a) (cut w b) false) k
  compares_with s i offset W64 c (Data (pos p)) End k = compares_places s i offset c p s.memory.length k
  compares_with s i offset W64 c (Data (negsuc p)) End k = ⊥
  compares_with s i offset W64 c End (Data p) k = ⊥
  compares_with s i offset w c a b k = ⊤

  abbrev of_jump_if : State → Insn → ℤ → Width → Condition → Reg → Operand → (State → Type 0) → Type 0
  of_jump_if s i offset w' c dst o k = IfOk (register_value s.registers dst) (λ a. IfOk (operand_value w' s.registers o) (λ b. compares_with s i offset w' c a b k))

  -- ---- loads and stores

  -- what is read of the datagram is the number in its bytes
  abbrev reads_data : State → Insn → Size → Reg → ℤ → (State → Type 0) → Type 0
  reads_data s i z dst (pos p) k =
      p + byte_count z ≤ s.memory.length
      → (v : ℕ) → v ≡ little_number (byte_count z) (part (byte_count z) (unsigned_abs (pos p -ℤ headroom_first)) s.memory.bytes) → writes_register s i dst (Scalar v) k
  reads_data s i z dst (negsuc p) k = ⊥

  -- what is read of the stack is the number in its cells; no eight bytes are read there, which could be a pointer
  abbrev reads_at : State → Insn → Size → Reg → Location → (State → Type 0) → Type 0
  reads_at s i sizes.Double dst (InStack j) k = ⊥
  reads_at s i sizes.Word dst (InStack j) k = (v : ℕ) → cells_number (part 4 j s.memory.stack.cells) ≡ Some v → writes_register s i dst (Scalar v) k
  reads_at s i sizes.Half dst (InStack j) k = (v : ℕ) → cells_number (part 2 j s.memory.stack.cells) ≡ Some v → writes_register s i dst (Scalar v) k
  reads_at s i sizes.Byte dst (InStack j) k = (v : ℕ) → cells_number (part 1 j s.memory.stack.cells) ≡ Some v → writes_register s i dst (Scalar v) k
  reads_at s i z dst (InBytes j) k = (v : ℕ) → v ≡ little_number (byte_count z) (part (byte_count z) j s.memory.bytes) → writes_register s i dst (Scalar v) k

  abbrev reads : State → Insn → Size → Reg → Value → ℤ → (State → Type 0) → Type 0
  reads s i z dst Ctx d k = IfOk (load_field (context_bytes w.context s.memory.length) d z) (λ v. writes_named s i dst v k)
  reads s i z dst (Data q) d k = reads_data s i z dst (q +ℤ d) k
  reads s i z dst base d k = IfOk (location s.memory.length base d (byte_count z)) (λ at. reads_at s i z dst at k)

  abbrev of_load : State → Insn → Size → Reg → Reg → ℤ → (State → Type 0) → Type 0
  of_load s i z dst base d k = IfOk (register_value s.registers base) (λ from. IfOk (writable dst) (λ u. reads s i z dst from d k))

  -- the bytes that are stored get a name and an equation
  abbrev writes_bytes : State → Insn → Size → ℕ → Location → (State → Type 0) → Type 0
  writes_bytes s i z n at k = (bytes : List ℕ) → bytes ≡ little_bytes (byte_count z) n → k (record s { slot = after_insn s i; memory = written_at s.memory at bytes })

  abbrev writes_data : State → Insn → Size → ℕ → ℤ → (State → Type 0) → Type 0
  writes_data s i z n (pos p) k = p + byte_count z ≤ s.memory.length → writes_bytes s i z n (InBytes (unsigned_abs (pos p -ℤ headroom_first))) k
  writes_data s i z n (negsuc p) k = writes_bytes s i z n (InBytes (unsigned_abs (negsuc p -ℤ headroom_first))) k

  -- after the datagram
  abbrev writes_end : State → Insn → Size → ℕ → ℤ → (State → Type 0) → Type 0
  writes_end s i z n (pos e) k = e + byte_count z ≤ TAILROOM → writes_bytes s i z n (InBytes (unsigned_abs (pos (s.memory.length + e) -ℤ headroom_first))) k
  writes_end s i z n (negsuc e) k = ⊥

  abbrev writes_to : State → Insn → Size → ℕ → Value → ℤ → (State → Type 0) → Type 0
  writes_to s i z n (Data q) d k = writes_data s i z n (q +ℤ d) k
  writes_to s i z n End d k = writes_end s i z n d k
  writes_to s i z n base d k = IfOk (location s.memory.length base d (byte_count z)) (λ at. writes_bytes s i z n at k)

  -- no pointer is stored
  abbrev writes_value : State → Insn → Size → Value → Value → ℤ → (State → Type 0) → Type 0
  writes_value s i z (Scalar n) to d k = writes_to s i z n to d k
  writes_value s i z v to d k = ⊥

  abbrev of_store : State → Insn → Size → Reg → Operand → ℤ → (State → Type 0) → Type 0
  of_store s i z base o d k =
      IfOk (register_value s.registers base)
      (λ to. IfOk (operand_value W64 s.registers o) (λ v. IfOk (pointer to) (λ u. writes_value s i z v to d k)))

  -- ---- calls

  -- a helper's answer is a number and a record, which get names and equations
  abbrev asks : State → Insn → Helper → ℕ → AddressRecord → Option Room → (State → Type 0) → Type 0
  asks s i h n address out k = (v : ℕ) (bytes : AddressRecord) → v ≡ (w.answer (helper_number h) n address).0 → bytes ≡ (w.answer (helper_number h) n address).1 → k (state_after_answer s (after_insn s i) out (v, bytes))

  -- the record of a form in stack cells, as a wide one
  abbrev reads_record : State → RecordForm → Reg → (AddressRecord → Type 0) → Type 0
  reads_record s form r P = IfOk (stack_argument s.registers (record_bytes form) r) (λ j. (bytes : List ℕ) → cells_bytes (part (record_bytes form) j s.memory.stack.cells) ≡ Some bytes → P (widened form bytes))

  abbrev sets_window : State → Insn → ℕ → ℕ → (State → Type 0) → Type 0
  sets_window s i front n k =
      ((front + n ≤ HEADROOM + s.memory.length + TAILROOM) × (n ≤ MAX_DATAGRAM) → k (state_with_plan s (after_insn s i) 0 (with_window s.plan (Some (front, n)))))
      × ((HEADROOM + s.memory.length + TAILROOM < front + n) ⊎ (MAX_DATAGRAM < n) → k (state_with_plan s (after_insn s i) 1 s.plan))

  abbrev sets_destination : State → Insn → RecordForm → AddressRecord → (State → Type 0) → Type 0
  sets_destination s i form bytes k =
      ((w.context.side ≡ 0) × (is_valid form bytes ≡ true) → k (state_with_plan s (after_insn s i) 0 (with_destination s.plan (Some bytes))))
      × ((w.context.side ≢ 0) ⊎ (is_valid form bytes ≡ false) → k (state_with_plan s (after_insn s i) 1 s.plan))

  abbrev of_helper : State → Insn → Helper → (State → Type 0) → Type 0
  of_helper s i (helper.ChannelPeer form) k = IfOk (number_argument s.registers reg.R2) (λ n. IfOk (stack_argument s.registers (record_bytes form) reg.R3) (λ index. asks s i (helper.ChannelPeer form) n no_address (Some (record { index = index; form = form })) k))
  of_helper s i (helper.ChannelTo form) k = reads_record s form reg.R2 (λ address. asks s i (helper.ChannelTo form) 0 address None k)
  of_helper s i (helper.Permitted form) k = reads_record s form reg.R2 (λ address. asks s i (helper.Permitted form) 0 address None k)
  of_helper s i helper.Window k = IfOk (number_argument s.registers reg.R2) (λ front. IfOk (number_argument s.registers reg.R3) (λ n. sets_window s i front n k))
  of_helper s i (helper.Destination form) k = reads_record s form reg.R2 (λ address. sets_destination s i form address k)

  abbrev of_call : State → Insn → ℤ → (State → Type 0) → Type 0
  of_call s i n k = IfOk (ok_or (helper_of n) UnknownHelper) (λ h. IfOk (context_argument s.registers reg.R1) (λ u. of_helper s i h k))

  -- ---- every form

  abbrev pub of_insn : State → Insn → (State → Type 0) → Type 0
  of_insn s (insn.Alu w op dst o) k = of_alu s (insn.Alu w op dst o) w op dst o k
  of_insn s (insn.Mov W64 dst o) k = of_mov s (insn.Mov W64 dst o) dst o k
  of_insn s (insn.Mov W32 dst o) k = of_unary s (insn.Mov W32 dst o) W32 (Mov W32) dst o k
  of_insn s (insn.Neg w dst) k = of_unary s (insn.Neg w dst) w (Neg w) dst (operand.Reg dst) k
  of_insn s (insn.SignExtend e dst src) k = of_unary s (insn.SignExtend e dst src) (target_of e) (SignExtend e) dst (operand.Reg src) k
  of_insn s (insn.Swap op z dst) k = of_unary s (insn.Swap op z dst) W64 (Swap op z) dst (operand.Reg dst) k
  of_insn s (insn.Jump offset) k = jumps_to s offset k
  of_insn s (insn.LongJump offset) k = jumps_to s offset k
  of_insn s (insn.JumpIf w c dst o offset) k = of_jump_if s (insn.JumpIf w c dst o offset) offset w c dst o k
  of_insn s (insn.Load z dst base d) k = of_load s (insn.Load z dst base d) z dst base d k
  of_insn s (insn.LoadSigned z dst base d) k = IfOk (register_value s.registers base) (λ from. IfOk (writable dst) (λ u. IfOk (load_signed s.memory from d z) (λ v. writes_named s (insn.LoadSigned z dst base d) dst v k)))
  of_insn s (insn.Store z base o d) k = of_store s (insn.Store z base o d) z base o d k
  of_insn s (insn.LoadImm dst value) k = IfOk (writable dst) (λ u. writes_register s (insn.LoadImm dst value) dst (Scalar value) k)
  of_insn s (insn.Call n) k = of_call s (insn.Call n) n k
  of_insn s insn.Exit k = IfOk (register_value s.registers reg.R0) (λ v. IfOk (verdict_of v) (λ verdict. Post verdict s))

  abbrev pub of_fetched : State → Fetched → (State → Type 0) → Type 0
  of_fetched s (Begins i) k = of_insn s i k
  of_fetched s Inside k = ⊤
  of_fetched s Past k = ⊤

  -- every run from a state that exits meets what is wanted of its end
  unfoldable pub ExitsMeet : State → Type 0
  ExitsMeet s = (m : ℕ) → EndMeets (run w code m s).ending (run w code m s).state

  -- the precondition, along at most n steps, and no further than a cut
  abbrev pub precondition : ℕ → State → Type 0
  precondition zero s = ExitsMeet s
  precondition (suc n) s = of_fetched s (fetch code s.slot) (λ next. elim (cuts next.slot) [ true ↦ ExitsMeet next | false ↦ precondition n next ])

  -- ---- the runs meet it

  -- what a step may come to
  abbrev StepMeets : State → StepResult → (State → Type 0) → Type 0
  StepMeets s (Goes next) k = k next
  StepMeets s (Exits v) k = Post v s
  StepMeets s (Sticks reason slot) k = ⊤

  -- what an effect may come to
  abbrev EffectMeets : State → Insn → (State → Type 0) → Result Effect Reason → Type 0
  EffectMeets s i k e = StepMeets s (step_by_effect w code s i e) k

  module _ (s : State) (i : Insn) (k : State → Type 0) where
    -- the first of two steps
    after_first : {A : Type 0} (r : Result A Reason) (f : A → Result Effect Reason) → IfOk r (λ x. EffectMeets s i k (f x)) → EffectMeets s i k (r >>= f)
    after_first (Ok x) f h = h
    after_first (Err reason) f h = tt

    after_result : {A : Type 0} (r : Result A Reason) (P : A → Type 0) (f : A → Result Effect Reason) → ((x : A) → P x → EffectMeets s i k (f x)) → IfOk r P → EffectMeets s i k (r >>= f)
    after_result (Ok x) P f goes h = goes x h
    after_result (Err reason) P f goes h = tt

    abbrev Landing : ℤ → Type 0
    Landing offset = jumps_to s offset k

    jumps_to_meets : (t : Result ℕ Reason) → IfOk t (λ slot. k (record s { slot = slot })) → StepMeets s (step_to s t) k
    jumps_to_meets (Ok slot) h = h
    jumps_to_meets (Err reason) h = h

    writes_named_meets : (dst : Reg) (v : Value) → writes_named s i dst v k → EffectMeets s i k (Ok (effects.Write dst v))
    writes_named_meets dst (Scalar n) h = h n refl
    writes_named_meets dst v h = h

    -- ---- arithmetic

    near_meets : (dst : Reg) (place : ℤ) (t : Bool) → writes_register s i dst (Data place) k
        → EffectMeets s i k (pointer_to Data (if t then Some place else None) >>= λ v. Ok (effects.Write dst v))
    near_meets dst place true h = h
    near_meets dst place false h = tt

    moves_place_meets : (op : AluOp) (w' : Width) (dst : Reg) (place : ℤ) (b : ℕ) (o : Operand) → moves_place s i op w' dst place b o k
        → EffectMeets s i k (alu_result op w' (Data place) (Scalar b) >>= λ v. Ok (effects.Write dst v))
    moves_place_meets Add W64 dst place b (operand.Imm n) h = near_meets dst (place +ℤ cast_signed w64 b) _ h
    moves_place_meets Add W64 dst (pos p) b (operand.Reg r) h = rw (signed_small b h.0) (near_meets dst (pos (p + b)) _ (h.1 (p + b) refl))
    moves_place_meets op w' dst place b o h = after_result (alu_result op w' (Data place) (Scalar b)) (λ v. writes_register s i dst v k) (λ v. Ok (effects.Write dst v)) (λ v x. x) h

    computes_meets : (op : AluOp) (w' : Width) (dst : Reg) (o : Operand) (a b : Value) → computes s i op w' dst o a b k
        → EffectMeets s i k (alu_result op w' a b >>= λ v. Ok (effects.Write dst v))
    computes_meets op w' dst o (Data place) (Scalar b) h = moves_place_meets op w' dst place b o h
    computes_meets op w' dst o a b h = after_result (alu_result op w' a b) (λ v. writes_named s i dst v k) (λ v. Ok (effects.Write dst v)) (λ v x. writes_named_meets dst v x) h

    -- ---- jumps

    branches_on_meets : (offset : ℤ) (t : Bool) (Yes No : Type 0) → (t ≡ true → Yes) → (t ≡ false → No) → branches_on s i offset Yes No k
        → EffectMeets s i k (Ok (if t then effects.Jump offset else effects.Pass))
    branches_on_meets offset true Yes No so not_so h = jumps_to_meets (target code s.slot offset) (h.0 (so refl))
    branches_on_meets offset false Yes No so not_so h = h.1 (not_so refl)

    compares_places_meets : (offset : ℤ) (c : Condition) (p n : ℕ) → compares_places s i offset c p n k
        → EffectMeets s i k (comparison_of_places c (pos p) (pos n) >>= λ taken. Ok (if taken then effects.Jump offset else effects.Pass))
    compares_places_meets offset condition.Gt p n h = branches_on_meets offset (nat_lt n p) (n < p) (p ≤ n) (less_than n p) (no_less n p) h
    compares_places_meets offset condition.Ge p n h = branches_on_meets offset (nat_le n p) (n ≤ p) (p < n) (at_most n p) (more_than n p) h
    compares_places_meets offset condition.Lt p n h = branches_on_meets offset (nat_lt p n) (p < n) (n ≤ p) (less_than p n) (no_less p n) h
    compares_places_meets offset condition.Le p n h = branches_on_meets offset (nat_le p n) (p ≤ n) (n < p) (at_most p n) (more_than p n) h
    compares_places_meets offset c p n h = tt

    compares_with_meets : (offset : ℤ) (w' : Width) (c : Condition) (a b : Value) → compares_with s i offset w' c a b k
        → EffectMeets s i k (comparison_result s.memory.length w' c a b >>= λ taken. Ok (if taken then effects.Jump offset else effects.Pass))
    compares_with_meets offset w' c (Scalar a) (Scalar b) h =
        branches_on_meets offset (holds c w' a b) _ _ (branch_fact c (int_width w') (cut w' a) (cut w' b) true) (branch_fact c (int_width w') (cut w' a) (cut w' b) false) h
    compares_with_meets offset W64 c (Data (pos p)) End h = compares_places_meets offset c p s.memory.length h
    compares_with_meets offset W64 c (Data (negsuc p)) End h = absurd h
    compares_with_meets offset W64 c End (Data p) h = absurd h
    compares_with_meets offset w' c a b h = tt

    -- ---- loads and stores

    found_meets : (z : Size) (dst : Reg) (p : ℕ) (t : Bool) → nat_le (p + byte_count z) s.memory.length ≡ t → reads_data s i z dst (pos p) k
        → EffectMeets s i k (((ok_or (if t then Some (unsigned_abs (pos p -ℤ headroom_first)) else None) DatagramBounds >>= λ j. Ok (InBytes j)) >>= λ at. value_in s.memory z at) >>= λ v. Ok (effects.Write dst v))
    found_meets z dst p true e h = h (at_most _ _ e) _ refl
    found_meets z dst p false e h = tt

    data_meets : (z : Size) (dst : Reg) (q d place : ℤ) → (q +ℤ d) ≡ place → reads_data s i z dst place k
        → EffectMeets s i k (load w.context s.memory (Data q) d z >>= λ v. Ok (effects.Write dst v))
    unfolding reached_value
    data_meets z dst q d (pos p) e h = rw e (found_meets z dst p (nat_le (p + byte_count z) s.memory.length) refl h)
    data_meets z dst q d (negsuc p) e h = absurd h

    cells_meet : (z : Size) (dst : Reg) (o : Option ℕ) → ((v : ℕ) → o ≡ Some v → writes_register s i dst (Scalar v) k)
        → (whole : Result (Unit {0}) Reason) → EffectMeets s i k (((whole >>= λ u. ok_or o UninitStack) >>= λ n. Ok (Scalar n)) >>= λ v. Ok (effects.Write dst v))
    cells_meet z dst o h (Err reason) = tt
    cells_meet z dst None h (Ok u) = tt
    cells_meet z dst (Some v) h (Ok u) = h v refl

    at_meets : (z : Size) (dst : Reg) (at : Location) → reads_at s i z dst at k
        → EffectMeets s i k (value_in s.memory z at >>= λ v. Ok (effects.Write dst v))
    at_meets sizes.Double dst (InStack j) h = absurd h
    at_meets sizes.Word dst (InStack j) h = cells_meet sizes.Word dst (cells_number (part 4 j s.memory.stack.cells)) h (no_pointer s.memory.stack.groups 4 j)
    at_meets sizes.Half dst (InStack j) h = cells_meet sizes.Half dst (cells_number (part 2 j s.memory.stack.cells)) h (no_pointer s.memory.stack.groups 2 j)
    at_meets sizes.Byte dst (InStack j) h = cells_meet sizes.Byte dst (cells_number (part 1 j s.memory.stack.cells)) h (no_pointer s.memory.stack.groups 1 j)
    at_meets z dst (InBytes j) h = h _ refl

    found_at : (z : Size) (dst : Reg) (r : Result Location Reason) → IfOk r (λ at. reads_at s i z dst at k)
        → EffectMeets s i k ((r >>= λ at. value_in s.memory z at) >>= λ v. Ok (effects.Write dst v))
    found_at z dst (Ok at) h = at_meets z dst at h
    found_at z dst (Err reason) h = tt

    reads_meets : (z : Size) (dst : Reg) (base : Value) (d : ℤ) → reads s i z dst base d k
        → EffectMeets s i k (load w.context s.memory base d z >>= λ v. Ok (effects.Write dst v))
    unfolding reached_value
    reads_meets z dst Ctx d h = after_result (load_field (context_bytes w.context s.memory.length) d z) (λ v. writes_named s i dst v k) (λ v. Ok (effects.Write dst v)) (λ v x. writes_named_meets dst v x) h
    reads_meets z dst (Data q) d h = data_meets z dst q d (q +ℤ d) refl h
    reads_meets z dst base d h = found_at z dst (location s.memory.length base d (byte_count z)) h

    put_meets : (z : Size) (n p : ℕ) (t : Bool) → nat_le (p + byte_count z) s.memory.length ≡ t → writes_data s i z n (pos p) k
        → EffectMeets s i k ((ok_or (if t then Some (unsigned_abs (pos p -ℤ headroom_first)) else None) DatagramBounds >>= λ j. Ok (InBytes j)) >>= λ at. Ok (effects.Store at z n))
    put_meets z n p true e h = h (at_most _ _ e) _ refl
    put_meets z n p false e h = tt

    put_at : (z : Size) (n : ℕ) (r : Result Location Reason) → IfOk r (λ at. writes_bytes s i z n at k) → EffectMeets s i k (r >>= λ at. Ok (effects.Store at z n))
    put_at z n (Ok at) h = h _ refl
    put_at z n (Err reason) h = tt

    put_free : (z : Size) (n j : ℕ) (t : Bool) → writes_bytes s i z n (InBytes j) k → EffectMeets s i k ((ok_or (if t then Some j else None) DatagramBounds >>= λ j. Ok (InBytes j)) >>= λ at. Ok (effects.Store at z n))
    put_free z n j true h = h _ refl
    put_free z n j false h = tt

    writes_data_meets : (z : Size) (n : ℕ) (q d place : ℤ) → (q +ℤ d) ≡ place → writes_data s i z n place k
        → EffectMeets s i k (location s.memory.length (Data q) d (byte_count z) >>= λ at. Ok (effects.Store at z n))
    writes_data_meets z n q d (pos p) e h = rw e (put_meets z n p (nat_le (p + byte_count z) s.memory.length) refl h)
    writes_data_meets z n q d (negsuc p) e h = rw e (put_free z n (unsigned_abs (negsuc p -ℤ headroom_first)) _ h)

    end_low : (n e : ℕ) → nat_le n (n + e) ≡ true
    end_low n e = grind (arith, nat_tests)

    end_high : (n e z : ℕ) (t : Bool) → nat_le (n + e + z) (n + TAILROOM) ≡ t → nat_le (e + z) TAILROOM ≡ t
    end_high n e z true h = grind (arith, nat_tests)
    end_high n e z false h = grind (arith, nat_tests)

    tail_meets : (z : Size) (n e : ℕ) (a b : Bool) → a ≡ true → nat_le (s.memory.length + e + byte_count z) (s.memory.length + TAILROOM) ≡ b → writes_end s i z n (pos e) k
        → EffectMeets s i k ((ok_or (if a && b then Some (unsigned_abs (pos (s.memory.length + e) -ℤ headroom_first)) else None) DatagramBounds >>= λ j. Ok (InBytes j)) >>= λ at. Ok (effects.Store at z n))
    tail_meets z n e true true p q h = h (at_most _ _ (end_high s.memory.length e (byte_count z) true q)) _ refl
    tail_meets z n e true false p q h = tt
    tail_meets z n e false b p q h = tt

    writes_end_meets : (z : Size) (n : ℕ) (d : ℤ) → writes_end s i z n d k
        → EffectMeets s i k (location s.memory.length End d (byte_count z) >>= λ at. Ok (effects.Store at z n))
    writes_end_meets z n (pos e) h = tail_meets z n e _ _ (end_low s.memory.length e) refl h
    writes_end_meets z n (negsuc e) h = absurd h

    writes_to_meets : (z : Size) (n : ℕ) (base : Value) (d : ℤ) → writes_to s i z n base d k
        → EffectMeets s i k (location s.memory.length base d (byte_count z) >>= λ at. Ok (effects.Store at z n))
    writes_to_meets z n (Data q) d h = writes_data_meets z n q d (q +ℤ d) refl h
    writes_to_meets z n End d h = writes_end_meets z n d h
    writes_to_meets z n base d h = put_at z n (location s.memory.length base d (byte_count z)) h

    writes_value_meets : (z : Size) (v base : Value) (d : ℤ) → writes_value s i z v base d k → EffectMeets s i k (store_value s.memory.length base d z v)
    writes_value_meets z (Scalar n) base d h = writes_to_meets z n base d h
    writes_value_meets z v base d h = absurd h

    -- ---- calls

    -- an argument, of which the others are read after it
    after_argument : {A B C : Type 0} (r : Result A Reason) (P : A → Type 0) (f : A → Result B Reason) (g : B → Result C Reason) (h : C → Result Effect Reason) → ((x : A) → P x → EffectMeets s i k ((f x >>= g) >>= h)) → IfOk r P
        → EffectMeets s i k (((r >>= f) >>= g) >>= h)
    after_argument (Ok x) P f g h goes is = goes x is
    after_argument (Err reason) P f g h goes is = tt

    widened_if : (form : RecordForm) (P : AddressRecord → Type 0) (whole : Result (Unit {0}) Reason) (o : Option (List ℕ)) → ((bytes : List ℕ) → o ≡ Some bytes → P (widened form bytes)) → IfOk ((whole >>= λ u. ok_or o UninitStack) >>= λ bytes. Ok (widened form bytes)) P
    widened_if form P (Err reason) o h = tt
    widened_if form P (Ok u) None h = tt
    widened_if form P (Ok u) (Some bytes) h = h bytes refl

    record_if : (form : RecordForm) (P : AddressRecord → Type 0) (j : Result ℕ Reason) → IfOk j (λ j. (bytes : List ℕ) → cells_bytes (part (record_bytes form) j s.memory.stack.cells) ≡ Some bytes → P (widened form bytes))
        → IfOk (j >>= λ j. bytes_at s.memory (record_bytes form) j >>= λ bytes. Ok (widened form bytes)) P
    record_if form P (Ok j) h = widened_if form P (no_pointer s.memory.stack.groups (record_bytes form) j) (cells_bytes (part (record_bytes form) j s.memory.stack.cells)) h
    record_if form P (Err reason) h = tt

    reads_record_meets : (form : RecordForm) (r : Reg) (P : AddressRecord → Type 0) {B C : Type 0} (f : AddressRecord → Result B Reason) (g : B → Result C Reason) (h : C → Result Effect Reason)
        → ((bytes : AddressRecord) → P bytes → EffectMeets s i k ((f bytes >>= g) >>= h)) → reads_record s form r P → EffectMeets s i k (((record_argument s.memory s.registers form r >>= f) >>= g) >>= h)
    reads_record_meets form r P f g h goes is = after_argument (record_argument s.memory s.registers form r) P f g h goes (record_if form P (stack_argument s.registers (record_bytes form) r) is)

    sets_window_meets : (front n : ℕ) (a b : Bool) → nat_le (front + n) (HEADROOM + s.memory.length + TAILROOM) ≡ a → nat_le n MAX_DATAGRAM ≡ b → sets_window s i front n k
        → EffectMeets s i k (Ok (effects.SetWindow (if a && b then Some (front, n) else None)))
    sets_window_meets front n true true p q h = h.0 (at_most _ _ p, at_most _ _ q)
    sets_window_meets front n true false p q h = h.1 (inr (more_than _ _ q))
    sets_window_meets front n false b p q h = h.1 (inl (more_than _ _ p))

    sets_destination_meets : (form : RecordForm) (address : AddressRecord) (a b : Bool) → (w.context.side == 0) ≡ a → is_valid form address ≡ b → sets_destination s i form address k
        → EffectMeets s i k (Ok (effects.SetDestination (if a && b then Some address else None)))
    sets_destination_meets form address true true p q h = h.0 (same _ _ p, q)
    sets_destination_meets form address true false p q h = h.1 (inr q)
    sets_destination_meets form address false b p q h = h.1 (inl (other _ _ p))

    of_helper_meets : (h : Helper) → of_helper s i h k → (u : Unit {0}) → context_argument s.registers reg.R1 ≡ Ok u → EffectMeets s i k (helper_effect w.context s.memory s.registers h)
    of_helper_meets (helper.ChannelPeer form) h u e =
        rw e (after_argument (number_argument s.registers reg.R2) _ _ _ _ (λ n x. after_argument (stack_argument s.registers (record_bytes form) reg.R3) (λ index. asks s i (helper.ChannelPeer form) n no_address (Some (record { index = index; form = form })) k) _ _ _ (λ out y. y _ _ refl refl) x) h)
    of_helper_meets (helper.ChannelTo form) h u e = rw e (reads_record_meets form reg.R2 (λ address. asks s i (helper.ChannelTo form) 0 address None k) _ _ _ (λ address x. x _ _ refl refl) h)
    of_helper_meets (helper.Permitted form) h u e = rw e (reads_record_meets form reg.R2 (λ address. asks s i (helper.Permitted form) 0 address None k) _ _ _ (λ address x. x _ _ refl refl) h)
    of_helper_meets helper.Window h u e =
        rw e (after_argument (number_argument s.registers reg.R2) _ _ _ _ (λ front x. after_argument (number_argument s.registers reg.R3) _ _ _ _ (λ n y. sets_window_meets front n _ _ refl refl y) x) h)
    of_helper_meets (helper.Destination form) h u e = rw e (reads_record_meets form reg.R2 (λ address. sets_destination s i form address k) _ _ _ (λ address x. sets_destination_meets form address _ _ refl refl x) h)

    of_call_meets : (n : ℤ) → of_call s i n k → EffectMeets s i k (ok_or (helper_of n) UnknownHelper >>= helper_effect w.context s.memory s.registers)
    of_call_meets n h = after_result (ok_or (helper_of n) UnknownHelper) _ _ (λ help x. asked help (context_argument s.registers reg.R1) refl x) h where
      asked : (help : Helper) (r : Result (Unit {0}) Reason) → context_argument s.registers reg.R1 ≡ r → IfOk r (λ u. of_helper s i help k) → EffectMeets s i k (helper_effect w.context s.memory s.registers help)
      asked help (Ok u) e x = of_helper_meets help x u e
      asked (helper.ChannelPeer form) (Err reason) e x = rw e tt
      asked (helper.ChannelTo form) (Err reason) e x = rw e tt
      asked (helper.Permitted form) (Err reason) e x = rw e tt
      asked helper.Window (Err reason) e x = rw e tt
      asked (helper.Destination form) (Err reason) e x = rw e tt

    -- ---- every form

    written_meets : (dst : Reg) (r : Result Value Reason) → IfOk (writable dst) (λ u. IfOk r (λ v. writes_named s i dst v k)) → EffectMeets s i k (register_write dst r)
    written_meets dst r h = after_result (writable dst) _ _ (λ u x. after_result r (λ v. writes_named s i dst v k) (λ v. Ok (effects.Write dst v)) (λ v y. writes_named_meets dst v y) x) h

    of_unary_meets : (w' : Width) (op : UnaryOp) (dst : Reg) (o : Operand) → of_unary s i w' op dst o k → EffectMeets s i k (unary_effect s.registers w' op dst o)
    of_unary_meets w' op dst o h = after_result (operand_value w' s.registers o) _ _ (λ a x. written_meets dst (unary_result op a) x) h

    of_load_meets : (z : Size) (dst base : Reg) (d : ℤ) → of_load s i z dst base d k → EffectMeets s i k (load_effect w.context s.memory s.registers z dst base d)
    of_load_meets z dst base d h = after_result (register_value s.registers base) _ _ (λ from x. after_result (writable dst) _ _ (λ u y. reads_meets z dst from d y) x) h

    of_store_meets : (z : Size) (base : Reg) (o : Operand) (d : ℤ) → of_store s i z base o d k → EffectMeets s i k (store_effect s.registers s.memory.length z base o d)
    of_store_meets z base o d h =
        after_result (register_value s.registers base) _ _
        (λ to x. after_result (operand_value W64 s.registers o) _ _ (λ v y. after_result (pointer to) _ _ (λ u p. writes_value_meets z v to d p) y) x) h

    of_jump_if_meets : (offset : ℤ) (w' : Width) (c : Condition) (dst : Reg) (o : Operand) → of_jump_if s i offset w' c dst o k → EffectMeets s i k (jump_if_effect s.registers s.memory.length w' c dst o offset)
    of_jump_if_meets offset w' c dst o h = after_result (register_value s.registers dst) _ _ (λ a x. after_result (operand_value w' s.registers o) _ _ (λ b y. compares_with_meets offset w' c a b y) x) h

  of_insn_meets : (s : State) (i : Insn) (k : State → Type 0) → of_insn s i k → EffectMeets s i k (effect w.context s.memory s.registers i)
  of_insn_meets s (insn.Alu w' op dst o) k h =
      after_result s (insn.Alu w' op dst o) k (register_value s.registers dst) _ _
      (λ a x. after_result s (insn.Alu w' op dst o) k (operand_value w' s.registers o) _ _ (λ b y. after_result s (insn.Alu w' op dst o) k (writable dst) _ _ (λ u z. computes_meets s (insn.Alu w' op dst o) k op w' dst o a b z) y) x) h
  of_insn_meets s (insn.Mov W64 dst o) k h =
      after_result s (insn.Mov W64 dst o) k (operand_value W64 s.registers o) _ _ (λ a x. after_result s (insn.Mov W64 dst o) k (writable dst) _ _ (λ u y. y) x) h
  of_insn_meets s (insn.Mov W32 dst o) k h = of_unary_meets s (insn.Mov W32 dst o) k W32 (Mov W32) dst o h
  of_insn_meets s (insn.Neg w' dst) k h = of_unary_meets s (insn.Neg w' dst) k w' (Neg w') dst (operand.Reg dst) h
  of_insn_meets s (insn.SignExtend e dst src) k h = of_unary_meets s (insn.SignExtend e dst src) k (target_of e) (SignExtend e) dst (operand.Reg src) h
  of_insn_meets s (insn.Swap op z dst) k h = of_unary_meets s (insn.Swap op z dst) k W64 (Swap op z) dst (operand.Reg dst) h
  of_insn_meets s (insn.Jump offset) k h = jumps_to_meets s (insn.Jump offset) k (target code s.slot offset) h
  of_insn_meets s (insn.LongJump offset) k h = jumps_to_meets s (insn.LongJump offset) k (target code s.slot offset) h
  of_insn_meets s (insn.JumpIf w' c dst o offset) k h = of_jump_if_meets s (insn.JumpIf w' c dst o offset) k offset w' c dst o h
  of_insn_meets s (insn.Load z dst base d) k h = of_load_meets s (insn.Load z dst base d) k z dst base d h
  of_insn_meets s (insn.LoadSigned z dst base d) k h =
      after_result s (insn.LoadSigned z dst base d) k (register_value s.registers base) _ _ (λ from x. written_meets s (insn.LoadSigned z dst base d) k dst (load_signed s.memory from d z) x) h
  of_insn_meets s (insn.Store z base o d) k h = of_store_meets s (insn.Store z base o d) k z base o d h
  of_insn_meets s (insn.LoadImm dst value) k h = after_result s (insn.LoadImm dst value) k (writable dst) _ _ (λ u x. x) h
  of_insn_meets s (insn.Call n) k h = of_call_meets s (insn.Call n) k n h
  of_insn_meets s insn.Exit k h = after_result s insn.Exit k (register_value s.registers reg.R0) _ _ (λ v x. after_result s insn.Exit k (verdict_of v) _ _ (λ verdict y. y) x) h

  of_fetched_meets : (s : State) (p : Fetched) (k : State → Type 0) → of_fetched s p k → StepMeets s (step_of_fetched w code s p) k
  of_fetched_meets s (Begins i) k h = of_insn_meets s i k h
  of_fetched_meets s Inside k h = tt
  of_fetched_meets s Past k h = tt

  goes_on : (s : State) (o : StepResult) (m : ℕ) (k : State → Type 0) → ((next : State) → k next → EndMeets (run w code m next).ending (run w code m next).state) → StepMeets s o k
      → EndMeets (run_onwards s o (λ next. run w code m next)).ending (run_onwards s o (λ next. run w code m next)).state
  goes_on s (Goes next) m k ends h = ends next h
  goes_on s (Exits v) m k ends h = h
  goes_on s (Sticks reason slot) m k ends h = tt

  abbrev AfterStep : ℕ → State → Type 0
  AfterStep n next = elim (cuts next.slot) as (λ (x : Bool). Type 0) [ true ↦ ExitsMeet next | false ↦ precondition n next ]

  run_meets : (n m : ℕ) (s : State) → precondition n s → EndMeets (run w code m s).ending (run w code m s).state
  unfolding ExitsMeet
  run_meets zero m s h = h m
  run_meets (suc n) zero s h = tt
  run_meets (suc n) (suc m) s h =
      goes_on s (step w code s) m (AfterStep n) (λ next. at_cut (λ s'. run_meets n m s') next (cuts next.slot)) (of_fetched_meets s (fetch code s.slot) (AfterStep n) h)
    where
      at_cut : ((s' : State) → precondition n s' → EndMeets (run w code m s').ending (run w code m s').state) → (next : State) (t : Bool)
          → elim t as (λ (x : Bool). Type 0) [ true ↦ ExitsMeet next | false ↦ precondition n next ] → EndMeets (run w code m next).ending (run w code m next).state
      at_cut ends next true h = h m
      at_cut ends next false h = ends next h

  -- where the precondition holds, the runs meet what is wanted
  pub precondition_is_sound : (n : ℕ) (s : State) → precondition n s → ExitsMeet s
  unfolding ExitsMeet
  precondition_is_sound n s h m = run_meets n m s h

  exit_meets : (m : ℕ) (s : State) (v : ℕ) → ExitsMeet s → (run w code m s).ending ≡ Exited v → Post v (run w code m s).state
  unfolding ExitsMeet
  exit_meets m s v keeps exits = subst (λ (e : Ending). EndMeets e (run w code m s).state) exits (keeps m)

-- ---- with safe code

-- the run of a safe program over a datagram, to its end: it exits, and as is wanted
pub record ExitsWith (w : Environment) (code : List Insn) (d : List ℕ) (Post : ℕ → State → Type 0) : Type 0 where
  pub verdict : ℕ
  pub exits : (run_over w code d).ending ≡ Exited verdict
  pub holds : Post verdict (run_over w code d).state

pub safe_run_exits : (w : Environment) (code : List Insn) (cuts : ℕ → Bool) (Post : ℕ → State → Type 0) (d : List ℕ) → IsSafe code → IsPossible w → IsDatagram d → ExitsMeet w code cuts Post (start d) → ExitsWith w code d Post
safe_run_exits w code cuts Post d safe possible fit keeps =
    let end = safe w d possible fit in
    let same = exits_the_same w code (length code) (length code + 1) (start d) end.0 (omega arith) end.1 in
    let exits : (run_over w code d).ending ≡ Exited end.0 = ap (λ (r : Run). r.ending) same ∙ end.1 in
    record { verdict = end.0; exits = exits; holds = exit_meets w code cuts Post (length code + 1) (start d) end.0 keeps exits }
