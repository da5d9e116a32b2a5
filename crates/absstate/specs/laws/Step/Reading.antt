-- Internal. What members hold at places of memory and in the arguments of calls agrees with what is known of it.
use Rattle.std.proofs.Common.{Result, Err, ◌≡◌, ℕ, ◌-◌, ◌<◌, ◌^◌, ℤ, pos, ◌+ℤ◌, Option, Some, None, Ok, refl, sym, ap, subst, arith}
use Rattle.std.specs.Prelude.{◌+◌, ◌≤◌, List, IfSome}
use Rattle.std.specs.Option.{ok_or}
use Rattle.insn.specs.Register.{number_of}
use Rattle.std.proofs.lemmas.Int.{ints}
use Rattle.insn.specs.Codes.{byte_count, unsigned_size}
use Rattle.insn.specs.Words.{sign_extended}
use Rattle.insn.specs.laws.Word.{sign_extended_word}
use Rattle.insn.specs.declared.size.SignedSize.{SignedSize}
use Rattle.insn.specs.declared.register.Reg.{Reg}
use Rattle.insn.specs.declared.register.Reg.TheVariants as reg
use Rattle.insn.specs.declared.size.Size.{Size}
use Rattle.insn.specs.declared.size.Size.TheVariants as size
use Rattle.insn.specs.declared.instruction.Insn.{Insn}
use Rattle.basics.specs.Fallible.{◌>>=◌}
use Rattle.semantics.specs.Access.{index_within, stack_first, location}
use Rattle.semantics.specs.laws.Access.{index_short}
use Rattle.semantics.specs.Calls.{argument_at, context_value, number_value, stack_value, bytes_at, record_bytes, widened, no_inputs}
use Rattle.semantics.specs.laws.Number.{no_address_bytes, widened_bytes}
use Rattle.semantics.specs.declared.helper.RecordForm.{RecordForm}
use Rattle.semantics.specs.declared.helper.Room.{Room}
use Rattle.semantics.specs.declared.helper.Argument.{Argument}
use Rattle.semantics.specs.declared.helper.Argument.TheVariants as argument
use Rattle.semantics.specs.declared.helper.Inputs.{Inputs}
use Rattle.semantics.specs.Machine.{AddressRecord, AreBytes, Context, IsContext, State}
use Rattle.semantics.specs.Effects as effects
use Rattle.semantics.specs.Loading as loading
use Rattle.semantics.specs.Loading.{reached_number, reached_value}
use Rattle.semantics.specs.Access.{number_in}
use Rattle.semantics.specs.declared.limits.TheConstants.{TAILROOM}
use Rattle.semantics.specs.declared.reason.Reason.{Reason}
use Rattle.semantics.specs.declared.reason.Reason.TheVariants.{DatagramBounds, HelperArgument}
use Rattle.semantics.specs.declared.value.Value.{Value}
use Rattle.semantics.specs.declared.value.Value.TheVariants as value
use Rattle.interval.specs.Domains.{Operations, AreSound}
use Rattle.absstate.specs.AbstractSteps as abstract
use Rattle.absstate.specs.AbstractSteps.{access_region, readable, abstract_load_value}
use Rattle.absstate.specs.Membership.{Mode, Places, IsNumberOf, IsHeld, IsMemberAt, concrete_value}
use Rattle.absstate.specs.declared.abstract_state.Anchor.TheVariants.{First, Variable}
use Rattle.absstate.specs.declared.abstract_state.AbstractValue.{AbstractValue}
use Rattle.absstate.specs.declared.abstract_state.AbstractValue.TheVariants as known
use Rattle.absstate.specs.declared.abstract_state.AbsState.{AbsState}
use Rattle.absstate.specs.laws.Step.Agreement.{Agree, and_then}
use Rattle.absstate.specs.laws.Step.MemoryValues.{IsRegionOf, IsReadNumber, stack_located, datagram_located, tailroom_located, region_read, bytes_read, reads_alike}
use Rattle.absstate.specs.laws.Step.Sums.{place_is}
use Rattle.absstate.specs.laws.Step.Anchors.{IsVariable}
use Rattle.absstate.specs.laws.Step.Arithmetic.{read_agrees, AreClaims}
use Rattle.absstate.specs.laws.Step.Results.{IsResult, held_results, fields_agree}

pub zero_more : (d : ℤ) → d ≡ (pos 0 +ℤ d)
zero_more d = omega (arith, ints)

size_fits : (z : Size) → 256 ^ byte_count z - 1 < 2 ^ 64
size_fits size.Byte = omega arith
size_fits size.Half = omega arith
size_fits size.Word = omega arith
size_fits size.Double = omega arith

-- ---- what the arguments of a call are: a word, an index of the stack with room for a record there, and a record

-- the inputs of a helper: a word, a record, and the index that is known, with room for a record there
abbrev pub IsGiven : Option Room → Inputs → Type 0
IsGiven out given = (given.number < 2 ^ 64) × AreBytes 20 given.address × (out ≡ given.out) × IfSome out (λ room. room.index + record_bytes room.form ≤ 512)

abbrev IsWord : Unit {0} → ℕ → Type 0
IsWord u n = n < 2 ^ 64

abbrev IsSameIndex : ℕ → ℕ → ℕ → Type 0
IsSameIndex size m n = (m ≡ n) × (m + size ≤ 512)

abbrev IsRecord : Unit {0} → AddressRecord → Type 0
IsRecord u address = AreBytes 20 address

module _ {D : Type 0} (ops : Operations D) (Member : D → ℕ → Type 0) (sound : AreSound ops Member) (claimed : Reason → Type 0) (mode : Mode) (places : Places) (a : AbsState D) (s : State) (member : IsMemberAt Member mode places a s) (i : Insn) (claims : AreClaims ops Member sound claimed mode a s i) where
  -- ---- memory

  pub locations_agree : (x : AbstractValue D) → (claimed DatagramBounds → IsVariable x → ⊥) → (m : ℕ) (d : ℤ) (n : ℕ) → IsNumberOf Member places s.memory.length x m
      → Agree claimed (IsRegionOf n) (abstract.access_region a x d n) (location s.memory.length (concrete_value places x m) d n)
  unfolding access_region
  locations_agree known.Nothing plain m d n h = λ c. refl
  locations_agree (known.Scalar k) plain m d n h = λ c. refl
  locations_agree known.Ctx plain m d n h = λ c. refl
  locations_agree (known.Stack k) plain m d n h = stack_located claimed (k +ℤ d) n
  locations_agree (known.Data First k) plain m d n h =
      datagram_located claimed s.memory.length (pos 0) (pos 0) a.proved (pos 0) k d n (place_is places s.memory.length a First member.reaches h) (λ c. (refl, refl, claims.bounds c))
  locations_agree (known.Data (Variable id low high proved) k) plain m d n h =
      datagram_located claimed s.memory.length low high proved (places id) k d n h (λ c. absurd (plain c tt))
  locations_agree known.End plain m d n h = subst (λ (b : ℤ). Agree claimed (IsRegionOf n) (abstract.region_in_datagram b n (pos 0) (pos TAILROOM)) (location s.memory.length value.End d n)) (zero_more d) (tailroom_located claimed s.memory.length d n)

  reads_agree : (x : AbstractValue D) → (claimed DatagramBounds → IsVariable x → ⊥) → (m : ℕ) (d : ℤ) (n : ℕ) → IsNumberOf Member places s.memory.length x m
      → Agree claimed (IsReadNumber n) (abstract.readable a x d n) (loading.reached_number s.memory (concrete_value places x m) d n)
  unfolding readable reached_number
  reads_agree x plain m d n h =
      and_then claimed (IsRegionOf n) (IsReadNumber n) (abstract.access_region a x d n) (location s.memory.length (concrete_value places x m) d n) _ _ (locations_agree x plain m d n h)
      (λ r at p q is. region_read Member claimed mode places a s member claims.cells n r at is)

  -- what is known of the number that is read has it as a member, extended or not
  numbers_agree : (extend : ℕ → ℕ) (number : D) (x : AbstractValue D) → (claimed DatagramBounds → IsVariable x → ⊥) → (m : ℕ) (d : ℤ) (n : ℕ) → ((k : ℕ) → k < 256 ^ n → Member number (extend k)) → IsNumberOf Member places s.memory.length x m
      → Agree claimed (IsHeld Member places s.memory.length) (abstract.abstract_load_number a x d n number) (loading.reached_number s.memory (concrete_value places x m) d n >>= λ k. Ok (value.Scalar (extend k)))
  numbers_agree extend number x plain m d n is h =
      and_then claimed (IsReadNumber n) (IsHeld Member places s.memory.length) (abstract.readable a x d n) (loading.reached_number s.memory (concrete_value places x m) d n) _ _
      (reads_agree x plain m d n h) (λ u k p q small. (extend k, is k small, refl))

  of_size : (z : Size) (k : ℕ) → k < 256 ^ byte_count z → Member (abstract.number_of_size ops z) k
  of_size z k small = sound.range 0 (256 ^ byte_count z - 1) k (size_fits z) (omega arith) (omega (arith, small))

  value_agrees : (x : AbstractValue D) → (claimed DatagramBounds → IsVariable x → ⊥) → (m : ℕ) (d : ℤ) (z : Size) → IsNumberOf Member places s.memory.length x m
      → Agree claimed (IsResult Member places s.memory.length) (abstract.abstract_load_value ops a x d z) (loading.reached_value s.memory (concrete_value places x m) d z)
  unfolding abstract_load_value reached_value
  value_agrees x plain m d z h =
      held_results claimed Member places s.memory.length (abstract.abstract_load_value ops a x d z) _
      (and_then claimed (IsRegionOf (byte_count z)) (IsHeld Member places s.memory.length) (abstract.access_region a x d (byte_count z)) (location s.memory.length (concrete_value places x m) d (byte_count z)) _ _ (locations_agree x plain m d (byte_count z) h)
      (λ r at p q is. reads_alike Member claimed mode places a s member claims.cells (IsHeld Member places s.memory.length) (λ k v held. held) (abstract.number_of_size ops z)
      z r at is (and_then claimed (IsReadNumber (byte_count z)) (IsHeld Member places s.memory.length) (abstract.region_readable a (byte_count z) r) (number_in s.memory (byte_count z) at) _ _
      (region_read Member claimed mode places a s member claims.cells (byte_count z) r at is) (λ u k p' q' small. (k, of_size z k small, refl)))))

  pub load_agrees : (c : Context) → IsContext c → (x : AbstractValue D) → (claimed DatagramBounds → IsVariable x → ⊥) → (m : ℕ) (d : ℤ) (z : Size) → IsNumberOf Member places s.memory.length x m
      → Agree claimed (IsResult Member places s.memory.length) (abstract.abstract_load ops a x d z) (loading.load c s.memory (concrete_value places x m) d z)
  load_agrees c real known.Ctx plain m d z h = fields_agree ops Member sound claimed places c real s.memory.length d z
  load_agrees c real known.Nothing plain m d z h = value_agrees known.Nothing plain m d z h
  load_agrees c real (known.Scalar n) plain m d z h = value_agrees (known.Scalar n) plain m d z h
  load_agrees c real (known.Stack k) plain m d z h = value_agrees (known.Stack k) plain m d z h
  load_agrees c real (known.Data anchor k) plain m d z h = value_agrees (known.Data anchor k) plain m d z h
  load_agrees c real known.End plain m d z h = value_agrees known.End plain m d z h

  pub signed_agrees : (x : AbstractValue D) → (claimed DatagramBounds → IsVariable x → ⊥) → (m : ℕ) (d : ℤ) (size : SignedSize) → IsNumberOf Member places s.memory.length x m
      → Agree claimed (IsResult Member places s.memory.length) (abstract.abstract_load_signed ops a x d size) (loading.load_signed s.memory (concrete_value places x m) d size)
  signed_agrees x plain m d size h =
      held_results claimed Member places s.memory.length (abstract.abstract_load_signed ops a x d size) (loading.load_signed s.memory (concrete_value places x m) d size)
      (numbers_agree (sign_extended size) ops.top x plain m d (byte_count (unsigned_size size)) (λ k small. sound.top (sign_extended size k) (sign_extended_word size k)) h)

  -- ---- calls

  context_agrees_at : (r : Reg) → Agree claimed (λ (u v : Unit {0}). Unit {0}) (abstract.abstract_context_argument a r) (effects.context_argument s.registers r)
  context_agrees_at r =
      and_then claimed (IsHeld Member places s.memory.length) (λ (u v : Unit {0}). Unit {0}) (abstract.abstract_register_value a r) (effects.register_value s.registers r) _ _ (read_agrees ops Member sound claimed mode places claims.registers a s member r)
      (λ x u p q held. subst (λ (v : Value). Agree claimed (λ (u v : Unit {0}). Unit {0}) (abstract.abstract_context_value r x) (context_value r v)) (sym held.2) (contexts r x held.0 held.1)) where
        contexts : (r : Reg) (x : AbstractValue D) (m : ℕ) → IsNumberOf Member places s.memory.length x m → Agree claimed (λ (u v : Unit {0}). Unit {0}) (abstract.abstract_context_value r x) (context_value r (concrete_value places x m))
        contexts r known.Ctx m h = tt
        contexts r known.Nothing m h = λ c. refl
        contexts r (known.Scalar n) m h = λ c. refl
        contexts r (known.Stack k) m h = λ c. refl
        contexts r (known.Data anchor k) m h = λ c. refl
        contexts r known.End m h = λ c. refl

  number_agrees_at : (r : Reg) → Agree claimed IsWord (abstract.abstract_number_argument a r) (effects.number_argument s.registers r)
  number_agrees_at r =
      and_then claimed (IsHeld Member places s.memory.length) IsWord (abstract.abstract_register_value a r) (effects.register_value s.registers r) _ _ (read_agrees ops Member sound claimed mode places claims.registers a s member r)
      (λ x u p q held. subst (λ (v : Value). Agree claimed IsWord (abstract.abstract_number_value r x) (number_value r v)) (sym held.2) (numbers r x held.0 held.1)) where
        numbers : (r : Reg) (x : AbstractValue D) (m : ℕ) → IsNumberOf Member places s.memory.length x m → Agree claimed IsWord (abstract.abstract_number_value r x) (number_value r (concrete_value places x m))
        numbers r (known.Scalar n) m h = sound.words n m h
        numbers r known.Nothing m h = λ c. refl
        numbers r known.Ctx m h = λ c. refl
        numbers r (known.Stack k) m h = λ c. refl
        numbers r (known.Data anchor k) m h = λ c. refl
        numbers r known.End m h = λ c. refl

  found_index : (size : ℕ) (r : Reg) (o : Option ℕ) → ((m : ℕ) → o ≡ Some m → m + size ≤ 512) → Agree claimed (IsSameIndex size) (ok_or o (HelperArgument (number_of r))) (ok_or o (HelperArgument (number_of r)))
  found_index size r None short = λ c. refl
  found_index size r (Some m) short = (refl, short m refl)

  stack_agrees_at : (size : ℕ) (r : Reg) → Agree claimed (IsSameIndex size) (abstract.abstract_stack_argument a size r) (effects.stack_argument s.registers size r)
  stack_agrees_at size r =
      and_then claimed (IsHeld Member places s.memory.length) (IsSameIndex size) (abstract.abstract_register_value a r) (effects.register_value s.registers r) _ _ (read_agrees ops Member sound claimed mode places claims.registers a s member r)
      (λ x u p q held. subst (λ (v : Value). Agree claimed (IsSameIndex size) (abstract.abstract_stack_value size r x) (stack_value size r v)) (sym held.2) (indices r x held.0 held.1)) where
        indices : (r : Reg) (x : AbstractValue D) (m : ℕ) → IsNumberOf Member places s.memory.length x m → Agree claimed (IsSameIndex size) (abstract.abstract_stack_value size r x) (stack_value size r (concrete_value places x m))
        indices r (known.Stack k) m h = found_index size r (index_within (k +ℤ pos 0) size stack_first stack_first (pos 0)) (λ n e. index_short (k +ℤ pos 0) size n e)
        indices r known.Nothing m h = λ c. refl
        indices r (known.Scalar n) m h = λ c. refl
        indices r known.Ctx m h = λ c. refl
        indices r (known.Data anchor k) m h = λ c. refl
        indices r known.End m h = λ c. refl

  abbrev HasBytes : ℕ → Unit {0} → List ℕ → Type 0
  HasBytes size u bytes = AreBytes size bytes

  record_agrees_at : (form : RecordForm) (r : Reg) → Agree claimed IsRecord (abstract.abstract_record_argument a form r) (effects.record_argument s.memory s.registers form r)
  record_agrees_at form r =
      let size : ℕ = record_bytes form in
      and_then claimed (IsSameIndex size) IsRecord (abstract.abstract_stack_argument a size r) (effects.stack_argument s.registers size r) _ _ (stack_agrees_at size r)
      (λ m n p q same. subst (λ (k : ℕ). Agree claimed IsRecord (abstract.cells_readable a size m) (bytes_at s.memory size k >>= λ bytes. Ok (widened form bytes))) same.0 (region_record m same.1)) where
        widens : (form : RecordForm) (x : Result (Unit {0}) Reason) (y : Result (List ℕ) Reason) → Agree claimed (HasBytes (record_bytes form)) x y → Agree claimed IsRecord x (y >>= λ bytes. Ok (widened form bytes))
        widens form (Ok u) (Ok bytes) are = widened_bytes form bytes are
        widens form (Ok u) (Err e) are = are
        widens form (Err e) (Ok bytes) are = are
        widens form (Err e) (Err f) are = are

        region_record : (m : ℕ) → m + record_bytes form ≤ 512 → Agree claimed IsRecord (abstract.cells_readable a (record_bytes form) m) (bytes_at s.memory (record_bytes form) m >>= λ bytes. Ok (widened form bytes))
        region_record m short = widens form (abstract.cells_readable a (record_bytes form) m) (bytes_at s.memory (record_bytes form) m) (bytes_read Member claimed mode places a s member claims.cells (record_bytes form) m short)

  argument_agrees : (r : Reg) (argument : Argument) (out : Option Room) (given : Inputs) → IsGiven out given → Agree claimed IsGiven (abstract.abstract_with_argument a r argument out) (effects.with_argument s.memory s.registers r argument given)
  argument_agrees r argument.Unused out given is = is
  argument_agrees r argument.Context out given is = and_then claimed (λ (u v : Unit {0}). Unit {0}) IsGiven (abstract.abstract_context_argument a r) (effects.context_argument s.registers r) _ _ (context_agrees_at r) (λ u v p q t. is)
  argument_agrees r argument.Number out given is = and_then claimed IsWord IsGiven (abstract.abstract_number_argument a r) (effects.number_argument s.registers r) _ _ (number_agrees_at r) (λ u n p q word. (word, is.1, is.2, is.3))
  argument_agrees r (argument.RecordIn form) out given is =
      and_then claimed IsRecord IsGiven (abstract.abstract_record_argument a form r) (effects.record_argument s.memory s.registers form r) _ _ (record_agrees_at form r) (λ u address p q are. (is.0, are, is.2, is.3))
  argument_agrees r (argument.RecordOut form) out given is =
      and_then claimed (IsSameIndex (record_bytes form)) IsGiven (abstract.abstract_stack_argument a (record_bytes form) r) (effects.stack_argument s.registers (record_bytes form) r) _ _ (stack_agrees_at (record_bytes form) r)
      (λ m n p q same. (is.0, is.1, ap (λ (k : ℕ). Some (record { index = k; form = form })) same.0, same.1))

  pub inputs_agree : (xs : List Argument) → Agree claimed IsGiven (abstract.out_of a xs) (effects.inputs s.memory s.registers xs)
  inputs_agree xs =
      and_then claimed IsGiven IsGiven (abstract.abstract_with_argument a reg.R1 (argument_at xs 0) None) (effects.with_argument s.memory s.registers reg.R1 (argument_at xs 0) no_inputs) _ _
      (argument_agrees reg.R1 (argument_at xs 0) None no_inputs (omega arith, no_address_bytes, refl, tt))
      (λ o given p q is. and_then claimed IsGiven IsGiven (abstract.abstract_with_argument a reg.R2 (argument_at xs 1) o) (effects.with_argument s.memory s.registers reg.R2 (argument_at xs 1) given) _ _ (argument_agrees reg.R2 (argument_at xs 1) o given is)
      (λ o given p q is. and_then claimed IsGiven IsGiven (abstract.abstract_with_argument a reg.R3 (argument_at xs 2) o) (effects.with_argument s.memory s.registers reg.R3 (argument_at xs 2) given) _ _ (argument_agrees reg.R3 (argument_at xs 2) o given is)
      (λ o given p q is. and_then claimed IsGiven IsGiven (abstract.abstract_with_argument a reg.R4 (argument_at xs 3) o) (effects.with_argument s.memory s.registers reg.R4 (argument_at xs 3) given) _ _ (argument_agrees reg.R4 (argument_at xs 3) o given is)
      (λ o given p q is. argument_agrees reg.R5 (argument_at xs 4) o given is))))
