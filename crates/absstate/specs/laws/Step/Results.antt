-- Internal. What an instruction writes to a register: a member of what is known of it, over a datagram of at most
-- 65,507 bytes. Over a longer one, which loose runs have, it differs from a member at most in a number.
use Rattle.std.proofs.Common.{◌≡◌, ℕ, ◌-◌, ◌<◌, ◌≤◌, ◌^◌, ℤ, pos, Option, Some, None, Result, Ok, Err, refl, arith}
use Rattle.std.specs.Option.{ok_or}
use Rattle.insn.specs.Endian.{little_number}
use Rattle.insn.specs.declared.size.Size.{Size}
use Rattle.insn.specs.declared.size.Size.TheVariants as size
use Rattle.semantics.specs.Access.{part}
use Rattle.semantics.specs.laws.Context.{length_field, side_field, context_fits}
use Rattle.basics.specs.Fallible.{◌>>=◌}
use Rattle.semantics.specs.Loading as loading
use Rattle.semantics.specs.Loading.{field_at, field_value}
use Rattle.semantics.specs.Machine.{Context, IsContext, context_bytes}
use Rattle.semantics.specs.laws.Number.{bytes_fit}
use Rattle.semantics.specs.declared.limits.TheConstants.{MAX_DATAGRAM}
use Rattle.semantics.specs.declared.loading.ContextField.{ContextField}
use Rattle.semantics.specs.declared.loading.ContextField.TheVariants as field
use Rattle.semantics.specs.declared.reason.Reason.{Reason}
use Rattle.semantics.specs.declared.reason.Reason.TheVariants.{ContextAccess}
use Rattle.semantics.specs.declared.value.Value.{Value}
use Rattle.semantics.specs.declared.value.Value.TheVariants as value
use Rattle.interval.specs.Domains.{Operations, AreSound}
use Rattle.absstate.specs.AbstractSteps as abstract
use Rattle.absstate.specs.AbstractSteps.{field_known}
use Rattle.absstate.specs.Membership.{Places, IsHeld}
use Rattle.absstate.specs.declared.abstract_state.AbstractValue.{AbstractValue}
use Rattle.absstate.specs.declared.abstract_state.AbstractValue.TheVariants as known
use Rattle.absstate.specs.laws.Step.Agreement.{Agree}

-- v is held by k over a short datagram, and otherwise differs from a held value (`like`) in a number at most
pub record IsResult {D : Type 0} (Member : D → ℕ → Type 0) (places : Places) (length : ℕ) (k : AbstractValue D) (v : Value) : Type 0 where
  pub held : length ≤ MAX_DATAGRAM → IsHeld Member places length k v
  pub like : Value
  pub like_held : IsHeld Member places length k like
  pub wide : AbstractValue D
  pub wide_held : IsHeld Member places length wide v
  pub wide_like : IsHeld Member places length wide like

pub of_member : {D : Type 0} (Member : D → ℕ → Type 0) (places : Places) (length : ℕ) (k : AbstractValue D) (v : Value) → IsHeld Member places length k v → IsResult Member places length k v
of_member Member places length k v h = record { held = λ le. h; like = v; like_held = h; wide = k; wide_held = h; wide_like = h }

pub held_results : {D : Type 0} (claimed : Reason → Type 0) (Member : D → ℕ → Type 0) (places : Places) (length : ℕ) (x : Result (AbstractValue D) Reason) (y : Result Value Reason) → Agree claimed (IsHeld Member places length) x y → Agree claimed (IsResult Member places length) x y
held_results claimed Member places length (Ok k) (Ok v) h = of_member Member places length k v h
held_results claimed Member places length (Ok k) (Err e) h = absurd h
held_results claimed Member places length (Err e) (Ok v) h = h
held_results claimed Member places length (Err e) (Err f) h = h

-- ---- the fields of the context record

module _ {D : Type 0} (ops : Operations D) (Member : D → ℕ → Type 0) (sound : AreSound ops Member) (claimed : Reason → Type 0) (places : Places) (c : Context) (real : IsContext c) (length : ℕ) where
  abbrev number_of : ℕ → ℕ → ℕ
  number_of n offset = little_number n (part n offset (context_bytes c length))

  -- a field of 8 or 4 bytes
  double : (offset : ℕ) → IsHeld Member places length (known.Scalar (abstract.number_of_size ops size.Double)) (value.Scalar (number_of 8 offset))
  double offset = let fits : number_of 8 offset < 256 ^ 8 = bytes_fit (context_bytes c length) (context_fits c length real) 8 offset in (number_of 8 offset, sound.range 0 (256 ^ 8 - 1) (number_of 8 offset) (omega arith) (omega arith) (omega (arith, fits)), refl)

  word : (offset : ℕ) → IsHeld Member places length (known.Scalar (abstract.number_of_size ops size.Word)) (value.Scalar (number_of 4 offset))
  word offset = let fits : number_of 4 offset < 256 ^ 4 = bytes_fit (context_bytes c length) (context_fits c length real) 4 offset in (number_of 4 offset, sound.range 0 (256 ^ 4 - 1) (number_of 4 offset) (omega arith) (omega arith) (omega (arith, fits)), refl)

  -- the length is known where it is at most 65,507
  length_result : IsResult Member places length (known.Scalar (ops.range 0 MAX_DATAGRAM)) (value.Scalar (number_of 8 16))
  length_result = record {
    held = λ le. let is : number_of 8 16 ≡ length = length_field c length (omega (arith, le)) in (number_of 8 16, sound.range 0 MAX_DATAGRAM (number_of 8 16) (omega arith) (omega arith) (omega (arith, is, le)), refl);
    like = value.Scalar 0;
    like_held = (0, sound.range 0 MAX_DATAGRAM 0 (omega arith) (omega arith) (omega arith), refl);
    wide = known.Scalar ops.top;
    wide_held = let fits : number_of 8 16 < 256 ^ 8 = bytes_fit (context_bytes c length) (context_fits c length real) 8 16 in (number_of 8 16, sound.top (number_of 8 16) (omega (arith, fits)), refl);
    wide_like = (0, sound.top 0 (omega arith), refl);
  }

  side_held : IsHeld Member places length (known.Scalar (ops.range 0 1)) (value.Scalar (number_of 4 44))
  side_held = let is : number_of 4 44 ≡ c.side = side_field c length real in (number_of 4 44, sound.range 0 1 (number_of 4 44) (omega arith) (omega arith) (omega (arith, is, real.side)), refl)

  held_result : (k : AbstractValue D) (v : Value) → IsHeld Member places length k v → IsResult Member places length k v
  held_result k v h = of_member Member places length k v h

  field_result : (f : ContextField) → IsResult Member places length (field_known ops f) (field_value (context_bytes c length) f)
  field_result field.Datagram = held_result (field_known ops field.Datagram) (value.Data (pos 0)) (0, tt, refl)
  field_result field.End = held_result known.End value.End (0, tt, refl)
  field_result field.Length = length_result
  field_result field.Source = held_result (field_known ops field.Source) (value.Scalar (number_of 8 24)) (double 24)
  field_result field.IdHead = held_result (field_known ops field.IdHead) (value.Scalar (number_of 8 32)) (double 32)
  field_result field.IdTail = held_result (field_known ops field.IdTail) (value.Scalar (number_of 4 40)) (word 40)
  field_result field.Side = held_result (field_known ops field.Side) (value.Scalar (number_of 4 44)) side_held
  field_result field.WideHead = held_result (field_known ops field.WideHead) (value.Scalar (number_of 8 48)) (double 48)
  field_result field.WideMiddle = held_result (field_known ops field.WideMiddle) (value.Scalar (number_of 8 56)) (double 56)
  field_result field.WideTail = held_result (field_known ops field.WideTail) (value.Scalar (number_of 4 64)) (word 64)

  found_agree : (o : Option ContextField) → Agree claimed (IsResult Member places length) (ok_or o ContextAccess >>= λ g. Ok (field_known ops g)) (ok_or o ContextAccess >>= λ g. Ok (field_value (context_bytes c length) g))
  found_agree None = λ claim. refl
  found_agree (Some f) = field_result f

  pub fields_agree : (d : ℤ) (z : Size) → Agree claimed (IsResult Member places length) (abstract.abstract_load_field ops d z) (loading.load_field (context_bytes c length) d z)
  fields_agree d z = found_agree (field_at d z)
