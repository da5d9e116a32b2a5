-- What a state covers at least, and what a comparison of two registers leaves of them.
use Rattle.std.proofs.Common.{◌≡◌, ◌≢◌, Bool, true, false, ◌&&◌, if◌then◌else◌, ℤ, ◌≤ℤ◌, refl, ap, ◌∙◌, arith, slice_set}
use Rattle.std.specs.Prelude.{◌==◌, int_le}
use Rattle.std.proofs.lemmas.Bool.{eqb-true}
use Rattle.std.proofs.lemmas.Int.{ints}
use Rattle.std.proofs.lemmas.List.{get_or-set_same, get_or-set_other, length-set}
use Rattle.insn.specs.Register.{number_of}
use Rattle.insn.specs.declared.register.Reg.{Reg}
use Rattle.insn.specs.declared.instruction.Operand.TheVariants as operand
use Rattle.interval.specs.Domains.{Operations}
use Rattle.absstate.specs.AbstractStates.{abstract_at, low_of, high_of, proved_of, with_value}
use Rattle.absstate.specs.AbstractSteps.{with_operands}
use Rattle.absstate.specs.Covers.{same_int, covers_places, proves_less, covers_marks}
use Rattle.absstate.specs.Generality.{CoversWider, NarrowsBoth}
use Rattle.absstate.specs.laws.Step.Bounds.{le_is_true}
use Rattle.absstate.specs.laws.Step.MemoryValues.{both_true}
use Rattle.absstate.specs.declared.abstract_state.AbstractValue.TheVariants.{Nothing, Scalar}
use Rattle.absstate.specs.declared.abstract_state.AbsState.{AbsState}

pub covers_wider : {D : Type 0} (ops : Operations D) (a b : AbsState D) → CoversWider ops a b
covers_wider ops a b = record {
  nothing = λ v. refl;
  numbers = λ x y e. e;
  places = λ x y k low high proved. both_true (same_int k k) (covers_places x y && proves_less a b x y) (both_true (int_le k k) (int_le k k) (le_is_true k k (itself k)) (le_is_true k k (itself k)))
      (both_true (covers_places x y) (proves_less a b x y) (both_true (int_le (low_of x) (low_of y)) (int_le (high_of y) (high_of x)) (le_is_true (low_of x) (low_of y) low) (le_is_true (high_of y) (high_of x) high))
      (le_is_true (proved_of a x) (proved_of b y) proved));
  memory = λ proved marks. both_true (int_le a.proved b.proved) (covers_marks a.marks.cells b.marks.cells) (le_is_true a.proved b.proved proved) marks;
} where
  itself : (k : ℤ) → k ≤ℤ k
  itself k = grind (arith, ints)

-- two registers are changed, the right one last
two_changed : {D : Type 0} (a : AbsState D) (dst src : Reg) (left : D × D) → number_of dst ≢ number_of src
    → with_operands a dst (operand.Reg src) left ≡ with_value (with_value a dst (Scalar left.0)) src (Scalar left.1)
two_changed a dst src left apart = by_cases (number_of dst == number_of src) refl where
  by_cases : (test : Bool) → (number_of dst == number_of src) ≡ test
      → with_operands a dst (operand.Reg src) left ≡ with_value (with_value a dst (Scalar left.0)) src (Scalar left.1)
  by_cases true e = absurd (apart (eqb-true (number_of dst) (number_of src) e))
  by_cases false e = ap (λ (test : Bool). if test then a else with_value (with_value a dst (Scalar left.0)) src (Scalar left.1)) e

pub narrows_both : {D : Type 0} (a : AbsState D) → NarrowsBoth a
narrows_both a = record {
  left = λ dst src left apart lt. ap (λ (s : AbsState _). abstract_at s.values dst) (two_changed a dst src left apart)
      ∙ get_or-set_other (slice_set a.values (number_of dst) (Scalar left.0)) (number_of src) (number_of dst) (Scalar left.1) Nothing apart
      ∙ get_or-set_same a.values (number_of dst) (Scalar left.0) Nothing lt;
  right = λ dst src left apart lt. ap (λ (s : AbsState _). abstract_at s.values src) (two_changed a dst src left apart)
      ∙ get_or-set_same (slice_set a.values (number_of dst) (Scalar left.0)) (number_of src) (Scalar left.1) Nothing (omega (arith, lt, length-set a.values (number_of dst) (Scalar left.0)));
}
