-- Meaning. What a state covers at least, and what a comparison of two registers leaves of them. Without these a walk is sound,
-- and follows paths that show nothing new.
use Rattle.std.specs.Prelude.{◌≡◌, ◌≢◌, ◌<◌, true, ◌≤ℤ◌, ℤ, length}
use Rattle.insn.specs.Register.{number_of}
use Rattle.insn.specs.declared.register.Reg.{Reg}
use Rattle.insn.specs.declared.instruction.Operand.TheVariants as operand
use Rattle.interval.specs.Domains.{Operations}
use Rattle.absstate.specs.AbstractStates.{abstract_at, low_of, high_of, proved_of}
use Rattle.absstate.specs.AbstractSteps.{with_operands}
use Rattle.absstate.specs.Covers.{covers_value, covers_marks, covers_memory}
use Rattle.absstate.specs.declared.abstract_state.Anchor.{Anchor}
use Rattle.absstate.specs.declared.abstract_state.AbstractValue.{AbstractValue}
use Rattle.absstate.specs.declared.abstract_state.AbstractValue.TheVariants.{Nothing, Scalar, Data}
use Rattle.absstate.specs.declared.abstract_state.AbsState.{AbsState}

-- Where nothing is known, each value is covered; a number covers what the domain says; a place between two places covers one
-- that lies between no farther ones and of which as much is proved; and a length, and set bytes, cover no shorter and no fewer
-- ones.
pub record CoversWider {D : Type 0} (ops : Operations D) (a b : AbsState D) : Type 0 where
  pub nothing : (v : AbstractValue D) → covers_value ops a b Nothing v ≡ true
  pub numbers : (x y : D) → ops.covers x y ≡ true → covers_value ops a b (Scalar x) (Scalar y) ≡ true
  pub places : (x y : Anchor) (k : ℤ) → low_of x ≤ℤ low_of y → high_of y ≤ℤ high_of x → proved_of a x ≤ℤ proved_of b y → covers_value ops a b (Data x k) (Data y k) ≡ true
  pub memory : a.proved ≤ℤ b.proved → covers_marks a.marks.cells b.marks.cells ≡ true → covers_memory a b ≡ true

-- a comparison of two registers leaves in each what the refinement leaves of it
pub record NarrowsBoth {D : Type 0} (a : AbsState D) : Type 0 where
  pub left : (dst src : Reg) (left : D × D) → number_of dst ≢ number_of src → number_of dst < length a.values → abstract_at (with_operands a dst (operand.Reg src) left).values dst ≡ Scalar left.0
  pub right : (dst src : Reg) (left : D × D) → number_of dst ≢ number_of src → number_of src < length a.values → abstract_at (with_operands a dst (operand.Reg src) left).values src ≡ Scalar left.1
