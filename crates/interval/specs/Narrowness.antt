-- Meaning. How narrow intervals are: what each row of the two tables claims at most.
use Rattle.std.specs.Prelude.{◌≡◌, ℕ, ◌+◌, ◌*◌, ◌/◌, ◌%◌, ◌^◌, ◌≤◌, ◌<◌, true, Option, None, Some}
use mir.Val.{bits}
use Rattle.insn.specs.Words.{alu, bit_count, modulus, signed_width, swap_width, extended_of, target_of}
use Rattle.insn.specs.declared.width.Width.{Width}
use Rattle.insn.specs.declared.operator.AluOp.{AluOp}
use Rattle.insn.specs.declared.operator.AluOp.TheVariants.{Add, Sub, Mul, Div, SignedDiv, Or, And, Lsh, Rsh, Mod, SignedMod, Xor, Arsh}
use Rattle.insn.specs.declared.operator.UnaryOp.{UnaryOp}
use Rattle.insn.specs.declared.operator.UnaryOp.TheVariants.{Mov, Neg, SignExtend, Swap}
use Rattle.insn.specs.declared.operator.SwapOp.TheVariants.{ToLittle, ToBig, Reverse}
use Rattle.insn.specs.declared.condition.Condition.TheVariants.{Eq, Gt, Ge, Set, Ne, SignedGt, SignedGe, Lt, Le, SignedLt, SignedLe}
use Rattle.interval.specs.Domains.{passes}
use Rattle.interval.specs.Intervals.{LiesBetween}
use Rattle.interval.specs.declared.domain.Bounds.{Bounds}
use Rattle.interval.specs.declared.domain.Test.{Test}
use Rattle.interval.specs.declared.domain.Test.TheVariants.{Holds, Fails}

-- an interval of words of a width
pub record AreWords (w : Width) (x : Bounds) : Type 0 where
  pub order : x.lo ≤ x.hi
  pub words : x.hi < modulus w

-- neither operand has a member with the sign set
pub record ArePositive (w : Width) (x y : Bounds) : Type 0 where
  pub left : x.hi < modulus w / 2
  pub right : y.hi < modulus w / 2

-- ---- operators

-- an operator gives a number for some members
pub record IsResult (op : AluOp) (w : Width) (x y : Bounds) (k : ℕ) : Type 0 where
  pub m : ℕ
  pub n : ℕ
  pub of_left : LiesBetween x m
  pub of_right : LiesBetween y n
  pub gives : alu op w m n ≡ k

-- both ends are results, so no smaller interval has all results
pub record AreResults (op : AluOp) (w : Width) (x y result : Bounds) : Type 0 where
  pub lo : IsResult op w x y result.lo
  pub hi : IsResult op w x y result.hi

-- where both ends are results: no result wraps, no divisor is 0, the count of a shift is known, and a form that reads signs
-- has positive operands
abbrev pub IsExact : AluOp → Width → Bounds → Bounds → Type 0
IsExact Add w x y = x.hi + y.hi < modulus w
IsExact Sub w x y = y.hi ≤ x.lo
IsExact Mul w x y = x.hi * y.hi < modulus w
IsExact Div w x y = 0 < y.lo
IsExact SignedDiv w x y = (0 < y.lo) × ArePositive w x y
IsExact Or w x y = ⊥
IsExact And w x y = ⊥
IsExact Lsh w x y = (y.lo ≡ y.hi) × (x.hi * 2 ^ (y.lo % bit_count w) < modulus w)
IsExact Rsh w x y = y.lo ≡ y.hi
IsExact Mod w x y = ⊥
IsExact SignedMod w x y = ⊥
IsExact Xor w x y = ⊥
IsExact Arsh w x y = (y.lo ≡ y.hi) × (x.hi < modulus w / 2)

-- a remainder is below the divisor, and at most the dividend
pub record IsRemainder (x y : Bounds) (hi : ℕ) : Type 0 where
  pub dividend : hi ≤ x.hi
  pub divisor : 0 < y.lo → hi < y.hi

-- what is known of the upper end else
abbrev pub IsUpper : AluOp → Width → Bounds → Bounds → ℕ → Type 0
IsUpper Add w x y hi = hi < modulus w
IsUpper Sub w x y hi = hi < modulus w
IsUpper Mul w x y hi = hi < modulus w
IsUpper Div w x y hi = hi ≤ x.hi
IsUpper SignedDiv w x y hi = ArePositive w x y → hi ≤ x.hi
IsUpper Or w x y hi = (k : ℕ) → x.hi < 2 ^ k → y.hi < 2 ^ k → hi < 2 ^ k
IsUpper And w x y hi = (hi ≤ x.hi) × (hi ≤ y.hi)
IsUpper Lsh w x y hi = hi < modulus w
IsUpper Rsh w x y hi = hi ≤ x.hi
IsUpper Mod w x y hi = IsRemainder x y hi
IsUpper SignedMod w x y hi = ArePositive w x y → IsRemainder x y hi
IsUpper Xor w x y hi = (k : ℕ) → x.hi < 2 ^ k → y.hi < 2 ^ k → hi < 2 ^ k
IsUpper Arsh w x y hi = x.hi < modulus w / 2 → hi ≤ x.hi

-- where an operator leaves its operand as it is: a copy, and the low bytes or the extended sign of a number that has no others
abbrev pub IsUnchanged : UnaryOp → Bounds → Type 0
IsUnchanged (Mov w) x = Unit {0}
IsUnchanged (Neg w) x = ⊥
IsUnchanged (SignExtend e) x = x.hi < 2 ^ bits (signed_width (extended_of e)) / 2
IsUnchanged (Swap ToLittle z) x = x.hi < 2 ^ bits (swap_width z)
IsUnchanged (Swap ToBig z) x = ⊥
IsUnchanged (Swap Reverse z) x = ⊥

-- what each result is below
abbrev pub result_modulus : UnaryOp → ℕ
result_modulus (Mov w) = modulus w
result_modulus (Neg w) = modulus w
result_modulus (SignExtend e) = modulus (target_of e)
result_modulus (Swap op z) = 2 ^ bits (swap_width z)

-- ---- refinement

-- each member that is left passes the test with a member of the other operand
pub record ArePassing (test : Test) (w : Width) (x y : Bounds) (left : Bounds × Bounds) : Type 0 where
  pub first : (m : ℕ) → LiesBetween left.0 m → (n : ℕ) × LiesBetween y n × (passes test w m n ≡ true)
  pub second : (n : ℕ) → LiesBetween left.1 n → (m : ℕ) × LiesBetween x m × (passes test w m n ≡ true)

abbrev pub OnLeft : Option (Bounds × Bounds) → (Bounds × Bounds → Type 0) → Type 0
OnLeft None P = Unit {0}
OnLeft (Some left) P = P left

-- where a refinement leaves nothing else: an order, or that the operands are equal; of signed orders, where both operands
-- are positive
abbrev pub Refines : Test → Width → Bounds → Bounds → Type 0
Refines (Holds Eq) w x y = Unit {0}
Refines (Holds Set) w x y = ⊥
Refines (Holds Ne) w x y = ⊥
Refines (Holds Gt) w x y = Unit {0}
Refines (Holds Ge) w x y = Unit {0}
Refines (Holds Lt) w x y = Unit {0}
Refines (Holds Le) w x y = Unit {0}
Refines (Holds SignedGt) w x y = ArePositive w x y
Refines (Holds SignedGe) w x y = ArePositive w x y
Refines (Holds SignedLt) w x y = ArePositive w x y
Refines (Holds SignedLe) w x y = ArePositive w x y
Refines (Fails Eq) w x y = ⊥
Refines (Fails Set) w x y = ⊥
Refines (Fails Ne) w x y = Unit {0}
Refines (Fails Gt) w x y = Unit {0}
Refines (Fails Ge) w x y = Unit {0}
Refines (Fails Lt) w x y = Unit {0}
Refines (Fails Le) w x y = Unit {0}
Refines (Fails SignedGt) w x y = ArePositive w x y
Refines (Fails SignedGe) w x y = ArePositive w x y
Refines (Fails SignedLt) w x y = ArePositive w x y
Refines (Fails SignedLe) w x y = ArePositive w x y
