-- Meaning. Abstract numbers: their operations, and the laws that make them sound.
use Rattle.std.specs.Prelude.{◌≡◌, ℕ, ◌≤◌, ◌<◌, ◌^◌, Bool, true, not, Option, Some, None}
use Rattle.insn.specs.Words.{alu, unary, holds}
use Rattle.insn.specs.declared.width.Width.{Width}
use Rattle.insn.specs.declared.operator.AluOp.{AluOp}
use Rattle.insn.specs.declared.operator.UnaryOp.{UnaryOp}
use Rattle.interval.specs.declared.domain.Bounds.{Bounds}
use Rattle.interval.specs.declared.domain.Test.{Test}
use Rattle.interval.specs.declared.domain.Test.TheVariants.{Holds, Fails}

-- a test on two words of a width
abbrev pub passes : Test → Width → ℕ → ℕ → Bool
passes (Holds c) w a b = holds c w a b
passes (Fails c) w a b = not (holds c w a b)

-- the operations of a domain with abstract numbers of the type D
pub record Operations (D : Type 0) : Type 0 where
  pub top : D
  pub exact : ℕ → D
  pub range : ℕ → ℕ → D
  pub bounds : D → Bounds
  pub alu : AluOp → Width → D → D → D
  pub unary : UnaryOp → D → D
  pub refine : Test → Width → D → D → Option (D × D)
  pub covers : D → D → Bool

-- bounds that lie between other ones
abbrev pub LieBetween : Bounds → Bounds → Type 0
LieBetween outer inner = (outer.lo ≤ inner.lo) × (inner.lo ≤ inner.hi) × (inner.hi ≤ outer.hi)

-- a pair of words is among those that a refinement keeps
abbrev pub KeepsPair : {D : Type 0} → (D → ℕ → Type 0) → Option (D × D) → ℕ → ℕ → Type 0
KeepsPair Member None m n = ⊥
KeepsPair Member (Some refined) m n = Member refined.0 m × Member refined.1 n

-- both of a pair have a member
pub record HasMembers {D : Type 0} (Member : D → ℕ → Type 0) (pair : D × D) : Type 0 where
  pub first : ℕ
  pub second : ℕ
  pub of_first : Member pair.0 first
  pub of_second : Member pair.1 second

-- The laws: results of members are members; a refinement keeps each pair of members that passes the test, and is
-- empty only where no pair passes it; where x covers y, members of y are members of x, and the bounds of y lie between those
-- of x.
pub record AreSound {D : Type 0} (ops : Operations D) (Member : D → ℕ → Type 0) : Type 0 where
  pub words : (x : D) (n : ℕ) → Member x n → n < 2 ^ 64
  pub top : (n : ℕ) → n < 2 ^ 64 → Member ops.top n
  pub exact : (n : ℕ) → n < 2 ^ 64 → Member (ops.exact n) n
  pub range : (lo hi n : ℕ) → hi < 2 ^ 64 → lo ≤ n → n ≤ hi → Member (ops.range lo hi) n
  pub bounds : (x : D) (n : ℕ) → Member x n → ((ops.bounds x).lo ≤ n) × (n ≤ (ops.bounds x).hi)
  pub alu : (op : AluOp) (w : Width) (x y : D) (m n : ℕ) → Member x m → Member y n → Member (ops.alu op w x y) (alu op w m n)
  pub unary : (op : UnaryOp) (x : D) (n : ℕ) → Member x n → Member (ops.unary op x) (unary op n)
  pub refine : (test : Test) (w : Width) (x y : D) (m n : ℕ) → Member x m → Member y n → passes test w m n ≡ true → KeepsPair Member (ops.refine test w x y) m n
  pub covers : (x y : D) (n : ℕ) → ops.covers x y ≡ true → Member y n → Member x n
  pub covered_between : (x y : D) → ops.covers x y ≡ true → LieBetween (ops.bounds x) (ops.bounds y)

-- What refusals that are real need besides: an exact number has itself as its bounds, and what a refinement leaves of
-- operands with members has members.
pub record ArePrecise {D : Type 0} (ops : Operations D) (Member : D → ℕ → Type 0) : Type 0 where
  pub exact : (n : ℕ) → n < 2 ^ 64 → ops.bounds (ops.exact n) ≡ record { lo = n; hi = n }
  pub refine : (test : Test) (w : Width) (x y : D) (m n : ℕ) (left : D × D) → Member x m → Member y n → ops.refine test w x y ≡ Some left → HasMembers Member left
