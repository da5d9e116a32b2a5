-- Interface. Intervals of 64-bit words, by their least and greatest member.
use Rattle.std.specs.Prelude.{ℕ, ◌+◌, ◌-◌, ◌*◌, ◌/◌, ◌%◌, ◌^◌, ◌≤◌, ◌<◌, min, max, Bool, true, false, ◌&&◌, ◌==◌, nat_lt, nat_le, Option, Some, None, if◌then◌else◌}
use Rattle.std.specs.Int.{w64, leading_zeros}
use mir.Val.{bits}
use Rattle.insn.specs.Words.{alu, unary, bit_count, modulus, signed_width, swap_width, extended_of, target_of}
use Rattle.insn.specs.declared.width.Width.{Width}
use Rattle.insn.specs.declared.width.Width.TheVariants.{W64}
use Rattle.insn.specs.declared.operator.AluOp.{AluOp}
use Rattle.insn.specs.declared.operator.AluOp.TheVariants.{Add, Sub, Mul, Div, SignedDiv, Or, And, Lsh, Rsh, Mod, SignedMod, Xor, Arsh}
use Rattle.insn.specs.declared.operator.UnaryOp.{UnaryOp}
use Rattle.insn.specs.declared.operator.UnaryOp.TheVariants.{Mov, Neg, SignExtend, Swap}
use Rattle.insn.specs.declared.operator.SwapOp.TheVariants.{ToLittle, ToBig, Reverse}
use Rattle.insn.specs.declared.condition.Condition.{Condition}
use Rattle.insn.specs.declared.condition.Condition.TheVariants.{Eq, Gt, Ge, Set, Ne, SignedGt, SignedGe, Lt, Le, SignedLt, SignedLe}
use Rattle.interval.specs.Domains.{Operations, passes}
use Rattle.interval.specs.declared.domain.Bounds.{Bounds}
use Rattle.interval.specs.declared.domain.Test.{Test}
use Rattle.interval.specs.declared.domain.Test.TheVariants.{Holds, Fails}

abbrev pub from_to : ℕ → ℕ → Bounds
from_to lo hi = record { lo = lo; hi = hi }

-- a word lies between the two ends, those included
pub record LiesBetween (x : Bounds) (n : ℕ) : Type 0 where
  pub word : n < 2 ^ 64
  pub above : x.lo ≤ n
  pub below : n ≤ x.hi

-- all words of a width
abbrev pub all : Width → Bounds
all w = from_to 0 (modulus w - 1)

abbrev pub single : ℕ → Bounds
single n = from_to n n

abbrev pub is_single : Bounds → Bool
is_single x = x.lo == x.hi

-- an operand of a width: all words of the width where it may exceed them
abbrev pub operand_bounds : Width → Bounds → Bounds
operand_bounds w x = if nat_lt x.hi (modulus w) then x else all w

-- neither operand may be negative at the width
abbrev pub are_positive : Width → Bounds → Bounds → Bool
are_positive w x y = nat_lt x.hi (modulus w / 2) && nat_lt y.hi (modulus w / 2)

-- ---- operators with two operands

abbrev pub quotient_bounds : Bounds → Bounds → Bounds
quotient_bounds x y = if nat_lt 0 y.lo then from_to (x.lo / y.hi) (x.hi / y.lo) else from_to 0 x.hi

abbrev pub remainder : Bounds → Bounds → Bounds
remainder x y = if nat_lt 0 y.lo then from_to 0 (min x.hi (y.hi - 1)) else from_to 0 x.hi

-- the least 2^k - 1 that is at least n
unfoldable pub ones : ℕ → ℕ
ones n = 2 ^ (64 - leading_zeros w64 n) - 1

-- shifted by an exact count; by any other, the number doesn't grow
abbrev pub shifted_right : Width → Bounds → Bounds → Bounds
shifted_right w x y = if is_single y then from_to (x.lo / 2 ^ (y.lo % bit_count w)) (x.hi / 2 ^ (y.lo % bit_count w)) else from_to 0 x.hi

-- operands of the width that aren't both single
abbrev pub result_bounds : AluOp → Width → Bounds → Bounds → Bounds
result_bounds Add w x y = if nat_lt (x.hi + y.hi) (modulus w) then from_to (x.lo + y.lo) (x.hi + y.hi) else all w
result_bounds Sub w x y = if nat_le y.hi x.lo then from_to (x.lo - y.hi) (x.hi - y.lo) else all w
result_bounds Mul w x y = if nat_lt (x.hi * y.hi) (modulus w) then from_to (x.lo * y.lo) (x.hi * y.hi) else all w
result_bounds Div w x y = quotient_bounds x y
result_bounds SignedDiv w x y = if are_positive w x y then quotient_bounds x y else all w
result_bounds Or w x y = from_to 0 (ones (max x.hi y.hi))
result_bounds And w x y = from_to 0 (min x.hi y.hi)
result_bounds Lsh w x y = if is_single y && nat_lt (x.hi * 2 ^ (y.lo % bit_count w)) (modulus w) then from_to (x.lo * 2 ^ (y.lo % bit_count w)) (x.hi * 2 ^ (y.lo % bit_count w)) else all w
result_bounds Rsh w x y = shifted_right w x y
result_bounds Mod w x y = remainder x y
result_bounds SignedMod w x y = if are_positive w x y then remainder x y else all w
result_bounds Xor w x y = from_to 0 (ones (max x.hi y.hi))
result_bounds Arsh w x y = if nat_lt x.hi (modulus w / 2) then shifted_right w x y else all w

-- exact on single numbers; else each operand is first cut to the width
abbrev pub interval_alu : AluOp → Width → Bounds → Bounds → Bounds
interval_alu op w x y = if is_single x && is_single y then single (alu op w x.lo y.lo) else result_bounds op w (operand_bounds w x) (operand_bounds w y)

-- ---- operators with one operand

-- the low w bits of a number, which are the number itself where it has no more
abbrev pub low : ℕ → Bounds → Bounds
low bits x = if nat_lt x.hi (2 ^ bits) then x else from_to 0 (2 ^ bits - 1)

abbrev pub ranged_unary : UnaryOp → Bounds → Bounds
ranged_unary (Mov w) x = x
ranged_unary (Neg w) x = all w
ranged_unary (SignExtend e) x = if nat_lt x.hi (2 ^ bits (signed_width (extended_of e)) / 2) then x else all (target_of e)
ranged_unary (Swap ToLittle z) x = low (bits (swap_width z)) x
ranged_unary (Swap ToBig z) x = from_to 0 (2 ^ bits (swap_width z) - 1)
ranged_unary (Swap Reverse z) x = from_to 0 (2 ^ bits (swap_width z) - 1)

-- the width that cuts the operand; byte swaps use their own size
abbrev pub operand_width : UnaryOp → Width
operand_width (Mov w) = w
operand_width (Neg w) = w
operand_width (SignExtend e) = target_of e
operand_width (Swap op z) = W64

abbrev pub interval_unary : UnaryOp → Bounds → Bounds
interval_unary op x = if is_single x then single (unary op x.lo) else ranged_unary op (operand_bounds (operand_width op) x)

-- ---- refinement

-- an interval, if it has a member
abbrev pub if_any : Bounds → Option Bounds
if_any x = if nat_le x.lo x.hi then Some x else None

abbrev pub both : Option Bounds → Option Bounds → Option (Bounds × Bounds)
both (Some x) (Some y) = Some (x, y)
both (Some x) None = None
both None other = None

abbrev pub exchanged_pair : Option (Bounds × Bounds) → Option (Bounds × Bounds)
exchanged_pair (Some pair) = Some (pair.1, pair.0)
exchanged_pair None = None

-- x > y: where y.lo + 1 is no word, or x.hi is 0, no pair is left
abbrev pub greater : Bounds → Bounds → Option (Bounds × Bounds)
greater x y = if nat_lt y.lo x.hi then both (if_any (from_to (max x.lo (y.lo + 1)) x.hi)) (if_any (from_to y.lo (min y.hi (x.hi - 1)))) else None

-- x >= y
abbrev pub at_least : Bounds → Bounds → Option (Bounds × Bounds)
at_least x y = both (if_any (from_to (max x.lo y.lo) x.hi)) (if_any (from_to y.lo (min y.hi x.hi)))

-- x = y
abbrev pub equal : Bounds → Bounds → Option (Bounds × Bounds)
equal x y = both (if_any (from_to (max x.lo y.lo) (min x.hi y.hi))) (if_any (from_to (max x.lo y.lo) (min x.hi y.hi)))

-- numbers of one sign, or of either
abbrev pub is_signed : Condition → Bool
is_signed SignedGt = true
is_signed SignedGe = true
is_signed SignedLt = true
is_signed SignedLe = true
is_signed Eq = false
is_signed Gt = false
is_signed Ge = false
is_signed Set = false
is_signed Ne = false
is_signed Lt = false
is_signed Le = false

-- what is left where a condition holds; not equal and a common bit refine nothing
abbrev pub where_it_holds : Condition → Bounds → Bounds → Option (Bounds × Bounds)
where_it_holds Eq x y = equal x y
where_it_holds Gt x y = greater x y
where_it_holds Ge x y = at_least x y
where_it_holds Set x y = Some (x, y)
where_it_holds Ne x y = Some (x, y)
where_it_holds SignedGt x y = greater x y
where_it_holds SignedGe x y = at_least x y
where_it_holds Lt x y = exchanged_pair (greater y x)
where_it_holds Le x y = exchanged_pair (at_least y x)
where_it_holds SignedLt x y = exchanged_pair (greater y x)
where_it_holds SignedLe x y = exchanged_pair (at_least y x)

-- where a condition doesn't hold, its opposite does; a common bit has none among the conditions
abbrev pub where_it_fails : Condition → Bounds → Bounds → Option (Bounds × Bounds)
where_it_fails Eq x y = Some (x, y)
where_it_fails Gt x y = exchanged_pair (at_least y x)
where_it_fails Ge x y = exchanged_pair (greater y x)
where_it_fails Set x y = Some (x, y)
where_it_fails Ne x y = equal x y
where_it_fails SignedGt x y = exchanged_pair (at_least y x)
where_it_fails SignedGe x y = exchanged_pair (greater y x)
where_it_fails Lt x y = at_least x y
where_it_fails Le x y = greater x y
where_it_fails SignedLt x y = at_least x y
where_it_fails SignedLe x y = greater x y

abbrev pub condition_of : Test → Condition
condition_of (Holds c) = c
condition_of (Fails c) = c

abbrev pub pair_where : Test → Bounds → Bounds → Option (Bounds × Bounds)
pair_where (Holds c) x y = where_it_holds c x y
pair_where (Fails c) x y = where_it_fails c x y

-- both operands are words of the width, and not negative where the test reads a sign
abbrev pub can_refine : Test → Width → Bounds → Bounds → Bool
can_refine test w x y = if is_signed (condition_of test) then are_positive w x y else nat_lt x.hi (modulus w) && nat_lt y.hi (modulus w)

abbrev pub interval_refine : Test → Width → Bounds → Bounds → Option (Bounds × Bounds)
interval_refine test w x y =
    if is_single x && is_single y then (if passes test w x.lo y.lo then Some (x, y) else None)
    else (if can_refine test w x y then pair_where test x y else Some (x, y))

-- ---- all operations

-- the ends of an interval lie between those of another one, in their order
abbrev pub contains : Bounds → Bounds → Bool
contains x y = nat_le x.lo y.lo && (nat_le y.lo y.hi && nat_le y.hi x.hi)

abbrev pub interval_ops : Operations Bounds
interval_ops = record {
  top = all W64;
  exact = single;
  range = from_to;
  bounds = λ x. x;
  alu = interval_alu;
  unary = interval_unary;
  refine = interval_refine;
  covers = contains;
}
