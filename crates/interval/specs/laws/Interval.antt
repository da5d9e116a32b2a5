-- Interface. Intervals are a sound domain, and a precise one.
use Rattle.std.proofs.Common.{◌≡◌, ℕ, ◌-◌, ◌^◌, true, refl, arith}
use Rattle.std.specs.Prelude.{nat_le, ◌&&◌}
use Rattle.std.proofs.lemmas.Bool.{leb-true, and_parts}
use Rattle.interval.specs.declared.domain.Bounds.{Bounds}
use Rattle.interval.specs.Domains.{LieBetween, AreSound, ArePrecise}
use Rattle.interval.specs.Intervals.{LiesBetween, interval_ops, contains}
use Rattle.interval.specs.laws.Interval.Members.{is_member, between}
use Rattle.interval.specs.laws.Interval.Operators.{alu_sound}
use Rattle.interval.specs.laws.Interval.OneOperand.{unary_sound}
use Rattle.interval.specs.laws.Interval.Refinements.{refine_sound, refine_precise}
pub mod Members
pub mod Operators
pub mod OneOperand
pub mod Refinements
pub mod Narrow
pub mod Passing

-- the ends of an interval and of one that it contains, in their order
ends_in_order : (x y : Bounds) → contains x y ≡ true → LieBetween x y
ends_in_order x y e =
    let first = and_parts (nat_le x.lo y.lo) (nat_le y.lo y.hi && nat_le y.hi x.hi) e in
    let rest = and_parts (nat_le y.lo y.hi) (nat_le y.hi x.hi) first.1 in
    (leb-true x.lo y.lo first.0, leb-true y.lo y.hi rest.0, leb-true y.hi x.hi rest.1)

covers_member : (x y : Bounds) (n : ℕ) → contains x y ≡ true → LiesBetween y n → LiesBetween x n
covers_member x y n e h =
    let ends = ends_in_order x y e in
    record { word = h.word; above = omega (arith, h.above, ends.0); below = omega (arith, h.below, ends.2) }

pub interval_laws : AreSound interval_ops LiesBetween
interval_laws = record {
  words = λ x n h. h.word;
  top = λ n lt. is_member _ n (between 0 (2 ^ 64 - 1) n (omega arith) (omega arith) (omega arith));
  exact = λ n lt. is_member _ n (between n n n lt (omega arith) (omega arith));
  range = λ lo hi n lt p q. is_member _ n (between lo hi n lt p q);
  bounds = λ x n h. (h.above, h.below);
  alu = λ op w x y m n h k. is_member _ _ (alu_sound op w x y m n h k);
  unary = λ op x n h. is_member _ _ (unary_sound op x n h);
  refine = λ test w x y m n h k passed. refine_sound x y m n h k w test passed;
  covers = covers_member;
  covered_between = ends_in_order;
}

pub interval_precise : ArePrecise interval_ops LiesBetween
interval_precise = record {
  exact = λ n lt. refl;
  refine = λ test w x y m n pair h k e. refine_precise test w x y m n h k pair e;
}
