use Rattle.std.proofs.Common.{◌≡◌, Bool, Result, Ok, ◌+ℤ◌, to_z, of_z, w64, w16, arith, rules, sym, ap, ◌∙◌}
use Rattle.std.proofs.lemmas.Int.{ints, to_z-of_z}
use Rattle.semantics.specs.Access.{is_within}
use Rattle.basics.specs.Fallible.{◌>>=◌, check}
use Rattle.semantics.specs.declared.reason.Reason.{Reason}
use Rattle.semantics.specs.declared.reason.Reason.TheVariants.{DatagramBounds}
use Rattle.absstate.specs.declared.memory.Region.{Region}
use Rattle.absstate.specs.declared.memory.Region.TheVariants.{InBytes}
use Rattle.absstate.proofs.memory.in_bytes.Goals as goal

abbrev bounded : Bool → Result Region Reason
bounded inside = do
  u ← check inside DatagramBounds
  Ok InBytes

pub returns-then-is_within-clause-region : goal.returns-then-is_within-clause-region
returns-then-is_within-clause-region c =
    let place : to_z w64 (of_z w64 c.from.result) +ℤ to_z w16 (of_z w16 c.args.displacement) ≡ c.args.offset +ℤ c.args.displacement = omega (arith, ints) in
    let low : to_z w64 (of_z w64 c.args.low) ≡ c.args.low = to_z-of_z w64 c.args.low c.ranges.low in
    let high : to_z w64 (of_z w64 c.args.high) ≡ c.args.high = to_z-of_z w64 c.args.high c.ranges.high in
    ap bounded (sym c.if-is_within.true ∙ c.is_within.ensures ∙ (λ i. is_within (place i) c.args.n (low i) (high i)))

pub returns-else-is_within-clause-region : goal.returns-else-is_within-clause-region
returns-else-is_within-clause-region c = search rules
