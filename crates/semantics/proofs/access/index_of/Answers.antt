use Rattle.std.proofs.Common.{rules, arith, ◌≡◌, ◌+ℤ◌, ◌-ℤ◌, ◌≤ℤ◌, ◌<ℤ◌, pos, ℤ, Some, sym, ap, ◌∙◌, subst, to_z, of_z, w64, Fits}
use lib.Dec.{T}
use lib.Signed.{non_neg}
use Rattle.std.specs.Prelude.{unsigned_abs}
use Rattle.std.proofs.lemmas.Int.{ints}
use Rattle.semantics.specs.Access.{index_within}
use Rattle.semantics.proofs.Places.{inside, below, beyond, casts_difference}
use Rattle.semantics.proofs.access.index_of.Goals as goal
use Rattle.semantics.proofs.access.index_of.Goals.{else-low-place-via-then-low-place+else-place-high, else-low-place-via-else-low-place}

pub overflow_sub-result : goal.overflow_sub-result
overflow_sub-result c = omega (arith, ints)

pub overflow_cast-result : goal.overflow_cast-result
overflow_cast-result c =
    let difference : to_z w64 (of_z w64 (to_z w64 (of_z w64 c.in_ok-place.place) -ℤ to_z w64 (of_z w64 c.args.first))) ≡ c.in_ok-place.place -ℤ c.args.first = omega (arith, ints) in
    let low : c.args.places.low ≤ℤ c.in_ok-place.place = omega (arith, ints) in
    let high : (c.in_ok-place.place +ℤ pos c.args.n) ≤ℤ c.args.places.high = omega (arith, ints) in
    subst (λ (z : ℤ). T (non_neg z) × Fits w64 (unsigned_abs z)) (sym difference) (casts_difference _ _ _ _ _ c.requires.first c.requires.low c.requires.high low high)

pub returns-then-place-high : goal.returns-then-place-high
returns-then-place-high c =
    let place_is : c.in_ok-place.place ≡ c.args.base +ℤ c.args.displacement = search (rules, ints) in
    let difference : to_z w64 (of_z w64 (to_z w64 (of_z w64 c.in_ok-place.place) -ℤ to_z w64 (of_z w64 c.args.first))) ≡ c.in_ok-place.place -ℤ c.args.first = omega (arith, ints) in
    let low : c.args.places.low ≤ℤ c.in_ok-place.place = omega (arith, ints) in
    let high : (c.in_ok-place.place +ℤ pos c.args.n) ≤ℤ c.args.places.high = omega (arith, ints) in
    ap (λ (z : ℤ). Some (unsigned_abs z)) difference ∙ sym (inside _ _ _ _ _ low high) ∙ ap (λ (p : ℤ). index_within p c.args.n c.args.first c.args.places.low c.args.places.high) place_is

pub returns-else-low-place : goal.returns-else-low-place
returns-else-low-place c =
    let place_is : c.in_ok-place.place ≡ c.args.base +ℤ c.args.displacement = search (rules, ints) in
    elim c.else-low-place.branch [
      | else-low-place-via-then-low-place+else-place-high w ↦
          let high : c.args.places.high <ℤ ((c.args.base +ℤ c.args.displacement) +ℤ pos c.args.n) = omega (arith, ints) in
          sym (beyond _ c.args.first c.args.places.low _ _ high)
      | else-low-place-via-else-low-place w ↦
          let low : (c.args.base +ℤ c.args.displacement) <ℤ c.args.places.low = omega (arith, ints) in
          sym (below _ c.args.first _ c.args.places.high c.args.n low)
    ]
