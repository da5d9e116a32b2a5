use Rattle.std.proofs.Common.{◌≡◌, ◌+◌, ◌<◌, ℤ, length, map, sym, ap, ◌∙◌, subst, to_z, of_z, w64, arith}
use Rattle.std.specs.Prelude.{slice_set}
use Rattle.std.proofs.lemmas.Int.{to_z-of_z}
use Rattle.absstate.specs.AbstractStates.{raised_value}
use Rattle.absstate.specs.declared.abstract_state.AbstractValue.{AbstractValue}
use Rattle.absstate.proofs.Raising.{map_from, one_more, none_left}
use Rattle.absstate.proofs.abstract_state.raise.Goals as goal

pub loop-i-preserved : goal.loop-i-preserved
loop-i-preserved g c =
    let f = raised_value {D = g.row.D.Denot} c.args.id (to_z w64 (of_z w64 c.args.least)) in
    let lt : c.loop-i.i < length c.loop-i.values = omega (arith, c.loop-i-test.true, c.loop-i.auto.values, c.loop-i.auto.i-end) in
    ap (λ (v : AbstractValue g.row.D.Denot). map_from f (c.loop-i.i + 1) (slice_set c.loop-i.values c.loop-i.i v)) (c.raised.ensures ∙ ap f c.index-values-i.is) ∙ one_more f c.index-values-i.result c.loop-i.i c.loop-i.values lt ∙ c.loop-i.invariant

pub returns : goal.returns
returns g c =
    let same : to_z w64 (of_z w64 c.args.least) ≡ c.args.least = to_z-of_z w64 c.args.least c.ranges.least in
    let f = raised_value {D = g.row.D.Denot} c.args.id c.args.least in
    let kept : map_from f c.loop-i.i c.loop-i.values ≡ map f c.args.values.now = subst (λ (n : ℤ). map_from (raised_value {D = g.row.D.Denot} c.args.id n) c.loop-i.i c.loop-i.values ≡ map (raised_value c.args.id n) c.args.values.now) same c.loop-i.invariant in
    sym (none_left f c.loop-i.i c.loop-i.values (omega (arith, c.loop-i-test.false, c.loop-i.auto.values, c.loop-i.auto.i-end))) ∙ kept
