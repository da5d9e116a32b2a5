use Rattle.std.proofs.Common.{ℕ, ◌+◌, ◌<◌, List, rules, arith, sym, subst, ◌∙◌, length-take-le}
use Rattle.std.specs.Prelude.{slice_set}
use Rattle.absstate.proofs.Linking.{AreLinked, none_met, fits, within, passed, met_first, found, apart, met_again, alike_from}
use Rattle.absstate.proofs.covering.first_unlinked.Goals as goal
use Rattle.absstate.proofs.covering.first_unlinked.Goals.{in-None, in-Some+else-not-shared}

pub loop-i-init : goal.loop-i-init
loop-i-init g c = none_met _ _ _ c.requires.few

pub loop-i-preserved-then-not-is_place : goal.loop-i-preserved-then-not-is_place
loop-i-preserved-then-not-is_place g c = passed _ _ _ _ _ c.loop-i.invariant c.loop-i-test.true _ c.index-values-i.is (sym c.is_place.ensures ∙ c.if-not-is_place.true)

pub slice_bounds-firsts-end : goal.slice_bounds-firsts-end
slice_bounds-firsts-end g c = omega (arith, fits _ _ _ _ _ c.loop-i.invariant c.loop-i-test.true)

pub slice_bounds-met_at-end : goal.slice_bounds-met_at-end
slice_bounds-met_at-end g c = sym (length-take-le c.loop-i.met c.loop-i.firsts (omega (arith, fits _ _ _ _ _ c.loop-i.invariant c.loop-i-test.true)))

pub met_at-requires : goal.met_at-requires
met_at-requires g c = within _ _ _ _ _ c.loop-i.invariant c.loop-i-test.true

pub bounds-firsts-met : goal.bounds-firsts-met
bounds-firsts-met g c = omega (arith, c.loop-i.invariant.few, c.loop-i-test.true, c.requires.few)

pub offset_bounds-firsts-met : goal.offset_bounds-firsts-met
offset_bounds-firsts-met g c = let few : c.loop-i.met < 75 = bounds-firsts-met g c in search rules

pub overflow_add-met : goal.overflow_add-met
overflow_add-met g c = let few : c.loop-i.met < 75 = bounds-firsts-met g c in search rules

pub returns-clause-none : goal.returns-clause-none
returns-clause-none g c =
    alike_from c.args.values.now c.args.others.now (λ h i less lt. c.loop-i.invariant.linked i (omega (arith, lt, c.requires.paired, c.loop-i-test.false)) h less)

pub returns-then-not-shared-clause-found : goal.returns-then-not-shared-clause-found
returns-then-not-shared-clause-found g c =
    found _ _ _ _ _ c.loop-i.invariant c.loop-i-test.true _ c.index-values-i.is c.in-Some.k c.in-Some.ensures.found.0 c.in-Some.ensures.found.1

pub returns-then-not-shared-clause-some : goal.returns-then-not-shared-clause-some
returns-then-not-shared-clause-some g c =
    apart _ _ _ _ _ c.loop-i.invariant c.loop-i-test.true _ c.index-values-i.is c.in-Some.k c.in-Some.ensures.found.0 c.in-Some.ensures.found.1
    c.requires.paired _ _ c.index-others-first.is c.index-others-i.is (sym c.shared.ensures ∙ c.if-not-shared.true)

pub loop-i-preserved : goal.loop-i-preserved
loop-i-preserved g c = elim c.match-met_at.branch [
  | in-None w ↦
      subst (λ (firsts : List ℕ). AreLinked c.args.values.now c.args.others.now firsts c.match-met_at.met (c.loop-i.i + 1)) (sym w.firsts-is)
      (subst (λ (met : ℕ). AreLinked c.args.values.now c.args.others.now (slice_set c.loop-i.firsts c.loop-i.met c.loop-i.i) met (c.loop-i.i + 1)) (sym w.met-is)
      (met_first _ _ _ _ _ c.loop-i.invariant c.loop-i-test.true _ c.index-values-i.is w.in-None.ensures.none))
  | in-Some+else-not-shared w ↦
      subst (λ (firsts : List ℕ). AreLinked c.args.values.now c.args.others.now firsts c.match-met_at.met (c.loop-i.i + 1)) (sym w.firsts-is)
      (subst (λ (met : ℕ). AreLinked c.args.values.now c.args.others.now c.loop-i.firsts met (c.loop-i.i + 1)) (sym w.met-is)
      (met_again _ _ _ _ _ c.loop-i.invariant c.loop-i-test.true _ c.index-values-i.is w.in-Some.k w.in-Some.ensures.found.0 w.in-Some.ensures.found.1
      c.requires.paired _ _ w.index-others-first.is w.index-others-i.is (sym w.shared.ensures ∙ w.if-not-shared.false)))
]
