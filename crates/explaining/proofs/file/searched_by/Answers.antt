use Rattle.std.proofs.Common.{◌≡◌, ℕ, subst}
use Rattle.interval.specs.Intervals.{interval_ops, LiesBetween}
use Rattle.loader.specs.declared.loaded.TheConstants.{BUDGET}
use Rattle.verifier.specs.Refusing.{CountsSteps}
use Rattle.verifier.specs.Walks.{EndsWalk}
use Rattle.explaining.specs.declared.searching.Explanation.{Explanation}
use Rattle.explaining.specs.Lines.{HasWalked}
use Rattle.explaining.proofs.Lines.{if_both}
use Rattle.explaining.proofs.file.searched_by.Goals as goal

pub returns-clause-walked : goal.returns-clause-walked
returns-clause-walked g c =
    let start : c.new-steps.result ≡ 0 = c.new-steps.ensures in
    if_both (λ (x : Explanation). EndsWalk interval_ops LiesBetween c.args.code.now c.new-steps.result c.search.new.steps x.verdict) (λ (x : Explanation). CountsSteps BUDGET c.new-steps.result c.search.new.steps x.verdict)
    (λ (x : Explanation). HasWalked c.args.code.now x.verdict) c.search.result c.search.ensures.walked c.search.ensures.counts
    (λ x walked counts. (
      c.search.new.steps,
      (subst (λ (n : ℕ). EndsWalk interval_ops LiesBetween c.args.code.now n c.search.new.steps x.verdict) start walked, subst (λ (n : ℕ). CountsSteps BUDGET n c.search.new.steps x.verdict) start counts),
    ))
