use Rattle.std.proofs.Common.{◌≡◌, ℕ, ◌+◌, List, ◌∙◌, subst, arith}
use Rattle.std.specs.Prelude.{IfOk}
use Rattle.std.proofs.lemmas.Result.{err_from_is_err_and}
use Rattle.insn.specs.declared.instruction.Insn.{Insn}
use Rattle.verifier.specs.Refusing.{IsVerdictOver, CountsSteps}
use Rattle.verifier.specs.Walks.{EndsWalk}
use Rattle.verifier.proofs.Slicing.{start_verdict, start_walked, start_counted, counts_from, walked_from}
use Rattle.verifier.proofs.slices.verify_in_slices.Goals as goal

pub returns-in_err-walk-clause-verdict : goal.returns-in_err-walk-clause-verdict
returns-in_err-walk-clause-verdict g c =
    let p = err_from_is_err_and c.from_residual.result c.from_residual.ensures.1 in
    rw (p.1, p.2) (start_verdict g.D.Domain.ops g.D.Domain.Member c.args.code.now c.args.budget c.in_err-walk.field-0.0 c.in_err-walk.ensures.refused)

pub returns-in_err-walk-clause-counts : goal.returns-in_err-walk-clause-counts
returns-in_err-walk-clause-counts g c =
    let p = err_from_is_err_and c.from_residual.result c.from_residual.ensures.1 in
    rw (p.1, p.2) (start_counted g.D.Domain.ops g.D.Domain.Member c.args.code.now c.args.budget c.args.steps.now c.in_err-walk.field-0.0 c.in_err-walk.ensures.refused)

pub returns-in_err-walk-clause-walked : goal.returns-in_err-walk-clause-walked
returns-in_err-walk-clause-walked g c =
    let p = err_from_is_err_and c.from_residual.result c.from_residual.ensures.1 in
    rw (p.1, p.2) (start_walked g.D.Domain.ops g.D.Domain.Member c.args.code.now c.args.steps.now c.in_err-walk.field-0.0 c.in_err-walk.ensures.refused)

pub loop-next-init : goal.loop-next-init
loop-next-init g c = record { code_is = c.in_ok-walk.ensures.started.code_is; budget_is = c.in_ok-walk.ensures.started.budget_is; count = omega (arith, c.in_ok-walk.ensures.started.none_made) }

pub loop-next-smaller : goal.loop-next-smaller
loop-next-smaller g c = omega (arith, c.in-Going.ensures.less, c.requires.some)

pub loop-next-preserved : goal.loop-next-preserved
loop-next-preserved g c = record {
  code_is = c.in-Going.ensures.code_is ∙ c.loop-next.invariant.code_is;
  budget_is = c.in-Going.ensures.budget_is ∙ c.loop-next.invariant.budget_is;
  count = omega (arith, c.in-Going.ensures.count, c.loop-next.invariant.count);
}

pub returns-in-Ended-clause-code : goal.returns-in-Ended-clause-code
returns-in-Ended-clause-code g c = subst (λ (code : List Insn). IfOk c.in-Ended.result (λ v. v ≡ code)) c.loop-next.invariant.code_is c.in-Ended.ensures.code_is

pub returns-in-Ended-clause-verdict : goal.returns-in-Ended-clause-verdict
returns-in-Ended-clause-verdict g c =
    subst (λ (b : ℕ). IsVerdictOver g.D.Domain.ops g.D.Domain.Member c.args.code.now b c.in-Ended.result) c.loop-next.invariant.budget_is
    (subst (λ (code : List Insn). IsVerdictOver g.D.Domain.ops g.D.Domain.Member code c.loop-next.walk.budget c.in-Ended.result) c.loop-next.invariant.code_is c.in-Ended.ensures.verdict)

pub returns-in-Ended-clause-counts : goal.returns-in-Ended-clause-counts
returns-in-Ended-clause-counts g c =
    let all_steps : c.advance.new.steps ≡ c.args.steps.now + c.in-Ended.ensures.made = omega (arith, c.in-Ended.ensures.count, c.loop-next.invariant.count) in
    subst (λ (b : ℕ). CountsSteps b c.args.steps.now c.advance.new.steps c.in-Ended.result) c.loop-next.invariant.budget_is
    (counts_from g.D.Domain.ops g.D.Domain.Member c.loop-next.walk.budget c.args.steps.now c.advance.new.steps c.in-Ended.ensures.made c.in-Ended.result all_steps c.in-Ended.ensures.counts)

pub returns-in-Ended-clause-walked : goal.returns-in-Ended-clause-walked
returns-in-Ended-clause-walked g c =
    let all_steps : c.advance.new.steps ≡ c.args.steps.now + c.in-Ended.ensures.made = omega (arith, c.in-Ended.ensures.count, c.loop-next.invariant.count) in
    subst (λ (code : List Insn). EndsWalk g.D.Domain.ops g.D.Domain.Member code c.args.steps.now c.advance.new.steps c.in-Ended.result) c.loop-next.invariant.code_is
    (walked_from g.D.Domain.ops g.D.Domain.Member c.loop-next.walk.code c.args.steps.now c.advance.new.steps c.in-Ended.ensures.made c.in-Ended.result all_steps c.in-Ended.ensures.walked)
