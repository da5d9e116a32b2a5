use Rattle.std.proofs.Common.{◌≡◌, List, Result, Err, inl, sym, ap, ◌∙◌, subst}
use Rattle.std.proofs.lemmas.Result.{err_from_is_err_and}
use Rattle.insn.specs.Encoding.{Encodes}
use Rattle.insn.specs.declared.instruction.Insn.{Insn}
use Rattle.interval.specs.laws.Interval.{interval_precise}
use Rattle.interval.specs.Intervals.{LiesBetween, interval_ops}
use Rattle.verifier.specs.Layout.{IsLayoutFault}
use Rattle.verifier.specs.laws.Verdict.{real_verdict}
use Rattle.verifier.specs.declared.refusal.Refusal.{Refusal}
use Rattle.loader.specs.declared.loaded.TheConstants.{BUDGET}
use Rattle.loader.specs.declared.refusal.LoadError.TheVariants.{Verify}
use Rattle.loader.proofs.loading.Loading.new.Goals as goal

same_error : {V : Type 0} (e f : Refusal) → ◌≡◌ {A = Result V Refusal} (Err e) (Err f) → e ≡ f
same_error e f is = cc

pub returns-in_err-walk-clause-refused : goal.returns-in_err-walk-clause-refused
returns-in_err-walk-clause-refused c =
    let p = err_from_is_err_and c.from_residual-in_err-walk.result c.from_residual-in_err-walk.ensures.1 in
    let encodes : Encodes c.deref.result.now c.args.bytes.now = subst (λ (k : List Insn). Encodes k c.args.bytes.now) (sym c.deref.ensures.value) c.in_ok-code.ensures.found in
    rw (p.1, p.2) (c.deref.result.now, encodes, (real_verdict interval_ops LiesBetween interval_precise c.deref.result.now BUDGET (Err c.in_err-walk.field-0.0) c.in_err-walk.ensures.verdict).refused)

pub returns-in_err-walk-clause-layout : goal.returns-in_err-walk-clause-layout
returns-in_err-walk-clause-layout c code reason slot encodes fault =
    let p = err_from_is_err_and c.from_residual-in_err-walk.result c.from_residual-in_err-walk.ensures.1 in
    let is : c.deref.result.now ≡ code = c.deref.ensures.value ∙ c.in_ok-code.ensures.only code encodes in
    let refused = c.in_err-walk.ensures.verdict.layout reason slot (subst (λ (k : List Insn). IsLayoutFault k reason slot) (sym is) fault) in
    rw (p.1, p.2) (inl (ap Verify (same_error c.in_err-walk.field-0.0 _ refused)))
