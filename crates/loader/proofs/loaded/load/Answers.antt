use Rattle.std.proofs.Common.{◌≡◌, List, Result, Ok, Err, inl, sym, ap, ◌∙◌, subst}
use Rattle.std.proofs.lemmas.Result.{err_from_is_err_and}
use Rattle.insn.specs.Encoding.{Encodes}
use Rattle.insn.specs.declared.instruction.Insn.{Insn}
use Rattle.semantics.specs.Runs.{IsSafe}
use Rattle.verifier.specs.Layout.{IsLayoutFault}
use Rattle.verifier.specs.declared.refusal.Refusal.{Refusal}
use Rattle.loader.specs.declared.refusal.LoadError.TheVariants.{Verify}
use Rattle.loader.proofs.loaded.load.Goals as goal

same_refusal : {V : Type 0} (r : Result V Refusal) (e f : Refusal) → r ≡ Err e → r ≡ Err f → e ≡ f
same_refusal r e f p q = cc

no_refusal : {V : Type 0} (r : Result V Refusal) (v : V) (e : Refusal) → r ≡ Ok v → r ≡ Err e → ⊥
no_refusal r v e p q = let bad = sym p ∙ q in absurd cc

pub returns-in_err-program-clause-layout : goal.returns-in_err-program-clause-layout
returns-in_err-program-clause-layout c code reason slot encodes fault =
    let p = err_from_is_err_and c.from_residual-in_err-program.result c.from_residual-in_err-program.ensures.1 in
    let is : c.deref.result.now ≡ code = c.deref.ensures.value ∙ c.in_ok-code.ensures.only code encodes in
    let refused = c.verified.ensures.verdict.layout reason slot (subst (λ (k : List Insn). IsLayoutFault k reason slot) (sym is) fault) in
    rw (p.1, p.2) (inl (ap Verify (same_refusal c.verified.result _ _ c.in_err-program.was refused)))

pub returns-clause-layout : goal.returns-clause-layout
returns-clause-layout c code reason slot encodes fault =
    let is : c.deref.result.now ≡ code = c.deref.ensures.value ∙ c.in_ok-code.ensures.only code encodes in
    let refused = c.verified.ensures.verdict.layout reason slot (subst (λ (k : List Insn). IsLayoutFault k reason slot) (sym is) fault) in
    no_refusal c.verified.result _ _ c.in_ok-program.was refused

pub returns-clause-loaded : goal.returns-clause-loaded
returns-clause-loaded c =
    let is : c.in_ok-program.program ≡ c.deref.result.now = c.in_ok-program.ensures.code in record {
      encoded = subst (λ (k : List Insn). Encodes k c.args.bytes.now) (sym (is ∙ c.deref.ensures.value)) c.in_ok-code.ensures.found;
      safe = subst IsSafe (sym is) c.in_ok-program.ensures.verdict.safe;
    }
