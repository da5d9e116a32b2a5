use Rattle.std.proofs.Common.{◌≡◌, IfErr, sym, subst, rules}
use Rattle.loader.specs.Loads.{IsMemoryRefusal}
use Rattle.loader.specs.declared.refusal.LoadError.TheVariants.{Verify}
use Rattle.explaining.specs.Lines.{IsRefusalOf, ExplainsRefusal}
use Rattle.explaining.specs.Paths.{ShowsRefusal}
use Rattle.explaining.proofs.Lines.{steps_as, step_as, no_text, nothing_more, after_budget, refusal_of, explained}
use Rattle.explaining.proofs.file.explain.Goals as goal
use Rattle.explaining.proofs.file.explain.Goals.{in-Budget+in_ok-print_busiest, in_default}

pub returns-clause-lines : goal.returns-clause-lines
returns-clause-lines g c =
    let shows : ShowsRefusal c.args.code.now c.in_ok-verdict.field-0.path.items c.in-Err.refusal =
    subst (λ (verdict : _). IfErr verdict (ShowsRefusal c.args.code.now c.in_ok-verdict.field-0.path.items)) c.in-Err.is c.in_ok-verdict.ensures.refused in
    let other : IsMemoryRefusal (Verify c.in-Err.refusal) → ⊥ = search rules in
    let is_refusal : IsRefusalOf c.args.code.now c.in-Err.refusal = refusal_of c.args.code.now c.in_ok-verdict.field-0.verdict c.in-Err.refusal c.in-Err.is c.in_ok-verdict.ensures.walked other in
    let same : c.deref-2.result.now ≡ c.in_ok-verdict.field-0.path.items = c.deref-2.ensures.value in
    let steps = steps_as c.in_ok-program.program c.args.code.now c.deref-2.result.now c.in_ok-verdict.field-0.path.items (g.W.Write.contents c.args.out.now) (g.W.Write.contents c.print_steps.new.out) c.in_ok-program.ensures same c.in_ok-print_steps.ensures in
    let last = step_as c.in_ok-program.program c.args.code.now _ (g.W.Write.contents c.print_steps.new.out) (g.W.Write.contents c.print_refusal.new.out) c.in_ok-program.ensures c.in_ok-print_refusal.ensures in
    elim c.match-refusal.branch [
      | in-Budget+in_ok-print_busiest w ↦
          subst (λ (out : _). ExplainsRefusal c.args.code.now (g.W.Write.contents c.args.out.now) (g.W.Write.contents out)) (sym w.out-is)
          (explained c.args.code.now c.in_ok-verdict.field-0.path.items c.in-Err.refusal (g.W.Write.contents c.args.out.now) (g.W.Write.contents c.print_steps.new.out) (g.W.Write.contents c.print_refusal.new.out) (g.W.Write.contents w.print_busiest.new.out)
          is_refusal c.in_ok-verdict.ensures.path shows steps last w.in_ok-print_busiest.ensures (after_budget c.in-Err.refusal _ _ w.in-Budget.is))
      | in_default w ↦
          subst (λ (out : _). ExplainsRefusal c.args.code.now (g.W.Write.contents c.args.out.now) (g.W.Write.contents out)) (sym w.out-is)
          (explained c.args.code.now c.in_ok-verdict.field-0.path.items c.in-Err.refusal (g.W.Write.contents c.args.out.now) (g.W.Write.contents c.print_steps.new.out) (g.W.Write.contents c.print_refusal.new.out) (g.W.Write.contents c.print_refusal.new.out)
          is_refusal c.in_ok-verdict.ensures.path shows steps last (no_text (g.W.Write.contents c.print_refusal.new.out)) (nothing_more c.in-Err.refusal (g.W.Write.contents c.print_refusal.new.out)))
    ]
