use Rattle.std.proofs.Common.{◌≡◌, List, inr, ⊎_elim, sym, subst}
use Rattle.insn.specs.Encoding.{Encodes}
use Rattle.insn.specs.declared.instruction.Insn.{Insn}
use Rattle.insn.specs.declared.refusal.DecodeError.TheVariants.{Memory}
use Rattle.explaining.specs.Lines.{ExplainsCode, ExplainsFile}
use Rattle.explaining.specs.declared.file.Explained.{Explained}
use Rattle.explaining.specs.declared.file.Explained.TheVariants.{Refused}
use Rattle.explaining.proofs.Lines.{if_value, code_lines}
use Rattle.explaining.proofs.Statuses.{of_code, of_fault}
use Rattle.explaining.proofs.file.print_explanation.Goals as goal

pub returns-in-Ok-clause-found : goal.returns-in-Ok-clause-found
returns-in-Ok-clause-found g c =
    of_code c.deref.result.now c.args.file.now (subst (λ (code : List Insn). Encodes code c.args.file.now) (sym c.deref.ensures.value) c.in-Ok.ensures.found) c.explain.result c.explain.ensures.found

pub returns-in-Ok-clause-lines : goal.returns-in-Ok-clause-lines
returns-in-Ok-clause-lines g c =
    if_value (ExplainsCode c.deref.result.now (g.W.Write.contents c.args.out.now) (g.W.Write.contents c.explain.new.out))
    (ExplainsFile c.args.file.now (g.W.Write.contents c.args.out.now) (g.W.Write.contents c.explain.new.out)) c.explain.result c.explain.ensures.lines
    (code_lines c.deref.result.now c.args.file.now (g.W.Write.contents c.args.out.now) (g.W.Write.contents c.explain.new.out) (subst (λ (code : List Insn). Encodes code c.args.file.now) (sym c.deref.ensures.value) c.in-Ok.ensures.found))

pub returns-in-Err-clause-found : goal.returns-in-Err-clause-found
returns-in-Err-clause-found g c = of_fault c.args.file.now c.in-Err.refusal c.in-Err.ensures.refused c.explain_fault.result c.explain_fault.ensures

pub returns-in-Err-clause-lines : goal.returns-in-Err-clause-lines
returns-in-Err-clause-lines g c =
    if_value (λ (found : Explained). (found ≡ Refused) × (c.in-Err.refusal ≡ Memory → ⊥))
    (ExplainsFile c.args.file.now (g.W.Write.contents c.args.out.now) (g.W.Write.contents c.explain_fault.new.out)) c.explain_fault.result c.explain_fault.ensures
    (λ found other. subst (ExplainsFile c.args.file.now (g.W.Write.contents c.args.out.now) (g.W.Write.contents c.explain_fault.new.out)) (sym other.0) (⊎_elim (λ memory. absurd (other.1 memory)) (λ fault. inr (c.in-Err.refusal, fault)) c.in-Err.ensures.refused))
