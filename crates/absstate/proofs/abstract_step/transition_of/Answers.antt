use Rattle.std.proofs.Common.{sym, subst, rules}
use Rattle.std.specs.Prelude.{FitsSigned}
use Rattle.std.specs.Int.{w16}
use Rattle.insn.specs.Encoding.{OperandFits, Fits}
use Rattle.absstate.proofs.abstract_step.transition_of.Goals as goal

pub returns-in-JumpIf-clause-fits : goal.returns-in-JumpIf-clause-fits
returns-in-JumpIf-clause-fits g c =
    let operand : OperandFits c.in-JumpIf.operand = search rules in
    let offset : FitsSigned w16 c.in-JumpIf.offset = search rules in
    subst Fits (sym c.in-JumpIf.is) (operand, offset)

pub returns-in-Jump-clause-step : goal.returns-in-Jump-clause-step
returns-in-Jump-clause-step c = search rules
