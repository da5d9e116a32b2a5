use Rattle.std.proofs.Common.{rules}
use Rattle.absstate.proofs.branching.with_operands.Goals as goal

pub returns-in-Imm : goal.returns-in-Imm
returns-in-Imm g c = search rules

pub returns-in-Reg : goal.returns-in-Reg
returns-in-Reg g c = search rules

pub returns-in-Reg-2 : goal.returns-in-Reg-2
returns-in-Reg-2 c = search rules
