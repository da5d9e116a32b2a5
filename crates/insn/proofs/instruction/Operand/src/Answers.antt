use Rattle.std.proofs.Common.{rules}
use Rattle.insn.proofs.instruction.Operand.src.Goals as goal

pub returns-in-Reg : goal.returns-in-Reg
returns-in-Reg c = search rules
