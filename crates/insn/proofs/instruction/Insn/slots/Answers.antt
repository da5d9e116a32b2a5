use Rattle.std.proofs.Common.{rules}
use Rattle.insn.proofs.instruction.Insn.slots.Goals as goal

pub returns-in-LoadImm : goal.returns-in-LoadImm
returns-in-LoadImm c = search rules
