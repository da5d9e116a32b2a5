use Rattle.std.proofs.Common.{arith}
use Rattle.std.proofs.lemmas.Grind.{common_steps}
use Rattle.disasm.proofs.disassemble.Goals as goal

pub loop-insn-preserved : goal.loop-insn-preserved
loop-insn-preserved c = grind (arith, common_steps)
