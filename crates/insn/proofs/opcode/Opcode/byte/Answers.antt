use Rattle.std.proofs.Common.{rules}
use Rattle.insn.proofs.opcode.Opcode.byte.Goals as goal

pub returns-in-Store : goal.returns-in-Store
returns-in-Store c = search rules
