use Rattle.std.proofs.Common.{rules}
use Rattle.insn.proofs.opcode.Opcode.from_byte.Goals as goal

pub returns-in-1-clause-only : goal.returns-in-1-clause-only
returns-in-1-clause-only c = search rules
