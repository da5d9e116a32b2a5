use Rattle.std.proofs.Common.{rules}
use Rattle.insn.proofs.opcode.Opcode.load_of.Goals as goal

pub returns-in-3-clause-only : goal.returns-in-3-clause-only
returns-in-3-clause-only c = search rules
