use Rattle.std.proofs.Common.{rules}
use Rattle.insn.proofs.decoding.head_of.Goals as goal

pub returns-in_err-opcode-clause-refused : goal.returns-in_err-opcode-clause-refused
returns-in_err-opcode-clause-refused c = search rules
