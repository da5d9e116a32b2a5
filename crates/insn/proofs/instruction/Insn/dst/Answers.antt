use Rattle.std.proofs.Common.{rules}
use Rattle.insn.proofs.instruction.Insn.dst.Goals as goal

pub returns-in-Store-clause-value : goal.returns-in-Store-clause-value
returns-in-Store-clause-value c = search rules
