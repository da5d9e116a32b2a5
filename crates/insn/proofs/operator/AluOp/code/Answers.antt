use Rattle.std.proofs.Common.{rules}
use Rattle.insn.proofs.operator.AluOp.code.Goals as goal

pub returns-in-Sub : goal.returns-in-Sub
returns-in-Sub c = search rules
