use Rattle.std.proofs.Common.{rules}
use Rattle.insn.proofs.word.holds.Goals as goal

pub returns-in-Gt : goal.returns-in-Gt
returns-in-Gt c = search rules
