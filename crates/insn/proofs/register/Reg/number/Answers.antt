use Rattle.std.proofs.Common.{rules}
use Rattle.insn.proofs.register.Reg.number.Goals as goal

pub returns-in-R9 : goal.returns-in-R9
returns-in-R9 c = search rules
