use Rattle.std.proofs.Common.{rules}
use Rattle.insn.proofs.size.Size.code.Goals as goal

pub returns-in-Double : goal.returns-in-Double
returns-in-Double c = search rules
