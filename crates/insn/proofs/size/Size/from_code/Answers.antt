use Rattle.std.proofs.Common.{rules}
use Rattle.insn.proofs.size.Size.from_code.Goals as goal

pub returns-in-3-clause-found : goal.returns-in-3-clause-found
returns-in-3-clause-found c = search rules
