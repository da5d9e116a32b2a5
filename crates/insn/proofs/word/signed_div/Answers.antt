use Rattle.std.proofs.Common.{rules}
use Rattle.insn.proofs.word.signed_div.Goals as goal

pub returns-else-b-eq0 : goal.returns-else-b-eq0
returns-else-b-eq0 c = search rules
