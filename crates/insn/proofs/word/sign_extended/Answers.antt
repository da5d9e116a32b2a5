use Rattle.std.proofs.Common.{rules}
use Rattle.insn.proofs.word.sign_extended.Goals as goal

pub returns : goal.returns
returns c = search rules
