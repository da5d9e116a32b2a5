use Rattle.std.proofs.Common.{rules}
use Rattle.insn.proofs.word.reversed.Goals as goal

pub returns-in-Half : goal.returns-in-Half
returns-in-Half c = search rules
