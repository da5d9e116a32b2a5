use Rattle.std.proofs.Common.{rules}
use Rattle.asm.proofs.program.next_line.Goals as goal

pub returns-clause-refused : goal.returns-clause-refused
returns-clause-refused c = search rules
