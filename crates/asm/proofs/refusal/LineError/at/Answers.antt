use Rattle.std.proofs.Common.{rules}
use Rattle.asm.proofs.refusal.LineError.at.Goals as goal

pub returns-in-Syntax : goal.returns-in-Syntax
returns-in-Syntax c = search rules
