use Rattle.std.proofs.Common.{rules}
use Rattle.insn.proofs.condition.Condition.code.Goals as goal

pub returns-in-Le : goal.returns-in-Le
returns-in-Le c = search rules
