use Rattle.std.proofs.Common.{rules}
use Rattle.asm.proofs.number.Integer.imm.Goals as goal

pub returns : goal.returns
returns c = search rules
