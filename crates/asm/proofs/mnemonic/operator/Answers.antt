use Rattle.std.proofs.Common.{rules}
use Rattle.asm.proofs.mnemonic.operator.Goals as goal

pub returns-in-sdiv : goal.returns-in-sdiv
returns-in-sdiv c = search rules
