use Rattle.std.proofs.Common.{rules}
use Rattle.asm.proofs.mnemonic.memory.Goals as goal

pub returns-in-ldxh : goal.returns-in-ldxh
returns-in-ldxh c = search rules
