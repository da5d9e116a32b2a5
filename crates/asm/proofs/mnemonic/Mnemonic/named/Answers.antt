use Rattle.std.proofs.Common.{rules}
use Rattle.asm.proofs.mnemonic.Mnemonic.named.Goals as goal

pub returns-in-Some-strip_suffix : goal.returns-in-Some-strip_suffix
returns-in-Some-strip_suffix c = search rules
