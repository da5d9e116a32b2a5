use Rattle.std.proofs.Common.{sym, ap}
use Rattle.asm.specs.Radices.{radix_of}
use Rattle.asm.proofs.radix.Radix.value.Goals as goal

pub returns-in-Hexadecimal : goal.returns-in-Hexadecimal
returns-in-Hexadecimal c = sym (ap radix_of c.in-Hexadecimal.is)
