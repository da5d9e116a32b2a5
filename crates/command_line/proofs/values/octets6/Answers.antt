use Rattle.std.proofs.Common.{refl}
use Rattle.command_line.proofs.Octets.{no_octets}
use Rattle.command_line.proofs.values.octets6.Goals as goal

pub returns-in-Err-clause-refused : goal.returns-in-Err-clause-refused
returns-in-Err-clause-refused c = rw c.in-Some.is (no_octets c.in-Some.text.now c.in-Err.field-0 c.in-Err.ensures, (refl, refl))
