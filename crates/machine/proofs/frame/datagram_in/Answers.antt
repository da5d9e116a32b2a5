use Rattle.std.proofs.Common.{rules}
use Rattle.machine.proofs.frame.datagram_in.Goals as goal

pub returns-clause-bytes : goal.returns-clause-bytes
returns-clause-bytes c = search rules
