use Rattle.std.proofs.Common.{rules}
use Rattle.absstate.proofs.storing.set_bytes.Goals as goal

pub returns-in-InStack : goal.returns-in-InStack
returns-in-InStack c = search rules
