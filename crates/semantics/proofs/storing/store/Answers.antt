use Rattle.std.proofs.Common.{rules}
use Rattle.semantics.proofs.storing.store.Goals as goal

pub returns-in-InBytes : goal.returns-in-InBytes
returns-in-InBytes c = search rules
