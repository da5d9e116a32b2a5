use Rattle.std.proofs.Common.{rules}
use Rattle.semantics.proofs.access.is_within.Goals as goal

pub returns-else-low-place : goal.returns-else-low-place
returns-else-low-place c = search rules
