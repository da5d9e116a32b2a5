use Rattle.std.proofs.Common.{rules}
use Rattle.semantics.proofs.helper.window_within.Goals as goal

pub returns-then-length : goal.returns-then-length
returns-then-length c = search rules
