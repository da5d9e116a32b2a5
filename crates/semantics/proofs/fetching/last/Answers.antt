use Rattle.std.proofs.Common.{rules}
use Rattle.semantics.proofs.fetching.last.Goals as goal

pub loop-at-preserved : goal.loop-at-preserved
loop-at-preserved c = search rules
