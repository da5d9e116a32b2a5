use Rattle.std.proofs.Common.{rules}
use Rattle.machine.proofs.sink.Kept.visits.Goals as goal

pub returns : goal.returns
returns c = search rules
