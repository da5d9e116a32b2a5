use Rattle.std.proofs.Common.{rules}
use Rattle.machine.proofs.frame.Frame.started.Goals as goal

pub returns : goal.returns
returns c = search rules
