use Rattle.std.proofs.Common.{rules}
use Rattle.machine.proofs.frame.Frame.window.Goals as goal

pub returns-in-Some : goal.returns-in-Some
returns-in-Some c = search rules
