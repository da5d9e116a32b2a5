use Rattle.std.proofs.Common.{rules}
use Rattle.verifier.proofs.layout.distance.Goals as goal

pub returns-in-JumpIf : goal.returns-in-JumpIf
returns-in-JumpIf c = search rules
