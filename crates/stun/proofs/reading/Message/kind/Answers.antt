use Rattle.std.proofs.Common.{rules}
use Rattle.stun.proofs.reading.Message.kind.Goals as goal

pub returns : goal.returns
returns c = search rules
