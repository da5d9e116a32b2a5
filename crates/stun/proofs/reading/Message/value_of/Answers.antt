use Rattle.std.proofs.Common.{rules}
use Rattle.stun.proofs.reading.Message.value_of.Goals as goal

pub returns : goal.returns
returns c = search rules
