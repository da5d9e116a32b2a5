use Rattle.std.proofs.Common.{rules}
use Rattle.semantics.proofs.helper.Helper.number.Goals as goal

pub returns-in-ChannelTo-Wide : goal.returns-in-ChannelTo-Wide
returns-in-ChannelTo-Wide c = search rules
