use Rattle.std.proofs.Common.{rules}
use Rattle.stun.proofs.registry.Method.number.Goals as goal

pub returns-in-ChannelBind-clause-number : goal.returns-in-ChannelBind-clause-number
returns-in-ChannelBind-clause-number c = search rules
