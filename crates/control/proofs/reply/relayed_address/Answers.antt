use Rattle.std.proofs.Common.{rules}
use Rattle.control.proofs.reply.relayed_address.Goals as goal

pub returns-in-Ipv4 : goal.returns-in-Ipv4
returns-in-Ipv4 c = search rules

pub returns-in-Ipv6 : goal.returns-in-Ipv6
returns-in-Ipv6 c = search rules
