use Rattle.std.proofs.lemmas.Grind.{common_steps}
use Rattle.std.proofs.Common.{arith, rules}
use Rattle.stun.proofs.channel.read_channel.Goals as goal

pub returns-then-number-lt-FIRST_CHANNEL_DATA-clause-only : goal.returns-then-number-lt-FIRST_CHANNEL_DATA-clause-only
returns-then-number-lt-FIRST_CHANNEL_DATA-clause-only c = grind (arith, common_steps)

pub returns-clause-found : goal.returns-clause-found
returns-clause-found c = search rules
