use Rattle.std.proofs.Common.{rules}
use Rattle.control.proofs.channel_bind.channel_bind.Goals as goal

pub bind-requires : goal.bind-requires
bind-requires c = search rules

pub returns-in-Ok-clause-gives : goal.returns-in-Ok-clause-gives
returns-in-Ok-clause-gives c = search rules
