use Rattle.std.proofs.Common.{rules}
use Rattle.tables.proofs.channels.Channels.may_bind.Goals as goal

pub returns-then-is_own : goal.returns-then-is_own
returns-then-is_own c = search rules
