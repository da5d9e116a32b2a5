use Rattle.std.proofs.Common.{rules}
use Rattle.tables.proofs.address.is_same.Goals as goal

pub returns-then-is_same_ip : goal.returns-then-is_same_ip
returns-then-is_same_ip c = search rules
