use Rattle.std.proofs.Common.{rules}
use Rattle.semantics.proofs.record.ipv4_record.Goals as goal

pub returns : goal.returns
returns c = search rules
