use Rattle.std.proofs.Common.{rules}
use Rattle.semantics.proofs.helper.destination_at.Goals as goal

pub returns-then-is_valid : goal.returns-then-is_valid
returns-then-is_valid c = search rules
