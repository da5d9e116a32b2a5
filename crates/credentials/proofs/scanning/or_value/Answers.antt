use Rattle.std.proofs.Common.{rules}
use Rattle.credentials.proofs.scanning.or_value.Goals as goal

pub returns-then-attr-kind : goal.returns-then-attr-kind
returns-then-attr-kind c = search rules
