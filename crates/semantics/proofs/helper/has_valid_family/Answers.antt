use Rattle.std.proofs.Common.{rules}
use Rattle.semantics.proofs.helper.has_valid_family.Goals as goal

pub returns-then-address-eq1 : goal.returns-then-address-eq1
returns-then-address-eq1 c = search rules
