use Rattle.std.proofs.Common.{rules}
use Rattle.semantics.proofs.helper.Helper.from_number.Goals as goal

pub returns-in-5 : goal.returns-in-5
returns-in-5 c = search rules
