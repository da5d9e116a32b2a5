use Rattle.std.proofs.Common.{rules}
use Rattle.semantics.proofs.loading.load_signed.Goals as goal

pub returns : goal.returns
returns c = search rules
