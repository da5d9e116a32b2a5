use Rattle.std.proofs.Common.{rules}
use Rattle.credentials.proofs.key.Key.bytes.Goals as goal

pub returns : goal.returns
returns c = search rules
