use Rattle.std.proofs.Common.{rules}
use Rattle.verifier.proofs.walk.Verified.code.Goals as goal

pub returns-clause-code : goal.returns-clause-code
returns-clause-code c = search rules
