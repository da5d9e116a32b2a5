use Rattle.std.proofs.Common.{rules}
use Rattle.semantics.proofs.effect.compared.Goals as goal

pub returns-in-W64-Data-End : goal.returns-in-W64-Data-End
returns-in-W64-Data-End c = search rules

pub returns-in-W64-End-Data : goal.returns-in-W64-End-Data
returns-in-W64-End-Data c = search rules
