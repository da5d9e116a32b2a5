use Rattle.std.proofs.lemmas.Grind.{common_steps}
use Rattle.std.proofs.Common.{arith, rules}
use Rattle.semantics.proofs.access.locate.Goals as goal

pub in_bytes-requires-clause-low : goal.in_bytes-requires-clause-low
in_bytes-requires-clause-low c = omega arith

pub returns-in-Data-clause-location : goal.returns-in-Data-clause-location
returns-in-Data-clause-location c = grind (arith, common_steps)

pub returns-in-End-clause-location : goal.returns-in-End-clause-location
returns-in-End-clause-location c = search rules
