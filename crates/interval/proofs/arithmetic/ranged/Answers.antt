use Rattle.std.proofs.Common.{rules}
use Rattle.interval.proofs.arithmetic.ranged.Goals as goal

pub returns-in-Or : goal.returns-in-Or
returns-in-Or c = search rules

pub returns-in-And : goal.returns-in-And
returns-in-And c = search rules

pub returns-in-Arsh : goal.returns-in-Arsh
returns-in-Arsh c = search rules
