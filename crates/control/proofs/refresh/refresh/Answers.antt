use Rattle.std.proofs.Common.{rules}
use Rattle.control.proofs.refresh.refresh.Goals as goal

pub returns-then-is_some_and-clause-gives : goal.returns-then-is_some_and-clause-gives
returns-then-is_some_and-clause-gives c = search rules

pub returns-in_err-lifetime_of-clause-gives : goal.returns-in_err-lifetime_of-clause-gives
returns-in_err-lifetime_of-clause-gives c = search rules
