use Rattle.std.proofs.Common.{rules}
use Rattle.control.proofs.allocate.acceptable.Goals as goal

pub returns-in_err-family_of : goal.returns-in_err-family_of
returns-in_err-family_of c = search rules

pub returns-in_default : goal.returns-in_default
returns-in_default c = search rules

pub returns-in_err-lifetime_of : goal.returns-in_err-lifetime_of
returns-in_err-lifetime_of c = search rules

pub returns : goal.returns
returns c = search rules
