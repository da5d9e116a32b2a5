use Rattle.rules.specs.laws.Permitted.{rules_permitted}
use Rattle.rules.proofs.permitting.law_rules_send_what_is_permitted.Goals as goal

pub returns : goal.returns
returns c = λ config now tx from rows bytes. rules_permitted config now tx from rows bytes
