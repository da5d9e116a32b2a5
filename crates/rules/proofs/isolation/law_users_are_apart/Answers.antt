use Rattle.rules.specs.laws.Isolation.{rules_keep_users_apart}
use Rattle.rules.proofs.isolation.law_users_are_apart.Goals as goal

pub returns : goal.returns
returns c = λ config now tx from bytes. rules_keep_users_apart config now tx from bytes
