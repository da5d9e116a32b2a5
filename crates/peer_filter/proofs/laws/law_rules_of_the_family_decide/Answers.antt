use Rattle.peer_filter.proofs.Families.{families_apart}
use Rattle.peer_filter.proofs.laws.law_rules_of_the_family_decide.Goals as goal

pub returns : goal.returns
returns c = families_apart
