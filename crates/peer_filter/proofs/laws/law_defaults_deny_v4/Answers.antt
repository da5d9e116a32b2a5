use Rattle.peer_filter.proofs.DefaultRules.{defaults_v4}
use Rattle.peer_filter.proofs.laws.law_defaults_deny_v4.Goals as goal

pub returns : goal.returns
returns c = defaults_v4
