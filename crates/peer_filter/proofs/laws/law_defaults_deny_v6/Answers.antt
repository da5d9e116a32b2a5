use Rattle.peer_filter.proofs.DefaultRules.{defaults_v6}
use Rattle.peer_filter.proofs.laws.law_defaults_deny_v6.Goals as goal

pub returns : goal.returns
returns c = defaults_v6
