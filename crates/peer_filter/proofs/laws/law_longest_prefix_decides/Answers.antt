use Rattle.peer_filter.proofs.Deciding.{found, only}
use Rattle.peer_filter.proofs.laws.law_longest_prefix_decides.Goals as goal

pub returns-clause-found : goal.returns-clause-found
returns-clause-found c = found

pub returns-clause-only : goal.returns-clause-only
returns-clause-only c = only
