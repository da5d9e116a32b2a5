use Rattle.ordering.proofs.Running.{runs_kept}
use Rattle.ordering.proofs.laws.law_runs_are_kept.Goals as goal

pub returns : goal.returns
returns c = runs_kept
