use Rattle.explaining.proofs.Costs.{cost_is}
use Rattle.explaining.proofs.cost.cost_of.Goals as goal

pub returns : goal.returns
returns c = cost_is c.args.program.now c.requires.laid_out c.in_ok-steps.steps c.in_ok-steps.ensures
