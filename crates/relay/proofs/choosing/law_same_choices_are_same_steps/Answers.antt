use Rattle.relay.proofs.ChosenRuns.{same_step}
use Rattle.relay.proofs.choosing.law_same_choices_are_same_steps.Goals as goal

pub returns : goal.returns
returns c = λ r given n program. same_step r given n program
