use Rattle.std.proofs.Common.{◌≡◌, rules, sym, ap}
use Rattle.absstate.specs.AbstractStates.{abstract_at}
use Rattle.absstate.specs.AbstractSteps.{abstract_content}
use Rattle.absstate.specs.declared.abstract_state.AbstractValue.TheVariants.{Nothing}
use Rattle.absstate.proofs.abstract_step.read.Goals as goal

pub returns-in-Nothing : goal.returns-in-Nothing
returns-in-Nothing g c =
    let holds : abstract_at c.args.state.now.values c.args.reg ≡ Nothing = search rules in
    sym (ap abstract_content holds)
