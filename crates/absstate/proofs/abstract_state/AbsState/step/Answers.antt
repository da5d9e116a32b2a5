use Rattle.std.proofs.Common.{◌≡◌, Ok, rules}
use Rattle.absstate.specs.AbstractSteps.{abstract_step}
use Rattle.absstate.specs.laws.Step.Following.{followed}
use Rattle.absstate.proofs.Generality.{narrows_both}
use Rattle.absstate.proofs.abstract_state.AbsState.step.Goals as goal

pub returns-clause-members : goal.returns-clause-members
returns-clause-members g c =
    let is : Ok c.after.result ≡ abstract_step g.D.Domain.ops c.args.self.now c.args.insn.now = search rules in
    followed g.D.Domain.ops g.D.Domain.Member g.met.D.Domain.laws c.args.self.now c.args.insn.now c.transition_of.ensures.fits (Ok c.after.result) is

pub returns-clause-narrows : goal.returns-clause-narrows
returns-clause-narrows g c = narrows_both c.args.self.now

pub returns-in_err-transition-clause-narrows : goal.returns-in_err-transition-clause-narrows
returns-in_err-transition-clause-narrows g c = narrows_both c.args.self.now
