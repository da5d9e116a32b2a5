use Rattle.std.proofs.Common.{sym, ◌∙◌}
use Rattle.absstate.specs.laws.Step.Covering.{member_covered}
use Rattle.absstate.proofs.Generality.{covers_wider}
use Rattle.absstate.proofs.abstract_state.AbsState.covers.Goals as goal

pub returns-clause-members : goal.returns-clause-members
returns-clause-members g c =
    λ e s member.
    member_covered g.D.Domain.ops g.D.Domain.Member g.met.D.Domain.laws c.args.self.now c.args.other.now s c.values_of-values.ensures.count c.cells-marks.ensures.count (sym c.covers_state.ensures ∙ e) member

pub returns-clause-wider : goal.returns-clause-wider
returns-clause-wider g c = covers_wider g.D.Domain.ops c.args.self.now c.args.other.now
