use Rattle.std.proofs.Common.{ap, ◌∙◌, List}
use Rattle.std.specs.Prelude.{slice_index_or, None, Option}
use Rattle.absstate.specs.declared.abstract_state.AbsState.{AbsState}
use Rattle.verifier.proofs.Keeping.{marks_one, keeps_none}
use Rattle.verifier.proofs.kept.KeptStates.mark.Goals as goal

pub returns-clause-marks : goal.returns-clause-marks
returns-clause-marks g c =
    marks_one c.args.self.now c.lengthen.new.by_slot.items c.in-Some.slot c.in_ok-lengthen.ensures.reached
    (λ n. c.in_ok-lengthen.ensures.same n ∙ ap (λ (rows : List (Option (List (AbsState g.row.D.Denot)))). slice_index_or rows n None) c.self.view_is) c.args.target c.new.result c.in-Some.is

pub returns-clause-none : goal.returns-clause-none
returns-clause-none g c =
    keeps_none c.args.self.now c.lengthen.new.by_slot.items c.in-Some.slot c.in_ok-lengthen.ensures.reached
    (λ n. c.in_ok-lengthen.ensures.same n ∙ ap (λ (rows : List (Option (List (AbsState g.row.D.Denot)))). slice_index_or rows n None) c.self.view_is) c.new.result c.new.ensures
