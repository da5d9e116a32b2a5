use Rattle.std.proofs.Common.{◌≡◌, ◌<◌, List, Option, None, length, subst, sym, ap, ◌∙◌}
use Rattle.std.specs.Prelude.{slice_index_or, slice_set}
use Rattle.absstate.specs.laws.Step.Packing.{same_item}
use Rattle.absstate.specs.declared.abstract_state.AbsState.{AbsState}
use Rattle.verifier.specs.Keeping.{Keeps}
use Rattle.verifier.proofs.Keeping.{kept_inside, keeps_here}
use Rattle.verifier.proofs.kept.KeptStates.keep.Goals as goal

pub returns-in_ok-push_state : goal.returns-in_ok-push_state
returns-in_ok-push_state g c =
    let slot = c.args.here.now.slot in
    let lt : c.args.here.now.slot < length c.args.self.now = kept_inside c.args.self.now slot (sym c.keeps_at.ensures ∙ c.if-keeps_at.true) in
    let inside : c.args.here.now.slot < length c.self.inside.by_slot.items = subst (λ (kept : List (Option (List (AbsState g.row.D.Denot)))). c.args.here.now.slot < length kept) (sym c.self.view_is) lt in
    let at : c.index_mut.result.now ≡ slice_index_or c.args.self.now slot None =
    c.index_mut.ensures.value ∙ same_item slot c.self.inside.by_slot.items c.index_mut.result.now None inside
    ∙ ap (λ (kept : List (Option (List (AbsState g.row.D.Denot)))). slice_index_or kept c.args.here.now.slot None) c.self.view_is in
    subst (λ (kept : List (Option (List (AbsState g.row.D.Denot)))). Keeps c.args.here.now c.args.self.now (slice_set kept c.args.here.now.slot c.push_state.new.states)) (sym c.self.view_is)
    (keeps_here c.args.here.now c.args.self.now c.index_mut.result.now c.push_state.new.states lt at c.in_ok-push_state.ensures.slots c.in_ok-push_state.ensures.states)
