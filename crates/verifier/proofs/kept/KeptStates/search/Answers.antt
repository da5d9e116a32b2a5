use Rattle.std.proofs.Common.{◌≡◌, ℕ, ◌<◌, ◌≤◌, List, Option, None, length, sym, ap, ◌∙◌, subst, arith, rules}
use Rattle.std.specs.Prelude.{slice_set, slice_index_or}
use Rattle.std.specs.List.{list_any}
use Rattle.std.proofs.lemmas.List.{get_or_past, set-get_or}
use denote.Memory.{lone}
use Rattle.absstate.specs.Covers.{covers}
use Rattle.absstate.specs.laws.Step.Packing.{same_item}
use Rattle.absstate.specs.declared.abstract_state.AbsState.{AbsState}
use Rattle.verifier.specs.Keeping.{states_of, kept_at}
use Rattle.verifier.specs.Searches.{HasPassed, Finds, Weighs}
use Rattle.verifier.proofs.Sizes.{state_fits}
use Rattle.verifier.proofs.kept.KeptStates.search.Goals as goal

-- what is read at a slot of the list, by the view of the list
read_at : {D : Type 0} {items kept : List (Option (List (AbsState D)))} (slot : ℕ) (read : Option (List (AbsState D))) → items ≡ kept → slot < length items → read ≡ slice_index_or items slot read → read ≡ slice_index_or kept slot None
read_at slot read view lt is = is ∙ same_item slot _ read None lt ∙ ap (λ (list : List (Option (List (AbsState _)))). slice_index_or list slot None) view

-- nothing past its end
none_at : {D : Type 0} {items kept : List (Option (List (AbsState D)))} (slot : ℕ) → items ≡ kept → length items ≤ slot → slice_index_or kept slot None ≡ None
none_at slot view past = ap (λ (list : List (Option (List (AbsState _)))). slice_index_or list slot None) (sym view) ∙ get_or_past _ slot None past

pub search_slot-requires : goal.search_slot-requires
search_slot-requires g c =
    let at = read_at c.args.here.now.slot c.index_mut.result.now c.self.view_is (search rules) c.index_mut.ensures.value in
    (state_fits (lone g.row.D.mir) g.met.D.Domain.small, subst (λ (states : Option (List (AbsState g.row.D.Denot))). HasPassed g.D.Domain.ops (states_of states) c.args.passed c.args.here.now.state) (sym at) c.requires)

pub returns-then-here-len-clause-same : goal.returns-then-here-len-clause-same
returns-then-here-len-clause-same g c =
    ap (slice_set c.self.inside.by_slot.items c.args.here.now.slot) (c.search_slot.ensures.same ∙ c.index_mut.ensures.value)
    ∙ set-get_or c.self.inside.by_slot.items c.args.here.now.slot c.index_mut.result.now ∙ c.self.view_is

pub returns-then-here-len-clause-found : goal.returns-then-here-len-clause-found
returns-then-here-len-clause-found g c =
    let at = read_at c.args.here.now.slot c.index_mut.result.now c.self.view_is (search rules) c.index_mut.ensures.value in
    subst (λ (states : Option (List (AbsState g.row.D.Denot))). Finds g.D.Domain.ops g.D.Domain.Member (states_of states) c.args.passed c.args.here.now.state c.search_slot.result.0) at c.search_slot.ensures.found

pub returns-then-here-len-clause-weight : goal.returns-then-here-len-clause-weight
returns-then-here-len-clause-weight g c =
    let at = read_at c.args.here.now.slot c.index_mut.result.now c.self.view_is (search rules) c.index_mut.ensures.value in
    subst (λ (states : Option (List (AbsState g.row.D.Denot))). Weighs c.search_slot.result.0 (length (states_of states)) c.args.passed c.search_slot.result.1) at c.search_slot.ensures.weight

pub returns-else-here-len-clause-found : goal.returns-else-here-len-clause-found
returns-else-here-len-clause-found g c =
    let nothing = none_at c.args.here.now.slot c.self.view_is (omega (arith, c.len.ensures, c.if-here-len.false)) in
    ap (λ (states : Option (List (AbsState g.row.D.Denot))). list_any (λ k. covers g.D.Domain.ops k c.args.here.now.state) (states_of states)) nothing

pub returns-else-here-len-clause-weight : goal.returns-else-here-len-clause-weight
returns-else-here-len-clause-weight g c =
    let nothing = none_at c.args.here.now.slot c.self.view_is (omega (arith, c.len.ensures, c.if-here-len.false)) in
    let count : length (kept_at c.args.self.now c.args.here.now.slot) ≡ 0 = ap (λ (states : Option (List (AbsState g.row.D.Denot))). length (states_of states)) nothing in
    record { counted = omega (arith, count); each = omega (arith, count, c.requires.inside); most = omega arith }
