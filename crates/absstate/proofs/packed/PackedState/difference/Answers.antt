use Rattle.std.proofs.Common.{◌≡◌, ◌<◌, true, false, List, length, subst, sym, ap, ap₂, ◌∙◌, rules}
use Rattle.std.specs.Prelude.{int_le, slice_index_or}
use Rattle.absstate.specs.Covers.{covers_value, covers_values, have_one_anchor, share_alike}
use Rattle.absstate.specs.Packing.{joined}
use Rattle.absstate.specs.laws.Step.Covering.{member_covered}
use Rattle.absstate.specs.laws.Step.Packing.{word_differs, proved_differs, sharing_differs, value_differs, covers_all}
use Rattle.absstate.specs.declared.abstract_state.AbstractValue.{AbstractValue}
use Rattle.absstate.specs.declared.abstract_state.AbstractValue.TheVariants.{Nothing}
use Rattle.absstate.specs.declared.abstract_state.AbsState.{AbsState}
use Rattle.absstate.proofs.packed.PackedState.difference.Goals as goal

pub returns-in-Some-clause-some : goal.returns-in-Some-clause-some
returns-in-Some-clause-some g c = word_differs g.D.Domain.ops c.self.inside.registers (joined c.self.inside.chunks.items) c.self.inside.words c.self.inside.proved c.args.self.now c.args.other.now c.self.view_is c.self.invariant.1 c.args.words.now c.in-Some.index c.requires c.in-Some.ensures.some.1

pub returns-then-not-proves_no_more-clause-some : goal.returns-then-not-proves_no_more-clause-some
returns-then-not-proves_no_more-clause-some g c =
    let more : int_le c.args.self.now.proved c.args.other.now.proved ≡ false = search rules in
    proved_differs g.D.Domain.ops c.args.self.now c.args.other.now _ (search rules) more

pub returns-in-Some-uncovered_register-clause-some : goal.returns-in-Some-uncovered_register-clause-some
returns-in-Some-uncovered_register-clause-some g c =
    value_differs g.D.Domain.ops c.args.self.now c.args.other.now c.in-Some-uncovered_register.index c.in-Some-uncovered_register.value _
    c.in-Some-uncovered_register.ensures.found (search rules)
    (ap (λ (xs : List (AbstractValue g.row.D.Denot)). covers_value g.D.Domain.ops c.args.self.now c.args.other.now c.in-Some-uncovered_register.value (slice_index_or xs c.in-Some-uncovered_register.index Nothing)) (sym c.values_of-others.ensures.values)
    ∙ c.in-Some-uncovered_register.ensures.some c.args.other.now (search rules))

pub returns-in-Some-first_uncovered-clause-some : goal.returns-in-Some-first_uncovered-clause-some
returns-in-Some-first_uncovered-clause-some g c =
    value_differs g.D.Domain.ops c.args.self.now c.args.other.now c.in-Some-first_uncovered.index c.in-Some-first_uncovered.value _
    (subst (λ (xs : List (AbstractValue g.row.D.Denot)). slice_index_or xs c.in-Some-first_uncovered.index Nothing ≡ c.in-Some-first_uncovered.value) c.values-values.ensures c.in-Some-first_uncovered.ensures.found.1) (search rules)
    (ap (λ (xs : List (AbstractValue g.row.D.Denot)). covers_value g.D.Domain.ops c.args.self.now c.args.other.now c.in-Some-first_uncovered.value (slice_index_or xs c.in-Some-first_uncovered.index Nothing)) (sym c.values_of-others.ensures.values)
    ∙ c.in-Some-first_uncovered.ensures.some c.args.self.now c.args.other.now (search rules) (search rules))

pub returns-in-Some-first_unlinked-clause-some : goal.returns-in-Some-first_unlinked-clause-some
returns-in-Some-first_unlinked-clause-some g c =
    sharing_differs g.D.Domain.ops c.args.self.now c.args.other.now c.in-Some-first_unlinked.first c.in-Some-first_unlinked.second
    (subst (λ (xs : List (AbstractValue g.row.D.Denot)). (c.in-Some-first_unlinked.first < c.in-Some-first_unlinked.second) × (have_one_anchor (slice_index_or xs c.in-Some-first_unlinked.first Nothing) (slice_index_or xs c.in-Some-first_unlinked.second Nothing) ≡ true))
    c.values-values.ensures (c.in-Some-first_unlinked.ensures.found.0, c.in-Some-first_unlinked.ensures.found.2))
    (ap₂ share_alike (sym c.values-values.ensures) (sym c.values_of-others.ensures.values) ∙ c.in-Some-first_unlinked.ensures.some)

pub returns-clause-none : goal.returns-clause-none
returns-clause-none g c =
    let proved : int_le c.args.self.now.proved c.args.other.now.proved ≡ true = search rules in
    let shares : share_alike c.args.self.now.values c.args.other.now.values ≡ true = search rules in
    covers_all g.D.Domain.ops c.self.inside.registers (joined c.self.inside.chunks.items) c.self.inside.words c.self.inside.proved c.args.self.now c.args.other.now c.self.view_is c.self.invariant.1 c.args.words.now c.requires c.self.invariant.2 c.cells-marks.ensures.count c.in_default.ensures.none proved
    (ap (λ (xs : List (AbstractValue g.row.D.Denot)). covers_values g.D.Domain.ops c.args.self.now c.args.other.now xs c.args.other.now.values) (sym c.values-values.ensures)
    ∙ ap (covers_values g.D.Domain.ops c.args.self.now c.args.other.now c.values-values.result) (sym c.values_of-others.ensures.values)
    ∙ c.in_default-first_uncovered.ensures.none c.args.self.now c.args.other.now (search rules) (search rules))
    shares

pub returns-clause-members : goal.returns-clause-members
returns-clause-members g c =
    let count : length c.values-values.result ≡ 75 = search rules in
    let mine : length c.args.self.now.marks.cells ≡ 512 = ap (λ (a : AbsState g.row.D.Denot). length a.marks.cells) (sym c.self.view_is) ∙ c.self.invariant.2 in
    λ none s member.
    member_covered g.D.Domain.ops g.D.Domain.Member g.met.D.Domain.laws c.args.self.now c.args.other.now s (ap (λ (xs : List (AbstractValue g.row.D.Denot)). length xs) (sym c.values-values.ensures) ∙ count) mine (returns-clause-none g c) member
