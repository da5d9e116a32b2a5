use Rattle.std.proofs.Common.{◌≡◌, ◌+◌, ◌++◌, ◌∷◌, [], Bool, true, false, List, Option, Some, None, length, sym, ap, ◌∙◌, arith}
use Rattle.std.specs.Option.{option_to_list}
use Rattle.std.specs.Prelude.{is_some, MatchOption}
use Rattle.std.proofs.lemmas.List.Sums.{sum_by-append}
use denote.Memory.{lone}
use Rattle.absstate.specs.declared.abstract_state.AbsState.{AbsState}
use Rattle.verifier.specs.Keeping.{states_of, units_to_free}
use Rattle.verifier.proofs.Sizes.{packed_fits}
use Rattle.verifier.proofs.kept.Remains.free_one.Goals as goal

pub drop-pop-requires-room-T-Destruct : goal.drop-pop-requires-room-T-Destruct
drop-pop-requires-room-T-Destruct g c κs within = packed_fits (lone g.row.D.mir) g.met.D.Domain.small

in_none : {A : Type 0} (o : Option A) (P : Type 0) (Q : A → Type 0) → is_some o ≡ false → MatchOption o P Q → P
in_none None P Q e m = m
in_none (Some x) P Q e m = absurd cc

pub returns-in-Some-Some-clause-freed : goal.returns-in-Some-Some-clause-freed
returns-in-Some-Some-clause-freed g c = λ _.
    let empty : length c.self.inside.states.items ≡ 0 = omega (arith, (in_none c.pop.result _ _ (sym c.is_some.ensures ∙ c.if-is_some.false) c.pop.ensures.cases).0) in
    let row : c.self.inside.by_slot.items ≡ c.pop-2.new.self.items ++ Some c.in-Some-Some.states ∷ [] =
    c.pop-2.ensures.items ∙ ap (λ (last : Option (Option (List (AbsState g.row.D.Denot)))). c.pop-2.new.self.items ++ option_to_list last) (c.in-Some-Some.is ∙ ap Some c.in-Some-Some.field-0-is) in
    let units : units_to_free c.self.inside.by_slot.items ≡ units_to_free c.pop-2.new.self.items + units_to_free (Some c.in-Some-Some.states ∷ []) =
    ap (λ (rows : List (Option (List (AbsState g.row.D.Denot)))). units_to_free rows) row ∙ sum_by-append (λ (slot : Option (List (AbsState g.row.D.Denot))). 1 + length (states_of slot)) c.pop-2.new.self.items (Some c.in-Some-Some.states ∷ []) in
    let count : length c.states.inside.states.items ≡ length c.in-Some-Some.states = ap (λ (xs : List (AbsState g.row.D.Denot)). length xs) c.states.view_is in
    omega (arith, empty, units, count, c.self.view_is)
