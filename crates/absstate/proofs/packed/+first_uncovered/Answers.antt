use Rattle.std.proofs.Common.{◌≡◌, ◌-◌, List, length, take, arith, drop, w64, sym, ap, ◌∙◌}
use Rattle.std.proofs.lemmas.List.{take_all, length-drop}
use Rattle.std.proofs.lemmas.Int.{to_z-of_z}
use Rattle.std.specs.Prelude.{slice_index_or}
use Rattle.absstate.specs.Covers.{covers_value}
use Rattle.absstate.specs.laws.Step.Packing.{item_after}
use Rattle.absstate.specs.declared.abstract_state.AbstractValue.{AbstractValue}
use Rattle.absstate.specs.declared.abstract_state.AbstractValue.TheVariants.{Nothing}
use Rattle.absstate.proofs.packed.+first_uncovered.Goals as goal

-- the items after the first one
rest_of : {A : Type 0} (xs : List A) → take (length xs - 1) (drop 1 xs) ≡ drop 1 xs
rest_of xs = take_all (length xs - 1) (drop 1 xs) (omega (arith, length-drop 1 xs))

pub returns-in_ok-index-in-len1-up-len1-up-clause-some : goal.returns-in_ok-index-in-len1-up-len1-up-clause-some
returns-in_ok-index-in-len1-up-len1-up-clause-some g t c = λ a b mine other.
    ap (λ (v : AbstractValue g.row.D.Denot). covers_value g.D.Domain.ops a b c.in_ok-index-in-len1-up-len1-up.value v) (item_after c.in_ok-index-in-len1-up-len1-up.index c.args.others.now Nothing)
    ∙ ap (λ (xs : List (AbstractValue g.row.D.Denot)). covers_value g.D.Domain.ops a b c.in_ok-index-in-len1-up-len1-up.value (slice_index_or xs c.in_ok-index-in-len1-up-len1-up.index Nothing)) (sym (rest_of c.args.others.now))
    ∙ c.in_ok-index-in-len1-up-len1-up.ensures.some a b (mine ∙ sym (to_z-of_z w64 c.args.proved c.ranges.proved)) (other ∙ sym (to_z-of_z w64 c.args.other_proved c.ranges.other_proved))
