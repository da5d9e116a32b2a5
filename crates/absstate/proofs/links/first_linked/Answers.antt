use Rattle.std.proofs.Common.{◌≡◌, ℕ, suc, ◌+◌, Bool, false, not, cond, List, [], ◌∷◌, length, take, position, None, Some, refl, sym, ap, ap₂, ◌∙◌, arith}
use Rattle.std.specs.Prelude.{nat_lt}
use Rattle.std.specs.List.{position_or_len}
use Rattle.std.proofs.Common.{le-ltb}
use Rattle.std.proofs.lemmas.List.{get_or_default}
use Rattle.absstate.specs.Covers.{have_one_anchor, is_place}
use Rattle.absstate.specs.declared.abstract_state.AbstractValue.{AbstractValue}
use Rattle.absstate.specs.declared.abstract_state.AbstractValue.TheVariants.{Nothing, Data}
use Rattle.absstate.proofs.links.first_linked.Goals as goal

-- nothing is at the anchor of what is no place
unshared : {D : Type 0} (w v : AbstractValue D) → is_place v ≡ false → have_one_anchor w v ≡ false
unshared (Data x k) (Data y l) none = absurd cc
unshared w v none = refl

none_at : {D : Type 0} (v : AbstractValue D) (values : List (AbstractValue D)) → is_place v ≡ false → position_or_len (λ w. have_one_anchor w v) values ≡ length values
none_at v [] none = refl
none_at v (w ∷ values) none = ap₂ (λ (test : Bool) (n : ℕ). cond (not test) (1 + n) 0) (unshared w v none) (none_at v values none) ∙ one_more (length values) where
  one_more : (n : ℕ) → 1 + n ≡ suc n
  one_more n = omega arith

no_position : {D : Type 0} (v : AbstractValue D) (values : List (AbstractValue D)) → is_place v ≡ false → position (λ w. have_one_anchor w v) values ≡ None
no_position v values none =
    ap (λ (test : Bool). cond test (Some (position_or_len (λ w. have_one_anchor w v) values)) None)
    (ap (λ (n : ℕ). nat_lt n (length values)) (none_at v values none) ∙ le-ltb (length values) (length values) (omega arith))

pub returns-then-not-is_place : goal.returns-then-not-is_place
returns-then-not-is_place g c =
    let value = c.index-values-index.is ∙ get_or_default c.args.values.now c.args.index c.index-values-index.result Nothing c.requires in
    sym (no_position _ (take c.args.index c.args.values.now) (ap is_place (sym value) ∙ sym c.is_place.ensures ∙ c.if-not-is_place.true))

pub returns : goal.returns
returns g c =
    let value = c.index-values-index.is ∙ get_or_default c.args.values.now c.args.index c.index-values-index.result Nothing c.requires in
    c.first_shared.ensures ∙ ap (λ (v : AbstractValue _). position (λ w. have_one_anchor w v) (take c.args.index c.args.values.now)) value
