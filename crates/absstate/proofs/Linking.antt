-- One pass over the places: each is compared with the first one at its anchor.
use Rattle.std.proofs.Common.{◌≡◌, ℕ, suc, ◌+◌, ◌<◌, ◌≤◌, Bool, true, false, not, ◌||◌, List, [], ◌∷◌, length, get_or, inl, inr, take, refl, sym, ap, ap₂, ◌∙◌, arith, below_more, eq-eqb, eqb-true, get_or-take, length-take-le}
use Rattle.std.specs.Prelude.{slice_index_or, slice_set}
use Rattle.std.proofs.lemmas.Bool.{cases_lt, both_ways, false_from_ne_true}
use Rattle.std.proofs.lemmas.List.{get_or-set_same, get_or-set_other, get_or_default, length-set}
use Rattle.absstate.specs.Covers.{have_one_anchor, is_place, stands_for, share_alike}
use Rattle.absstate.specs.laws.Step.Covering.{linked_at}
use Rattle.absstate.specs.laws.Step.Links.{shared_back, shared_on}
use Rattle.absstate.specs.laws.Step.MemoryValues.{both_true}
use Rattle.absstate.specs.declared.abstract_state.Anchor.TheVariants.{First, Variable}
use Rattle.absstate.specs.declared.abstract_state.AbstractValue.{AbstractValue}
use Rattle.absstate.specs.declared.abstract_state.AbstractValue.TheVariants.{Nothing, Data}

no_place : {D : Type 0} (v w : AbstractValue D) → is_place v ≡ false → have_one_anchor v w ≡ false
no_place (Data x k) w e = absurd cc
no_place v w e = refl

-- ---- links by index

implies : (x y : Bool) → (x ≡ true → y ≡ true) → (not x || y) ≡ true
implies true y h = h refl
implies false y h = refl

stands_from : {D : Type 0} (v u : AbstractValue D) (vs us : List (AbstractValue D))
    → ((n : ℕ) → n < length us → have_one_anchor v (slice_index_or vs n Nothing) ≡ true → have_one_anchor u (slice_index_or us n Nothing) ≡ true)
    → stands_for v u vs us ≡ true
stands_from v u [] us links = refl
stands_from v u (w ∷ ws) [] links = refl
stands_from v u (w ∷ ws) (x ∷ xs) links =
    both_true (not (have_one_anchor v w) || have_one_anchor u x) (stands_for v u ws xs) (implies (have_one_anchor v w) (have_one_anchor u x) (links 0 (omega arith)))
    (stands_from v u ws xs (λ n lt. links (suc n) (omega (arith, lt))))

-- it is enough that each two values at one anchor stand for two at one anchor
pub alike_from : {D : Type 0} (vs us : List (AbstractValue D))
    → ((i j : ℕ) → i < j → j < length us → have_one_anchor (slice_index_or vs i Nothing) (slice_index_or vs j Nothing) ≡ true → have_one_anchor (slice_index_or us i Nothing) (slice_index_or us j Nothing) ≡ true)
    → share_alike vs us ≡ true
alike_from [] us links = refl
alike_from (v ∷ vs) [] links = refl
alike_from (v ∷ vs) (u ∷ us) links =
    both_true (stands_for v u vs us) (share_alike vs us) (stands_from v u vs us (λ n lt. links 0 (suc n) (omega arith) (omega (arith, lt))))
    (alike_from vs us (λ i j less lt. links (suc i) (suc j) (omega (arith, less)) (omega (arith, lt))))

-- ---- the pass

module _ {D : Type 0} (vs us : List (AbstractValue D)) where
  -- whether the values at two indexes are places at one anchor, and whether the others there are
  abbrev shared : ℕ → ℕ → Bool
  shared i j = have_one_anchor (slice_index_or vs i Nothing) (slice_index_or vs j Nothing)

  abbrev others_shared : ℕ → ℕ → Bool
  others_shared i j = have_one_anchor (slice_index_or us i Nothing) (slice_index_or us j Nothing)

  -- of the first `i` values, each two at one anchor stand for two at one anchor, and the first `met` of the list have a place at each of their anchors
  pub record AreLinked (firsts : List ℕ) (met i : ℕ) : Type 0 where
    pub few : met ≤ i
    pub room : length vs ≤ length firsts
    pub below : (k : ℕ) → k < met → get_or firsts k 0 < i
    pub are_met : (w : AbstractValue D) → ((k : ℕ) → k < met → have_one_anchor (slice_index_or vs (get_or firsts k 0) Nothing) w ≡ false)
        → (j : ℕ) → j < i → have_one_anchor (slice_index_or vs j Nothing) w ≡ false
    pub linked : (j : ℕ) → j < i → (h : ℕ) → h < j → shared h j ≡ true → others_shared h j ≡ true

  pub none_met : (firsts : List ℕ) → length vs ≤ length firsts → AreLinked firsts 0 0
  none_met firsts room = record {
    few = omega arith;
    room = room;
    below = λ k lt. absurd (omega (arith, lt));
    are_met = λ w apart j lt. absurd (omega (arith, lt));
    linked = λ j lt. absurd (omega (arith, lt));
  }

  -- one value more: `v`, which is read at `i`
  module _ (firsts : List ℕ) (met i : ℕ) (s : AreLinked firsts met i) (lt : i < length vs) where
    pub fits : met < length firsts
    fits = omega (arith, s.few, s.room, lt)

    listed : (k : ℕ) → k < length (take met firsts) → k < met
    listed k in_list = omega (arith, in_list, fits, length-take-le met firsts (omega (arith, fits)))

    pub within : (k : ℕ) → k < length (take met firsts) → get_or (take met firsts) k 0 < length vs
    within k in_list = omega (arith, get_or-take met firsts k 0 (listed k in_list), s.below k (listed k in_list), lt)

    module _ (v : AbstractValue D) (read : v ≡ slice_index_or vs i v) where
      at : v ≡ slice_index_or vs i Nothing
      at = read ∙ get_or_default vs i v Nothing lt

      -- a place that is compared with the listed one at `k`
      compared : (k : ℕ) → k < met → have_one_anchor (slice_index_or vs (get_or (take met firsts) k 0) Nothing) v ≡ shared (get_or firsts k 0) i
      compared k lt = ap₂ (λ (n : ℕ) (w : AbstractValue D). have_one_anchor (slice_index_or vs n Nothing) w) (get_or-take met firsts k 0 lt) at

      -- no place
      pub passed : is_place v ≡ false → AreLinked firsts met (i + 1)
      passed none = record {
        few = omega (arith, s.few);
        room = s.room;
        below = λ k lt. omega (arith, s.below k lt);
        are_met = λ w apart. below_more _ _ (s.are_met w apart) (no_place (slice_index_or vs i Nothing) w here);
        linked = below_more _ _ s.linked (λ h lt e. absurd (both_ways _ (no_place (slice_index_or vs i Nothing) (slice_index_or vs h Nothing) here) (shared_back (slice_index_or vs h Nothing) (slice_index_or vs i Nothing) e)));
      } where
        here : is_place (slice_index_or vs i Nothing) ≡ false
        here = ap is_place (sym at) ∙ none

      -- the first place at its anchor
      pub met_first : ((k : ℕ) → k < length (take met firsts) → have_one_anchor (slice_index_or vs (get_or (take met firsts) k 0) Nothing) v ≡ false) → AreLinked (slice_set firsts met i) (met + 1) (i + 1)
      met_first apart = record {
        few = omega (arith, s.few);
        room = omega (arith, s.room, length-set firsts met i);
        below = below_more _ _ (λ k lt. omega (arith, s.below k lt, kept k lt)) (omega (arith, last));
        are_met = λ w others. below_more _ _
            (s.are_met w (λ k lt. ap (λ (n : ℕ). have_one_anchor (slice_index_or vs n Nothing) w) (sym (kept k lt)) ∙ others k (omega (arith, lt))))
            (ap (λ (n : ℕ). have_one_anchor (slice_index_or vs n Nothing) w) (sym last) ∙ others met (omega arith));
        linked = below_more _ _ s.linked (λ h lt e. absurd (both_ways _ (s.are_met (slice_index_or vs i Nothing) (λ k lt. sym (compared k lt) ∙ apart k (filled k lt)) h lt) e));
      } where
        last : get_or (slice_set firsts met i) met 0 ≡ i
        last = get_or-set_same firsts met i 0 fits

        kept : (k : ℕ) → k < met → get_or (slice_set firsts met i) k 0 ≡ get_or firsts k 0
        kept k lt = get_or-set_other firsts met k i 0 (λ same. absurd (omega (arith, lt, same)))

        filled : (k : ℕ) → k < met → k < length (take met firsts)
        filled k lt = omega (arith, lt, fits, length-take-le met firsts (omega (arith, fits)))

      -- a place at an anchor that is met again
      module _ (k : ℕ) (in_list : k < length (take met firsts)) (same : have_one_anchor (slice_index_or vs (get_or (take met firsts) k 0) Nothing) v ≡ true) where
        abbrev first : ℕ
        first = get_or firsts k 0

        before : first < i
        before = s.below k (listed k in_list)

        shares : shared first i ≡ true
        shares = sym (compared k (listed k in_list)) ∙ same

        pub found : (get_or firsts k 0 < i) × (i < length vs) × (shared (get_or firsts k 0) i ≡ true)
        found = (before, lt, shares)

        -- the others at the same indexes are `x` and `y`
        module _ (paired : length us ≡ length vs) (x y : AbstractValue D) (read_x : x ≡ slice_index_or us (get_or firsts k 0) x) (read_y : y ≡ slice_index_or us i y) where
          others_compared : have_one_anchor x y ≡ others_shared first i
          others_compared = ap₂ have_one_anchor (read_x ∙ get_or_default us first x Nothing (omega (arith, before, lt, paired))) (read_y ∙ get_or_default us i y Nothing (omega (arith, lt, paired)))

          pub apart : have_one_anchor x y ≡ false → share_alike vs us ≡ false
          apart none = false_from_ne_true _ (λ alike. both_ways _ (sym others_compared ∙ none) (linked_at first i vs us alike before (omega (arith, lt, paired)) shares))

          pub met_again : have_one_anchor x y ≡ true → AreLinked firsts met (i + 1)
          met_again both = record {
            few = omega (arith, s.few);
            room = s.room;
            below = λ k lt. omega (arith, s.below k lt);
            are_met = λ w none. below_more _ _ (s.are_met w none)
                (false_from_ne_true _ (λ e. both_ways _ (none k (listed k in_list)) (shared_on (slice_index_or vs first Nothing) (slice_index_or vs i Nothing) w shares e)));
            linked = below_more _ _ s.linked link;
          } where
            others_share : others_shared first i ≡ true
            others_share = sym others_compared ∙ both

            link : (h : ℕ) → h < i → shared h i ≡ true → others_shared h i ≡ true
            link h less e =
                let back : shared first h ≡ true = shared_on (slice_index_or vs first Nothing) (slice_index_or vs i Nothing) (slice_index_or vs h Nothing) shares (shared_back (slice_index_or vs h Nothing) (slice_index_or vs i Nothing) e) in
                elim (cases_lt h first) [
                  | inl lower ↦ shared_on (slice_index_or us h Nothing) (slice_index_or us first Nothing) (slice_index_or us i Nothing)
                      (s.linked first before h lower (shared_back (slice_index_or vs first Nothing) (slice_index_or vs h Nothing) back)) others_share
                  | inr above ↦ elim (cases_lt first h) [
                    | inl lower ↦ shared_on (slice_index_or us h Nothing) (slice_index_or us first Nothing) (slice_index_or us i Nothing)
                        (shared_back (slice_index_or us first Nothing) (slice_index_or us h Nothing) (s.linked h less first lower back)) others_share
                    | inr under ↦ let one : h ≡ first = omega arith in ap (λ (n : ℕ). others_shared n i) one ∙ others_share
                  ]
                ]
