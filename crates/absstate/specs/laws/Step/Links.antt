-- Interface. Where one state covers another, it has fewer links than the other, or the same.
use Rattle.std.proofs.Common.{◌≡◌, ℕ, zero, suc, ◌<◌, ◌⊎◌, inl, inr, Bool, true, false, List, length, take, position, Option, None, Some, refl, sym, ap, ap₂, ◌∙◌, arith, lt-ltb, eq-eqb, eqb-true, get_or-take, cond}
use Rattle.std.specs.Prelude.{◌==◌, nat_lt, slice_index_or}
use Rattle.std.specs.List.{position_or_len}
use Rattle.std.proofs.lemmas.Bool.{cases_lt, both_ways, or_left, or_right}
use Rattle.std.proofs.lemmas.List.{get_or_past, length-take}
use Rattle.std.proofs.lemmas.List.Quantifiers.{position-Some}
use Rattle.std.proofs.lemmas.List.Sums.{fails_before_first}
use Rattle.absstate.specs.Covers.{have_one_anchor, covers_value, covers}
use Rattle.absstate.specs.Signatures.{first_linked, linked_if, links_among, state_links, lie_within}
use Rattle.absstate.specs.laws.Step.Covering.{linked_at, values_at}
use Rattle.absstate.specs.laws.Step.Packing.{values_of, shares_of}
use Rattle.absstate.specs.declared.abstract_state.AbsState.{AbsState}
use Rattle.absstate.specs.declared.abstract_state.TheConstants.{VALUES}
use Rattle.absstate.specs.declared.links.Links.{Links}
use Rattle.interval.specs.Domains.{Operations}
use Rattle.absstate.specs.declared.abstract_state.Anchor.TheVariants.{First, Variable}
use Rattle.absstate.specs.declared.abstract_state.AbstractValue.{AbstractValue}
use Rattle.absstate.specs.declared.abstract_state.AbstractValue.TheVariants.{Nothing, Data}

-- ---- two values at one anchor

pub shared_back : {D : Type 0} (v w : AbstractValue D) → have_one_anchor v w ≡ true → have_one_anchor w v ≡ true
shared_back (Data First k) (Data First l) e = refl
shared_back (Data (Variable id low high proved) k) (Data (Variable other low' high' proved') l) e = eq-eqb other id (sym (eqb-true id other e))
shared_back v w e = absurd cc

pub shared_on : {D : Type 0} (v w x : AbstractValue D) → have_one_anchor v w ≡ true → have_one_anchor w x ≡ true → have_one_anchor v x ≡ true
shared_on (Data First k) (Data First l) (Data First m) e f = refl
shared_on (Data (Variable i low high proved) k) (Data (Variable j low' high' proved') l) (Data (Variable n low'' high'' proved'') m) e f = eq-eqb i n (eqb-true i j e ∙ eqb-true j n f)
shared_on v w x e f = absurd cc

-- ---- the first place at an anchor

some_place : {X : Type 0} {x : X} → Some x ≡ None → ⊥
some_place e = absurd cc

-- where a test has no first item, none passes it
none_passes : {X : Type 0} (p : X → Bool) (xs : List X) (d : X) → p d ≡ false → position p xs ≡ None → (k : ℕ) → p (slice_index_or xs k d) ≡ false
none_passes p xs d last none k = elim (cases_lt k (length xs)) [
  | inl in_list ↦ elim (cases_lt (position_or_len p xs) (length xs)) [
    | inl inside ↦ absurd (some_place (ap (λ (test : Bool). cond test (Some (position_or_len p xs)) None) (sym (lt-ltb (position_or_len p xs) (length xs) inside)) ∙ none))
    | inr past ↦ fails_before_first p xs k d (omega (arith, in_list, past))
  ]
  | inr past ↦ ap p (get_or_past xs k d past) ∙ last
]

module _ {D : Type 0} where
  -- whether the values at two indexes are places at one anchor
  abbrev shared : List (AbstractValue D) → ℕ → ℕ → Bool
  shared values h i = have_one_anchor (slice_index_or values h Nothing) (slice_index_or values i Nothing)

  module _ (values : List (AbstractValue D)) (i : ℕ) where
    abbrev test : AbstractValue D → Bool
    test v = have_one_anchor v (slice_index_or values i Nothing)

    found : (j : ℕ) → first_linked values i ≡ Some j → (j < i) × (shared values j i ≡ true) × ((h : ℕ) → h < j → shared values h i ≡ false)
    found j e =
        let (in_list, at, firsts) = position-Some test (take i values) j Nothing e in
        let before : j < i = omega (arith, in_list, length-take i values) in
        (before, ap test (sym (get_or-take i values j Nothing before)) ∙ at, λ h less. ap test (sym (get_or-take i values h Nothing (omega (arith, less, before)))) ∙ firsts h less)

    missing : first_linked values i ≡ None → (h : ℕ) → h < i → shared values h i ≡ false
    missing e h lt = ap test (sym (get_or-take i values h Nothing lt)) ∙ none_passes test (take i values) Nothing refl e h

-- ---- the links of two states

module _ {D : Type 0} (vs us : List (AbstractValue D)) where
  abbrev AreAlike : ℕ → Type 0
  AreAlike n = (i : ℕ) → i < n → first_linked vs i ≡ first_linked us i

  -- of the first values the one state has fewer links, or the same
  abbrev AreFewer : ℕ → Type 0
  AreFewer n = ((links_among vs n).count < (links_among us n).count) ⊎ AreAlike n

  alike_links : (n : ℕ) → AreAlike n → links_among vs n ≡ links_among us n
  alike_links zero alike = refl
  alike_links (suc n) alike = ap₂ (linked_if n) (alike n (omega arith)) (alike_links n (λ i lt. alike i (omega (arith, lt))))

  -- each two places of the one at one anchor are places of the other at one anchor
  module _ (linked : (h i : ℕ) → h < i → shared vs h i ≡ true → shared us h i ≡ true) where
    -- the first place at the anchor of a value is the same in both, where the links before it are
    no_earlier : (n j k : ℕ) → AreAlike n → first_linked vs n ≡ Some j → first_linked us n ≡ Some k → k < j → ⊥
    no_earlier n j k alike v u less =
        let (before, at, firsts) = found vs n j v in
        let (_, with, _) = found us n k u in
        let later = linked j n before at in
        let earlier : shared us k j ≡ true = shared_on (slice_index_or us k Nothing) (slice_index_or us n Nothing) (slice_index_or us j Nothing) with (shared_back (slice_index_or us j Nothing) (slice_index_or us n Nothing) later) in
        by (first_linked us j) refl earlier before at firsts where
          by : (first : Option ℕ) → first_linked us j ≡ first → shared us k j ≡ true → j < n → shared vs j n ≡ true → ((h : ℕ) → h < j → shared vs h n ≡ false) → ⊥
          by None e earlier before at firsts = both_ways _ (missing us j e k less) earlier
          by (Some m) e earlier before at firsts =
              let (lower, with, _) = found vs j m (alike j before ∙ e) in
              both_ways _ (firsts m lower) (shared_on (slice_index_or vs m Nothing) (slice_index_or vs j Nothing) (slice_index_or vs n Nothing) with at)

    no_later : (n j k : ℕ) → first_linked vs n ≡ Some j → first_linked us n ≡ Some k → j < k → ⊥
    no_later n j k v u less =
        let (before, at, _) = found vs n j v in
        let (_, _, firsts) = found us n k u in
        both_ways _ (firsts j less) (linked j n before at)

    not_lost : (n j : ℕ) → first_linked vs n ≡ Some j → first_linked us n ≡ None → ⊥
    not_lost n j v u =
        let (before, at, _) = found vs n j v in
        both_ways _ (missing us n u j before) (linked j n before at)

    same_first : (n j k : ℕ) → AreAlike n → first_linked vs n ≡ Some j → first_linked us n ≡ Some k → j ≡ k
    same_first n j k alike v u =
        elim (cases_lt j k) [
          | inl less ↦ absurd (no_later n j k v u less)
          | inr past ↦ elim (cases_lt k j) [
            | inl less ↦ absurd (no_earlier n j k alike v u less)
            | inr under ↦ omega (arith, past, under)
          ]
        ]

    counted : (values : List (AbstractValue D)) (n : ℕ) (first : Option ℕ) → first_linked values n ≡ first → (links_among values (suc n)).count ≡ (linked_if n first (links_among values n)).count
    counted values n first e = ap (λ (o : Option ℕ). (linked_if n o (links_among values n)).count) e

    one_alike : (n : ℕ) → AreAlike n → first_linked vs n ≡ first_linked us n → AreAlike (suc n)
    one_alike n alike last i lt = elim (cases_lt i n) [
      | inl less ↦ alike i less
      | inr past ↦ let one : i ≡ n = omega (arith, lt, past) in ap (first_linked vs) one ∙ last ∙ ap (first_linked us) (sym one)
    ]

    one_more : (n : ℕ) → AreFewer n → AreFewer (suc n)
    one_more n fewer = by (first_linked vs n) (first_linked us n) refl refl fewer where
      by : (v u : Option ℕ) → first_linked vs n ≡ v → first_linked us n ≡ u → AreFewer n → AreFewer (suc n)
      by None None e f (inl less) = inl (omega (arith, less, counted vs n None e, counted us n None f))
      by None (Some k) e f (inl less) = inl (omega (arith, less, counted vs n None e, counted us n (Some k) f))
      by (Some j) None e f fewer = absurd (not_lost n j e f)
      by (Some j) (Some k) e f (inl less) = inl (omega (arith, less, counted vs n (Some j) e, counted us n (Some k) f))
      by None None e f (inr alike) = inr (one_alike n alike (e ∙ sym f))
      by None (Some k) e f (inr alike) = inl (omega (arith, ap (λ (links : Links). links.count) (alike_links n alike), counted vs n None e, counted us n (Some k) f))
      by (Some j) (Some k) e f (inr alike) = inr (one_alike n alike (e ∙ ap Some (same_first n j k alike e f) ∙ sym f))

    fewer_links : (n : ℕ) → AreFewer n
    fewer_links zero = inr (λ i lt. absurd (omega (arith, lt)))
    fewer_links (suc n) = one_more n (fewer_links n)

    fewer_lie_within : (n : ℕ) → AreFewer n → lie_within (links_among vs n) (links_among us n) ≡ true
    fewer_lie_within n (inl less) = or_left (nat_lt (links_among vs n).count (links_among us n).count) _ (lt-ltb (links_among vs n).count (links_among us n).count less)
    fewer_lie_within n (inr alike) =
        or_right _ ((links_among vs n).firsts == (links_among us n).firsts) (eq-eqb (links_among vs n).firsts (links_among us n).firsts (ap (λ (links : Links). links.firsts) (alike_links n alike)))

    pub links_within : lie_within (state_links vs) (state_links us) ≡ true
    unfolding state_links
    links_within = fewer_lie_within VALUES (fewer_links VALUES)

-- no place is covered where nothing is known
uncovered : {D : Type 0} (ops : Operations D) (a b : AbsState D) (w v : AbstractValue D) → have_one_anchor w v ≡ true → covers_value ops a b v Nothing ≡ true → ⊥
uncovered ops a b (Data x k) (Data y l) e f = absurd cc
uncovered ops a b w v e f = absurd cc

-- two places at one anchor of a state that covers another stand for two places of the other at one anchor
pub linked_alike : {D : Type 0} (ops : Operations D) (a b : AbsState D) → covers ops a b ≡ true → (h i : ℕ) → h < i → shared a.values h i ≡ true → shared b.values h i ≡ true
linked_alike ops a b e h i less both = elim (cases_lt i (length b.values)) [
  | inl lt ↦ linked_at h i a.values b.values (shares_of ops a b e) less lt both
  | inr past ↦ absurd (uncovered ops a b (slice_index_or a.values h Nothing) (slice_index_or a.values i Nothing) both
      (ap (covers_value ops a b (slice_index_or a.values i Nothing)) (sym (get_or_past b.values i Nothing past)) ∙ values_at ops a b a.values b.values i (values_of ops a b e)))
]
