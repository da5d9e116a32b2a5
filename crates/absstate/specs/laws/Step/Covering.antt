-- Interface. Members of a covered state are members of the one that covers it.
use Rattle.std.proofs.Common.{◌≡◌, ℕ, zero, suc, ◌<◌, Bool, true, false, not, ◌&&◌, ◌||◌, ℤ, pos, ◌+ℤ◌, ◌≤ℤ◌, List, [], ◌∷◌, length, None, refl, sym, ap, ◌∙◌, subst, arith, rules}
use Rattle.std.specs.Prelude.{◌==◌, int_le, slice_index_or, if◌then◌else◌, is_some}
use Rattle.std.proofs.lemmas.Bool.{eqb-true}
use Rattle.std.proofs.lemmas.Int.{ints}
use Rattle.insn.specs.Register.{number_of}
use Rattle.semantics.specs.laws.Kept.{in_eleven}
use Rattle.semantics.specs.Machine.{State}
use Rattle.semantics.specs.Effects.{value_at}
use Rattle.semantics.specs.declared.value.Value.{Value}
use Rattle.semantics.specs.declared.value.Value.TheVariants as value
use Rattle.interval.specs.Domains.{Operations, AreSound}
use Rattle.absstate.specs.AbstractStates.{low_of, high_of, proved_of, abstract_at, group_at, group_index, is_marked}
use Rattle.semantics.specs.Access.{pointer_in}
use Rattle.absstate.specs.Covers.{same_int, covers_anchor, covers_value, covers_values, have_one_anchor, stands_for, share_alike, covers_marks, covers}
use Rattle.absstate.specs.Membership.{Loose, Strict, Places, place_of, IsAnchorPlace, IsAnchored, IsHeld, IsValue, IsMember}
use Rattle.absstate.specs.declared.abstract_state.Anchor.{Anchor}
use Rattle.absstate.specs.declared.abstract_state.Anchor.TheVariants.{First, Variable}
use Rattle.absstate.specs.declared.abstract_state.AbstractValue.{AbstractValue}
use Rattle.absstate.specs.declared.abstract_state.AbstractValue.TheVariants as known
use Rattle.absstate.specs.declared.abstract_state.AbsState.{AbsState}
use Rattle.absstate.specs.laws.Step.Bounds.{le_of}
use Rattle.absstate.specs.laws.Step.MemoryValues.{first_of_and, rest_of_and}
use Rattle.absstate.specs.laws.Step.Sums.{place_is}

-- ---- the places of the anchors

-- whether a value names the anchor with a number
abbrev names : {D : Type 0} → AbstractValue D → ℕ → Bool
names (known.Data (Variable other low high proved) k) id = other == id
names (known.Data First k) id = false
names known.Nothing id = false
names (known.Scalar n) id = false
names known.Ctx id = false
names (known.Stack k) id = false
names known.End id = false

-- the place of the anchor that a value names
abbrev place_in : {D : Type 0} → Places → AbstractValue D → ℤ
place_in places (known.Data anchor k) = place_of places anchor
place_in places known.Nothing = pos 0
place_in places (known.Scalar n) = pos 0
place_in places known.Ctx = pos 0
place_in places (known.Stack k) = pos 0
place_in places known.End = pos 0

-- an anchor has the place of the anchor for which it stands
abbrev places_for : {D : Type 0} → Places → List (AbstractValue D) → List (AbstractValue D) → Places
places_for places (v ∷ vs) (u ∷ us) id = if names v id then place_in places u else places_for places vs us id
places_for places (v ∷ vs) [] id = pos 0
places_for places [] us id = pos 0

same_places : {D : Type 0} (places : Places) (u w : AbstractValue D) → have_one_anchor u w ≡ true → place_in places u ≡ place_in places w
same_places places (known.Data First k) (known.Data First l) e = refl
same_places places (known.Data (Variable id low high proved) k) (known.Data (Variable other low' high' proved') l) e = ap places (eqb-true id other e)
same_places places u w e = absurd cc

named_shared : {D : Type 0} (id : ℕ) (u w : AbstractValue D) → names u id ≡ true → names w id ≡ true → have_one_anchor u w ≡ true
named_shared id (known.Data (Variable i low high proved) k) (known.Data (Variable j low' high' proved') l) e f =
    let p : i ≡ id = eqb-true i id e in
    let q : j ≡ id = eqb-true j id f in
    let r : i ≡ j = p ∙ sym q in
    ap (λ (c : ℕ). c == j) r ∙ itself j where
      itself : (n : ℕ) → (n == n) ≡ true
      itself n = search rules
named_shared id u w e f = absurd cc

implied : (x y : Bool) → (not x || y) ≡ true → x ≡ true → y ≡ true
implied true y e f = e
implied false y e f = absurd cc

-- no value shares its anchor with one of which nothing is known
never_shared : {D : Type 0} (w : AbstractValue D) → have_one_anchor w known.Nothing ≡ true → ⊥
never_shared (known.Data x k) f = absurd cc
never_shared w f = absurd cc

stands_at : {D : Type 0} (w u : AbstractValue D) (vs us : List (AbstractValue D)) (n : ℕ) → stands_for w u vs us ≡ true → n < length us → have_one_anchor w (slice_index_or vs n known.Nothing) ≡ true → have_one_anchor u (slice_index_or us n known.Nothing) ≡ true
stands_at w u [] us n e lt f = absurd (never_shared w f)
stands_at o u (w ∷ ws) [] n e lt f = absurd (omega (arith, lt))
stands_at o u (w ∷ ws) (x ∷ xs) zero e lt f = implied (have_one_anchor o w) (have_one_anchor u x) (first_of_and (not (have_one_anchor o w) || have_one_anchor u x) (stands_for o u ws xs) e) f
stands_at o u (w ∷ ws) (x ∷ xs) (suc n) e lt f = stands_at o u ws xs n (rest_of_and (not (have_one_anchor o w) || have_one_anchor u x) (stands_for o u ws xs) e) (omega (arith, lt)) f

-- two places at one anchor stand for two places at one anchor
pub linked_at : {D : Type 0} (i j : ℕ) (vs us : List (AbstractValue D)) → share_alike vs us ≡ true → i < j → j < length us → have_one_anchor (slice_index_or vs i known.Nothing) (slice_index_or vs j known.Nothing) ≡ true
    → have_one_anchor (slice_index_or us i known.Nothing) (slice_index_or us j known.Nothing) ≡ true
linked_at i j [] us e less lt f = absurd cc
linked_at i j (v ∷ vs) [] e less lt f = absurd (omega (arith, lt))
linked_at i zero (v ∷ vs) (u ∷ us) e less lt f = absurd (omega (arith, less))
linked_at zero (suc j) (v ∷ vs) (u ∷ us) e less lt f = stands_at v u vs us j (first_of_and (stands_for v u vs us) (share_alike vs us) e) (omega (arith, lt)) f
linked_at (suc i) (suc j) (v ∷ vs) (u ∷ us) e less lt f = linked_at i j vs us (rest_of_and (stands_for v u vs us) (share_alike vs us) e) (omega (arith, less)) (omega (arith, lt)) f

place_stands : {D : Type 0} (places : Places) (id : ℕ) (vs us : List (AbstractValue D)) (n : ℕ) → share_alike vs us ≡ true → n < length vs → n < length us → names (slice_index_or vs n known.Nothing) id ≡ true → places_for places vs us id ≡ place_in places (slice_index_or us n known.Nothing)
place_stands places id [] us n e lt lt' f = absurd (omega (arith, lt))
place_stands places id (v ∷ vs) [] n e lt lt' f = absurd (omega (arith, lt'))
place_stands places id (v ∷ vs) (u ∷ us) zero e lt lt' f = ap (λ (x : Bool). if x then place_in places u else places_for places vs us id) f
place_stands places id (v ∷ vs) (u ∷ us) (suc n) e lt lt' f =
    by (names v id) refl (place_stands places id vs us n (rest_of_and (stands_for v u vs us) (share_alike vs us) e) (omega (arith, lt)) (omega (arith, lt')) f) where
      by : (x : Bool) → names v id ≡ x → places_for places vs us id ≡ place_in places (slice_index_or us n known.Nothing) → (if x then place_in places u else places_for places vs us id) ≡ place_in places (slice_index_or us n known.Nothing)
      by true g rest = same_places places u (slice_index_or us n known.Nothing) (stands_at v u vs us n (first_of_and (stands_for v u vs us) (share_alike vs us) e) (omega (arith, lt')) (named_shared id v (slice_index_or vs n known.Nothing) g f))
      by false g rest = rest

-- ---- values

-- each value is covered by the one at its place
pub values_at : {D : Type 0} (ops : Operations D) (a b : AbsState D) (vs us : List (AbstractValue D)) (n : ℕ) → covers_values ops a b vs us ≡ true → covers_value ops a b (slice_index_or vs n known.Nothing) (slice_index_or us n known.Nothing) ≡ true
values_at ops a b [] us n e = refl
values_at ops a b (v ∷ vs) [] n e = absurd cc
values_at ops a b (v ∷ vs) (u ∷ us) zero e = first_of_and (covers_value ops a b v u) (covers_values ops a b vs us) e
values_at ops a b (v ∷ vs) (u ∷ us) (suc n) e = values_at ops a b vs us n (rest_of_and (covers_value ops a b v u) (covers_values ops a b vs us) e)

pub int_same : (p k : ℤ) → same_int p k ≡ true → p ≡ k
int_same k l e = let p = le_of k l (first_of_and (int_le k l) (int_le l k) e) in let q = le_of l k (rest_of_and (int_le k l) (int_le l k) e) in omega (arith, ints, p, q)

between_zero : (p : ℤ) → pos 0 ≤ℤ p → p ≤ℤ pos 0 → p ≡ pos 0
between_zero p e f = omega (arith, ints)

module _ {D : Type 0} (ops : Operations D) (Member : D → ℕ → Type 0) (sound : AreSound ops Member) (places more : Places) (size : ℕ) (a b : AbsState D) (reaches : b.proved ≤ℤ pos size) where
  -- the place of the covered anchor is one of the anchor that covers it
  anchor_covered : (anchor r : Anchor) → covers_anchor a b anchor r ≡ true → IsAnchored places size r → IsAnchorPlace size (low_of anchor) (high_of anchor) (proved_of a anchor) (place_of places r)
  anchor_covered r anchor e is =
      let at = place_is places size b anchor reaches is in
      let ends = first_of_and (int_le (low_of r) (low_of anchor) && int_le (high_of anchor) (high_of r)) (int_le (proved_of a r) (proved_of b anchor)) e in
      let low = le_of (low_of r) (low_of anchor) (first_of_and (int_le (low_of r) (low_of anchor)) (int_le (high_of anchor) (high_of r)) ends) in
      let high = le_of (high_of anchor) (high_of r) (rest_of_and (int_le (low_of r) (low_of anchor)) (int_le (high_of anchor) (high_of r)) ends) in
      let proved = le_of (proved_of a r) (proved_of b anchor) (rest_of_and (int_le (low_of r) (low_of anchor) && int_le (high_of anchor) (high_of r)) (int_le (proved_of a r) (proved_of b anchor)) e) in
      record { least = omega (arith, ints, low, at.least); greatest = omega (arith, ints, high, at.greatest); reaches = omega (arith, ints, proved, at.reaches) }

  data_covered : (r anchor : Anchor) (k l : ℤ) (v : Value) → k ≡ l → covers_anchor a b r anchor ≡ true → ((id : ℕ) → names {D = D} (known.Data r k) id ≡ true → more id ≡ place_of places anchor) → IsHeld Member places size (known.Data anchor l) v → IsHeld Member more size (known.Data r k) v
  data_covered First r k l v same e stands h =
      let at = anchor_covered First r e h.1 in
      let zero_place : place_of places r ≡ pos 0 = between_zero (place_of places r) at.least at.greatest in
      (0, tt, h.2 ∙ ap value.Data ((λ i. zero_place i +ℤ sym same i)))
  data_covered (Variable id low high proved) r k l v same e stands h =
      let at = anchor_covered (Variable id low high proved) r e h.1 in
      let to : more id ≡ place_of places r = stands id (itself id) in
      (0, subst (IsAnchorPlace size low high proved) (sym to) at, h.2 ∙ ap value.Data ((λ i. sym to i +ℤ sym same i))) where
        itself : (n : ℕ) → (n == n) ≡ true
        itself n = search rules

  value_covered : (u o : AbstractValue D) (v : Value) → covers_value ops a b u o ≡ true → ((id : ℕ) → names u id ≡ true → more id ≡ place_in places o) → IsValue Member Loose places size o v → IsValue Member Loose more size u v
  value_covered known.Nothing o v e stands h = λ f. absurd cc
  value_covered (known.Scalar x) (known.Scalar y) v e stands h = (h.0, sound.covers x y h.0 e h.1, h.2)
  value_covered known.Ctx known.Ctx v e stands h = h
  value_covered (known.Stack k) (known.Stack l) v e stands h = (h.0, tt, h.2 ∙ ap value.Stack (sym (int_same k l e)))
  value_covered (known.Data x k) (known.Data y l) v e stands h = data_covered x y k l v (int_same k l (first_of_and (same_int k l) (covers_anchor a b x y) e)) (rest_of_and (same_int k l) (covers_anchor a b x y) e) stands h
  value_covered known.End known.End v e stands h = h
  value_covered u o v e stands h = absurd cc

-- ---- marks

covered_mark : (m x : Bool) → (not m || x) ≡ true → m ≡ true → x ≡ true
covered_mark true x e f = e
covered_mark false x e f = absurd cc

marks_at : (ms os : List Bool) (n : ℕ) → covers_marks ms os ≡ true → slice_index_or ms n false ≡ true → slice_index_or os n false ≡ true
marks_at [] os n e f = absurd cc
marks_at (m ∷ ms) [] zero e f = let no = first_of_and (not m) (covers_marks ms []) e in absurd (unset m no f) where
  unset : (m : Bool) → not m ≡ true → m ≡ true → ⊥
  unset true p q = absurd cc
  unset false p q = absurd cc
marks_at (m ∷ ms) [] (suc n) e f = let bad = marks_at ms [] n (rest_of_and (not m) (covers_marks ms []) e) f in absurd cc
marks_at (m ∷ ms) (o ∷ os) zero e f = covered_mark m o (first_of_and (not m || o) (covers_marks ms os) e) f
marks_at (m ∷ ms) (o ∷ os) (suc n) e f = marks_at ms os n (rest_of_and (not m || o) (covers_marks ms os) e) f

loose_only : (x y : Bool) → Loose ≡ Strict → x ≡ y
loose_only x y e = absurd cc

-- ---- states

-- members of the covered state are members of the one that covers it
pub member_covered : {D : Type 0} (ops : Operations D) (Member : D → ℕ → Type 0) → AreSound ops Member → (a b : AbsState D) (s : State) → length a.values ≡ 75 → length a.marks.cells ≡ 512 → covers ops a b ≡ true → IsMember Member Loose b s → IsMember Member Loose a s
member_covered ops Member sound a b s count marks_count e member =
    let values = first_of_and (covers_values ops a b a.values b.values && share_alike a.values b.values) (int_le a.proved b.proved && covers_marks a.marks.cells b.marks.cells) e in
    let others = rest_of_and (covers_values ops a b a.values b.values && share_alike a.values b.values) (int_le a.proved b.proved && covers_marks a.marks.cells b.marks.cells) e in
    let less = le_of a.proved b.proved (first_of_and (int_le a.proved b.proved) (covers_marks a.marks.cells b.marks.cells) others) in
    let marks = rest_of_and (int_le a.proved b.proved) (covers_marks a.marks.cells b.marks.cells) others in
    let m = member.at in
    let more : Places = places_for member.places a.values b.values in
    record {
      places = more;
      at = record {
        reaches = omega (arith, ints, less, m.reaches);
        known_count = count;
        marks_count = marks_count;
        registers = λ r.
            let n : ℕ = number_of r in
            let lt : n < length a.values = omega (arith, count, in_eleven r) in
            let lt' : n < length b.values = omega (arith, m.known_count, in_eleven r) in
            value_covered ops Member sound member.places more s.memory.length a b m.reaches (abstract_at a.values r) (abstract_at b.values r) (value_at s.registers r)
            (values_at ops a b a.values b.values n (first_of_and (covers_values ops a b a.values b.values) (share_alike a.values b.values) values))
            (λ id f. place_stands member.places id a.values b.values n (rest_of_and (covers_values ops a b a.values b.values) (share_alike a.values b.values) values) lt lt' f)
            (m.registers r);
        groups = λ g below.
            let n : ℕ = group_index g in
            let lt : n < length a.values = omega (arith, count, below) in
            let lt' : n < length b.values = omega (arith, m.known_count, below) in
            value_covered ops Member sound member.places more s.memory.length a b m.reaches (group_at a.values g) (group_at b.values g) (pointer_in s.memory.stack.groups g)
            (values_at ops a b a.values b.values n (first_of_and (covers_values ops a b a.values b.values) (share_alike a.values b.values) values))
            (λ id f. place_stands member.places id a.values b.values n (rest_of_and (covers_values ops a b a.values b.values) (share_alike a.values b.values) values) lt lt' f)
            (m.groups g below);
        cells = λ i lt. record { held = λ f. (m.cells i lt).held (marks_at a.marks.cells b.marks.cells i marks f); no_other = λ f. loose_only (is_some (slice_index_or s.memory.stack.cells i None)) (is_marked a.marks i) f };
        tagged = m.tagged;
      };
    }
