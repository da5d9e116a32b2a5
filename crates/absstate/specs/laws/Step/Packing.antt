-- Interface. What a part of a state shows of what it covers, and a state from the parts in which it is kept.
use Rattle.std.proofs.Common.{◌≡◌, ℕ, zero, suc, ◌+◌, ◌-◌, ◌<◌, ◌≤◌, Bool, true, false, ◌&&◌, ℤ, List, [], ◌∷◌, ◌++◌, length, take, drop, replicate, ◌⊎◌, inl, inr, refl, sym, ap, ap₂, ◌∙◌, arith, append-nil, append_assoc}
use Rattle.std.specs.Prelude.{slice_index_or, int_le}
use Rattle.std.proofs.lemmas.Bool.{both_ways, false_from_ne_true}
use Rattle.interval.specs.Domains.{Operations}
use Rattle.absstate.specs.Covers.{covers_value, covers_values, share_alike, covers_marks, covers_memory, covers}
use Rattle.std.proofs.lemmas.List.{length-take-le, take_all, take_at, drop_at, drop_all, drop-drop, length-append, length-replicate}
use Rattle.absstate.specs.AbstractStates.{no_groups}
use Rattle.absstate.specs.InitialisedWords.{words_of, are_within, marks_of}
use Rattle.absstate.specs.Packing.{are_unknown, all_groups, joined, unpacked, IsPartOf, Differs}
use Rattle.absstate.specs.laws.Step.Covering.{values_at}
use Rattle.absstate.specs.laws.Step.Words.{covered_within, marks_of_words, words_cover}
use Rattle.absstate.specs.laws.Step.MemoryValues.{first_of_and, rest_of_and, both_true}
use Rattle.absstate.specs.declared.abstract_state.AbstractValue.{AbstractValue}
use Rattle.absstate.specs.declared.abstract_state.AbstractValue.TheVariants.{Nothing, Scalar, Ctx, Stack, Data, End}
use Rattle.absstate.specs.declared.abstract_state.AbsState.{AbsState}
use Rattle.absstate.specs.declared.part.Part.TheVariants as part

-- what needs what isn't so isn't so
pub ruled_out : (test needed : Bool) → (test ≡ true → needed ≡ true) → needed ≡ false → test ≡ false
ruled_out test needed needs fails = false_from_ne_true test (λ holds. both_ways needed fails (needs holds))

-- an item of a list, whatever stands for one that isn't there
pub same_item : {A : Type 0} (i : ℕ) (xs : List A) (d e : A) → i < length xs → slice_index_or xs i d ≡ slice_index_or xs i e
same_item i [] d e lt = absurd (omega (arith, lt))
same_item zero (x ∷ xs) d e lt = refl
same_item (suc i) (x ∷ xs) d e lt = same_item i xs d e (omega (arith, lt))

-- an item after the first one
pub item_after : {A : Type 0} (i : ℕ) (xs : List A) (d : A) → slice_index_or xs (i + 1) d ≡ slice_index_or (drop 1 xs) i d
item_after i [] d = refl
item_after i (x ∷ xs) d = let next : i + 1 ≡ suc i = omega arith in ap (λ (k : ℕ). slice_index_or (x ∷ xs) k d) next

-- ---- the values of a state that covers another one

module _ {D : Type 0} (ops : Operations D) (a b : AbsState D) where
  -- the first values, and those after them
  pub covered_front : (n : ℕ) (vs us : List (AbstractValue D)) → covers_values ops a b vs us ≡ true → covers_values ops a b (take n vs) (take n us) ≡ true
  covered_front zero vs us e = refl
  covered_front (suc n) [] us e = refl
  covered_front (suc n) (v ∷ vs) [] e = absurd cc
  covered_front (suc n) (v ∷ vs) (u ∷ us) e =
      both_true (covers_value ops a b v u) (covers_values ops a b (take n vs) (take n us)) (first_of_and (covers_value ops a b v u) (covers_values ops a b vs us) e)
      (covered_front n vs us (rest_of_and (covers_value ops a b v u) (covers_values ops a b vs us) e))

  pub covered_rest : (n : ℕ) (vs us : List (AbstractValue D)) → covers_values ops a b vs us ≡ true → covers_values ops a b (drop n vs) (drop n us) ≡ true
  covered_rest zero vs us e = e
  covered_rest (suc n) [] us e = refl
  covered_rest (suc n) (v ∷ vs) [] e = absurd cc
  covered_rest (suc n) (v ∷ vs) (u ∷ us) e = covered_rest n vs us (rest_of_and (covers_value ops a b v u) (covers_values ops a b vs us) e)

  -- ---- the parts of a state that covers another one

  abbrev values_covered : Bool
  values_covered = covers_values ops a b a.values b.values

  abbrev shared_alike : Bool
  shared_alike = share_alike a.values b.values

  pub values_of : covers ops a b ≡ true → covers_values ops a b a.values b.values ≡ true
  values_of e = first_of_and values_covered shared_alike (first_of_and (values_covered && shared_alike) (covers_memory a b) e)

  pub shares_of : covers ops a b ≡ true → share_alike a.values b.values ≡ true
  shares_of e = rest_of_and values_covered shared_alike (first_of_and (values_covered && shared_alike) (covers_memory a b) e)

  pub proved_of_covered : covers ops a b ≡ true → int_le a.proved b.proved ≡ true
  proved_of_covered e = first_of_and (int_le a.proved b.proved) (covers_marks a.marks.cells b.marks.cells) (rest_of_and (values_covered && shared_alike) (covers_memory a b) e)

  pub all_covered : covers_values ops a b a.values b.values ≡ true → share_alike a.values b.values ≡ true → int_le a.proved b.proved ≡ true → covers_marks a.marks.cells b.marks.cells ≡ true → covers ops a b ≡ true
  all_covered values shares proved marks =
      both_true (values_covered && shared_alike) (covers_memory a b) (both_true values_covered shared_alike values shares) (both_true (int_le a.proved b.proved) (covers_marks a.marks.cells b.marks.cells) proved marks)

-- ---- groups of which none is known

pub unknown_values : {D : Type 0} (values : List (AbstractValue D)) → are_unknown values ≡ true → values ≡ replicate (length values) Nothing
unknown_values [] e = refl
unknown_values (Nothing ∷ values) e = ap (λ (rest : List (AbstractValue _)). Nothing ∷ rest) (unknown_values values e)
unknown_values (Scalar x ∷ values) e = absurd cc
unknown_values (Ctx ∷ values) e = absurd cc
unknown_values (Stack k ∷ values) e = absurd cc
unknown_values (Data x k ∷ values) e = absurd cc
unknown_values (End ∷ values) e = absurd cc

groups_unknown : {D : Type 0} (values : List (AbstractValue D)) → length values ≡ 64 → are_unknown values ≡ true → all_groups [] ≡ values
unfolding no_groups
groups_unknown values count e = ap (λ (n : ℕ). replicate n Nothing) (sym count) ∙ sym (unknown_values values e)

groups_listed : {D : Type 0} (values : List (AbstractValue D)) → length values ≡ 64 → all_groups values ≡ values
unfolding no_groups
groups_listed {D} values count =
    ap (λ (rest : List (AbstractValue D)). values ++ rest) (drop_all (length values) (replicate 64 Nothing) (omega (arith, count, length-replicate {A = AbstractValue D} 64 Nothing))) ∙ append-nil values

-- the groups of a state are those that are kept
pub groups_kept : {D : Type 0} (kept values : List (AbstractValue D)) → length values ≡ 64 → ((kept ≡ []) × (are_unknown values ≡ true)) ⊎ (kept ≡ values) → (all_groups kept ≡ values) × (length kept ≤ 64)
groups_kept kept values count (inl unknown) = (ap all_groups unknown.0 ∙ groups_unknown values count unknown.1, omega (arith, ap (λ (xs : List (AbstractValue _)). length xs) unknown.0))
groups_kept kept values count (inr same) = (ap all_groups same ∙ groups_listed values count, omega (arith, ap (λ (xs : List (AbstractValue _)). length xs) same, count))

-- a state is that of its parts
pub whole_state : {D : Type 0} (a : AbsState D) (registers groups kept : List (AbstractValue D)) (words : List ℕ) → a.values ≡ registers ++ groups → all_groups kept ≡ groups → words ≡ words_of a.marks.cells → length a.marks.cells ≡ 512 → unpacked registers kept words a.proved ≡ a
whole_state a registers groups kept words values same is count =
    let marks : marks_of words ≡ a.marks.cells = ap marks_of is ∙ marks_of_words a.marks.cells count in
    ap (λ (xs : List (AbstractValue _)). record { values = registers ++ xs; marks = record { cells = marks_of words }; proved = a.proved }) same
    ∙ ap (λ (xs : List (AbstractValue _)). record { values = xs; marks = record { cells = marks_of words }; proved = a.proved }) (sym values) ∙ ap (λ (cells : List Bool). record { values = a.values; marks = record { cells = cells }; proved = a.proved }) marks

pub words_kept : (words : List ℕ) (cells : List Bool) → words ≡ words_of cells → length cells ≡ 512 → (words_of (marks_of words) ≡ words) × (length (marks_of words) ≡ 512)
words_kept words cells is count =
    let marks : marks_of words ≡ cells = ap marks_of is ∙ marks_of_words cells count in
    (ap words_of marks ∙ sym is, ap (λ (xs : List Bool). length xs) marks ∙ count)

-- registers, and then what is known of groups, written over nothing
pub laid_out : {D : Type 0} (registers groups first all : List (AbstractValue D)) → length registers ≡ 11 → length groups ≤ 64 → first ≡ take 0 (replicate 75 Nothing) ++ registers ++ drop (0 + length registers) (replicate 75 Nothing) → all ≡ take 11 first ++ groups ++ drop (11 + length groups) first → all ≡ registers ++ all_groups groups
unfolding no_groups
laid_out {D} registers groups first all count few is last =
    let sum : 0 + length registers ≡ 11 = omega (arith, count) in
    let nothings : first ≡ registers ++ replicate 64 Nothing = is ∙ ap (λ (n : ℕ). registers ++ drop n (replicate 75 Nothing)) sum in
    let front : take 11 first ≡ registers = ap (take 11) nothings ∙ take_at registers (replicate 64 Nothing) 11 count in
    let back : drop (11 + length groups) first ≡ drop (length groups) (replicate 64 Nothing) =
    ap (drop (11 + length groups)) nothings ∙ sym (drop-drop (length groups) 11 (registers ++ replicate 64 Nothing)) ∙ ap (drop (length groups)) (drop_at registers (replicate 64 Nothing) 11 count) in
    last ∙ ap (λ (xs : List (AbstractValue D)). xs ++ groups ++ drop (11 + length groups) first) front ∙ ap (λ (xs : List (AbstractValue D)). registers ++ groups ++ xs) back
    ∙ append_assoc registers groups (drop (length groups) (replicate 64 Nothing))

-- ---- chunks

-- the first chunk, and those after it
pub joined_first : {D : Type 0} (chunks : List (List (AbstractValue D))) (first : List (AbstractValue D)) → 1 ≤ length chunks → first ≡ slice_index_or chunks 0 first → joined chunks ≡ first ++ joined (take (length chunks - 1) (drop 1 chunks))
joined_first [] first some is = absurd (omega (arith, some))
joined_first {D} (chunk ∷ chunks) first some is =
    ap₂ (λ (xs : List (AbstractValue D)) (ys : List (List (AbstractValue D))). xs ++ joined ys) (sym is) (sym (take_all (length (chunk ∷ chunks) - 1) chunks (omega arith)))

-- values written from an index on, and others after them
pub written_after : {A : Type 0} (at : ℕ) (part others values written : List A) → at ≤ length values → written ≡ take at values ++ part ++ drop (at + length part) values
    → take (at + length part) written ++ others ++ drop (at + length part + length others) written ≡ take at values ++ (part ++ others) ++ drop (at + length (part ++ others)) values
written_after {A} at part others values written inside is =
    let front = take at values ++ part in
    let rest = drop (at + length part) values in
    let long : length (take at values ++ part) ≡ at + length part = length-append (take at values) part ∙ ap (λ (n : ℕ). n + length part) (length-take-le at values inside) in
    let first : take (at + length part) written ≡ front = ap (take (at + length part)) is ∙ take_at front rest (at + length part) long in
    let after : drop (at + length part) written ≡ rest = ap (drop (at + length part)) is ∙ drop_at front rest (at + length part) long in
    let sum : at + length part + length others ≡ at + length (part ++ others) = omega (arith, length-append part others) in
    let last : drop (at + length part + length others) written ≡ drop (at + length (part ++ others)) values =
    sym (drop-drop (length others) (at + length part) written) ∙ ap (drop (length others)) after ∙ drop-drop (length others) (at + length part) values ∙ ap (λ (n : ℕ). drop n values) sum in
    ap₂ (λ (xs ys : List A). xs ++ others ++ ys) first last ∙ ap (λ (xs : List A). xs ++ drop (at + length (part ++ others)) values) (append_assoc (take at values) part others)

-- ---- a kept state beside another one

module _ {D : Type 0} (ops : Operations D) (a b : AbsState D) where
  pub proved_differs : (proved : ℤ) → a.proved ≡ proved → int_le a.proved b.proved ≡ false → Differs ops a b (part.Proved proved)
  proved_differs proved is more = record { uncovered = ruled_out (covers ops a b) (int_le a.proved b.proved) (proved_of_covered ops a b) more; is_part = is }

  pub sharing_differs : (i j : ℕ) → IsPartOf a (part.Linked i j) → share_alike a.values b.values ≡ false → Differs ops a b (part.Linked i j)
  sharing_differs i j linked apart = record { uncovered = ruled_out (covers ops a b) (share_alike a.values b.values) (shares_of ops a b) apart; is_part = linked }

  pub value_differs : (i : ℕ) (v : AbstractValue D) (proved : ℤ) → slice_index_or a.values i Nothing ≡ v → a.proved ≡ proved → covers_value ops a b v (slice_index_or b.values i Nothing) ≡ false → Differs ops a b (part.Value i v proved)
  value_differs i v proved at is outside = record {
    uncovered = ruled_out (covers ops a b) (covers_value ops a b v (slice_index_or b.values i Nothing))
        (λ covered. ap (λ (x : AbstractValue D). covers_value ops a b x (slice_index_or b.values i Nothing)) (sym at) ∙ values_at ops a b a.values b.values i (values_of ops a b covered)) outside;
    is_part = (at, is);
  }

module _ {D : Type 0} (ops : Operations D) (registers groups : List (AbstractValue D)) (words : List ℕ) (proved : ℤ) (a b : AbsState D) (is : unpacked registers groups words proved ≡ a) where
  words_are : words_of (marks_of words) ≡ words → words_of a.marks.cells ≡ words
  words_are kept = ap (λ (s : AbsState D). words_of s.marks.cells) (sym is) ∙ kept

  pub word_differs : words_of (marks_of words) ≡ words → (others : List ℕ) (i : ℕ) → others ≡ words_of b.marks.cells → are_within words others ≡ false → Differs ops a b (part.Word i (slice_index_or words i 0))
  word_differs kept others i same outside = record {
    uncovered = ruled_out (covers ops a b) (are_within words others)
        (λ covered. ap (λ (xs : List ℕ). are_within xs others) (sym (words_are kept)) ∙ ap (are_within (words_of a.marks.cells)) same ∙ covered_within ops a b covered) outside;
    is_part = ap (λ (xs : List ℕ). slice_index_or xs i 0) (words_are kept);
  }

  pub covers_all : words_of (marks_of words) ≡ words → (others : List ℕ) → others ≡ words_of b.marks.cells → length (marks_of words) ≡ 512 → length b.marks.cells ≡ 512 → are_within words others ≡ true → int_le a.proved b.proved ≡ true
      → covers_values ops a b a.values b.values ≡ true → share_alike a.values b.values ≡ true → covers ops a b ≡ true
  covers_all kept others same long cells within proved values shares =
      let mine : length a.marks.cells ≡ 512 = ap (λ (s : AbsState D). length s.marks.cells) (sym is) ∙ long in
      all_covered ops a b values shares proved
      (words_cover a.marks.cells b.marks.cells mine cells (ap (λ (xs : List ℕ). are_within xs (words_of b.marks.cells)) (words_are kept) ∙ ap (are_within words) (sym same) ∙ within))
