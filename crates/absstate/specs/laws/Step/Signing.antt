-- Interface. Where one state covers another, its signature is within the other's.
use Rattle.std.proofs.Common.{◌≡◌, ℕ, suc, pos, ◌+◌, ◌*◌, ◌/◌, ◌-◌, ◌≤◌, ◌%◌, ◌^◌, ⊎_elim, Bool, true, false, ℤ, List, [], ◌∷◌, take, drop, length, refl, sym, ap, ap₂, ◌∙◌, subst, arith, bit_and, lt-ltb, le-leb, eq-eqb}
use Rattle.std.specs.Prelude.{◌==◌, ◌||◌, nat_lt, nat_le, int_le, if◌then◌else◌}
use Rattle.std.specs.Int.{w32, w64, rotate_left, cast_unsigned}
use Rattle.std.specs.Int.Bits.{and_self}
use Rattle.std.proofs.lemmas.Int.{ints}
use Rattle.std.proofs.lemmas.Nat.{and_shr}
use Rattle.std.proofs.lemmas.Bool.{eqb-true, cases_lt, or_left, or_right}
use Rattle.interval.specs.Domains.{Operations, AreSound, LieBetween}
use Rattle.interval.specs.declared.domain.Bounds.{Bounds}
use Rattle.absstate.specs.Covers.{covers_places, proves_less, covers_anchor, covers_value, covers_values, same_int, covers}
use Rattle.absstate.specs.InitialisedWords.{words_of, are_within}
use Rattle.absstate.specs.Signatures.{hashed_bit, number_bit, proved_bit, value_bit, value_bits, marked_with, mark_bits, value_margins, added_margins, margins_of, hashed_pair, value_hash, values_hash, lie_within, state_signature, word_within, marks_within, above_of, margins_within, lies_within}
use Rattle.absstate.specs.AbstractStates.{proved_from}
use Rattle.absstate.specs.laws.Step.Covering.{int_same}
use Rattle.absstate.specs.laws.Step.Links.{links_within, linked_alike}
use Rattle.absstate.specs.laws.Step.MemoryValues.{first_of_and, rest_of_and, both_true}
use Rattle.absstate.specs.laws.Step.Packing.{covered_front, covered_rest, values_of}
use Rattle.absstate.specs.laws.Step.Words.{IsWithin, within_times, within_mod, within_and, within_or, nothing_within, same_number, covered_within}
use Rattle.absstate.specs.declared.abstract_state.Anchor.{Anchor}
use Rattle.absstate.specs.declared.abstract_state.AbstractValue.{AbstractValue}
use Rattle.absstate.specs.declared.abstract_state.AbstractValue.TheVariants.{Nothing, Scalar, Ctx, Stack, Data, End}
use Rattle.absstate.specs.declared.abstract_state.AbsState.{AbsState}
use Rattle.absstate.specs.declared.abstract_state.TheConstants.{REGISTERS}
use Rattle.absstate.specs.declared.margins.Margins.{Margins}
use Rattle.absstate.specs.declared.signature.MarkBits.{MarkBits}
use Rattle.absstate.specs.declared.signature.StateSignature.{StateSignature}

-- ---- marks

within_shr : (a b k : ℕ) → IsWithin a b → IsWithin (a / 2 ^ k) (b / 2 ^ k)
within_shr a b k h = sym (and_shr a b k) ∙ ap (λ (x : ℕ). x / 2 ^ k) h

within_rotated : (a b k : ℕ) → IsWithin a b → IsWithin (rotate_left w64 a k) (rotate_left w64 b k)
within_rotated a b k h =
    within_or (a * 2 ^ (k % 64) % 2 ^ 64) (b * 2 ^ (k % 64) % 2 ^ 64) (a / 2 ^ ((64 - k % 64) % 64)) (b / 2 ^ ((64 - k % 64) % 64))
    (within_mod (a * 2 ^ (k % 64)) (b * 2 ^ (k % 64)) 64 (within_times a b (k % 64) h)) (within_shr a b ((64 - k % 64) % 64) h)

-- each bit for marks is one of others
record AreBitsWithin (m n : MarkBits) : Type 0 where
  pub any : IsWithin m.any n.any
  pub two : IsWithin m.two n.two

marked_within : (w v : ℕ) (m n : MarkBits) → IsWithin w v → AreBitsWithin m n → AreBitsWithin (marked_with w m) (marked_with v n)
marked_within w v m n word bits = record {
  any = within_or w v m.any n.any word bits.any;
  two = within_or (bit_and w m.any) (bit_and v n.any) m.two n.two (within_and w v m.any n.any word bits.any) bits.two;
}

covered_marks : (index : ℕ) (words others : List ℕ) → length words ≡ length others → are_within words others ≡ true → AreBitsWithin (mark_bits index words) (mark_bits index others)
covered_marks index [] others same e = record { any = nothing_within (mark_bits index others).any; two = nothing_within (mark_bits index others).two }
covered_marks index (w ∷ words) [] same e = absurd (omega (arith, same))
covered_marks index (w ∷ words) (o ∷ others) same e =
    marked_within (rotate_left w64 w (9 * index)) (rotate_left w64 o (9 * index)) (mark_bits (suc index) words) (mark_bits (suc index) others)
    (within_rotated w o (9 * index) (eqb-true (bit_and w o) w (first_of_and (bit_and w o == w) (are_within words others) e)))
    (covered_marks (suc index) words others (omega (arith, same)) (rest_of_and (bit_and w o == w) (are_within words others) e))

-- ---- values

same_within : (a b : ℕ) → a ≡ b → IsWithin a b
same_within a b e = ap (bit_and a) (sym e) ∙ and_self a

-- the bit of a number that is known exactly is that of each number it covers
number_within : (index : ℕ) (x y : Bounds) → (x.lo ≡ x.hi → y ≡ x) → IsWithin (number_bit index x) (number_bit index y)
number_within index x y same = by (x.lo == x.hi) refl where
  by : (test : Bool) → (x.lo == x.hi) ≡ test → IsWithin (if test then hashed_bit index 0 x.lo else 0) (number_bit index y)
  by false e = nothing_within (number_bit index y)
  by true e =
      let is : y ≡ x = same (eqb-true x.lo x.hi e) in
      same_within (hashed_bit index 0 x.lo) (number_bit index y) (sym (ap (λ (test : Bool). if test then hashed_bit index 0 x.lo else 0) e) ∙ ap (number_bit index) (sym is))

-- what is proved past a place is proved where more is
no_less : (p q : ℤ) → int_le p q ≡ true → int_le q (pos 0) ≡ true → int_le p (pos 0) ≡ true
no_less p q less none = grind (arith, ints)

proved_within : (index : ℕ) (p q : ℤ) → int_le p q ≡ true → IsWithin (proved_bit index p) (proved_bit index q)
proved_within index p q less = by (int_le p (pos 0)) (int_le q (pos 0)) refl refl where
  by : (none none_other : Bool) → int_le p (pos 0) ≡ none → int_le q (pos 0) ≡ none_other → IsWithin (proved_bit index p) (proved_bit index q)
  by true none_other e f = subst (λ (test : Bool). IsWithin (if test then 0 else hashed_bit index 5 0) (proved_bit index q)) (sym e) (nothing_within (proved_bit index q))
  by false false e f = same_within (proved_bit index p) (proved_bit index q) (ap (λ (test : Bool). if test then 0 else hashed_bit index 5 0) (e ∙ sym f))
  by false true e f = let bad : true ≡ false = sym (no_less p q less f) ∙ e in absurd cc

-- bounds that lie between bounds of one word are the same
same_as_one : (x y : Bounds) → LieBetween x y → x.lo ≡ x.hi → y ≡ x
same_as_one x y between one =
    let lo : y.lo ≡ x.lo = omega (arith, between.0, between.1, between.2, one) in
    let hi : y.hi ≡ x.hi = omega (arith, between.0, between.1, between.2, one) in
    ap₂ (λ (m n : ℕ). record { lo = m; hi = n }) lo hi

-- ---- margins

-- as much is left out by others, or more, and where it is as much, the hashes are the same
record AreRanked (m : Margins) (hash : ℕ) (n : Margins) (other : ℕ) : Type 0 where
  pub first : m.below ≤ m.total
  pub second : n.below ≤ n.total
  pub below : m.below ≤ n.below
  pub above : above_of m ≤ above_of n
  pub same : m.below ≡ n.below → m.total ≡ n.total → hash ≡ other

-- what bounds leave out
abbrev margins_between : Bounds → Margins
margins_between x = record { below = x.lo; total = x.lo + (2 ^ 64 - 1 - x.hi) }

-- and its hash
abbrev bounds_hash : Bounds → ℕ
bounds_hash x = hashed_pair x.lo (2 ^ 64 - 1 - x.hi)

number_ranked : (x y : Bounds) → LieBetween x y → AreRanked (margins_between x) (bounds_hash x) (margins_between y) (bounds_hash y)
number_ranked x y between = record {
  first = omega arith;
  second = omega arith;
  below = between.0;
  above = omega (arith, between.2);
  same = λ below total.
      let above : 2 ^ 64 - 1 - x.hi ≡ 2 ^ 64 - 1 - y.hi = omega (arith, below, total) in
      ap₂ hashed_pair below above;
}

-- a pointer leaves out all words
abbrev every_word : Margins
every_word = record { below = 2 ^ 64; total = 2 * 2 ^ 64 }

known_ranked : (hash other : ℕ) → hash ≡ other → AreRanked every_word hash every_word other
known_ranked hash other e = record { first = omega arith; second = omega arith; below = omega arith; above = omega arith; same = λ below total. e }

-- nothing leaves out less than any values, whose hash is 0 where they leave out nothing
nothing_ranked : (n : Margins) (hash : ℕ) → n.below ≤ n.total → (n.total ≡ 0 → hash ≡ 0) → AreRanked (record { below = 0; total = 0 }) 0 n hash
nothing_ranked n hash small none = record { first = omega arith; second = small; below = omega arith; above = omega arith; same = λ below total. sym (none (sym total)) }

module _ {D : Type 0} (ops : Operations D) where
  below_total : (v : AbstractValue D) → (value_margins ops v).below ≤ (value_margins ops v).total
  below_total Nothing = omega arith
  below_total (Scalar x) = omega arith
  below_total Ctx = omega arith
  below_total (Stack k) = omega arith
  below_total (Data anchor k) = omega arith
  below_total End = omega arith

  all_below_total : (values : List (AbstractValue D)) → (margins_of ops values).below ≤ (margins_of ops values).total
  all_below_total [] = omega arith
  all_below_total (v ∷ values) = omega (arith, below_total v, all_below_total values)

  without_hash : (v : AbstractValue D) → (value_margins ops v).total ≡ 0 → value_hash ops v ≡ 0
  without_hash Nothing none = refl
  without_hash (Scalar x) none =
      let below : (ops.bounds x).lo ≡ 0 = omega (arith, none) in
      let above : 2 ^ 64 - 1 - (ops.bounds x).hi ≡ 0 = omega (arith, none) in
      ap₂ hashed_pair below above
  without_hash Ctx none = omega (arith, none)
  without_hash (Stack k) none = omega (arith, none)
  without_hash (Data anchor k) none = omega (arith, none)
  without_hash End none = omega (arith, none)

  all_without_hash : (values : List (AbstractValue D)) → (margins_of ops values).total ≡ 0 → values_hash ops values ≡ 0
  all_without_hash [] none = refl
  all_without_hash (v ∷ values) none =
      let first : value_hash ops v ≡ 0 = without_hash v (omega (arith, none)) in
      let rest : values_hash ops values ≡ 0 = all_without_hash values (omega (arith, none)) in
      ap₂ (λ (m n : ℕ). (m + n * 11400714819323198485 % 2 ^ 64) % 2 ^ 64) first rest

both_ranked : (m n m' n' : Margins) (hash other rest rest' : ℕ) → AreRanked m hash n other → AreRanked m' rest n' rest'
    → AreRanked (added_margins m m') ((hash + rest * 11400714819323198485 % 2 ^ 64) % 2 ^ 64) (added_margins n n') ((other + rest' * 11400714819323198485 % 2 ^ 64) % 2 ^ 64)
both_ranked m n m' n' hash other rest rest' one more = record {
  first = omega (arith, one.first, more.first);
  second = omega (arith, one.second, more.second);
  below = omega (arith, one.below, more.below);
  above = omega (arith, one.above, more.above, one.first, one.second, more.first, more.second);
  same = λ below total. ap₂ (λ (i j : ℕ). (i + j * 11400714819323198485 % 2 ^ 64) % 2 ^ 64)
      (one.same (omega (arith, below, one.below, more.below))
      (omega (arith, below, total, one.below, more.below, one.above, more.above, one.first, one.second, more.first, more.second)))
      (more.same (omega (arith, below, one.below, more.below))
      (omega (arith, below, total, one.below, more.below, one.above, more.above, one.first, one.second, more.first, more.second)));
}

-- ---- a signature is within another one by its parts

ranked_test : (m n : Margins) (hash other : ℕ) → AreRanked m hash n other → ((hash == other) || nat_lt m.total n.total) ≡ true
ranked_test m n hash other ranked =
    ⊎_elim (λ less. or_right (hash == other) (nat_lt m.total n.total) (lt-ltb m.total n.total less))
    (λ not_less. or_left (hash == other) (nat_lt m.total n.total)
    (eq-eqb hash other (ranked.same (omega (arith, not_less, ranked.first, ranked.second, ranked.below, ranked.above))
    (omega (arith, not_less, ranked.first, ranked.second, ranked.below, ranked.above)))))
    (cases_lt m.total n.total)

module _ (s t : StateSignature) where
  abbrev ranked_alike : Bool
  ranked_alike = (s.values == t.values) || nat_lt s.margins.total t.margins.total

  within_by_parts : IsWithin s.registers t.registers → IsWithin s.groups t.groups → AreBitsWithin s.marks t.marks → AreRanked s.margins s.values t.margins t.values
      → lie_within s.links t.links ≡ true → lies_within s t ≡ true
  within_by_parts registers groups marks ranked links =
      both_true (word_within s.registers t.registers) _ (same_number (bit_and s.registers t.registers) s.registers registers)
      (both_true (word_within s.groups t.groups) _ (same_number (bit_and s.groups t.groups) s.groups groups)
      (both_true (margins_within s.margins t.margins) _
      (both_true (nat_le s.margins.below t.margins.below) (nat_le (above_of s.margins) (above_of t.margins))
      (le-leb s.margins.below t.margins.below ranked.below) (le-leb (above_of s.margins) (above_of t.margins) ranked.above))
      (both_true ranked_alike _ (ranked_test s.margins t.margins s.values t.values ranked)
      (both_true (marks_within s.marks t.marks) (lie_within s.links t.links)
      (both_true (word_within s.marks.any t.marks.any) (word_within s.marks.two t.marks.two)
      (same_number (bit_and s.marks.any t.marks.any) s.marks.any marks.any) (same_number (bit_and s.marks.two t.marks.two) s.marks.two marks.two))
      links))))

module _ {D : Type 0} (ops : Operations D) (Member : D → ℕ → Type 0) (sound : AreSound ops Member) (a b : AbsState D) where
  places_within : (index : ℕ) (x y : Anchor) (k l : ℤ) → covers_value ops a b (Data x k) (Data y l) ≡ true → IsWithin (value_bit ops index a.proved (Data x k)) (value_bit ops index b.proved (Data y l))
  places_within index x y k l e =
      let place : ℤ → ℕ = λ n. hashed_bit index 3 (cast_unsigned w32 n) in
      within_or (place k) (place l) (proved_bit index (proved_from x a.proved)) (proved_bit index (proved_from y b.proved))
      (same_within (place k) (place l) (ap place (int_same k l (first_of_and (same_int k l) (covers_anchor a b x y) e))))
      (proved_within index (proved_from x a.proved) (proved_from y b.proved) (rest_of_and (covers_places x y) (proves_less a b x y) (rest_of_and (same_int k l) (covers_anchor a b x y) e)))

  value_within : (index : ℕ) (v u : AbstractValue D) → covers_value ops a b v u ≡ true → IsWithin (value_bit ops index a.proved v) (value_bit ops index b.proved u)
  value_within index Nothing u e = nothing_within (value_bit ops index b.proved u)
  value_within index (Scalar x) (Scalar y) e = number_within index (ops.bounds x) (ops.bounds y) (same_as_one (ops.bounds x) (ops.bounds y) (sound.covered_between x y e))
  value_within index Ctx Ctx e = same_within (hashed_bit index 1 0) (hashed_bit index 1 0) refl
  value_within index (Stack k) (Stack l) e = let place : ℤ → ℕ = λ n. hashed_bit index 2 (cast_unsigned w32 n) in same_within (place k) (place l) (ap place (int_same k l e))
  value_within index (Data x k) (Data y l) e = places_within index x y k l e
  value_within index End End e = same_within (hashed_bit index 4 0) (hashed_bit index 4 0) refl
  value_within index v u e = absurd cc

  values_within : (index : ℕ) (vs us : List (AbstractValue D)) → covers_values ops a b vs us ≡ true → IsWithin (value_bits ops index a.proved vs) (value_bits ops index b.proved us)
  values_within index [] us e = nothing_within (value_bits ops index b.proved us)
  values_within index (v ∷ vs) [] e = absurd cc
  values_within index (v ∷ vs) (u ∷ us) e =
      within_or (value_bit ops index a.proved v) (value_bit ops index b.proved u) (value_bits ops (suc index) a.proved vs) (value_bits ops (suc index) b.proved us)
      (value_within index v u (first_of_and (covers_value ops a b v u) (covers_values ops a b vs us) e))
      (values_within (suc index) vs us (rest_of_and (covers_value ops a b v u) (covers_values ops a b vs us) e))

  value_ranked : (v u : AbstractValue D) → covers_value ops a b v u ≡ true → AreRanked (value_margins ops v) (value_hash ops v) (value_margins ops u) (value_hash ops u)
  value_ranked Nothing u e = nothing_ranked (value_margins ops u) (value_hash ops u) (below_total ops u) (without_hash ops u)
  value_ranked (Scalar x) (Scalar y) e = number_ranked (ops.bounds x) (ops.bounds y) (sound.covered_between x y e)
  value_ranked Ctx Ctx e = known_ranked (hashed_pair 1 0) (hashed_pair 1 0) refl
  value_ranked (Stack k) (Stack l) e = let hash : ℤ → ℕ = λ n. hashed_pair 2 (cast_unsigned w32 n) in known_ranked (hash k) (hash l) (ap hash (int_same k l e))
  value_ranked (Data x k) (Data y l) e =
      let hash : ℤ → ℕ = λ n. hashed_pair 3 (cast_unsigned w32 n) in
      known_ranked (hash k) (hash l) (ap hash (int_same k l (first_of_and (same_int k l) (covers_anchor a b x y) e)))
  value_ranked End End e = known_ranked (hashed_pair 4 0) (hashed_pair 4 0) refl
  value_ranked v u e = absurd cc

  values_ranked : (vs us : List (AbstractValue D)) → covers_values ops a b vs us ≡ true → AreRanked (margins_of ops vs) (values_hash ops vs) (margins_of ops us) (values_hash ops us)
  values_ranked [] us e = nothing_ranked (margins_of ops us) (values_hash ops us) (all_below_total ops us) (all_without_hash ops us)
  values_ranked (v ∷ vs) [] e = absurd cc
  values_ranked (v ∷ vs) (u ∷ us) e =
      both_ranked (value_margins ops v) (value_margins ops u) (margins_of ops vs) (margins_of ops us) (value_hash ops v) (value_hash ops u) (values_hash ops vs) (values_hash ops us)
      (value_ranked v u (first_of_and (covers_value ops a b v u) (covers_values ops a b vs us) e))
      (values_ranked vs us (rest_of_and (covers_value ops a b v u) (covers_values ops a b vs us) e))

  -- where one state covers another, its signature is within the other's
  pub covered_signature : covers ops a b ≡ true → lies_within (state_signature ops a) (state_signature ops b) ≡ true
  covered_signature e =
      let values = values_of ops a b e in
      within_by_parts (state_signature ops a) (state_signature ops b)
      (values_within 0 (take REGISTERS a.values) (take REGISTERS b.values) (covered_front ops a b REGISTERS a.values b.values values))
      (values_within REGISTERS (drop REGISTERS a.values) (drop REGISTERS b.values) (covered_rest ops a b REGISTERS a.values b.values values))
      (covered_marks 0 (words_of a.marks.cells) (words_of b.marks.cells) refl (covered_within ops a b e))
      (values_ranked a.values b.values values) (links_within a.values b.values (linked_alike ops a b e))
