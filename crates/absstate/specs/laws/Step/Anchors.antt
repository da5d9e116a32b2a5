-- Internal. Laws of anchors: the numbers of those that registers name, their places after a sum, and what is proved of
-- them.
use Rattle.std.proofs.Common.{◌≡◌, ℕ, zero, suc, ◌<◌, ◌≤◌, ◌^◌, ◌-◌, Bool, true, false, not, ◌&&◌, ℤ, pos, negsuc, ◌+ℤ◌, ◌-ℤ◌, ◌≤ℤ◌, ◌<ℤ◌, List, [], ◌∷◌, refl, sym, ap, subst, arith, rules, inl, inr}
use Rattle.std.specs.Prelude.{int_le, int_lt, slice_index_or, ◌==◌, if◌then◌else◌}
use Rattle.std.specs.Int.{w64, cast_signed}
use Rattle.std.proofs.lemmas.Bool.{cases_lt}
use Rattle.std.proofs.lemmas.Int.{ints, to_z_pos}
use mir.Val.{sel}
use lib.Dec.{T, ltb}
use lib.Arith.{le→nltb}
use Rattle.absstate.specs.AbstractStates.{id_of, greatest_id, proved_up_to}
use Rattle.absstate.specs.AbstractSteps.{proved_within}
use Rattle.absstate.specs.Membership.{Places, IsAnchorPlace}
use Rattle.absstate.specs.declared.abstract_state.AbstractValue.{AbstractValue}
use Rattle.absstate.specs.declared.abstract_state.AbstractValue.TheVariants.{Nothing, Data}
use Rattle.absstate.specs.declared.abstract_state.Anchor.TheVariants.{Variable}
use Rattle.absstate.specs.laws.Step.Bounds.{lt_of, not_lt}

-- ---- numbers of anchors

-- the number of an anchor that a register names is at most the greatest
pub id_at_most : {D : Type 0} (registers : List (AbstractValue D)) (n : ℕ) → id_of (slice_index_or registers n Nothing) ≤ greatest_id registers
id_at_most [] n = omega arith
id_at_most (v ∷ vs) zero = omega arith
id_at_most (v ∷ vs) (suc n) = let rest = id_at_most vs n in omega (arith, rest)

-- ---- how far pointers at variable anchors reach

-- a value that names a variable anchor
abbrev pub IsVariable : {D : Type 0} → AbstractValue D → Type 0
IsVariable (Data (Variable id low high proved) k) = Unit {0}
IsVariable _ = ⊥

-- a datagram of that length extends past every place of the pointer, where its anchor was made
abbrev pub reach_at : {D : Type 0} → AbstractValue D → ℤ
reach_at (Data (Variable id low high proved) k) = (high +ℤ k) +ℤ pos 1
reach_at _ = pos 0

abbrev pub greater_number : ℤ → ℤ → ℤ
greater_number x y = if int_lt x y then y else x

pub greater_left : (x y : ℤ) → x ≤ℤ greater_number x y
greater_left x y = by (int_lt x y) refl where
  by : (b : Bool) → int_lt x y ≡ b → x ≤ℤ (if b then y else x)
  by true e = let lt : x <ℤ y = lt_of x y e in omega (arith, ints)
  by false e = omega (arith, ints)

pub greater_right : (x y : ℤ) → y ≤ℤ greater_number x y
greater_right x y = by (int_lt x y) refl where
  by : (b : Bool) → int_lt x y ≡ b → y ≤ℤ (if b then y else x)
  by true e = omega (arith, ints)
  by false e = let le : y ≤ℤ x = not_lt x y e in omega (arith, ints)

pub greater_least : (x y z : ℤ) → x ≤ℤ z → y ≤ℤ z → greater_number x y ≤ℤ z
greater_least x y z e q = by (int_lt x y) where
  by : (b : Bool) → (if b then y else x) ≤ℤ z
  by true = q
  by false = e

abbrev pub reach_of : {D : Type 0} → List (AbstractValue D) → ℤ
reach_of [] = pos 0
reach_of (v ∷ vs) = greater_number (reach_of vs) (reach_at v)

pub reach_positive : {D : Type 0} (registers : List (AbstractValue D)) → pos 0 ≤ℤ reach_of registers
reach_positive [] = omega (arith, ints)
reach_positive (v ∷ vs) = let rest = reach_positive vs in let more = greater_left (reach_of vs) (reach_at v) in omega (arith, ints, rest, more)

pub reach_at_most : {D : Type 0} (registers : List (AbstractValue D)) (n : ℕ) → reach_at (slice_index_or registers n Nothing) ≤ℤ reach_of registers
reach_at_most [] n = omega (arith, ints)
reach_at_most (v ∷ vs) zero = greater_right (reach_of vs) (reach_at v)
reach_at_most (v ∷ vs) (suc n) = let rest = reach_at_most vs n in let more = greater_left (reach_of vs) (reach_at v) in omega (arith, ints, rest, more)

-- no register names a variable anchor
abbrev pub NameNoVariableAnchor : {D : Type 0} → List (AbstractValue D) → Type 0
NameNoVariableAnchor registers = (n : ℕ) → IsVariable (slice_index_or registers n Nothing) → ⊥

reach_plain : {D : Type 0} (v : AbstractValue D) → (IsVariable v → ⊥) → reach_at v ≡ pos 0
reach_plain (Data (Variable id low high proved) k) plain = absurd (plain tt)
reach_plain v plain = refl

pub reach_of_plain : {D : Type 0} (registers : List (AbstractValue D)) → NameNoVariableAnchor registers → reach_of registers ≡ pos 0
reach_of_plain [] plain = refl
reach_of_plain (v ∷ vs) plain =
    let first : reach_at v ≡ pos 0 = reach_plain v (plain 0) in
    let rest : reach_of vs ≡ pos 0 = reach_of_plain vs (λ n. plain (suc n)) in
    (λ i. greater_number (rest i) (first i))

-- ---- places

-- the places with one more
abbrev pub with_place : Places → ℕ → ℤ → Places
with_place places id p other = if other == id then p else places other

-- the places of the anchors with numbers up to a greatest one stay
abbrev pub Extends : ℕ → Places → Places → Type 0
Extends greatest places more = (id : ℕ) → id ≤ greatest → more id ≡ places id

pub extends_itself : (greatest : ℕ) (places : Places) → Extends greatest places places
extends_itself greatest places id le = refl

eq_false : (m n : ℕ) (b : Bool) → (m == n) ≡ b → m < n → b ≡ false
eq_false m n true e lt = grind arith
eq_false m n false e lt = refl

pub with_place_extends : (greatest : ℕ) (places : Places) (p : ℤ) → Extends greatest places (with_place places (suc greatest) p)
with_place_extends greatest places p id le = ap (λ (b : Bool). if b then p else places id) (eq_false id (suc greatest) (id == suc greatest) refl (omega arith))

eq_true : (n : ℕ) → (n == n) ≡ true
eq_true n = search rules

pub with_place_at : (places : Places) (id : ℕ) (p : ℤ) → with_place places id p id ≡ p
with_place_at places id p = ap (λ (b : Bool). if b then p else places id) (eq_true id)

-- ---- numbers that are read with their sign

signed_low : (n : ℕ) → n < 2 ^ 63 → cast_signed w64 n ≡ pos n
signed_low n lt = to_z_pos w64 n lt

sel_no : (b : Bool) (x y : ℤ) → T (not b) → sel b x y ≡ y
sel_no true x y t = absurd t
sel_no false x y t = refl

signed_high : (n : ℕ) → 2 ^ 63 ≤ n → cast_signed w64 n ≡ negsuc (2 ^ 64 - suc n)
signed_high n le = sel_no (ltb n (2 ^ 63)) (pos n) (negsuc (2 ^ 64 - suc n)) (le→nltb n (2 ^ 63) le)

-- numbers between bounds on one side lie, with their sign, between the ends
pub signed_between : (lo n hi : ℕ) → lo ≤ n → n ≤ hi → n < 2 ^ 64 → cast_signed w64 lo ≤ℤ cast_signed w64 hi → (cast_signed w64 lo ≤ℤ cast_signed w64 n) × (cast_signed w64 n ≤ℤ cast_signed w64 hi)
signed_between lo n hi e q fits side = elim (cases_lt hi (2 ^ 63)) [
  | inl lt ↦
      let a = signed_low lo (omega (arith, e, q, lt)) in
      let b = signed_low n (omega (arith, q, lt)) in
      let c = signed_low hi lt in
      (subst (λ (z : ℤ). z ≤ℤ cast_signed w64 n) (sym a) (subst (λ (z : ℤ). pos lo ≤ℤ z) (sym b) (omega (arith, ints, e))), subst (λ (z : ℤ). z ≤ℤ cast_signed w64 hi) (sym b) (subst (λ (z : ℤ). pos n ≤ℤ z) (sym c) (omega (arith, ints, q))))
  | inr ge ↦
      let c = signed_high hi ge in
      elim (cases_lt lo (2 ^ 63)) [
        | inl lt ↦
            let a = signed_low lo lt in
            let bad : pos lo ≤ℤ negsuc (2 ^ 64 - suc hi) = subst (λ (z : ℤ). z ≤ℤ negsuc (2 ^ 64 - suc hi)) a (subst (λ (z : ℤ). cast_signed w64 lo ≤ℤ z) c side) in
            absurd (omega (arith, ints, bad))
        | inr ge' ↦
            let a = signed_high lo ge' in
            let b = signed_high n (omega (arith, e, ge')) in
            (subst (λ (z : ℤ). z ≤ℤ cast_signed w64 n) (sym a) (subst (λ (z : ℤ). negsuc (2 ^ 64 - suc lo) ≤ℤ z) (sym b) (omega (arith, ints, e, fits))), subst (λ (z : ℤ). z ≤ℤ cast_signed w64 hi) (sym b) (subst (λ (z : ℤ). negsuc (2 ^ 64 - suc n) ≤ℤ z) (sym c) (omega (arith, ints, q, fits))))
      ]
]

-- ---- what is proved

raised_cases : (proved x : ℤ) (b : Bool) (P : ℤ → Type 0) → P proved → P x → P (if b then x else proved)
raised_cases proved x true P e q = q
raised_cases proved x false P e q = e

-- what is raised to a reach that holds holds
pub raised_reaches : (place proved x : ℤ) (size : ℕ) → (place +ℤ proved) ≤ℤ pos size → (place +ℤ x) ≤ℤ pos size → (place +ℤ proved_up_to proved x) ≤ℤ pos size
raised_reaches place proved x size e q = raised_cases proved x (int_lt proved x && int_le x (pos 2147483647)) (λ (z : ℤ). (place +ℤ z) ≤ℤ pos size) e q

-- what is proved of an anchor after a sum, from a place that is near
pub within_reaches : (place p : ℤ) (size : ℕ) → place ≤ℤ pos 1048576 → (place +ℤ p) ≤ℤ pos size → (place +ℤ proved_within p) ≤ℤ pos size
within_reaches place p size near reach = by (int_lt p (negsuc 2097151)) (int_lt (pos 2147483647) p) refl refl where
  by : (b c : Bool) → int_lt p (negsuc 2097151) ≡ b → int_lt (pos 2147483647) p ≡ c → (place +ℤ (if b then negsuc 2097151 else if c then pos 2147483647 else p)) ≤ℤ pos size
  by true c e f = omega (arith, ints)
  by false true e f = omega (arith, ints)
  by false false e f = reach

-- a place and a number between ends: the new place lies between the new ends, and the datagram reaches as far as before
pub sum_place : (low high proved place k least greatest by_low by by_high p : ℤ) (size : ℕ) → IsAnchorPlace size low high proved place → by_low ≤ℤ by → by ≤ℤ by_high → least ≡ ((low +ℤ k) +ℤ by_low) → greatest ≡ ((high +ℤ k) +ℤ by_high) → greatest ≤ℤ pos 1048576 → p ≡ ((place +ℤ k) +ℤ by)
    → IsAnchorPlace size least greatest (proved_within (proved -ℤ (greatest -ℤ high))) p
sum_place low high proved place k least greatest by_low by by_high p size is a q c f near e =
    let below : p ≤ℤ greatest = omega (arith, ints, is.greatest, q, f, e) in
    record {
      least = omega (arith, ints, is.least, a, c, e);
      greatest = below;
      reaches = within_reaches p (proved -ℤ (greatest -ℤ high)) size (omega (arith, ints, below, near)) (omega (arith, ints, is.reaches, q, f, e));
    }

-- an access that is known to lie inside does
pub access_inside : (low high proved place k d first : ℤ) (n size : ℕ) → IsAnchorPlace size low high proved place → (first -ℤ low) ≤ℤ (k +ℤ d) → ((k +ℤ d) +ℤ pos n) ≤ℤ proved
    → (first ≤ℤ ((place +ℤ k) +ℤ d)) × ((((place +ℤ k) +ℤ d) +ℤ pos n) ≤ℤ pos size)
access_inside low high proved place k d first n size is a e = (omega (arith, ints, is.least, a), omega (arith, ints, is.reaches, e))
