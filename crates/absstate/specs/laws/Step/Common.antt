-- Interface. What signatures have in common admits each other one that one of them lies within.
use Rattle.std.proofs.Common.{◌≡◌, ℕ, ◌<◌, ◌≤◌, ◌⊎◌, inl, inr, ⊎_elim, Bool, true, false, refl, sym, ap, ◌∙◌, arith, bit_and, bit_or, lt-ltb, le-leb}
use Rattle.std.specs.Prelude.{◌==◌, ◌||◌, nat_lt, nat_le, min, max}
use Rattle.std.specs.Int.{bit_at}
use Rattle.std.specs.Int.Bits.{and_self}
use Rattle.std.proofs.lemmas.Bool.{eqb-true, ltb-true, leb-true, or_left, or_right}
use Rattle.std.proofs.lemmas.Nat.Bits.{bit_at_and, bit_at_or}
use Rattle.absstate.specs.CommonSignatures.{hash_bit, is_among, common_of, in_common, common_with, admits_margins, admits_links, admits}
use Rattle.absstate.specs.Signatures.{lie_within, above_of, word_within, marks_within, margins_within, lies_within}
use Rattle.absstate.specs.laws.Step.MemoryValues.{first_of_and, rest_of_and, both_true}
use Rattle.absstate.specs.laws.Step.Words.{IsWithin, each_bit, by_bits, same_number}
use Rattle.absstate.specs.declared.common_signature.CommonSignature.{CommonSignature}
use Rattle.absstate.specs.declared.signature.StateSignature.{StateSignature}

-- ---- bits

either_least : (x y z : ℕ) → (min x z ≡ x) ⊎ (min y z ≡ y) → min (min x y) z ≡ min x y
either_least x y z = ⊎_elim (λ e. omega (arith, e)) (λ e. omega (arith, e))

-- what one of two numbers lies within, the bits of both do
both_within : (a b c : ℕ) → IsWithin a c ⊎ IsWithin b c → IsWithin (bit_and a b) c
both_within a b c either = by_bits (bit_and a b) c (λ i.
    ap (λ (x : ℕ). min x (bit_at c i)) (bit_at_and a b i)
    ∙ either_least (bit_at a i) (bit_at b i) (bit_at c i) (⊎_elim (λ h. inl (each_bit a c h i)) (λ h. inr (each_bit b c h i)) either) ∙ sym (bit_at_and a b i))

either_greatest : (x y z : ℕ) → (min x y ≡ x) ⊎ (min x z ≡ x) → min x (max y z) ≡ x
either_greatest x y z = ⊎_elim (λ e. omega (arith, e)) (λ e. omega (arith, e))

-- what lies within one of two numbers lies within the bits of either
within_either : (a b c : ℕ) → IsWithin a b ⊎ IsWithin a c → IsWithin a (bit_or b c)
within_either a b c either = by_bits a (bit_or b c) (λ i.
    ap (min (bit_at a i)) (bit_at_or b c i) ∙ either_greatest (bit_at a i) (bit_at b i) (bit_at c i) (⊎_elim (λ h. inl (each_bit a b h i)) (λ h. inr (each_bit a c h i)) either))

-- ---- what is admitted

-- the parts of what is admitted
record Admits (c : CommonSignature) (t : StateSignature) : Type 0 where
  pub registers : IsWithin c.registers t.registers
  pub groups : IsWithin c.groups t.groups
  pub any : IsWithin c.marks.any t.marks.any
  pub two : IsWithin c.marks.two t.marks.two
  pub below : c.margins.below ≤ t.margins.below
  pub above : c.margins.above ≤ above_of t.margins
  pub values : (c.margins.total < t.margins.total) ⊎ IsWithin (hash_bit t.values) c.values
  pub links : (c.links.count < t.links.count) ⊎ IsWithin (hash_bit t.links.firsts) c.links.firsts

either : (x y : Bool) → (x || y) ≡ true → (x ≡ true) ⊎ (y ≡ true)
either true y e = inl refl
either false y e = inr e

within_of : (a b : ℕ) → word_within a b ≡ true → IsWithin a b
within_of a b e = eqb-true (bit_and a b) a e

test_of : (a b : ℕ) → IsWithin a b → word_within a b ≡ true
test_of a b h = same_number (bit_and a b) a h

module _ (c : CommonSignature) (t : StateSignature) where
  abbrev by_bounds : Bool
  by_bounds = nat_lt c.margins.total t.margins.total || is_among t.values c.values

  by_parts : Admits c t → admits c t ≡ true
  by_parts parts =
      both_true (word_within c.registers t.registers) _ (test_of c.registers t.registers parts.registers)
      (both_true (word_within c.groups t.groups) _ (test_of c.groups t.groups parts.groups)
      (both_true (admits_margins c.margins t.margins) _
      (both_true (nat_le c.margins.below t.margins.below) (nat_le c.margins.above (above_of t.margins)) (le-leb c.margins.below t.margins.below parts.below) (le-leb c.margins.above (above_of t.margins) parts.above))
      (both_true by_bounds _
      (⊎_elim (λ less. or_left (nat_lt c.margins.total t.margins.total) (is_among t.values c.values) (lt-ltb c.margins.total t.margins.total less))
      (λ among. or_right (nat_lt c.margins.total t.margins.total) (is_among t.values c.values) (test_of (hash_bit t.values) c.values among)) parts.values)
      (both_true (marks_within c.marks t.marks) (admits_links c.links t.links)
      (both_true (word_within c.marks.any t.marks.any) (word_within c.marks.two t.marks.two) (test_of c.marks.any t.marks.any parts.any) (test_of c.marks.two t.marks.two parts.two))
      (⊎_elim (λ fewer. or_left (nat_lt c.links.count t.links.count) (is_among t.links.firsts c.links.firsts) (lt-ltb c.links.count t.links.count fewer))
      (λ among. or_right (nat_lt c.links.count t.links.count) (is_among t.links.firsts c.links.firsts) (test_of (hash_bit t.links.firsts) c.links.firsts among)) parts.links)))))

  parts_of : admits c t ≡ true → Admits c t
  parts_of e =
      let groups = rest_of_and (word_within c.registers t.registers) _ e in
      let margins = rest_of_and (word_within c.groups t.groups) _ groups in
      let bounds = rest_of_and (admits_margins c.margins t.margins) _ margins in
      let marks = rest_of_and by_bounds _ bounds in
      let sides = first_of_and (admits_margins c.margins t.margins) _ margins in
      let both = first_of_and (marks_within c.marks t.marks) (admits_links c.links t.links) marks in
      record {
        registers = within_of c.registers t.registers (first_of_and (word_within c.registers t.registers) _ e);
        groups = within_of c.groups t.groups (first_of_and (word_within c.groups t.groups) _ groups);
        any = within_of c.marks.any t.marks.any (first_of_and (word_within c.marks.any t.marks.any) (word_within c.marks.two t.marks.two) both);
        two = within_of c.marks.two t.marks.two (rest_of_and (word_within c.marks.any t.marks.any) (word_within c.marks.two t.marks.two) both);
        below = leb-true c.margins.below t.margins.below (first_of_and (nat_le c.margins.below t.margins.below) (nat_le c.margins.above (above_of t.margins)) sides);
        above = leb-true c.margins.above (above_of t.margins) (rest_of_and (nat_le c.margins.below t.margins.below) (nat_le c.margins.above (above_of t.margins)) sides);
        values = ⊎_elim (λ less. inl (ltb-true c.margins.total t.margins.total less)) (λ among. inr (within_of (hash_bit t.values) c.values among))
            (either (nat_lt c.margins.total t.margins.total) (is_among t.values c.values) (first_of_and by_bounds _ bounds));
        links = ⊎_elim (λ fewer. inl (ltb-true c.links.count t.links.count fewer)) (λ among. inr (within_of (hash_bit t.links.firsts) c.links.firsts among))
            (either (nat_lt c.links.count t.links.count) (is_among t.links.firsts c.links.firsts) (rest_of_and (marks_within c.marks t.marks) (admits_links c.links t.links) marks));
      }

-- the bit of a hash is that of the same one
same_hash : (m n : ℕ) → m ≡ n → IsWithin (hash_bit n) (hash_bit m)
same_hash m n same = ap (λ (k : ℕ). bit_and (hash_bit n) (hash_bit k)) same ∙ and_self (hash_bit n)

-- what is admitted by what one signature has, where that one lies within it
pub admits_one : (s t : StateSignature) → lies_within s t ≡ true → admits (common_of s) t ≡ true
admits_one s t e =
    let ranked = (s.values == t.values) || nat_lt s.margins.total t.margins.total in
    let groups = rest_of_and (word_within s.registers t.registers) _ e in
    let margins = rest_of_and (word_within s.groups t.groups) _ groups in
    let bounds = rest_of_and (margins_within s.margins t.margins) _ margins in
    let marks = rest_of_and ranked _ bounds in
    both_true (word_within s.registers t.registers) _ (first_of_and (word_within s.registers t.registers) _ e)
    (both_true (word_within s.groups t.groups) _ (first_of_and (word_within s.groups t.groups) _ groups)
    (both_true (margins_within s.margins t.margins) _ (first_of_and (margins_within s.margins t.margins) _ margins)
    (both_true (nat_lt s.margins.total t.margins.total || is_among t.values (hash_bit s.values)) _
    (⊎_elim (λ same. or_right (nat_lt s.margins.total t.margins.total) (is_among t.values (hash_bit s.values)) (test_of (hash_bit t.values) (hash_bit s.values) (same_hash s.values t.values (eqb-true s.values t.values same))))
    (λ less. or_left (nat_lt s.margins.total t.margins.total) (is_among t.values (hash_bit s.values)) less)
    (either (s.values == t.values) (nat_lt s.margins.total t.margins.total) (first_of_and ranked _ bounds)))
    (both_true (marks_within s.marks t.marks) _ (first_of_and (marks_within s.marks t.marks) (lie_within s.links t.links) marks)
    (⊎_elim (λ fewer. or_left (nat_lt s.links.count t.links.count) (is_among t.links.firsts (hash_bit s.links.firsts)) fewer)
    (λ same. or_right (nat_lt s.links.count t.links.count) (is_among t.links.firsts (hash_bit s.links.firsts)) (test_of (hash_bit t.links.firsts) (hash_bit s.links.firsts) (same_hash s.links.firsts t.links.firsts (eqb-true s.links.firsts t.links.firsts same))))
    (either (nat_lt s.links.count t.links.count) (s.links.firsts == t.links.firsts) (rest_of_and (marks_within s.marks t.marks) (lie_within s.links t.links) marks)))))))

-- what one of two admits, both in common admit
admits_either : (c d : CommonSignature) (t : StateSignature) → Admits c t ⊎ Admits d t → Admits (in_common c d) t
admits_either c d t either = record {
  registers = both_within c.registers d.registers t.registers (⊎_elim (λ p. inl p.registers) (λ p. inr p.registers) either);
  groups = both_within c.groups d.groups t.groups (⊎_elim (λ p. inl p.groups) (λ p. inr p.groups) either);
  any = both_within c.marks.any d.marks.any t.marks.any (⊎_elim (λ p. inl p.any) (λ p. inr p.any) either);
  two = both_within c.marks.two d.marks.two t.marks.two (⊎_elim (λ p. inl p.two) (λ p. inr p.two) either);
  below = ⊎_elim (λ p. omega (arith, p.below)) (λ p. omega (arith, p.below)) either;
  above = ⊎_elim (λ p. omega (arith, p.above)) (λ p. omega (arith, p.above)) either;
  values = ⊎_elim
      (λ p. ⊎_elim (λ less. inl (omega (arith, less))) (λ h. inr (within_either (hash_bit t.values) c.values d.values (inl h))) p.values)
      (λ p. ⊎_elim (λ less. inl (omega (arith, less))) (λ h. inr (within_either (hash_bit t.values) c.values d.values (inr h))) p.values)
      either;
  links = ⊎_elim
      (λ p. ⊎_elim (λ fewer. inl (omega (arith, fewer))) (λ h. inr (within_either (hash_bit t.links.firsts) c.links.firsts d.links.firsts (inl h))) p.links)
      (λ p. ⊎_elim (λ fewer. inl (omega (arith, fewer))) (λ h. inr (within_either (hash_bit t.links.firsts) c.links.firsts d.links.firsts (inr h))) p.links)
      either;
}

-- what a signature lies within is admitted by what others have in common with it
pub admits_added : (c : CommonSignature) (s t : StateSignature) → lies_within s t ≡ true → admits (common_with c s) t ≡ true
admits_added c s t e = by_parts (common_with c s) t (admits_either c (common_of s) t (inr (parts_of (common_of s) t (admits_one s t e))))

-- what was admitted is admitted with one more
pub admits_more : (c : CommonSignature) (s t : StateSignature) → admits c t ≡ true → admits (common_with c s) t ≡ true
admits_more c s t e = by_parts (common_with c s) t (admits_either c (common_of s) t (inl (parts_of c t e)))
