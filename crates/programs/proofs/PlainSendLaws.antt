-- Plain Send indications pass the tests of the program, and what passes them is one.
use Rattle.std.proofs.Common.{◌≡◌, ℕ, ◌+◌, ◌⊎◌, inl, inr, List, [], ◌∷◌, length, drop, Bool, true, false, ◌&&◌, Some, refl, sym, ap, subst, ◌∙◌, arith, eqb-true}
use Rattle.std.specs.Prelude.{◌||◌, ◌==◌}
use Rattle.std.specs.List.{AllByRecursion}
use Rattle.std.proofs.lemmas.Bool.{and_parts}
use Rattle.std.proofs.lemmas.Option.{same_Some}
use Rattle.insn.specs.Endian.{big_number}
use Rattle.stun.specs.Datagrams.{message_in}
use Rattle.stun.specs.Messages.{Parts, PaddedAttribute, AreParts, IsPadded, parts_bytes, padding_count}
use Rattle.addresses.specs.declared.address.Addr.{Addr}
use Rattle.semantics.specs.Access.{part}
use Rattle.semantics.specs.Runs.{IsDatagram}
use Rattle.rules.specs.FastPart.{is_short_address, is_content, are_address_and_content, is_plain_send}
use Rattle.programs.specs.PlainSends.{IsAddressFirst, IsDataFirst, PassesTests}
use Rattle.rules.specs.Rules.{send}
use Rattle.programs.proofs.ClientEnds.{of_send}
use Rattle.programs.proofs.SendGrammar.{long, parts_of, spelled, are_parts, other_parts_of, other_spelled, other_are_parts, address_first_back, data_first_back}

-- ---- from the message to the tests

either_true : (a b : Bool) → (a || b) ≡ true → (a ≡ true) ⊎ (b ≡ true)
either_true true b e = inl refl
either_true false b e = inr e

no_bytes : (bytes : List ℕ) → length bytes ≡ 0 → bytes ≡ []
no_bytes [] e = refl
no_bytes (b ∷ bytes) e = absurd (omega (arith, e))

-- an attribute of an IPv4 address, which has no padding
short_address_is : (a : PaddedAttribute) → IsPadded a → is_short_address a ≡ true → (a ≡ record { kind = 0x12; value = a.value; padding = [] }) × (length a.value ≡ 8)
short_address_is a padded_a is =
    let two = and_parts (a.kind == 0x12) (length a.value == 8) is in
    let kind : a.kind ≡ 0x12 = eqb-true _ _ two.0 in
    let eight : length a.value ≡ 8 = eqb-true _ _ two.1 in
    let none : a.padding ≡ [] = no_bytes a.padding (padded_a.padding ∙ ap padding_count eight) in
    ((λ i. record { kind = kind i; value = a.value; padding = none i }), eight)

content_is : (a : PaddedAttribute) → is_content a ≡ true → a ≡ record { kind = 0x13; value = a.value; padding = a.padding }
content_is a is = let kind : a.kind ≡ 0x13 = eqb-true _ _ is in λ i. record { kind = kind i; value = a.value; padding = a.padding }

module _ (d : List ℕ) (p : Parts) (fit : IsDatagram d) (are : AreParts p) (bytes : d ≡ parts_bytes p) (kind : p.kind ≡ 0x16) where
  spelled_by : (attributes : List PaddedAttribute) → p.attributes ≡ attributes → d ≡ parts_bytes (record { kind = 0x16; tx = p.tx; attributes = attributes })
  spelled_by attributes e = bytes ∙ (λ i. parts_bytes (record { kind = kind i; tx = p.tx; attributes = e i }))

  two_attributes : (a b : PaddedAttribute) → p.attributes ≡ a ∷ b ∷ [] → ((is_short_address a && is_content b) ≡ true) ⊎ ((is_content a && is_short_address b) ≡ true) → PassesTests d
  two_attributes a b e (inl is) =
      let both = and_parts (is_short_address a) (is_content b) is in
      let are_padded : IsPadded a × (IsPadded b × Unit {0}) = subst (AllByRecursion IsPadded) e are.attributes in
      let address = short_address_is a are_padded.0 both.0 in
      let content = content_is b both.1 in
      inl (address_first_back d p.tx a.value b.value b.padding are.tx address.1 are_padded.1.0.padding fit.short (spelled_by _ (e ∙ (λ i. address.0 i ∷ content i ∷ []))))
  two_attributes a b e (inr is) =
      let both = and_parts (is_content a) (is_short_address b) is in
      let are_padded : IsPadded a × (IsPadded b × Unit {0}) = subst (AllByRecursion IsPadded) e are.attributes in
      let address = short_address_is b are_padded.1.0 both.1 in
      let content = content_is a both.0 in
      inr (data_first_back d p.tx b.value a.value a.padding are.tx address.1 are_padded.0.padding fit.short (spelled_by _ (e ∙ (λ i. content i ∷ address.0 i ∷ []))))

  tests_of : (attributes : List PaddedAttribute) → p.attributes ≡ attributes → are_address_and_content attributes ≡ true → PassesTests d
  tests_of [] e is = absurd cc
  tests_of (a ∷ []) e is = absurd cc
  tests_of (a ∷ b ∷ []) e is = two_attributes a b e (either_true (is_short_address a && is_content b) (is_content a && is_short_address b) is)
  tests_of (a ∷ b ∷ c ∷ rest) e is = absurd cc

-- ---- both ways

module _ (found : (p : Parts) (bytes : List ℕ) → message_in bytes ≡ Some p → AreParts p × (bytes ≡ parts_bytes p)) (every : (p : Parts) (bytes : List ℕ) → AreParts p → bytes ≡ parts_bytes p → message_in bytes ≡ Some p)
    (d : List ℕ) (fit : IsDatagram d) where
  pub passes_tests : (p : Parts) → message_in d ≡ Some p → is_plain_send p ≡ true → PassesTests d
  passes_tests p message plain =
      let is = found p d message in
      let two = and_parts (p.kind == 0x16) (are_address_and_content p.attributes) plain in
      tests_of d p fit is.0 is.1 (eqb-true _ _ two.0) p.attributes refl two.1

  abbrev address_first_parts : Parts
  address_first_parts = parts_of d fit (big_number 2 (drop 34 d)) (padding_count (big_number 2 (drop 34 d)))

  abbrev data_first_parts : Parts
  data_first_parts = other_parts_of d fit (big_number 2 (drop 22 d)) (padding_count (big_number 2 (drop 22 d)))

  address_first_message : IsAddressFirst d → message_in d ≡ Some address_first_parts
  address_first_message is = every address_first_parts d (are_parts d fit is (big_number 2 (drop 34 d)) refl) (spelled d fit is (big_number 2 (drop 34 d)) refl)

  data_first_message : IsDataFirst d → message_in d ≡ Some data_first_parts
  data_first_message is = every data_first_parts d (other_are_parts d fit is (big_number 2 (drop 22 d)) refl) (other_spelled d fit is (big_number 2 (drop 22 d)) refl)

  -- what passes the tests is a plain Send indication
  pub is_plain : PassesTests d → (p : Parts) × (message_in d ≡ Some p) × (is_plain_send p ≡ true)
  is_plain (inl is) = (address_first_parts, address_first_message is, ap (λ (n : ℕ). ((n == 8) && true) || false) (long d fit 8 24 (omega (arith, is.header.long))))
  is_plain (inr is) = (data_first_parts, data_first_message is, ap (λ (n : ℕ). n == 8) (long d fit 8 _ (omega (arith, is.whole))))

  -- ---- what the rules send of it

  pub address_first_sends : IsAddressFirst d → (permits : Addr → Bool) (p : Parts) → message_in d ≡ Some p
      → send permits p ≡ of_send permits p.tx (part 8 24 d) (part (big_number 2 (drop 34 d)) 36 d)
  address_first_sends is permits p message =
      let same : address_first_parts ≡ p = same_Some _ _ (sym (address_first_message is) ∙ message) in
      subst (λ (p : Parts). send permits p ≡ of_send permits p.tx (part 8 24 d) (part (big_number 2 (drop 34 d)) 36 d)) same refl

  pub data_first_sends : IsDataFirst d → (permits : Addr → Bool) (p : Parts) → message_in d ≡ Some p
      → send permits p ≡ of_send permits p.tx (part 8 (28 + big_number 2 (drop 22 d) + padding_count (big_number 2 (drop 22 d))) d) (part (big_number 2 (drop 22 d)) 24 d)
  data_first_sends is permits p message =
      let same : data_first_parts ≡ p = same_Some _ _ (sym (data_first_message is) ∙ message) in
      subst (λ (p : Parts). send permits p ≡ of_send permits p.tx (part 8 (28 + big_number 2 (drop 22 d) + padding_count (big_number 2 (drop 22 d))) d) (part (big_number 2 (drop 22 d)) 24 d)) same refl
