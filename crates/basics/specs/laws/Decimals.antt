-- Interface. Laws of decimal numbers: the text of a number is read as that number, and what is read is the text of the number.
use Rattle.std.specs.Prelude.{◌≡◌, ℕ, ◌^◌, ◌<◌, ◌⊎◌, ◌&&◌, true, false, List, decimal, bytes_eq, nat_lt, None, Some, refl, if◌then◌else◌}
use Rattle.std.specs.Str.Parse.{digits_value}
use Rattle.std.proofs.Common.{sym, ap, subst, ◌∙◌, inl, inr}
use Rattle.std.proofs.lemmas.Bool.{cases_Bool, cond-true, cond-false, and_parts, and_from, lt-ltb, ltb-true}
use Rattle.std.proofs.lemmas.Fmt.{decimal_is_IsNumeral}
use Rattle.std.proofs.lemmas.Option.{same_Some, none-some}
use Rattle.std.proofs.lemmas.Slice.Eq.{bytes_eq-Decides}
use Rattle.basics.specs.Decimals.{decimal_in}

same_bytes : (xs : List ℕ) → bytes_eq xs xs ≡ true
same_bytes xs = (bytes_eq-Decides xs xs).1 refl

pub decimal_in-decimal : (limit n : ℕ) → n < limit → n < 2 ^ 64 → decimal_in limit (decimal n) ≡ Some n
decimal_in-decimal limit n below small =
    let value : digits_value 10 (decimal n) ≡ n = (decimal_is_IsNumeral n small).1 in
    (λ i. if nat_lt (value i) limit && bytes_eq (decimal (value i)) (decimal n) then Some (value i) else None)
    ∙ cond-true (nat_lt n limit && bytes_eq (decimal n) (decimal n)) (Some n) None (and_from (nat_lt n limit) (bytes_eq (decimal n) (decimal n)) (lt-ltb n limit below) (same_bytes (decimal n)))

pub decimal_in-is : (limit : ℕ) (text : List ℕ) (n : ℕ) → decimal_in limit text ≡ Some n → (n < limit) × (text ≡ decimal n)
decimal_in-is limit text n e = of (cases_Bool (nat_lt v limit && bytes_eq (decimal v) text)) where
  v : ℕ
  v = digits_value 10 text

  of : (((nat_lt (digits_value 10 text) limit && bytes_eq (decimal (digits_value 10 text)) text) ≡ true) ⊎ ((nat_lt (digits_value 10 text) limit && bytes_eq (decimal (digits_value 10 text)) text) ≡ false)) → (n < limit) × (text ≡ decimal n)
  of (inl t) =
      let parts = and_parts (nat_lt (digits_value 10 text) limit) (bytes_eq (decimal (digits_value 10 text)) text) t in
      let is : digits_value 10 text ≡ n = same_Some (digits_value 10 text) n (sym (cond-true _ (Some (digits_value 10 text)) None t) ∙ e) in
      (subst (λ (k : ℕ). k < limit) is (ltb-true (digits_value 10 text) limit parts.0), sym ((bytes_eq-Decides (decimal (digits_value 10 text)) text).0 parts.1) ∙ ap decimal is)
  of (inr f) = absurd (none-some n (sym (cond-false _ (Some (digits_value 10 text)) None f) ∙ e))
