-- Internal. Laws of what a test of the values keeps of a finite map.
use Rattle.std.specs.Prelude.{◌≡◌, ◌≤◌, Bool, true, false, cond, ◌⊎◌, Option, None, Some, refl}
use Rattle.std.specs.Cmp.{IsTotalOrder}
use Rattle.std.specs.declared.cmp.Ordering.{Ordering}
use Rattle.std.specs.FinMap.{FinMap, IsAntisymmetric, get, len, get-retain_keys, get_tied, same_map}
use Rattle.std.proofs.Common.{sym, ap, ◌∙◌, inl, inr}
use Rattle.std.proofs.lemmas.Bool.{cases_Bool, cond-true, cond-false, both_ways}
use Rattle.std.proofs.lemmas.Option.{none-some}
use Rattle.tables.specs.laws.Map.{len-within}
use Rattle.tables.specs.Retained.{value_if, kept_of}

pub none_kept : {X : Type 0} (b : Bool) → ◌≡◌ {A = Option X} (cond b None None) None
none_kept true = refl
none_kept false = refl

-- what is kept was there, and passes
pub kept_from : {X : Type 0} (test : Option X → Bool) (v : Option X) (x : X) → value_if test v ≡ Some x → (v ≡ Some x) × (test (Some x) ≡ true)
kept_from test v x h = elim (cases_Bool (test v)) [
  | inl t ↦ let same = sym (cond-true (test v) v None t) ∙ h in (same, ap test (sym same) ∙ t)
  | inr f ↦ absurd (none-some x (sym (cond-false (test v) v None f) ∙ h))
]

pub get-kept_of : {K X : Type 0} {R : K → K → Ordering} → IsTotalOrder R → (test : Option X → Bool) (m : FinMap R X) (q : K) → get (kept_of test m) q ≡ value_if test (get m q)
get-kept_of o test m q = get-retain_keys m (λ k. test (get m k)) q (λ x e. ap test (get_tied o m q x e))

-- each value that passes the later test passes the earlier one
module _ {X : Type 0} (earlier later : Option X → Bool) (weaker : (x : X) → later (Some x) ≡ true → earlier (Some x) ≡ true) where
  ended : (x : X) → earlier (Some x) ≡ false → later (Some x) ≡ false
  ended x e = elim (cases_Bool (later (Some x))) [ inl t ↦ absurd (both_ways (earlier (Some x)) e (weaker x t)) | inr f ↦ f ]

  pub kept_again : (v : Option X) → value_if later (value_if earlier v) ≡ value_if later v
  kept_again None = ap (value_if later) (none_kept (earlier None))
  kept_again (Some x) = elim (cases_Bool (earlier (Some x))) [
    | inl t ↦ ap (value_if later) (cond-true (earlier (Some x)) (Some x) None t)
    | inr e ↦ ap (value_if later) (cond-false (earlier (Some x)) (Some x) None e) ∙ none_kept (later None) ∙ sym (cond-false (later (Some x)) (Some x) None (ended x e))
  ]

  -- what the later test keeps, the earlier one keeps
  pub kept_before : (v : Option X) → (value_if later v ≡ None) ⊎ (value_if later v ≡ value_if earlier v)
  kept_before None = inl (none_kept (later None))
  kept_before (Some x) = elim (cases_Bool (later (Some x))) [
    | inl t ↦ inr (cond-true (later (Some x)) (Some x) None t ∙ sym (cond-true (earlier (Some x)) (Some x) None (weaker x t)))
    | inr f ↦ inl (cond-false (later (Some x)) (Some x) None f)
  ]

  pub kept_of_again : {K : Type 0} {R : K → K → Ordering} → IsTotalOrder R → IsAntisymmetric R → (m : FinMap R X) → kept_of later (kept_of earlier m) ≡ kept_of later m
  kept_of_again o same m =
      same_map o same _ _ (λ q. get-kept_of o later (kept_of earlier m) q ∙ ap (value_if later) (get-kept_of o earlier m q) ∙ kept_again (get m q) ∙ sym (get-kept_of o later m q))

pub len-kept_of : {K X : Type 0} {R : K → K → Ordering} → IsTotalOrder R → (test : Option X → Bool) (m : FinMap R X) → len (kept_of test m) ≤ len m
len-kept_of o test m = len-within o (kept_of test m) m (λ q v h. (kept_from test (get m q) v (sym (get-kept_of o test m q) ∙ h)).0)
