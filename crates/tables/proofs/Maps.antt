-- Finite maps: an insert, and the key of a value.
use Rattle.std.proofs.Common.{◌≡◌, ◌+◌, ◌≤◌, Bool, true, false, List, [], ◌∷◌, find, Option, Some, None, option_map, Ordering, sym, refl, ap, ◌∙◌, subst, inl, inr, arith}
use Rattle.std.specs.Ordering.{eq_by_cmp}
use Rattle.std.specs.Cmp.{IsTotalOrder}
use Rattle.std.specs.FinMap.{FinMap, IsAntisymmetric, get, insert, len, entries, get-entries, len-insert, contains_key, find as lookup}
use Rattle.std.proofs.lemmas.Bool.{cases_Bool, cond-true, cond-false, both_ways}
use Rattle.std.proofs.lemmas.Option.{none-some, same_Some}
use Rattle.tables.specs.laws.Map.{entry_found}
use Rattle.tables.proofs.Lists.{find-Some}

-- a map never gets smaller by an insert
pub len-insert-ge : {K X : Type 0} {R : K → K → Ordering} → IsTotalOrder R → (m : FinMap R X) (k : K) (v : X) → len m ≤ len (insert m k v)
len-insert-ge o m k v = elim (cases_Bool (contains_key m k)) [
  | inl t ↦ omega (arith, len-insert o m k v ∙ cond-true (contains_key m k) (len m) (len m + 1) t)
  | inr e ↦ omega (arith, len-insert o m k v ∙ cond-false (contains_key m k) (len m) (len m + 1) e)
]

-- ---- a search among the values

module _ {K X : Type 0} {R : K → K → Ordering} (o : IsTotalOrder R) (same : IsAntisymmetric R) where
  passes_found : (t : K × X → Bool) (es : List (K × X)) (e : K × X) → find t es ≡ Some e → t e ≡ true
  passes_found t es e s = (find-Some t (λ _. Unit {0}) es e (λ k d l. tt) s).1

  fails_unfound : (p : X → Bool) (es : List (K × X)) → find (λ e. p e.1) es ≡ None → (q : K) (v : X) → lookup R q es ≡ Some v → p v ≡ false
  fails_unfound p [] s q v h = absurd (none-some v h)
  fails_unfound p (x ∷ es) s q v h = elim (cases_Bool (p x.1)) [
    | inl b ↦ absurd (none-some x (sym s ∙ cond-true (p x.1) _ _ b))
    | inr b ↦ elim (cases_Bool (eq_by_cmp R q x.0)) [
      | inl t ↦ subst (λ (w : X). p w ≡ false) (same_Some _ _ (sym (cond-true (eq_by_cmp R q x.0) _ _ t) ∙ h)) b
      | inr t ↦ fails_unfound p es (sym (cond-false (p x.1) _ _ b) ∙ s) q v (sym (cond-false (eq_by_cmp R q x.0) _ _ t) ∙ h)
    ]
  ]

  -- the first key whose value passes
  abbrev pub key_where : (X → Bool) → FinMap R X → Option K
  key_where p m = option_map (λ e. e.0) (find (λ e. p e.1) (entries m))

  -- no two keys have values that pass
  abbrev pub PassesOnce : (X → Bool) → FinMap R X → Type 0
  PassesOnce p m = (k l : K) (v w : X) → get m k ≡ Some v → get m l ≡ Some w → p v ≡ true → p w ≡ true → k ≡ l

  pub key_where-None : (p : X → Bool) (m : FinMap R X) → ((k : K) (v : X) → get m k ≡ Some v → p v ≡ false) → key_where p m ≡ None
  key_where-None p m h =
      elim (find (λ e. p e.1) (entries m)) as (λ r. find (λ e. p e.1) (entries m) ≡ r → option_map (λ e. e.0) r ≡ None) [
        | None ↦ λ _. refl
        | Some e ↦ λ s. absurd (both_ways (p e.1) (h e.0 e.1 (entry_found o (λ e. p e.1) m e s)) (passes_found (λ e. p e.1) (entries m) e s))
      ] refl

  pub key_where-Some : (p : X → Bool) (m : FinMap R X) (k : K) (v : X) → PassesOnce p m → get m k ≡ Some v → p v ≡ true → key_where p m ≡ Some k
  key_where-Some p m k v once at passes =
      elim (find (λ e. p e.1) (entries m)) as (λ r. find (λ e. p e.1) (entries m) ≡ r → option_map (λ e. e.0) r ≡ Some k) [
        | None ↦ λ s. absurd (both_ways (p v) (fails_unfound p (entries m) s k v (sym (get-entries m k) ∙ at)) passes)
        | Some e ↦ λ s. ap Some (once e.0 k e.1 v (entry_found o (λ e. p e.1) m e s) at (passes_found (λ e. p e.1) (entries m) e s) passes)
      ] refl
