-- Internal. Laws of finite maps: what a search among the entries finds, and which of two maps is the larger.
use Rattle.std.specs.Prelude.{◌≡◌, ◌≢◌, ℕ, zero, suc, ◌+◌, ◌-◌, ◌≤◌, Bool, true, false, T, ◌&&◌, List, [], ◌∷◌, length, find, None, Some, is_some, refl}
use Rattle.std.specs.Ordering.{eq_by_cmp}
use Rattle.std.specs.Cmp.{IsTotalOrder, tied_itself, eq_by_cmp_equiv}
use Rattle.std.specs.declared.cmp.Ordering.{Ordering}
use Rattle.std.specs.declared.cmp.Ordering.TheVariants.{Less, Equal, Greater}
use Rattle.std.specs.FinMap.{FinMap, get, len, entries, remove, contains_key, get-entries, len-entries, get-empty, get-remove, len-remove, empty_of_len, entries_sorted, is_sorted, find as lookup}
use Rattle.std.specs.FinMap.Entries.{below_all}
use Rattle.std.proofs.Common.{sym, ap, subst, ◌∙◌, inl, inr, arith, is_eq, is_lt}
use Rattle.std.proofs.lemmas.Bool.{cases_Bool, cond-true, cond-false}
use Rattle.std.proofs.lemmas.Option.{none-some, same_Some}

first : (a b : Bool) → T (a && b) → T a
first true b p = tt
first false b p = p

second : (a b : Bool) → T (a && b) → T b
second true b p = p
second false b p = absurd p

less_differs : (r : Ordering) → T (is_lt r) → is_eq r ≡ false
less_differs Less i = refl
less_differs Equal i = absurd i
less_differs Greater i = absurd i

-- ---- a search among the entries

module _ {K X : Type 0} {R : K → K → Ordering} (o : IsTotalOrder R) where
  below_found : (k : K) (t : K × X → Bool) (es : List (K × X)) (e : K × X) → T (below_all R k es) → find t es ≡ Some e → T (is_lt (R k e.0))
  below_found k t [] e h s = absurd (none-some e s)
  below_found k t (x ∷ es) e h s = elim (cases_Bool (t x)) [
    | inl b ↦ subst (λ (y : K × X). T (is_lt (R k y.0))) (same_Some _ _ (sym (cond-true (t x) _ _ b) ∙ s)) (first _ _ h)
    | inr b ↦ below_found k t es e (second _ _ h) (sym (cond-false (t x) _ _ b) ∙ s)
  ]

  -- an entry of a list in order is the one of its key
  lookup_found : (t : K × X → Bool) (es : List (K × X)) (e : K × X) → T (is_sorted R es) → find t es ≡ Some e → lookup R e.0 es ≡ Some e.1
  lookup_found t [] e d s = absurd (none-some e s)
  lookup_found t (x ∷ es) e d s = elim (cases_Bool (t x)) [
    | inl b ↦ subst (λ (y : K × X). lookup R y.0 (x ∷ es) ≡ Some y.1) (same_Some _ _ (sym (cond-true (t x) _ _ b) ∙ s)) (cond-true (eq_by_cmp R x.0 x.0) _ _ (ap is_eq (tied_itself o x.0)))
    | inr b ↦
        let later = sym (cond-false (t x) _ _ b) ∙ s in
        let far : eq_by_cmp R e.0 x.0 ≡ false = (eq_by_cmp_equiv o).symm e.0 x.0 ∙ less_differs (R x.0 e.0) (below_found x.0 t es e (first _ _ d) later) in
        cond-false (eq_by_cmp R e.0 x.0) _ _ far ∙ lookup_found t es e (second _ _ d) later
  ]

  pub entry_found : (t : K × X → Bool) (m : FinMap R X) (e : K × X) → find t (entries m) ≡ Some e → get m e.0 ≡ Some e.1
  entry_found t m e s = get-entries m e.0 ∙ lookup_found t (entries m) e (entries_sorted m) s

  -- ---- how many entries

  first_entry : (m : FinMap R X) (e : K × X) (es : List (K × X)) → entries m ≡ e ∷ es → get m e.0 ≡ Some e.1
  first_entry m e es is = get-entries m e.0 ∙ ap (lookup R e.0) is ∙ cond-true (eq_by_cmp R e.0 e.0) _ _ (ap is_eq (tied_itself o e.0))

  one_less : (m : FinMap R X) (k : K) (v : X) → get m k ≡ Some v → len m ≡ len (remove m k) + 1
  one_less m k v there =
      let some : len m ≢ 0 = λ e. none-some v (sym (ap (λ (n : FinMap R X). get n k) (empty_of_len m e) ∙ get-empty R k) ∙ there) in
      let less : len (remove m k) ≡ len m - 1 = len-remove o m k ∙ cond-true (contains_key m k) _ _ (ap is_some there) in
      omega (arith, some, less)

  kept_but : (m n : FinMap R X) (k : K) → ((q : K) (v : X) → get m q ≡ Some v → get n q ≡ Some v) → (q : K) (v : X) → get (remove m k) q ≡ Some v → get (remove n k) q ≡ Some v
  kept_but m n k each q v there = elim (cases_Bool (eq_by_cmp R q k)) [
    | inl e ↦ absurd (none-some v (sym (get-remove o m k q ∙ cond-true (eq_by_cmp R q k) None (get m q) e) ∙ there))
    | inr e ↦ get-remove o n k q ∙ cond-false (eq_by_cmp R q k) None (get n q) e
        ∙ each q v (sym (get-remove o m k q ∙ cond-false (eq_by_cmp R q k) None (get m q) e) ∙ there)
  ]

  len-within_by : (count : ℕ) (m n : FinMap R X) → len m ≡ count → ((q : K) (v : X) → get m q ≡ Some v → get n q ≡ Some v) → len m ≤ len n
  len-within_by zero m n is each = omega arith
  len-within_by (suc count) m n is each =
      elim (entries m) as (λ es. entries m ≡ es → len m ≤ len n) [
        | [] ↦ λ none. let empty : len m ≡ 0 = len-entries m ∙ ap length none in omega (arith, empty, is)
        | e ∷ es ↦ λ some.
            let in_m = first_entry m e es some in
            let less_m = one_less m e.0 e.1 in_m in
            let less_n = one_less n e.0 e.1 (each e.0 e.1 in_m) in
            let left : len (remove m e.0) ≡ count = omega (arith, less_m, is) in
            let rest = len-within_by count (remove m e.0) (remove n e.0) left (kept_but m n e.0 each) in
            omega (arith, less_m, less_n, rest)
      ] refl

  -- a map whose entries another one has is no larger
  pub len-within : (m n : FinMap R X) → ((q : K) (v : X) → get m q ≡ Some v → get n q ≡ Some v) → len m ≤ len n
  len-within m n each = len-within_by (len m) m n refl each
