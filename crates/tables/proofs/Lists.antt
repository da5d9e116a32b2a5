-- Pairs of elements of lists, what a call leaves, and the first element that passes a test.
use Rattle.std.proofs.Common.{◌≡◌, ℕ, zero, suc, ◌<◌, ◌≤◌, Bool, List, ◌∷◌, length, get_or, set, All, AllPairs, sym, refl, ap, ◌∙◌, subst, inl, inr, arith, filter, find, true, false, [], cond, Option, Some, None, Result, Ok, Err, OnOk, OnErr}
use Rattle.std.proofs.lemmas.List.{length-set}
use Rattle.std.proofs.lemmas.List.Elements.{All-nil, All-cons, All-tail}
use Rattle.arrayvec.proofs.ArrayVecLemmas.{items-with_items}
use Rattle.std.specs.List.{refill}
use Rattle.std.proofs.lemmas.Bool.{cases_Bool, cond-true, cond-false, false_from_ne_true, both_ways}
use Rattle.std.proofs.lemmas.Option.{none-some, same_Some}
use Rattle.tables.specs.Retained.{value_if}
use Rattle.tables.specs.laws.Retained.{none_kept}

module _ {A : Type 0} (R : A → A → Type 0) where
  pub AllPairs-head : (x : A) (xs : List A) → AllPairs R (x ∷ xs) → All (R x) xs
  AllPairs-head x xs h = λ k d l. h zero (suc k) d (omega arith) (omega arith)

  pub AllPairs-tail : (x : A) (xs : List A) → AllPairs R (x ∷ xs) → AllPairs R xs
  AllPairs-tail x xs h = λ i j d p l. h (suc i) (suc j) d (omega arith) (omega arith)

-- a value that is written through a slice of the same elements
pub written : {A : Type 0} (shown xs : List A) (i : ℕ) (new : A → A) (d : A) → shown ≡ xs → refill (length xs) xs (set shown i (new (get_or shown i d))) ≡ set xs i (new (get_or xs i d))
written {A} shown xs i new d same =
    let ys : List A = set shown i (new (get_or shown i d)) in
    let long : length ys ≡ length xs = length-set shown i (new (get_or shown i d)) ∙ ap length same in
    items-with_items (record { items = xs }) ys long ∙ ap (λ s. set s i (new (get_or s i d))) same

-- ---- what a call that may be refused leaves

-- what holds of the value that it makes and of the old one holds of the new one
pub either_value : {A E X : Type 0} (P : X → Type 0) (r : Result A E) (new made old : X) → OnOk r (new ≡ made) → OnErr r (new ≡ old) → P made → P old → P new
either_value P (Ok a) new made old ok err p q = subst P (sym ok) p
either_value P (Err e) new made old ok err p q = subst P (sym err) q

pub on_err : {A E P : Type 0} (r : Result A E) → P → OnErr r P
on_err (Ok a) p = tt
on_err (Err e) p = p

-- a call that has room isn't refused
pub made_where_room : {A E P : Type 0} (r : Result A E) (n most : ℕ) → n ≤ most → OnOk r P → OnErr r (most < n) → P
made_where_room (Ok a) n most few ok err = ok
made_where_room (Err e) n most few ok err = absurd (omega (arith, few, err))

-- ---- the first that passes a test

module _ {A : Type 0} (p : A → Bool) where
  -- no two pass
  abbrev pub Once : List A → Type 0
  Once xs = AllPairs (λ a b. p a ≡ true → p b ≡ false) xs

  pub find-Some : (P : A → Type 0) (xs : List A) (x : A) → All P xs → find p xs ≡ Some x → P x × (p x ≡ true)
  find-Some P [] x all e = absurd (none-some x e)
  find-Some P (y ∷ xs) x all e = elim (cases_Bool (p y)) [
    | inl t ↦ subst (λ (z : A). P z × (p z ≡ true)) (same_Some _ _ (sym (cond-true (p y) _ _ t) ∙ e)) (all zero y (omega arith), t)
    | inr f ↦ find-Some P xs x (All-tail P y xs all) (sym (cond-false (p y) _ _ f) ∙ e)
  ]

  pub find-None : (xs : List A) → find p xs ≡ None → All (λ x. p x ≡ false) xs
  find-None [] e = All-nil (λ x. p x ≡ false)
  find-None (x ∷ xs) e = elim (cases_Bool (p x)) [
    | inl t ↦ absurd (none-some x (sym e ∙ cond-true (p x) _ _ t))
    | inr f ↦ All-cons (λ x. p x ≡ false) x xs f (find-None xs (sym (cond-false (p x) _ _ f) ∙ e))
  ]

  pub find-absent : (xs : List A) → All (λ x. p x ≡ false) xs → find p xs ≡ None
  find-absent [] none = refl
  find-absent (x ∷ xs) none = cond-false (p x) _ _ (none zero x (omega arith)) ∙ find-absent xs (All-tail (λ x. p x ≡ false) x xs none)

  -- what passes is what is found
  pub find-each : (xs : List A) → Once xs → All (λ x. p x ≡ true → find p xs ≡ Some x) xs
  find-each [] once = All-nil (λ x. p x ≡ true → find p [] ≡ Some x)
  find-each (x ∷ xs) once = All-cons (λ y. p y ≡ true → find p (x ∷ xs) ≡ Some y) x xs (cond-true (p x) _ _) (λ k d l t.
      cond-false (p x) _ _ (false_from_ne_true (p x) (λ s. both_ways (p (get_or xs k d)) (AllPairs-head (λ a b. p a ≡ true → p b ≡ false) x xs once k d l s) t))
      ∙ find-each xs (AllPairs-tail (λ a b. p a ≡ true → p b ≡ false) x xs once) k d l t)

  -- among those that pass another test
  pub find-filter : (q : A → Bool) (test : Option A → Bool) → ((x : A) → q x ≡ test (Some x)) → (xs : List A) → Once xs → find p (filter q xs) ≡ value_if test (find p xs)
  find-filter q test is [] once = sym (none_kept (test None))
  find-filter q test is (x ∷ xs) once =
      let rest = find-filter q test is xs (AllPairs-tail (λ a b. p a ≡ true → p b ≡ false) x xs once) in
      let F : Bool → Option A = λ b. find p (cond b (x ∷ filter q xs) (filter q xs)) in
      elim (cases_Bool (p x)) [
        | inl t ↦
            let here : find p (x ∷ xs) ≡ Some x = cond-true (p x) _ _ t in
            let none = find-absent xs (λ k d l. AllPairs-head (λ a b. p a ≡ true → p b ≡ false) x xs once k d l t) in
            elim (cases_Bool (q x)) [
              | inl s ↦ ap F s ∙ cond-true (p x) _ _ t ∙ sym (ap (value_if test) here ∙ cond-true (test (Some x)) _ _ (sym (is x) ∙ s))
              | inr s ↦ ap F s ∙ rest ∙ ap (value_if test) none ∙ none_kept (test None) ∙ sym (ap (value_if test) here ∙ cond-false (test (Some x)) _ _ (sym (is x) ∙ s))
            ]
        | inr f ↦
            let there : find p (x ∷ xs) ≡ find p xs = cond-false (p x) _ _ f in
            elim (cases_Bool (q x)) [
              | inl s ↦ ap F s ∙ cond-false (p x) _ _ f ∙ rest ∙ sym (ap (value_if test) there)
              | inr s ↦ ap F s ∙ rest ∙ sym (ap (value_if test) there)
            ]
      ]
