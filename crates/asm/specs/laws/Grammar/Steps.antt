-- Internal. Laws of a reader's steps and tests: where several steps give a value, each gives one.
use Rattle.std.proofs.Common.{◌≡◌, Bool, true, List, [], ◌∷◌, ◌++◌, Option, Some, None, ◌⊎◌, inl, inr, refl, sym, ap, ◌∙◌}
use Rattle.std.specs.Prelude.{find, option_map, if◌then◌else◌}
use Rattle.std.specs.List.{list_all, AllByRecursion}
use Rattle.std.proofs.lemmas.Bool.{cases_Bool, cond-true, cond-false, and_parts, and_from}
use Rattle.std.proofs.lemmas.Option.{none-some, same_Some}
use Rattle.basics.specs.Options.{◌>>=◌}
use Rattle.asm.specs.Reading.{or_else}

-- ---- steps

-- two steps that give a value, each
pub bound : {A B : Type 0} (o : Option A) (f : A → Option B) (y : B) → o >>= f ≡ Some y
    → (x : A) × (o ≡ Some x) × (f x ≡ Some y)
bound None f y e = absurd (none-some y e)
bound (Some x) f y e = (x, refl, e)

-- a step that gives a value, and the next one
pub onward : {A B : Type 0} (o : Option A) (f : A → Option B) (x : A) (option : Option B) → o ≡ Some x → f x ≡ option
    → o >>= f ≡ option
onward o f x option e next = ap (λ (q : Option _). q >>= f) e ∙ next

-- two steps as a group of their own
pub steps_grouping : {A B C : Type 0} (o : Option A) (f : A → Option B) (g : B → Option C)
    → (o >>= (λ x. f x >>= g)) ≡ o >>= f >>= g
steps_grouping None f g = refl
steps_grouping (Some x) f g = refl

-- a value that a function gives, and its argument
pub preimage : {A B : Type 0} (a : A → B) (o : Option A) (y : B) → option_map a o ≡ Some y
    → (x : A) × (o ≡ Some x) × (y ≡ a x)
preimage a None y e = absurd (none-some y e)
preimage a (Some x) y e = (x, refl, sym (same_Some (a x) y e))

-- one of two gives the value
pub either : {A : Type 0} (o p : Option A) (x : A) → or_else o p ≡ Some x → (o ≡ Some x) ⊎ (p ≡ Some x)
either None p x e = inr e
either (Some y) p x e = inl e

-- a value under a test, or else another's
pub tested_first : {A : Type 0} (b : Bool) (x y : A) (o : Option A) → (if b then Some x else o) ≡ Some y
    → ((b ≡ true) × (x ≡ y)) ⊎ (o ≡ Some y)
tested_first b x y o e = elim (cases_Bool b) [
  | inl passes ↦ inl (passes, same_Some x y (sym (cond-true b (Some x) o passes) ∙ e))
  | inr fails ↦ inr (sym (cond-false b (Some x) o fails) ∙ e)
]

-- what can't be a value is none
pub none_unless : {A : Type 0} (o : Option A) → ((x : A) → o ≡ Some x → ⊥) → o ≡ None
none_unless None h = refl
none_unless (Some x) h = absurd (h x refl)

-- ---- lists

-- what is found passes the test
pub found_passes : {A : Type 0} (test : A → Bool) (xs : List A) (x : A) → find test xs ≡ Some x → test x ≡ true
found_passes test [] x e = absurd (none-some x e)
found_passes test (z ∷ xs) x e = elim (tested_first (test z) z x (find test xs) e) [
  | inl here ↦ ap test (sym here.1) ∙ here.0
  | inr further ↦ found_passes test xs x further
]

-- a test of all elements holds of each
pub each_passes : {A : Type 0} (test : A → Bool) (xs : List A) → list_all test xs ≡ true
    → AllByRecursion (λ x. test x ≡ true) xs
each_passes test [] e = tt
each_passes test (x ∷ xs) e =
    let parts = and_parts (test x) (list_all test xs) e in
    (parts.0, each_passes test xs parts.1)

-- where it holds of each, it passes for all
pub all_pass : {A : Type 0} (test : A → Bool) (xs : List A) → AllByRecursion (λ x. test x ≡ true) xs
    → list_all test xs ≡ true
all_pass test [] h = refl
all_pass test (x ∷ xs) h = and_from (test x) (list_all test xs) h.0 (all_pass test xs h.1)

-- a fact on each element, and another that follows from it
pub each_also : {A : Type 0} {P Q : A → Type 0} → ((x : A) → P x → Q x) → (xs : List A) → AllByRecursion P xs
    → AllByRecursion Q xs
each_also e [] h = tt
each_also e (x ∷ xs) h = (e x h.0, each_also e xs h.1)

-- a fact on each element of two lists, one after the other
pub each_append : {A : Type 0} (P : A → Type 0) (xs ys : List A) → AllByRecursion P xs → AllByRecursion P ys
    → AllByRecursion P (xs ++ ys)
each_append P [] ys h k = k
each_append P (x ∷ xs) ys h k = (h.0, each_append P xs ys h.1 k)
