-- The first of a separator, as a loop finds it.
use Rattle.std.proofs.Common.{◌≡◌, ℕ, suc, ◌+◌, ◌<◌, ◌≤◌, true, false, List, [], ◌∷◌, ◌++◌, length, take, drop, get_or, refl, sym, ap, ◌∙◌, append_assoc, append-nil}
use Rattle.std.specs.Prelude.{◌==◌, Option, None, Some, option_map}
use Rattle.std.proofs.Math.Numerals.{add-one}
use Rattle.std.proofs.Math.Seq.{drop-cons, take-suc}
use Rattle.std.proofs.lemmas.Bool.{cond-true, cond-false}
use Rattle.std.proofs.lemmas.List.{drop_all}
use Rattle.events.specs.Reading.{parts_around}

-- a split, after what was passed over
abbrev pub before : List ℕ → List ℕ × List ℕ → List ℕ × List ℕ
before front p = (front ++ p.0, p.1)

before_nothing : (o : Option (List ℕ × List ℕ)) → o ≡ option_map (before []) o
before_nothing None = refl
before_nothing (Some p) = refl

pub starts : (s : ℕ) (bytes : List ℕ) → parts_around s bytes ≡ option_map (before (take 0 bytes)) (parts_around s (drop 0 bytes))
starts s bytes = before_nothing (parts_around s bytes)

module _ (s : ℕ) (bytes : List ℕ) (front : ℕ) (inside : front < length bytes) where
  abbrev here : ℕ
  here = get_or bytes front 0

  rest_is : drop front bytes ≡ here ∷ drop (suc front) bytes
  rest_is = drop-cons bytes front 0 inside

  more : (o : Option (List ℕ × List ℕ)) → option_map (before (take front bytes)) (option_map (λ p. (here ∷ p.0, p.1)) o) ≡ option_map (before (take (suc front) bytes)) o
  more None = refl
  more (Some p) = λ i. Some (step p.0 i, p.1) where
    step : (l : List ℕ) → take front bytes ++ here ∷ l ≡ take (suc front) bytes ++ l
    step l = sym (append_assoc (take front bytes) (here ∷ []) l) ∙ ap (λ f. f ++ l) (sym (take-suc bytes front 0 inside))

  pub goes_on : (here == s) ≡ false → parts_around s bytes ≡ option_map (before (take front bytes)) (parts_around s (drop front bytes))
      → parts_around s bytes ≡ option_map (before (take (front + 1) bytes)) (parts_around s (drop (front + 1) bytes))
  goes_on other so_far =
      so_far
      ∙ ap (λ l. option_map (before (take front bytes)) (parts_around s l)) rest_is
      ∙ ap (option_map (before (take front bytes))) (cond-false (here == s) _ (option_map (λ p. (here ∷ p.0, p.1)) (parts_around s (drop (suc front) bytes))) other)
      ∙ more (parts_around s (drop (suc front) bytes))
      ∙ (λ i. option_map (before (take (sym (add-one front) i) bytes)) (parts_around s (drop (sym (add-one front) i) bytes)))

  pub found : (here == s) ≡ true → parts_around s bytes ≡ option_map (before (take front bytes)) (parts_around s (drop front bytes)) → Some (take front bytes, drop 1 (drop front bytes)) ≡ parts_around s bytes
  found same so_far =
      (λ i. Some (sym (append-nil (take front bytes)) i, drop 1 (rest_is i)))
      ∙ ap (option_map (before (take front bytes))) (sym (cond-true (here == s) (Some ([], drop (suc front) bytes)) _ same))
      ∙ ap (λ l. option_map (before (take front bytes)) (parts_around s l)) (sym rest_is)
      ∙ sym so_far

pub ends : (s : ℕ) (bytes : List ℕ) (front : ℕ) → length bytes ≤ front → parts_around s bytes ≡ option_map (before (take front bytes)) (parts_around s (drop front bytes)) → None ≡ parts_around s bytes
ends s bytes front all so_far = sym (so_far ∙ ap (λ l. option_map (before (take front bytes)) (parts_around s l)) (drop_all front bytes all))
