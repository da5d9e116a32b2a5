-- Values that are replaced one after the other.
use Rattle.std.proofs.Common.{◌≡◌, ℕ, zero, suc, ◌+◌, ◌<◌, ◌≤◌, List, [], ◌∷◌, length, refl, ap, ◌∙◌, arith}
use Rattle.std.specs.Prelude.{map, slice_index_or, slice_set}

-- f of the items from an index on
abbrev pub map_from : {A : Type 0} → (A → A) → ℕ → List A → List A
map_from f zero xs = map f xs
map_from f (suc i) [] = []
map_from f (suc i) (x ∷ xs) = x ∷ map_from f i xs

replaced : {A : Type 0} (f : A → A) (d : A) (i : ℕ) (xs : List A) → i < length xs → map_from f (suc i) (slice_set xs i (f (slice_index_or xs i d))) ≡ map_from f i xs
replaced f d zero [] lt = refl
replaced f d zero (x ∷ xs) lt = refl
replaced f d (suc i) [] lt = refl
replaced f d (suc i) (x ∷ xs) lt = ap (λ (rest : List _). x ∷ rest) (replaced f d i xs (omega (arith, lt)))

next : (i : ℕ) → i + 1 ≡ suc i
next i = omega arith

pub one_more : {A : Type 0} (f : A → A) (d : A) (i : ℕ) (xs : List A) → i < length xs → map_from f (i + 1) (slice_set xs i (f (slice_index_or xs i d))) ≡ map_from f i xs
one_more f d i xs lt = ap (λ (k : ℕ). map_from f k (slice_set xs i (f (slice_index_or xs i d)))) (next i) ∙ replaced f d i xs lt

pub none_left : {A : Type 0} (f : A → A) (i : ℕ) (xs : List A) → length xs ≤ i → map_from f i xs ≡ xs
none_left f zero [] le = refl
none_left f zero (x ∷ xs) le = absurd (omega (arith, le))
none_left f (suc i) [] le = refl
none_left f (suc i) (x ∷ xs) le = ap (λ (rest : List _). x ∷ rest) (none_left f i xs (omega (arith, le)))
