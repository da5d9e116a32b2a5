-- Tables of all values of a type: where their codes differ, a code has one value.
use Rattle.std.proofs.Common.{◌≡◌, ℕ, zero, suc, ◌<◌, nat_eq, nat_lt, Bool, true, false, not, ◌&&◌, ◌⊎◌, inl, inr, List, [], ◌∷◌, ◌++◌, map, Option, Some, None, refl, sym, ap, ◌∙◌, subst, arith}
use Rattle.std.specs.List.{flat_map}
use Rattle.std.proofs.lemmas.Bool.{false≢true, eq-eqb}

-- a value is in a table
abbrev pub Among : {X : Type 0} → List X → X → Type 0
Among [] x = ⊥
Among (y ∷ ys) x = (y ≡ x) ⊎ Among ys x

abbrev pub at : {X : Type 0} → List X → ℕ → Option X
at [] k = None
at (x ∷ xs) zero = Some x
at (x ∷ xs) (suc k) = at xs k

some_is : {X : Type 0} (x y : X) → Some x ≡ Some y → x ≡ y
some_is x y e = cc

pub none_is_not_some : {X : Type 0} (x : X) → None ≡ Some x → ⊥
none_is_not_some x e = absurd cc

pub among_at : {X : Type 0} (all : List X) (k : ℕ) (x : X) → at all k ≡ Some x → Among all x
among_at [] k x e = none_is_not_some x e
among_at (y ∷ ys) zero x e = inl (some_is y x e)
among_at (y ∷ ys) (suc k) x e = inr (among_at ys k x e)

pub among-map : {X Y : Type 0} (f : X → Y) (all : List X) (x : X) → Among all x → Among (map f all) (f x)
among-map f [] x h = h
among-map f (y ∷ ys) x (inl e) = inl (ap f e)
among-map f (y ∷ ys) x (inr h) = inr (among-map f ys x h)

among-left : {X : Type 0} (xs ys : List X) (x : X) → Among xs x → Among (xs ++ ys) x
among-left [] ys x h = absurd h
among-left (z ∷ xs) ys x (inl e) = inl e
among-left (z ∷ xs) ys x (inr h) = inr (among-left xs ys x h)

among-right : {X : Type 0} (xs ys : List X) (x : X) → Among ys x → Among (xs ++ ys) x
among-right [] ys x h = h
among-right (z ∷ xs) ys x h = inr (among-right xs ys x h)

pub among-flat_map : {X Y : Type 0} (f : X → List Y) (all : List X) (x : X) (y : Y) → Among all x → Among (f x) y → Among (flat_map f all) y
among-flat_map f [] x y h k = absurd h
among-flat_map f (z ∷ zs) x y (inl e) k = among-left (f z) (flat_map f zs) y (subst (λ (w : _). Among (f w) y) (sym e) k)
among-flat_map f (z ∷ zs) x y (inr h) k = among-right (f z) (flat_map f zs) y (among-flat_map f zs x y h k)

-- no number of a list is n
abbrev lacks : ℕ → List ℕ → Bool
lacks n [] = true
lacks n (m ∷ ms) = not (nat_eq n m) && lacks n ms

abbrev pub differ : List ℕ → Bool
differ [] = true
differ (n ∷ ns) = lacks n ns && differ ns

both_true : (p q : Bool) → p && q ≡ true → (p ≡ true) × (q ≡ true)
both_true true true e = (refl, refl)
both_true true false e = absurd (false≢true e)
both_true false q e = absurd (false≢true e)

not_same : (n m : ℕ) → not (nat_eq n m) ≡ true → n ≡ m → ⊥
not_same n m e same = false≢true (sym (ap not (eq-eqb n m same)) ∙ e)

other_code : {X : Type 0} (code : X → ℕ) (n : ℕ) (all : List X) (x : X) → lacks n (map code all) ≡ true → Among all x → n ≡ code x → ⊥
other_code code n [] x e h same = h
other_code code n (y ∷ ys) x e (inl is) same = not_same n (code y) (both_true _ _ e).0 (same ∙ sym (ap code is))
other_code code n (y ∷ ys) x e (inr h) same = other_code code n ys x (both_true _ _ e).1 h same

-- where all codes differ, values with one code are one value
pub one_value : {X : Type 0} (code : X → ℕ) (all : List X) (x y : X) → differ (map code all) ≡ true → Among all x → Among all y → code x ≡ code y → x ≡ y
one_value code [] x y e h k same = absurd h
one_value code (z ∷ zs) x y e (inl p) (inl q) same = sym p ∙ q
one_value code (z ∷ zs) x y e (inl p) (inr k) same = absurd (other_code code (code z) zs y (both_true _ _ e).0 k (ap code p ∙ same))
one_value code (z ∷ zs) x y e (inr h) (inl q) same = absurd (other_code code (code z) zs x (both_true _ _ e).0 h (ap code q ∙ sym same))
one_value code (z ∷ zs) x y e (inr h) (inr k) same = one_value code zs x y (both_true _ _ e).1 h k same

abbrev pub are_below : ℕ → List ℕ → Bool
are_below n [] = true
are_below n (m ∷ ms) = nat_lt m n && are_below n ms

lt_true : (m n : ℕ) → nat_lt m n ≡ true → m < n
lt_true m n e = grind arith

pub code_below : {X : Type 0} (code : X → ℕ) (n : ℕ) (all : List X) (x : X) → are_below n (map code all) ≡ true → Among all x → code x < n
code_below code n [] x e h = absurd h
code_below code n (y ∷ ys) x e (inl is) = subst (λ (z : _). code z < n) is (lt_true (code y) n (both_true _ _ e).0)
code_below code n (y ∷ ys) x e (inr h) = code_below code n ys x (both_true _ _ e).1 h
