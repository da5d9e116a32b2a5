-- Internal. Abstract answers that agree with the machine's: an accepted step where the machine continues, and a refusal
-- where it is stuck for the same reason, as far as that is claimed.
use Rattle.std.proofs.Common.{◌≡◌, Result, Ok, Err, refl}
use Rattle.basics.specs.Fallible.{◌>>=◌}
use Rattle.semantics.specs.declared.reason.Reason.{Reason}

-- an accepted step is related to the machine's; a claimed refusal is the machine's own
abbrev pub Agree : {A B : Type 0} → (Reason → Type 0) → (A → B → Type 0) → Result A Reason → Result B Reason → Type 0
Agree claimed R (Ok x) (Ok y) = R x y
Agree claimed R (Ok x) (Err e) = ⊥
Agree claimed R (Err e) (Ok y) = claimed e → ⊥
Agree claimed R (Err e) (Err f) = claimed e → e ≡ f

-- a refusal that isn't claimed agrees with every answer
pub agree-unclaimed : {A B : Type 0} (claimed : Reason → Type 0) (R : A → B → Type 0) (e : Reason) (y : Result B Reason) → (claimed e → ⊥) → Agree claimed R (Err e) y
agree-unclaimed claimed R e (Ok y) free = free
agree-unclaimed claimed R e (Err f) free = λ c. absurd (free c)

-- a refusal agrees with the machine's where that is the same, as far as it is claimed
pub refused_alike : {A B : Type 0} (claimed : Reason → Type 0) (R : A → B → Type 0) (e : Reason) (y : Result B Reason) → (claimed e → y ≡ Err e) → Agree claimed R (Err e) y
refused_alike claimed R e (Ok y) same = λ c. let bad = same c in absurd cc
refused_alike claimed R e (Err f) same = λ c. let is = same c in cc

-- steps that agree, one after the other, agree
pub and_then : {A B C D : Type 0} (claimed : Reason → Type 0) (R : A → B → Type 0) (S : C → D → Type 0) (x : Result A Reason) (y : Result B Reason) (f : A → Result C Reason) (g : B → Result D Reason)
    → Agree claimed R x y → ((a : A) (b : B) → x ≡ Ok a → y ≡ Ok b → R a b → Agree claimed S (f a) (g b)) → Agree claimed S (x >>= f) (y >>= g)
and_then claimed R S (Ok a) (Ok b) f g agree on = on a b refl refl agree
and_then claimed R S (Ok a) (Err e) f g agree on = absurd agree
and_then claimed R S (Err e) (Ok b) f g agree on = agree-unclaimed claimed S e (g b) agree
and_then claimed R S (Err e) (Err f') f g agree on = agree

-- the same test on both sides
pub same_test : {A B : Type 0} (claimed : Reason → Type 0) (S : A → B → Type 0) (r : Result (Unit {0}) Reason) (x : Result A Reason) (y : Result B Reason)
    → Agree claimed S x y → Agree claimed S (r >>= λ u. x) (r >>= λ u. y)
same_test claimed S (Ok u) x y agree = agree
same_test claimed S (Err e) x y agree = λ c. refl
