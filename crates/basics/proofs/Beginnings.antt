-- What a writer holds, after a beginning of some bytes.
use Rattle.std.proofs.Common.{◌≡◌, ℕ, ◌-◌, List, [], ◌++◌, length, take, drop, refl, sym, ap, subst, ◌∙◌, append_assoc, append-nil, take-append-drop}
use Rattle.std.specs.Prelude.{Option, None, Some}
use Rattle.std.proofs.lemmas.List.{take_at, take_rest}
use Rattle.std.specs.Io.KnownBytes.{Appends, Keeps}
use Rattle.std.proofs.KnownBytes.{Appends-kept}

-- a beginning of all was appended
pub short : (a b c : Option (List ℕ)) (all done rest : List ℕ) → all ≡ done ++ rest → Appends a b done → Keeps b c → (n : ℕ) × Appends a c (take n all)
short a b c all done rest e p k =
    (length done, subst (Appends a c) (sym (ap (take (length done)) e ∙ take_at done rest (length done) refl)) (Appends-kept a b c done p k))

-- appending nothing keeps
nothing : (b c : Option (List ℕ)) → Appends b c [] → Keeps b c
nothing None c p = tt
nothing (Some y) None p = absurd p
nothing (Some y) (Some z) p = p ∙ append-nil y

pub nothing_appended : (b c : Option (List ℕ)) (xs : List ℕ) (n : ℕ) → n ≡ 0 → Appends b c (take n xs) → Keeps b c
nothing_appended b c xs n e p = nothing b c (subst (λ k. Appends b c (take k xs)) e p)

pub moves_front : (all done rest : List ℕ) (n : ℕ) → all ≡ done ++ rest → all ≡ (done ++ take n rest) ++ take (length rest - n) (drop n rest)
moves_front all done rest n e =
    e ∙ ap (λ l. done ++ l) (sym (take-append-drop n rest)) ∙ sym (append_assoc done (take n rest) (drop n rest)) ∙ ap (λ l. (done ++ take n rest) ++ l) (sym (take_rest rest n))
