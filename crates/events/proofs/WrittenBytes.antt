-- What a writer has, after a beginning of some bytes.
use Rattle.std.proofs.Common.{◌≡◌, ℕ, ◌==◌, false, List, [], ◌∷◌, ◌++◌, length, take, drop, refl, sym, ap, subst, ◌∙◌, append_assoc, append-nil, take-append-drop}
use Rattle.std.specs.Prelude.{Option, None, Some, IfSome, Result, Ok, Err, OnErr}
use Rattle.std.proofs.lemmas.List.{take_at, nil_from_length}
use Rattle.std.specs.Io.KnownBytes.{Appends}
use Rattle.std.proofs.KnownBytes.{Appends-trans}
use Rattle.hex.specs.Hex.{encode_with, encode_lower}
use Rattle.events.specs.Lines.{bytes_text}

-- where a part is cut, a beginning of all was appended
pub cut : (a b c : Option (List ℕ)) (all done part rest : List ℕ) → all ≡ done ++ part ++ rest → Appends a b done → (n : ℕ) × Appends b c (take n part) → (n : ℕ) × Appends a c (take n all)
cut a b c all done part rest e p (n, q) =
    let front : List ℕ = done ++ take n part in
    let parts : all ≡ front ++ (drop n part ++ rest) =
    e
    ∙ ap (λ l. done ++ l ++ rest) (sym (take-append-drop n part))
    ∙ ap (λ l. l ++ rest) (sym (append_assoc done (take n part) (drop n part)))
    ∙ append_assoc front (drop n part) rest in
    (length front, subst (Appends a c) (sym (ap (take (length front)) parts ∙ take_at front (drop n part ++ rest) (length front) refl)) (Appends-trans a b c done (take n part) p q))

-- what holds whatever the error
pub for_err : {X E : Type 0} {P : Type 0} (r : Result X E) → P → OnErr r P
for_err (Ok x) p = tt
for_err (Err e) p = p

-- the digits of some bytes, and of those after them
pub encode-append : (xs ys : List ℕ) → encode_lower (xs ++ ys) ≡ encode_lower xs ++ encode_lower ys
unfolding encode_with
encode-append [] ys = refl
encode-append (b ∷ xs) ys = ap (λ l. take 2 (encode_lower (b ∷ xs)) ++ l) (encode-append xs ys)

-- bytes that are there have their digits as text
pub text_is : (bytes : List ℕ) → (length bytes == 0) ≡ false → bytes_text bytes ≡ encode_lower bytes
text_is [] e = absurd cc
text_is (b ∷ bytes) e = refl

pub no_bytes : (rest done all : List ℕ) → length rest ≡ 0 → done ++ encode_lower rest ≡ all → done ≡ all
unfolding encode_with
no_bytes rest done all none e = sym (append-nil done) ∙ ap (λ l. done ++ encode_lower l) (sym (nil_from_length rest none)) ∙ e

pub map_err : {X E : Type 0} {P Q : Type 0} (r : Result X E) → (P → Q) → OnErr r P → OnErr r Q
map_err (Ok x) f p = tt
map_err (Err e) f p = f p

pub map_some : {X : Type 0} {P Q : X → Type 0} (o : Option X) → ((x : X) → P x → Q x) → IfSome o P → IfSome o Q
map_some None f p = tt
map_some (Some x) f p = f x p
