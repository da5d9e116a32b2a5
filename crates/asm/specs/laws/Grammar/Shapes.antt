-- Internal. The shapes of arguments: a value that ends the tokens, or two values with a comma between them.
use Rattle.std.proofs.Common.{◌≡◌, List, [], ◌∷◌, ◌++◌, Option, Some, None, refl, sym, ap, ◌∙◌, subst, append-nil}
use Rattle.std.specs.Prelude.{codes, option_map}
use Rattle.std.proofs.lemmas.Option.{none-some, same_Some}
use Rattle.asm.specs.Lines.{Token}
use Rattle.basics.specs.Options.{◌>>=◌}
use Rattle.asm.specs.Reading.{Parse, sign, end}
use Rattle.asm.specs.laws.Grammar.Steps.{bound, onward, steps_grouping}
use Rattle.asm.specs.laws.Grammar.Arguments.{Reader, before, IsReader, sign_taken}

-- ---- definitions

-- a value and a comma
abbrev pub with_comma : {X : Type 0} → Reader X → Reader X
with_comma reader ts = do
  x ← reader ts
  rest ← sign (codes ",") x.rest
  before x.value rest

-- what is made of a value that ends the tokens
abbrev pub last : {X Z : Type 0} → Reader X → (X → Z) → List Token → Option Z
last reader made ts = do
  x ← reader ts
  done ← end x.rest
  Some (made x.value)

-- what is made of two values
abbrev pub pair : {X Y Z : Type 0} → Reader X → Reader Y → (X → Y → Z) → List Token → Option Z
pair first second made ts = do
  x ← with_comma first ts
  last second (made x.value) x.rest

-- two values with a comma between them
abbrev pub Separated : {X Y : Type 0} → (X → List Token → Type 0) → (Y → List Token → Type 0) → X → Y → List Token
    → Type 0
Separated A B x y ts = (front rest : List Token) × (ts ≡ front ++ codes "," ∷ rest) × A x front × B y rest

-- ---- one value

-- after the last value are no tokens
pub no_more : (ts : List Token) → end ts ≡ Some tt → ts ≡ []
no_more [] e = refl
no_more (t ∷ ts) e = absurd (none-some tt e)

module _ {X : Type 0} (reader : Reader X) {A : X → List Token → Type 0} (reads : IsReader reader A) where
  -- a last value that is read is all of the tokens
  pub last_taken : {Z : Type 0} (made : X → Z) (ts : List Token) (z : Z) → last reader made ts ≡ Some z
      → (x : X) × A x ts × (z ≡ made x)
  last_taken made ts z e =
      let read = bound (reader ts) _ z e in
      let done = bound (end read.0.rest) _ z read.2 in
      let found = reads.takes ts read.0 read.1 in
      let none : read.0.rest ≡ [] = no_more read.0.rest done.1 in
      let all : ts ≡ found.0 = found.1 ∙ ap (λ (us : List Token). found.0 ++ us) none ∙ append-nil found.0 in
      (read.0.value, subst (A read.0.value) (sym all) found.2, sym (same_Some _ z done.2))

  -- a value that is all of the tokens is read
  pub last_given : {Z : Type 0} (made : X → Z) (x : X) (ts : List Token) → A x ts → last reader made ts ≡ Some (made x)
  last_given made x ts h =
      onward (reader ts) _ (record { value = x; rest = [] }) _
      (ap reader (sym (append-nil ts)) ∙ reads.gives x ts [] h) refl

  -- a value and a comma that are read are first
  pub comma_taken : (ts : List Token) (r : Parse X) → with_comma reader ts ≡ Some r
      → (front : List Token) × (ts ≡ front ++ codes "," ∷ r.rest) × A r.value front
  comma_taken ts r e =
      let read = bound (reader ts) _ r e in
      let comma = bound (sign (codes ",") read.0.rest) _ r read.2 in
      let found = reads.takes ts read.0 read.1 in
      let split : ts ≡ found.0 ++ codes "," ∷ comma.0 =
      found.1 ∙ ap (λ (us : List Token). found.0 ++ us) (sign_taken (codes ",") read.0.rest comma.0 comma.1) in
      subst (λ (q : Parse X). (front : List Token) × (ts ≡ front ++ codes "," ∷ q.rest) × A q.value front)
      (same_Some _ r comma.2) (found.0, split, found.2)

  -- a value and a comma that are first are read
  pub comma_given : (x : X) (front rest : List Token) → A x front
      → with_comma reader (front ++ codes "," ∷ rest) ≡ before x rest
  comma_given x front rest a =
      onward (reader (front ++ codes "," ∷ rest)) _ (record { value = x; rest = codes "," ∷ rest }) _
      (reads.gives x front (codes "," ∷ rest) a) refl

-- what is made of the last value afterwards
pub made_last : {X Y Z : Type 0} (o : Option (Parse X)) (value : X → Y) (made : Y → Z)
    → option_map made (o >>= (λ x. end x.rest >>= (λ done. Some (value x.value))))
    ≡ (o >>= (λ x. end x.rest >>= (λ done. Some (made (value x.value)))))
made_last None value made = refl
made_last (Some x) value made = go (end x.rest)
  where
    go : (option : Option (Unit {0}))
        → option_map made (option >>= (λ done. Some (value x.value)))
        ≡ (option >>= (λ done. Some (made (value x.value))))
    go None = refl
    go (Some done) = refl

-- ---- two values

module _ {X Y : Type 0} (first : Reader X) (second : Reader Y) {A : X → List Token → Type 0}
    {B : Y → List Token → Type 0} (first_reads : IsReader first A) (second_reads : IsReader second B) where
  -- two values that are read are all of the tokens
  pub pair_taken : {Z : Type 0} (made : X → Y → Z) (ts : List Token) (z : Z) → pair first second made ts ≡ Some z
      → (x : X) × (y : Y) × Separated A B x y ts × (z ≡ made x y)
  pair_taken made ts z e =
      let read = bound (with_comma first ts) _ z e in
      let found = comma_taken first first_reads ts read.0 read.1 in
      let after = last_taken second second_reads (made read.0.value) read.0.rest z read.2 in
      (read.0.value, after.0, (found.0, read.0.rest, found.1, found.2, after.1), after.2)

  -- two values that are all of the tokens are read
  pub pair_given : {Z : Type 0} (made : X → Y → Z) (x : X) (y : Y) (ts : List Token) → Separated A B x y ts
      → pair first second made ts ≡ Some (made x y)
  pair_given made x y ts (front, rest, split, h, k) =
      ap (pair first second made) split
      ∙ onward (with_comma first (front ++ codes "," ∷ rest)) _ (record { value = x; rest = rest }) _
      (comma_given first first_reads x front rest h) (last_given second second_reads (made x) y rest k)

-- a value and a comma as a group of their own
pub comma_first : {X Z : Type 0} (o : Option (Parse X)) (f : Parse X → Option Z)
    → (o >>= (λ x. sign (codes ",") x.rest >>= (λ rest. f (record { value = x.value; rest = rest }))))
    ≡ o >>= (λ x. sign (codes ",") x.rest >>= (λ rest. before x.value rest)) >>= f
comma_first None f = refl
comma_first (Some x) f = steps_grouping (sign (codes ",") x.rest) (before x.value) f
