-- The first line of some bytes, and what follows it.
use Rattle.std.proofs.Common.{◌≡◌, ◌≢◌, ℕ, ◌-◌, ◌⊎◌, eqb, true, false, List, [], ◌∷◌, ◌++◌, All, length, length-append, take, refl, sym, ap, ◌∙◌, inl, inr, arith, subst, append-nil, eqb-true, eq-eqb}
use Rattle.std.specs.Prelude.{nat_lt, ◌==◌, slice_index}
use Rattle.std.proofs.lemmas.Bool.{cases_Bool, cond-true, cond-false, and_parts, and_from, lt-ltb, ltb-true, both_ways}
use Rattle.std.proofs.lemmas.List.{take_at, get_or_push}
use Rattle.std.proofs.lemmas.List.Elements.{All-nil, All-cons, All-get_or}
use Rattle.std.proofs.BufReadLemmas.{take_through-append, drop_through-append}
use Rattle.std.specs.Io.BufRead.{take_through, drop_through, first_piece, strip_last, ends_with_byte}

-- some bytes are a line and its line feed and what follows, or one line with none
pub record HasLine (xs : List ℕ) : Type 0 where
  pub line : List ℕ
  pub free : All (λ x. x ≢ 10) line
  pub split : ((rest : List ℕ) × (xs ≡ line ++ 10 ∷ rest)) ⊎ (xs ≡ line)

differs : (x : ℕ) → eqb x 10 ≡ false → x ≢ 10
differs x f e = both_ways (eqb x 10) f (eq-eqb x 10 e)

pub line_in : (xs : List ℕ) → HasLine xs
line_in [] = record { line = []; free = All-nil (λ x. x ≢ 10); split = inr refl }
line_in (x ∷ xs) = elim (cases_Bool (eqb x 10)) [
  | inl t ↦ record { line = []; free = All-nil (λ x. x ≢ 10); split = inl (xs, ap (λ y. y ∷ xs) (eqb-true x 10 t)) }
  | inr f ↦ record {
    line = x ∷ (line_in xs).line;
    free = All-cons (λ x. x ≢ 10) x (line_in xs).line (differs x f) (line_in xs).free;
    split = elim (line_in xs).split [ inl h ↦ inl (h.0, ap (λ ys. x ∷ ys) h.1) | inr e ↦ inr (ap (λ ys. x ∷ ys) e) ];
  }
]

strip_ended : (l : List ℕ) → strip_last 10 (l ++ 10 ∷ []) ≡ l
strip_ended l =
    let n = length (l ++ 10 ∷ []) - 1 in
    let long : length l ≡ n = omega (arith, length-append l (10 ∷ [])) in
    let some : nat_lt 0 (length (l ++ 10 ∷ [])) ≡ true = lt-ltb 0 (length (l ++ 10 ∷ [])) (omega (arith, length-append l (10 ∷ []))) in
    let last : (slice_index (l ++ 10 ∷ []) n == 10) ≡ true = ap (λ y. y == 10) (get_or_push l 10 0 n long) in
    cond-true (ends_with_byte 10 (l ++ 10 ∷ [])) (take n (l ++ 10 ∷ [])) (l ++ 10 ∷ []) (and_from (nat_lt 0 (length (l ++ 10 ∷ []))) (slice_index (l ++ 10 ∷ []) n == 10) some last) ∙ take_at l (10 ∷ []) n long

strip_free : (l : List ℕ) → All (λ x. x ≢ 10) l → strip_last 10 l ≡ l
strip_free l free = elim (cases_Bool (ends_with_byte 10 l)) [
  | inl t ↦
      let parts = and_parts (nat_lt 0 (length l)) (slice_index l (length l - 1) == 10) t in
      absurd (All-get_or (λ x. x ≢ 10) l (length l - 1) 0 (omega (arith, ltb-true 0 (length l) parts.0)) free (eqb-true (slice_index l (length l - 1)) 10 parts.1))
  | inr f ↦ cond-false (ends_with_byte 10 l) (take (length l - 1) l) l f
]

-- the line is what a read up to a line feed gives
pub piece_ended : (l rest : List ℕ) → All (λ x. x ≢ 10) l → (first_piece 10 (l ++ 10 ∷ rest) ≡ l) × (drop_through 10 (l ++ 10 ∷ rest) ≡ rest)
piece_ended l rest free = (ap (strip_last 10) (take_through-append 10 l (10 ∷ rest) free) ∙ strip_ended l, drop_through-append 10 l (10 ∷ rest) free)

pub piece_last : (l : List ℕ) → All (λ x. x ≢ 10) l → (first_piece 10 l ≡ l) × (drop_through 10 l ≡ [])
piece_last l free =
    let whole : take_through 10 l ≡ l = ap (take_through 10) (sym (append-nil l)) ∙ take_through-append 10 l [] free ∙ append-nil l in
    (ap (strip_last 10) whole ∙ strip_free l free, ap (drop_through 10) (sym (append-nil l)) ∙ drop_through-append 10 l [] free)

-- either the line and its feed were taken, or all that there was
pub taken : (xs : List ℕ) → (xs ≡ first_piece 10 xs ++ 10 ∷ drop_through 10 xs) ⊎ ((xs ≡ first_piece 10 xs) × (drop_through 10 xs ≡ []))
taken xs = let has = line_in xs in elim has.split [
  | inl h ↦
      let p = piece_ended has.line h.0 has.free in
      let Is : List ℕ → Type 0 = λ ys. ys ≡ first_piece 10 ys ++ 10 ∷ drop_through 10 ys in
      inl (subst Is (sym h.1) (λ i. sym p.0 i ++ 10 ∷ sym p.1 i))
  | inr e ↦
      let p = piece_last has.line has.free in
      inr (subst (λ ys. (ys ≡ first_piece 10 ys) × (drop_through 10 ys ≡ [])) (sym e) (sym p.0, p.1))
]
