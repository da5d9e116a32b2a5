-- Types that are collected, each once, up to a number of them.
use Rattle.std.proofs.Common.{◌≡◌, ℕ, ◌<◌, ◌≤◌, inl, inr, Bool, true, false, cond, not, ◌==◌, List, [], ◌∷◌, ◌++◌, length, map, take, fold, sym, ap, ◌∙◌, refl, arith}
use Rattle.std.proofs.lemmas.List.{length-append, take_all, take-append-le, length-take-le}
use Rattle.std.proofs.lemmas.Bool.{cases_lt, eqb-false, eqb-true}
use Rattle.std.specs.List.{list_any, filter}
use Rattle.stun.specs.Attributes.{is_understood}
use Rattle.stun.specs.Messages.{Attribute}
use Rattle.control.specs.Unknown.{with_type}

abbrev pub is_among : List ℕ → ℕ → Bool
is_among kinds kind = list_any (λ k. k == kind) kinds

-- where there is room, all of them stay
pub added : (n : ℕ) (kinds : List ℕ) (kind : ℕ) → is_among kinds kind ≡ false → length kinds < n → kinds ++ kind ∷ [] ≡ take n (with_type kinds kind)
added n kinds kind new room =
    sym (ap (λ b. take n (cond b kinds (kinds ++ kind ∷ []))) new ∙ take_all n (kinds ++ kind ∷ []) (omega (arith, room, length-append kinds (kind ∷ []))))

pub not_full : (n : ℕ) (kinds : List ℕ) → length kinds ≤ n → (length kinds == n) ≡ false → length kinds < n
not_full n kinds few other = omega (arith, few, eqb-false (length kinds) n other)

pub all_room : (n : ℕ) (kinds : List ℕ) → (length kinds == n) ≡ true → n ≤ length kinds
all_room n kinds same = omega (arith, eqb-true (length kinds) n same)

pub known : (n : ℕ) (kinds : List ℕ) (kind : ℕ) → is_among kinds kind ≡ true → length kinds ≤ n → kinds ≡ take n (with_type kinds kind)
known n kinds kind old few = sym (ap (λ b. take n (cond b kinds (kinds ++ kind ∷ []))) old ∙ take_all n kinds few)

-- where there is none, another one changes nothing
pub full : (n : ℕ) (kinds : List ℕ) (kind : ℕ) → n ≤ length kinds → take n kinds ≡ take n (with_type kinds kind)
full n kinds kind many =
    elim (is_among kinds kind) as (λ b. take n kinds ≡ take n (cond b kinds (kinds ++ kind ∷ []))) [
      | true ↦ refl
      | false ↦ sym (take-append-le n kinds (kind ∷ []) many)
    ]

step_cut : (n : ℕ) (kinds : List ℕ) (kind : ℕ) → take n (with_type (take n kinds) kind) ≡ take n (with_type kinds kind)
step_cut n kinds kind =
    elim (cases_lt (length kinds) n) as (λ _. take n (with_type (take n kinds) kind) ≡ take n (with_type kinds kind)) [
      | inl few ↦ ap (λ ks. take n (with_type ks kind)) (take_all n kinds (omega (arith, few)))
      | inr many ↦ sym (full n (take n kinds) kind (omega (arith, length-take-le n kinds many))) ∙ take_all n (take n kinds) (omega (arith, length-take-le n kinds many)) ∙ full n kinds kind many
    ]

twice : (n : ℕ) (kinds : List ℕ) → take n (take n kinds) ≡ take n kinds
twice n kinds = elim (cases_lt (length kinds) n) as (λ _. take n (take n kinds) ≡ take n kinds) [
  | inl few ↦ ap (take n) (take_all n kinds (omega (arith, few)))
  | inr many ↦ take_all n (take n kinds) (omega (arith, length-take-le n kinds many))
]

-- those that come later meet the same
pub fold_cut : (n : ℕ) (kinds rest : List ℕ) → take n (fold with_type (take n kinds) rest) ≡ take n (fold with_type kinds rest)
fold_cut n kinds [] = twice n kinds
fold_cut n kinds (kind ∷ rest) =
    sym (fold_cut n (with_type (take n kinds) kind) rest)
    ∙ ap (λ ks. take n (fold with_type ks rest)) (step_cut n kinds kind)
    ∙ fold_cut n (with_type kinds kind) rest

-- the types of attributes that are not understood
abbrev pub unknown_in : List Attribute → List ℕ
unknown_in attributes = filter (λ kind. not (is_understood kind)) (map (λ a. a.kind) attributes)

pub unknown_first : (a : Attribute) (rest : List Attribute) → is_understood a.kind ≡ false → a.kind ∷ unknown_in rest ≡ unknown_in (a ∷ rest)
unknown_first a rest other = ap (λ b. cond (not b) (a.kind ∷ unknown_in rest) (unknown_in rest)) (sym other)
