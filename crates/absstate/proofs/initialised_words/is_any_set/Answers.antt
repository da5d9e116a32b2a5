use Rattle.std.proofs.Common.{◌≡◌, ℕ, suc, ◌+◌, ◌<◌, ◌||◌, Bool, true, false, List, [], ◌∷◌, length, inl, inr, refl, ap, ◌∙◌, arith}
use Rattle.std.specs.Prelude.{slice_index_or}
use Rattle.std.proofs.lemmas.Bool.{cases_lt}
use Rattle.absstate.specs.InitialisedWords.{shifted, word_of}
use Rattle.absstate.proofs.initialised_words.is_any_set.Goals as goal

-- neither of two is true
neither : (a b : Bool) → (a || b) ≡ false → (a ≡ false) × (b ≡ false)
neither true b e = absurd cc
neither false b e = (refl, e)

-- marks of which none is set
unset_word : (ms : List Bool) → ((j : ℕ) → j < length ms → slice_index_or ms j false ≡ false) → word_of ms ≡ 0
unset_word [] unset = refl
unset_word (m ∷ ms) unset =
    ap (λ (n : ℕ). shifted n m) (unset_word ms (λ j lt. unset (suc j) (omega (arith, lt)))) ∙ ap (λ (b : Bool). shifted 0 b) (unset 0 (omega arith))

-- one mark more
one_more : (marks : List Bool) (i : ℕ) → ((j : ℕ) → j < i → slice_index_or marks j false ≡ false) → slice_index_or marks i false ≡ false → (j : ℕ) → j < i + 1 → slice_index_or marks j false ≡ false
one_more marks i unset last j lt = elim (cases_lt j i) [
  | inl below ↦ unset j below
  | inr above ↦ let same : j ≡ i = omega arith in ap (λ (k : ℕ). slice_index_or marks k false) same ∙ last
]

pub loop-i-init : goal.loop-i-init
loop-i-init c = λ e j lt. absurd (omega (arith, lt))

pub loop-i-preserved : goal.loop-i-preserved
loop-i-preserved c = λ e.
    let both = neither c.loop-i.any (slice_index_or c.args.marks.now c.loop-i.i false) e in
    one_more c.args.marks.now c.loop-i.i (c.loop-i.invariant both.0) both.1

pub returns : goal.returns
returns c = λ e. unset_word c.args.marks.now (λ j lt. c.loop-i.invariant e j (omega (arith, lt, c.loop-i-test.false, c.loop-i.auto.i-end)))
