use Rattle.std.proofs.Common.{◌≡◌, ℕ, zero, suc, ◌<◌, arith, length, true, List, [], ◌∷◌, refl, sym, ap, ◌∙◌, bit_and}
use Rattle.std.proofs.lemmas.Bool.{ltb-true, not-true}
use Rattle.std.specs.Prelude.{◌==◌, slice_index_or}
use Rattle.absstate.specs.InitialisedWords.{words_of, are_within}
use Rattle.absstate.specs.laws.Step.MemoryValues.{first_of_and, rest_of_and}
use Rattle.absstate.specs.laws.Step.Packing.{ruled_out, same_item}
use Rattle.absstate.specs.laws.Step.Words.{covered_within}
use Rattle.absstate.proofs.part.word_rules_out.Goals as goal

and_nothing : (n : ℕ) → (bit_and 0 n == 0) ≡ true
and_nothing n = refl

-- each word is within the one at its place
within_at : (i : ℕ) (words others : List ℕ) → i < length others → are_within words others ≡ true → (bit_and (slice_index_or words i 0) (slice_index_or others i 0) == slice_index_or words i 0) ≡ true
within_at i [] others lt e = and_nothing (slice_index_or others i 0)
within_at i (w ∷ words) [] lt e = absurd (omega (arith, lt))
within_at zero (w ∷ words) (o ∷ others) lt e = first_of_and (bit_and w o == w) (are_within words others) e
within_at (suc i) (w ∷ words) (o ∷ others) lt e = within_at i words others (omega (arith, lt)) (rest_of_and (bit_and w o == w) (are_within words others) e)

pub returns-in-Some : goal.returns-in-Some
returns-in-Some g c = λ a is out. ruled_out _ (bit_and c.args.word c.in-Some.known.now == c.args.word) (λ covered.
    let words : are_within (words_of a.marks.cells) c.args.words.now ≡ true = ap (are_within (words_of a.marks.cells)) c.requires ∙ covered_within g.D.Domain.ops a c.args.other.now covered in
    let inside : c.args.index < length c.args.words.now = ltb-true c.args.index (length c.args.words.now) (sym c.in-Some.ensures.lookup.0) in
    ap (λ (n : ℕ). bit_and c.args.word n == c.args.word) (c.in-Some.ensures.lookup.1 ∙ same_item c.args.index c.args.words.now c.in-Some.known.now 0 inside) ∙ ap (λ (w : ℕ). bit_and w (slice_index_or c.args.words.now c.args.index 0) == w) (sym is)
    ∙ within_at c.args.index (words_of a.marks.cells) c.args.words.now inside words) (not-true _ out)
