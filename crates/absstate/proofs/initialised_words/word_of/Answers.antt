use Rattle.std.proofs.Common.{◌≡◌, ℕ, suc, ◌+◌, ◌-◌, ◌<◌, Bool, false, List, length, drop, get_or, sym, ap, ◌∙◌, arith, drop-cons}
use Rattle.absstate.specs.InitialisedWords.{shifted, word_of}
use Rattle.absstate.proofs.initialised_words.word_of.Goals as goal

-- one mark more, before the others
more : (marks : List Bool) (word i : ℕ) → i < length marks → word ≡ word_of (drop (length marks - i) marks) → shifted word (get_or marks (length marks - 1 - i) false) ≡ word_of (drop (length marks - (i + 1)) marks)
more marks word i lt e =
    let at : length marks - 1 - i ≡ length marks - (i + 1) = omega arith in
    let next : length marks - i ≡ suc (length marks - (i + 1)) = omega (arith, lt) in
    ap (λ (n : ℕ). shifted n (get_or marks (length marks - 1 - i) false)) (e ∙ ap (λ (k : ℕ). word_of (drop k marks)) next)
    ∙ ap (λ (k : ℕ). shifted (word_of (drop (suc (length marks - (i + 1))) marks)) (get_or marks k false)) at
    ∙ sym (ap word_of (drop-cons marks (length marks - (i + 1)) false (omega (arith, lt))))

pub loop-i-preserved : goal.loop-i-preserved
loop-i-preserved c = c.shifted-word.ensures ∙ more c.args.marks.now c.loop-i.word c.loop-i.i c.loop-i-test.true c.loop-i.invariant
