-- The word of the last marks, as many as turns were made.
use Rattle.std.proofs.Common.{◌≡◌, ◌-◌, length, drop}
use Rattle.absstate.specs.InitialisedWords.{word_of}
use Rattle.absstate.proofs.initialised_words.word_of.Given as goal

abbrev pub invariant-loop-i : goal.invariant-loop-i
invariant-loop-i l = l.word ≡ word_of (drop (length l.marks - l.i) l.marks)
