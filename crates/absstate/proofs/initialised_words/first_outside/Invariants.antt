-- The words so far have no bits but those of the others.
use Rattle.std.proofs.Common.{◌≡◌, drop}
use Rattle.absstate.specs.InitialisedWords.{are_within}
use Rattle.absstate.proofs.initialised_words.first_outside.Given as goal

abbrev pub invariant-loop-i : goal.invariant-loop-i
invariant-loop-i l = are_within l.words l.others ≡ are_within (drop l.i l.words) (drop l.i l.others)
