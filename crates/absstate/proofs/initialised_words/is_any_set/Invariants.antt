-- Where none is known to be set, no mark so far is.
use Rattle.std.proofs.Common.{◌≡◌, ℕ, ◌<◌, false}
use Rattle.std.specs.Prelude.{slice_index_or}
use Rattle.absstate.proofs.initialised_words.is_any_set.Given as goal

abbrev pub invariant-loop-i : goal.invariant-loop-i
invariant-loop-i l = l.any ≡ false → (j : ℕ) → j < l.i → slice_index_or l.marks j false ≡ false
