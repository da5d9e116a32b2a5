-- None of the values that were listed so far shares its anchor with the value.
use Rattle.std.proofs.Common.{◌≡◌, ℕ, ◌<◌, false}
use Rattle.std.specs.Prelude.{slice_index, slice_index_or}
use Rattle.absstate.specs.Covers.{have_one_anchor}
use Rattle.absstate.specs.declared.abstract_state.AbstractValue.TheVariants.{Nothing}
use Rattle.absstate.proofs.covering.met_at.Given as goal

abbrev pub invariant-loop-k : goal.invariant-loop-k
invariant-loop-k g l = (j : ℕ) → j < l.k → have_one_anchor (slice_index_or l.values (slice_index l.firsts j) Nothing) l.value ≡ false
