use Rattle.std.proofs.Common.{length}
use Rattle.absstate.proofs.abstract_state.+greatest_id.Given as goal

abbrev pub decreases-greatest_id : goal.decreases-greatest_id
decreases-greatest_id g l = length l.values.now
