use Rattle.std.proofs.Common.{◌≡◌, false}
use Rattle.commands.proofs.covering.trace_event.Given as goal

abbrev pub invariant-loop-count : goal.invariant-loop-count
invariant-loop-count g l = record { reads : l.input.failed ≡ false; writes : l.output.failed ≡ false }
