use Rattle.std.proofs.Common.{◌≡◌, false}
use Rattle.commands.proofs.covering.cover_lines.Given as goal

abbrev pub invariant-loop-number : goal.invariant-loop-number
invariant-loop-number g l = record { reads : l.input.failed ≡ false; writes : l.output.failed ≡ false }
