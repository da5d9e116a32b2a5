use Rattle.std.proofs.Common.{◌≡◌, false}
use Rattle.commands.proofs.comparing.compare_lines.Given as goal

abbrev pub invariant-loop-number : goal.invariant-loop-number
invariant-loop-number g l = l.input.failed ≡ false
