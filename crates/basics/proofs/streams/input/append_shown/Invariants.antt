-- Nothing was read while the reader was interrupted.
use Rattle.std.proofs.Common.{◌≡◌, ◌-◌, ◌^◌, ◌≤◌}
use Rattle.std.specs.Io.KnownBytes.{Keeps}
use Rattle.basics.proofs.streams.input.append_shown.Given as goal

abbrev pub invariant-loop-calls : goal.invariant-loop-calls
invariant-loop-calls g l = (l.line.items ≡ l.fn.line.items) × (l.fn.calls ≤ l.calls) × Keeps (g.R.Read.remaining l.fn.reader) (g.R.Read.remaining l.reader)

abbrev pub decreases-loop-calls : goal.decreases-loop-calls
decreases-loop-calls g l = 2 ^ 64 - l.calls
