-- What was read of the line has no line feed.
use Rattle.std.proofs.Common.{◌≡◌, ◌≤◌, ◌-◌, length, false}
use Rattle.relay.specs.declared.lines.TheConstants.{MAX_LINE}
use Rattle.relay.proofs.ReadLines.{IsUnread}
use Rattle.relay.proofs.lines.next_line.Given as goal

abbrev pub invariant-pieces : goal.invariant-pieces
invariant-pieces g l =
    IsUnread l.fn.input.remaining l.input.remaining l.line.items
    × (length l.line.items ≤ MAX_LINE)
    × (l.fn.input.calls ≤ l.input.calls)
    × (l.input.failed ≡ false)

abbrev pub decreases-pieces : goal.decreases-pieces
decreases-pieces g l = MAX_LINE - length l.line.items
