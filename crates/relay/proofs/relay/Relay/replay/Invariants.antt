-- What was read, done and written so far: a line takes at least one call of the reader.
use Rattle.std.proofs.Common.{◌≡◌, ◌≤◌, ◌-◌, ◌^◌, false}
use Rattle.relay.proofs.Played.{IsUnderWay}
use Rattle.relay.proofs.relay.Relay.replay.Given as goal

abbrev pub invariant-lines : goal.invariant-lines
invariant-lines g l =
    IsUnderWay l.fn.explains l.count l.fn.input.remaining l.input.remaining l.fn.self l.self l.fn.output.contents l.output.contents
    × (l.count ≤ l.input.calls)
    × (l.input.failed ≡ false)
    × (l.output.failed ≡ false)

abbrev pub decreases-lines : goal.decreases-lines
decreases-lines g l = 2 ^ 64 - l.input.calls
