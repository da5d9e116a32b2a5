-- The entries so far have no stamp, and the others are as before.
use Rattle.std.proofs.Common.{◌≡◌, ◌++◌, map, take, drop}
use Rattle.server.specs.Entries.{unstamped}
use Rattle.server.proofs.schedule.unstamp.Given as goal

abbrev pub invariant-loop-entry : goal.invariant-loop-entry
invariant-loop-entry l = l.entries ≡ map unstamped (take l.entry-index l.fn.entries) ++ drop l.entry-index l.fn.entries
