-- No endpoint before the current one is due.
use Rattle.server.specs.Entries.{ArePassed}
use Rattle.server.proofs.schedule.Schedule.find.Given as goal

abbrev pub invariant-loop-token : goal.invariant-loop-token
invariant-loop-token l = ArePassed l.token l.self
