use Rattle.std.proofs.Common.{rules}
use Rattle.machine.proofs.Frames.{shows_run}
use Rattle.machine.proofs.tracing.execute_frame.Goals as goal

pub run_frame-requires-clause-planless : goal.run_frame-requires-clause-planless
run_frame-requires-clause-planless c = search rules

pub returns-in-Ok-clause-run : goal.returns-in-Ok-clause-run
returns-in-Ok-clause-run c = search rules

pub returns-in-Ok-clause-shows : goal.returns-in-Ok-clause-shows
returns-in-Ok-clause-shows g c = shows_run g.S.Sink.Logs _ _ _ _ _ _ _ _ c.in-Ok.ensures.length c.in-Ok.ensures.run

pub returns-in-Err-clause-shows : goal.returns-in-Err-clause-shows
returns-in-Err-clause-shows g c = shows_run g.S.Sink.Logs _ _ _ _ _ _ _ _ c.in-Err.ensures.length c.in-Err.ensures.run
