use Rattle.std.proofs.Common.{Result, Ok, Err, OnOk, ap}
use Rattle.machine.specs.Contexts.{context_of}
use Rattle.report.proofs.reporting.prepare.Goals as goal

-- what holds whatever the result is
whatever : {T E : Type 0} (P : Type 0) (result : Result T E) → P → OnOk result P
whatever P (Ok x) holds = holds
whatever P (Err e) holds = tt

pub returns-clause-context : goal.returns-clause-context
returns-clause-context c = whatever _ c.program.result (ap context_of c.in_ok-start_frame.ensures.context)
