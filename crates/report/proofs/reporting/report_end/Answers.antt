use Rattle.std.proofs.Common.{refl}
use Rattle.report.proofs.reporting.report_end.Goals as goal

pub returns-in-Err-clause-printed : goal.returns-in-Err-clause-printed
returns-in-Err-clause-printed g c = rw c.in-Err.is refl
