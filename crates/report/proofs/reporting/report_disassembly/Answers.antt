use Rattle.std.proofs.Common.{rules}
use Rattle.report.proofs.reporting.report_disassembly.Goals as goal

pub returns-clause-written : goal.returns-clause-written
returns-clause-written g c = search rules
