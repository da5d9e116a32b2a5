use Rattle.std.proofs.Common.{rules, refl}
use Rattle.report.specs.Statuses.{IsSafeFile}
use Rattle.report.specs.declared.reporting.Ask.TheVariants.{Verify}
use Rattle.report.proofs.Printed.{zero_printed}
use Rattle.report.proofs.reporting.report_verify.Goals as goal

pub returns-in_ok-map_err-in-Ok-clause-printed : goal.returns-in_ok-map_err-in-Ok-clause-printed
returns-in_ok-map_err-in-Ok-clause-printed g c =
    let safe : IsSafeFile c.args.file.now = search rules in
    zero_printed Verify c.args.file.now 0 refl safe
