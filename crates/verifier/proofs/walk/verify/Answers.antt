use Rattle.interval.specs.Intervals.{LiesBetween, interval_ops}
use Rattle.interval.specs.laws.Interval.{interval_precise}
use Rattle.verifier.specs.laws.Verdict.{real_verdict}
use Rattle.verifier.proofs.walk.verify.Goals as goal

pub returns-clause-verdict : goal.returns-clause-verdict
returns-clause-verdict g c = real_verdict interval_ops LiesBetween interval_precise c.args.code.now c.args.budget c.verify_with.result c.verify_with.ensures.verdict
