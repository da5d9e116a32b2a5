use Rattle.std.proofs.Common.{◌≡◌, ◌-◌, List, length, Some, sym, subst}
use Rattle.std.specs.Prelude.{All, slice_get}
use Rattle.interval.specs.Intervals.{interval_ops}
use Rattle.interval.specs.declared.interval.Interval.{Interval}
use Rattle.verifier.specs.declared.walk.Pending.{Pending}
use Rattle.explaining.specs.Paths.{EndsStatePath}
use Rattle.explaining.proofs.Trailing.{more_firsts}
use Rattle.explaining.proofs.searching.Trail.count.Goals as goal

pub returns-clause-firsts : goal.returns-clause-firsts
returns-clause-firsts c code is_path all =
    let last : Some c.in-Some.here.now ≡ slice_get c.args.self.now.path.items (length c.args.self.now.path.items - 1) =
    subst (λ (xs : List (Pending Interval)). Some c.in-Some.here.now ≡ slice_get xs (length xs - 1)) c.deref.ensures.value c.in-Some.ensures.value in
    subst (All (EndsStatePath interval_ops code)) (sym c.in_ok-push.ensures.items) (more_firsts code c.args.self.now.path.items c.args.self.now.firsts.items c.in-Some.here.now is_path last all)
