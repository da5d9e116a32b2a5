use Rattle.std.proofs.Common.{◌≡◌, ℕ, List, Result, Ok, Err, subst}
use Rattle.insn.specs.declared.instruction.Insn.{Insn}
use Rattle.interval.specs.laws.Interval.{interval_precise}
use Rattle.interval.specs.Intervals.{LiesBetween, interval_ops}
use Rattle.interval.specs.declared.interval.Interval.{Interval}
use Rattle.verifier.specs.Refusing.{MayRefuse, CountsSteps}
use Rattle.verifier.specs.SliceEnds.{EndsIn}
use Rattle.verifier.specs.Slices.{Walking}
use Rattle.verifier.specs.laws.Verdict.{real_verdict}
use Rattle.verifier.specs.declared.refusal.Refusal.{Refusal}
use Rattle.verifier.specs.declared.walk.Verified.{Verified}
use Rattle.loader.specs.LoadingWalk.{LoadingWalk}
use Rattle.loader.specs.Slices.{IsLoadEnd}
use Rattle.loader.specs.declared.loaded.Loaded.{Loaded}
use Rattle.loader.specs.declared.loaded.TheConstants.{BUDGET}
use Rattle.loader.proofs.loading.Loading.advance.Goals as goal

accepted : (w : Walking Interval) (slice new : ℕ) (v : List Insn) → w.budget ≡ BUDGET → EndsIn interval_ops LiesBetween w slice 0 new (Ok v) → IsLoadEnd w.code (Ok v)
accepted w slice new v budget ends = (
  ends.code_is,
  ends.verdict.safe,
  record {
    made = ends.made;
    counts = subst (λ (b : ℕ). CountsSteps {T = Loaded} b 0 ends.made (Ok v)) budget (record { bound = ends.counts.bound; budget_made = tt });
    walked = record { made = ends.walked.made; count = ends.walked.count; end = ends.walked.end };
  },
)

refused : (w : Walking Interval) (slice new : ℕ) (e : Refusal) → w.budget ≡ BUDGET → EndsIn interval_ops LiesBetween w slice 0 new (Err e) → IsLoadEnd w.code (Err e)
refused w slice new e budget ends = (
  subst (λ (b : ℕ). MayRefuse w.code b e) budget (real_verdict interval_ops LiesBetween interval_precise w.code w.budget (Err e) ends.verdict).refused,
  record {
    made = ends.made;
    counts = subst (λ (b : ℕ). CountsSteps {T = Loaded} b 0 ends.made (Err e)) budget (record { bound = ends.counts.bound; budget_made = ends.counts.budget_made });
    walked = record { made = ends.walked.made; count = ends.walked.count; end = ends.walked.end };
  },
)

pub returns-in-Ok : goal.returns-in-Ok
returns-in-Ok c =
    let ends : EndsIn interval_ops LiesBetween c.self.inside.walk c.args.slice 0 c.in-Ended.ensures.0 (Ok c.in-Ok.program) =
    subst (λ (r : Result Verified Refusal). EndsIn interval_ops LiesBetween c.self.inside.walk c.args.slice 0 c.in-Ended.ensures.0 r) c.in-Ok.is c.in-Ended.ensures.1 in
    subst (λ (l : LoadingWalk). IsLoadEnd l.walk.code (Ok c.in-Ok.program)) c.self.view_is (accepted c.self.inside.walk c.args.slice c.in-Ended.ensures.0 c.in-Ok.program c.self.invariant ends)

pub returns-in-Err : goal.returns-in-Err
returns-in-Err c =
    let ends : EndsIn interval_ops LiesBetween c.self.inside.walk c.args.slice 0 c.in-Ended.ensures.0 (Err c.in-Err.refusal) =
    subst (λ (r : Result Verified Refusal). EndsIn interval_ops LiesBetween c.self.inside.walk c.args.slice 0 c.in-Ended.ensures.0 r) c.in-Err.is c.in-Ended.ensures.1 in
    subst (λ (l : LoadingWalk). IsLoadEnd l.walk.code (Err c.in-Err.refusal)) c.self.view_is (refused c.self.inside.walk c.args.slice c.in-Ended.ensures.0 c.in-Err.refusal c.self.invariant ends)
