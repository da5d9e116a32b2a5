use Rattle.std.proofs.Common.{◌≡◌, ℕ, ◌+◌, ◌-◌, List, ◌++◌, length, take, Result, Err, sym, ap, ◌∙◌, subst, arith}
use Rattle.std.specs.Prelude.{All, IfErr, replicate}
use Rattle.insn.specs.declared.instruction.Insn.{Insn}
use Rattle.interval.specs.laws.Interval.{interval_precise}
use Rattle.interval.specs.Intervals.{LiesBetween, interval_ops}
use Rattle.interval.specs.declared.interval.Interval.{Interval}
use Rattle.verifier.specs.Refusing.{IsVerdict, CountsSteps}
use Rattle.verifier.specs.Units.{DoesUnit}
use Rattle.verifier.specs.laws.Verdict.{real_verdict}
use Rattle.verifier.specs.Walks.{EndsWalk}
use Rattle.verifier.specs.declared.refusal.Refusal.{Refusal}
use Rattle.verifier.specs.declared.walk.Pending.{Pending}
use Rattle.verifier.specs.declared.walk.Verified.{Verified}
use Rattle.explaining.specs.Paths.{IsStatePath, EndsStatePath, ShowsRefusal}
use Rattle.explaining.specs.Trails.{IsTrail, IsHeaded}
use Rattle.explaining.proofs.Ending.{shown_start, shown_end, ended_verdict, ended_walk, counted_from}
use Rattle.explaining.proofs.Trailing.{goes_on}
use Rattle.explaining.proofs.searching.search.Goals as goal

pub returns-in-Err-clause-verdict : goal.returns-in-Err-clause-verdict
returns-in-Err-clause-verdict g c =
    subst (λ (r : Result Verified Refusal). IsVerdict c.args.code.now c.args.budget r) (sym c.ended.ensures.verdict) (real_verdict interval_ops LiesBetween interval_precise c.args.code.now c.args.budget (Err c.in-Err.refusal) c.in-Err.ensures.verdict)

pub returns-in-Err-clause-path : goal.returns-in-Err-clause-path
returns-in-Err-clause-path g c = subst (λ (v : _). IsStatePath interval_ops c.args.code.now v.items) (sym c.ended.ensures.path) (c.in_ok-trail.ensures.trail c.args.code.now).path

pub returns-in-Err-clause-refused : goal.returns-in-Err-clause-refused
returns-in-Err-clause-refused g c =
    subst (λ (r : Result Verified Refusal). IfErr r (ShowsRefusal c.args.code.now c.ended.result.path.items)) (sym c.ended.ensures.verdict) (shown_start c.args.code.now c.ended.result.path.items c.in-Err.refusal (ap (λ (v : _). v.items) c.ended.ensures.path ∙ c.in_ok-trail.ensures.path) c.in-Err.ensures.refused)

pub returns-in-Err-clause-reached : goal.returns-in-Err-clause-reached
returns-in-Err-clause-reached g c = subst (λ (v : _). All (EndsStatePath interval_ops c.args.code.now) v.items) (sym c.ended.ensures.firsts) (c.in_ok-trail.ensures.trail c.args.code.now).firsts

pub units-init : goal.units-init
units-init g c = record {
  trail = subst (λ (ws : List (Pending Interval)). IsTrail c.args.code.now ws c.in_ok-trail.trail) (sym c.in-Ok.ensures.waits) (c.in_ok-trail.ensures.trail c.args.code.now);
  code_is = c.in-Ok.ensures.started.code_is;
  budget_is = c.in-Ok.ensures.started.budget_is;
  count = omega (arith, c.in-Ok.ensures.started.none_made);
}

-- the trail after a unit of work that goes on
pub units-preserved : goal.units-preserved
units-preserved g c =
    let code = c.args.code.now in
    let headed : IsHeaded code c.units.walk.waits c.follow.new.self = subst (λ (k : List Insn). IsHeaded k c.units.walk.waits c.follow.new.self) c.units.invariant.code_is c.in_ok-follow.ensures in
    let unit : DoesUnit interval_ops code c.units.walk.waits c.in-Going.next.waits c.units.walk.made c.in-Going.next.made =
    subst (λ (k : List Insn). DoesUnit interval_ops k c.units.walk.waits c.in-Going.next.waits c.units.walk.made c.in-Going.next.made) c.units.invariant.code_is c.in-Going.ensures.unit in
    let depths : c.wait.new.self.depths.items ≡ take (length c.in-Going.next.waits) c.follow.new.self.depths.items ++ replicate (length c.in-Going.next.waits - length c.follow.new.self.depths.items) (length c.follow.new.self.path.items) =
    subst (λ (n : ℕ). c.wait.new.self.depths.items ≡ take n c.follow.new.self.depths.items ++ replicate (n - length c.follow.new.self.depths.items) (length c.follow.new.self.path.items)) c.waiting.ensures c.in_ok-wait-in-Going.ensures.depths in
    let path : IsStatePath interval_ops code c.wait.new.self.path.items = subst (λ (v : _). IsStatePath interval_ops code v.items) (sym c.in_ok-wait-in-Going.ensures.path) headed.path in
    let firsts : All (EndsStatePath interval_ops code) c.wait.new.self.firsts.items = subst (λ (v : _). All (EndsStatePath interval_ops code) v.items) (sym c.in_ok-wait-in-Going.ensures.firsts) headed.firsts in
    record {
      trail =
          goes_on code c.units.walk.waits c.in-Going.next.waits c.units.walk.made c.in-Going.next.made c.follow.new.self c.wait.new.self c.count.new.self headed unit depths c.in_ok-wait-in-Going.ensures.path c.in_ok-count-in-Going.ensures.path c.in_ok-count-in-Going.ensures.depths
          (c.in_ok-count-in-Going.ensures.firsts code path firsts);
      code_is = c.in-Going.ensures.slice.code_is ∙ c.units.invariant.code_is;
      budget_is = c.in-Going.ensures.slice.budget_is ∙ c.units.invariant.budget_is;
      count = omega (arith, c.in-Going.ensures.slice.count, c.units.invariant.count);
    }

pub returns-in-Ended-clause-verdict : goal.returns-in-Ended-clause-verdict
returns-in-Ended-clause-verdict g c =
    subst (λ (r : Result Verified Refusal). IsVerdict c.args.code.now c.args.budget r) (sym c.ended-in-Ended.ensures.verdict)
    (ended_verdict c.units.walk c.args.code.now c.args.budget c.args.steps.now c.units.steps c.step.new.steps c.in-Ended.verdict c.in-Ended.ensures.slice c.units.invariant.code_is c.units.invariant.budget_is c.units.invariant.count)

pub returns-in-Ended-clause-path : goal.returns-in-Ended-clause-path
returns-in-Ended-clause-path g c =
    let headed : IsHeaded c.args.code.now c.units.walk.waits c.follow.new.self = subst (λ (k : List Insn). IsHeaded k c.units.walk.waits c.follow.new.self) c.units.invariant.code_is c.in_ok-follow.ensures in
    subst (λ (v : _). IsStatePath interval_ops c.args.code.now v.items) (sym c.ended-in-Ended.ensures.path) headed.path

pub returns-in-Ended-clause-refused : goal.returns-in-Ended-clause-refused
returns-in-Ended-clause-refused g c =
    let shows : IfErr c.in-Ended.verdict (ShowsRefusal c.args.code.now c.follow.new.self.path.items) =
    subst (λ (k : List Insn). IfErr c.in-Ended.verdict (ShowsRefusal k c.follow.new.self.path.items)) c.units.invariant.code_is (shown_end c.units.walk c.follow.new.self c.in-Ended.verdict c.in-Ended.field-1 c.in_ok-follow.ensures c.in-Ended.ensures.unit) in
    subst (λ (r : Result Verified Refusal). IfErr r (ShowsRefusal c.args.code.now c.ended-in-Ended.result.path.items)) (sym c.ended-in-Ended.ensures.verdict)
    (subst (λ (v : _). IfErr c.in-Ended.verdict (ShowsRefusal c.args.code.now v.items)) (sym c.ended-in-Ended.ensures.path) shows)

pub returns-in-Ended-clause-counts : goal.returns-in-Ended-clause-counts
returns-in-Ended-clause-counts g c =
    let ends = c.in-Ended.ensures.slice in
    let all_steps : c.step.new.steps ≡ c.args.steps.now + ends.made = omega (arith, ends.count, c.units.invariant.count) in
    subst (λ (r : Result Verified Refusal). CountsSteps c.args.budget c.args.steps.now c.step.new.steps r) (sym c.ended-in-Ended.ensures.verdict)
    (subst (λ (b : ℕ). CountsSteps b c.args.steps.now c.step.new.steps c.in-Ended.verdict) c.units.invariant.budget_is
    (counted_from c.units.walk.budget c.args.steps.now c.step.new.steps ends.made c.in-Ended.verdict all_steps ends.counts))

pub returns-in-Ended-clause-walked : goal.returns-in-Ended-clause-walked
returns-in-Ended-clause-walked g c =
    subst (λ (r : Result Verified Refusal). EndsWalk interval_ops LiesBetween c.args.code.now c.args.steps.now c.step.new.steps r) (sym c.ended-in-Ended.ensures.verdict)
    (ended_walk c.units.walk c.args.code.now c.args.budget c.args.steps.now c.units.steps c.step.new.steps c.in-Ended.verdict c.in-Ended.ensures.slice c.units.invariant.code_is c.units.invariant.budget_is c.units.invariant.count)

pub returns-in-Ended-clause-reached : goal.returns-in-Ended-clause-reached
returns-in-Ended-clause-reached g c =
    let headed : IsHeaded c.args.code.now c.units.walk.waits c.follow.new.self = subst (λ (k : List Insn). IsHeaded k c.units.walk.waits c.follow.new.self) c.units.invariant.code_is c.in_ok-follow.ensures in
    subst (λ (v : _). All (EndsStatePath interval_ops c.args.code.now) v.items) (sym c.ended-in-Ended.ensures.firsts) headed.firsts
