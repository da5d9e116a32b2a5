-- The verdict of a search, from that of its walk.
use Rattle.std.proofs.Common.{◌≡◌, ℕ, ◌+◌, List, [], Result, Ok, Err, inl, inr, subst, arith}
use Rattle.std.specs.Prelude.{IfErr}
use Rattle.insn.specs.declared.instruction.Insn.{Insn}
use Rattle.interval.specs.laws.Interval.{interval_precise}
use Rattle.interval.specs.Intervals.{LiesBetween, interval_ops}
use Rattle.interval.specs.declared.interval.Interval.{Interval}
use Rattle.verifier.specs.Refusing.{IsVerdict, CountsSteps, IfBudget}
use Rattle.verifier.specs.SliceEnds.{MayRefuseStart, EndsIn}
use Rattle.verifier.specs.Slices.{Walking}
use Rattle.verifier.specs.Units.{IsUnit}
use Rattle.verifier.specs.laws.Verdict.{real_verdict}
use Rattle.verifier.specs.Walks.{EndsWalk}
use Rattle.verifier.specs.declared.kept.Remains.{Remains}
use Rattle.verifier.specs.declared.refusal.Refusal.{Refusal}
use Rattle.verifier.specs.declared.refusal.Refusal.TheVariants as refusal
use Rattle.verifier.specs.declared.slices.Progress.TheVariants.{Ended}
use Rattle.verifier.specs.declared.walk.Pending.{Pending}
use Rattle.verifier.specs.declared.walk.Verified.{Verified}
use Rattle.explaining.specs.Paths.{ShowsRefusal}
use Rattle.explaining.specs.Trails.{IsHeaded}
use Rattle.explaining.specs.declared.searching.Trail.{Trail}
use Rattle.explaining.proofs.Trailing.{shown}

-- a refusal before the first step needs no path
pub shown_start : (code : List Insn) (path : List (Pending Interval)) (e : Refusal) → path ≡ [] → MayRefuseStart code e → ShowsRefusal code path e
shown_start code path (refusal.Stuck reason slot) none (inl fault) = inl (fault, none)
shown_start code path (refusal.Stuck reason slot) none (inr memory) = let bad : refusal.Stuck reason slot ≡ refusal.Memory 0 = memory.0 in absurd cc
shown_start code path (refusal.Budget slot) none (inl fault) = absurd fault
shown_start code path (refusal.Budget slot) none (inr memory) = let bad : refusal.Budget slot ≡ refusal.Memory 0 = memory.0 in absurd cc
shown_start code path (refusal.Memory slot) none may = tt

-- a refusal of the last unit of work
pub shown_end : (w : Walking Interval) (t : Trail) (r : Result Verified Refusal) (remains : Remains Interval) → IsHeaded w.code w.waits t → IsUnit interval_ops w (Ended r remains) → IfErr r (ShowsRefusal w.code t.path.items)
shown_end w t (Ok v) remains is unit = tt
shown_end w t (Err e) remains is unit = shown w.code w.waits e t is unit

module _ (w : Walking Interval) (code : List Insn) (budget start old new : ℕ) (r : Result Verified Refusal) (ends : EndsIn interval_ops LiesBetween w 1 old new r) (code_is : w.code ≡ code) (budget_is : w.budget ≡ budget) (counted : old ≡ start + w.made) where
  pub ended_verdict : IsVerdict code budget r
  ended_verdict =
      subst (λ (k : List Insn). IsVerdict k budget r) code_is
      (subst (λ (b : ℕ). IsVerdict w.code b r) budget_is (real_verdict interval_ops LiesBetween interval_precise w.code w.budget r ends.verdict))

  pub ended_walk : EndsWalk interval_ops LiesBetween code start new r
  ended_walk =
      subst (λ (k : List Insn). EndsWalk interval_ops LiesBetween k start new r) code_is
      (record { made = ends.walked.made; count = omega (arith, counted, ends.count, ends.walked.count); end = ends.walked.end })

raised : (budget start new made : ℕ) (e : Refusal) → new ≡ start + made → IfBudget e (made ≡ 0 + budget) → IfBudget e (new ≡ start + budget)
raised budget start new made (refusal.Stuck reason slot) is all = tt
raised budget start new made (refusal.Budget slot) is all = omega (arith, is, all)
raised budget start new made (refusal.Memory slot) is all = tt

-- the steps are counted from another number on
pub counted_from : (budget start new made : ℕ) (r : Result Verified Refusal) → new ≡ start + made → CountsSteps budget 0 made r → CountsSteps budget start new r
counted_from budget start new made (Ok v) is counts = record { bound = omega (arith, is, counts.bound); budget_made = tt }
counted_from budget start new made (Err e) is counts = record { bound = omega (arith, is, counts.bound); budget_made = raised budget start new made e is counts.budget_made }
