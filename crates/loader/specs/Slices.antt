-- Meaning. What loading has come to after a slice of its verification.
use Rattle.std.specs.Prelude.{◌≡◌, ℕ, ◌+◌, ◌≤◌, ◌<◌, List, Result, Ok, Err}
use Rattle.insn.specs.declared.instruction.Insn.{Insn}
use Rattle.interval.specs.Intervals.{LiesBetween, interval_ops}
use Rattle.interval.specs.declared.interval.Interval.{Interval}
use Rattle.semantics.specs.Runs.{IsSafe}
use Rattle.verifier.specs.Keeping.{units_to_free}
use Rattle.verifier.specs.Refusing.{MayRefuse}
use Rattle.verifier.specs.SliceEnds.{IsSlice}
use Rattle.verifier.specs.Slices.{Walking, work_left}
use Rattle.verifier.specs.declared.refusal.Refusal.{Refusal}
use Rattle.verifier.specs.declared.slices.Progress.{Progress}
use Rattle.loader.specs.LoadingWalk.{LoadingWalk}
use Rattle.loader.specs.Verdicts.{IsWalked}
use Rattle.loader.specs.declared.loaded.Loaded.{Loaded}
use Rattle.loader.specs.declared.loaded.TheConstants.{BUDGET}
use Rattle.loader.specs.declared.loading.LoadProgress.{LoadProgress}
use Rattle.loader.specs.declared.loading.LoadProgress.TheVariants as progress

-- a slice of the walk, whose steps are counted from 0 on
abbrev pub IsSliceOf : Walking Interval → ℕ → Progress Interval → Type 0
IsSliceOf w slice walked = (new : ℕ) × IsSlice interval_ops LiesBetween w slice 0 new walked

-- as a result of `load` on this code: it is safe, or may be refused so, and the walk from its start ends so
abbrev pub IsLoadEnd : List Insn → Result Loaded Refusal → Type 0
IsLoadEnd code (Ok loaded) = (loaded ≡ code) × IsSafe code × IsWalked {T = Loaded} code (Ok loaded)
IsLoadEnd code (Err e) = MayRefuse code BUDGET e × IsWalked {T = Loaded} code (Err e)

-- after a slice the walk continues with the same program, and less work is left
pub record HasMoreWork (w : Walking Interval) (slice : ℕ) (next : Walking Interval) : Type 0 where
  pub code_is : next.code ≡ w.code
  pub less : work_left next + slice ≤ work_left w

-- it continues, and may weigh so much less; or it would continue, and weighs what it may; or it has ended
abbrev pub IsLoadSlice : LoadingWalk → ℕ → LoadProgress → Type 0
IsLoadSlice l slice (progress.Going next) = HasMoreWork l.walk slice next.walk × (next.left + slice ≡ l.left) × (0 < next.left)
IsLoadSlice l slice (progress.GivenUp remains) = (l.left ≤ slice) × (next : Walking Interval) × HasMoreWork l.walk slice next × (remains ≡ units_to_free next.kept)
IsLoadSlice l slice (progress.Ended result remains) = IsLoadEnd l.walk.code result
