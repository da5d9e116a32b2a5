-- Meaning. The beginning of a walk, and what it has come to after a slice.
use Rattle.std.specs.Prelude.{◌≡◌, ℕ, ◌+◌, ◌≤◌, ◌⊎◌, List, Result, IfOk}
use Rattle.insn.specs.declared.instruction.Insn.{Insn}
use Rattle.interval.specs.Domains.{Operations}
use Rattle.verifier.specs.Layout.{IsLaidOut, IsLayoutRefusal}
use Rattle.verifier.specs.Refusing.{IsVerdictOver, CountsSteps}
use Rattle.verifier.specs.Slices.{Walking, work_left}
use Rattle.verifier.specs.Walks.{EndsWalk}
use Rattle.verifier.specs.declared.refusal.Refusal.{Refusal}
use Rattle.verifier.specs.declared.refusal.Refusal.TheVariants as refusal
use Rattle.verifier.specs.declared.slices.Progress.{Progress}
use Rattle.verifier.specs.declared.slices.Progress.TheVariants as progress
use Rattle.verifier.specs.declared.walk.Verified.{Verified}
use Rattle.verifier.specs.declared.weights.TheConstants.{HEAVIEST}

-- a walk over a program of which no step is made
pub record IsNewWalk {D : Type 0} (code : List Insn) (budget : ℕ) (w : Walking D) : Type 0 where
  pub code_is : w.code ≡ code
  pub budget_is : w.budget ≡ budget
  pub none_made : w.made ≡ 0
  pub laid_out : IsLaidOut code

-- before the first step: a fault of the layout, or memory at slot 0 in code that is laid out
abbrev pub MayRefuseStart : List Insn → Refusal → Type 0
MayRefuseStart code e = IsLayoutRefusal code e ⊎ ((e ≡ refusal.Memory 0) × IsLaidOut code)

-- the walk continues: so much work more is done, by weight, or was done before, and its steps are counted
pub record GoesOnBy {D : Type 0} (w next : Walking D) (slice old new : ℕ) : Type 0 where
  pub code_is : next.code ≡ w.code
  pub budget_is : next.budget ≡ w.budget
  pub count : new + w.made ≡ old + next.made
  pub few : new ≤ old + slice
  pub less : work_left next + slice ≤ work_left w
  pub light : next.ahead ≤ HEAVIEST

-- The walk ends: with the steps of all its slices, whatever they were, the result is a verdict on its code, and that of the walk
-- from its start.
pub record EndsIn {D : Type 0} (ops : Operations D) (Member : D → ℕ → Type 0) (w : Walking D) (slice old new : ℕ) (result : Result Verified Refusal) : Type 0 where
  pub made : ℕ
  pub count : new + w.made ≡ old + made
  pub few : new ≤ old + slice
  pub code_is : IfOk result (λ v. v ≡ w.code)
  pub verdict : IsVerdictOver ops Member w.code w.budget result
  pub counts : CountsSteps w.budget 0 made result
  pub walked : EndsWalk ops Member w.code 0 made result

abbrev pub IsSlice : {D : Type 0} → Operations D → (D → ℕ → Type 0) → Walking D → ℕ → ℕ → ℕ → Progress D → Type 0
IsSlice ops Member w slice old new (progress.Going next) = GoesOnBy w next slice old new
IsSlice ops Member w slice old new (progress.Ended result remains) = EndsIn ops Member w slice old new result
