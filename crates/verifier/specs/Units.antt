-- Meaning. One unit of work of a walk: what becomes of the state to follow next.
use Rattle.std.specs.Prelude.{◌≡◌, ℕ, ◌+◌, ◌⊎◌, List, [], ◌∷◌, ◌++◌, Option, Result, Ok, Err}
use Rattle.insn.specs.declared.instruction.Insn.{Insn}
use Rattle.interval.specs.Domains.{Operations}
use Rattle.verifier.specs.Slices.{Walking, waits_of}
use Rattle.verifier.specs.Walk.{Advances, IsStepRefusal, waiting_states}
use Rattle.verifier.specs.declared.refusal.Refusal.{Refusal}
use Rattle.verifier.specs.declared.refusal.Refusal.TheVariants as refusal
use Rattle.verifier.specs.declared.slices.Frontier.{Frontier}
use Rattle.verifier.specs.declared.slices.Progress.{Progress}
use Rattle.verifier.specs.declared.slices.Progress.TheVariants as progress
use Rattle.verifier.specs.declared.walk.Path.{Path}
use Rattle.verifier.specs.declared.walk.Path.TheVariants.{Continues, Ended}
use Rattle.verifier.specs.declared.walk.Pending.{Pending}

-- its step is made: of the states that it leads to, the one to follow next waits last
pub record IsStepMade {D : Type 0} (ops : Operations D) (code : List Insn) (here : Pending D) (rest waits : List (Pending D)) (before made : ℕ) : Type 0 where
  pub next : Option (Pending D)
  pub pending : List (Pending D)
  pub advances : Advances ops code here rest next pending
  pub waits_are : waits ≡ waiting_states next pending
  pub count : made ≡ before + 1

-- it is skipped: the other ones wait, and no step is made
abbrev pub IsSkip : {D : Type 0} → List (Pending D) → List (Pending D) → ℕ → ℕ → Type 0
IsSkip rest waits before made = (waits ≡ rest) × (made ≡ before)

-- a unit that continues: the last state that waits is skipped, or its step is made
pub record DoesUnit {D : Type 0} (ops : Operations D) (code : List Insn) (old new : List (Pending D)) (before made : ℕ) : Type 0 where
  pub rest : List (Pending D)
  pub here : Pending D
  pub old_is : old ≡ rest ++ here ∷ []
  pub does : IsSkip rest new before made ⊎ IsStepMade ops code here rest new before made

-- a refusal: of the step of the last state that waits, or V17 at its slot
pub record RefusesUnit {D : Type 0} (ops : Operations D) (code : List Insn) (old : List (Pending D)) (e : Refusal) : Type 0 where
  pub rest : List (Pending D)
  pub here : Pending D
  pub old_is : old ≡ rest ++ here ∷ []
  pub cause : IsStepRefusal ops code here e ⊎ (e ≡ refusal.Budget here.slot)

-- what a unit of work does to a walk; one of which no state waits is accepted
abbrev pub IsUnit : {D : Type 0} → Operations D → Walking D → Progress D → Type 0
IsUnit ops w (progress.Going next) = DoesUnit ops w.code w.waits next.waits w.made next.made
IsUnit ops w (progress.Ended (Ok v) remains) = w.waits ≡ []
IsUnit ops w (progress.Ended (Err e) remains) = RefusesUnit ops w.code w.waits e

-- the same from one frontier to another
abbrev pub IsUnitBetween : {D : Type 0} → Operations D → List Insn → Frontier D → Frontier D → Result Path Refusal → Type 0
IsUnitBetween ops code from to (Ok Continues) = DoesUnit ops code (waits_of from) (waits_of to) from.made to.made
IsUnitBetween ops code from to (Ok Ended) = waits_of from ≡ []
IsUnitBetween ops code from to (Err e) = RefusesUnit ops code (waits_of from) e
