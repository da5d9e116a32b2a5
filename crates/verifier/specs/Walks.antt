-- Meaning. The walk from its start to its end, and what a result says of it.
use Rattle.std.specs.Prelude.{◌≡◌, ℕ, zero, suc, ◌+◌, ◌⊎◌, List, [], ◌∷◌, ◌++◌, Option, Result, Ok, Err}
use Rattle.insn.specs.declared.instruction.Insn.{Insn}
use Rattle.interval.specs.Domains.{Operations}
use Rattle.verifier.specs.Keeping.{KeepsAtTargets, KeepsNothing, kept_at, Keeps}
use Rattle.verifier.specs.Layout.{IsLayoutFault}
use Rattle.verifier.specs.Walk.{first_pending, waiting_states, Advances, Skips, IsWalkStep, IsRefusedAt}
use Rattle.verifier.specs.declared.kept.KeptStates.{KeptStates}
use Rattle.verifier.specs.declared.refusal.Refusal.{Refusal}
use Rattle.verifier.specs.declared.refusal.Refusal.TheVariants as refusal
use Rattle.verifier.specs.declared.walk.Pending.{Pending}

-- A number of steps of the walk leads from its start to the states that wait, the next one last, and those that are kept.
-- At the start only the first state waits, and none is kept.
abbrev pub Walks : {D : Type 0} → Operations D → (D → ℕ → Type 0) → List Insn → ℕ → List (Pending D) → KeptStates D → Type 0
Walks ops Member code zero waits kept = (waits ≡ first_pending ∷ []) × KeepsAtTargets code kept × KeepsNothing kept
Walks {D = D} ops Member code (suc n) waits kept =
    (here : Pending D) × (old : List (Pending D)) × (before : KeptStates D) × (picked : Option (Pending D)) × (new : List (Pending D))
    × Walks ops Member code n (old ++ here ∷ []) before × IsWalkStep ops Member code here old before picked new kept × (waits ≡ waiting_states picked new)

-- As `Walks`, where of the states that wait after the last step not all that are covered need be skipped yet.
abbrev pub Pauses : {D : Type 0} → Operations D → (D → ℕ → Type 0) → List Insn → ℕ → List (Pending D) → KeptStates D → Type 0
Pauses ops Member code zero waits kept = Walks ops Member code zero waits kept
Pauses {D = D} ops Member code (suc n) waits kept =
    (here : Pending D) × (old : List (Pending D)) × (before : KeptStates D) × (next : Option (Pending D)) × (new : List (Pending D))
    × Walks ops Member code n (old ++ here ∷ []) before × Keeps here before kept × Advances ops code here old next new
    × Skips ops Member (kept_at kept) (waiting_states next new) waits

-- after a number of steps the current state is at a slot
pub record ComesTo {D : Type 0} (ops : Operations D) (Member : D → ℕ → Type 0) (code : List Insn) (made slot : ℕ) : Type 0 where
  pub here : Pending D
  pub pending : List (Pending D)
  pub kept : KeptStates D
  pub walks : Walks ops Member code made (pending ++ here ∷ []) kept
  pub slot_is : slot ≡ here.slot

-- a step of the walk is the last one, at a slot
pub record IsLastStep {D : Type 0} (ops : Operations D) (Member : D → ℕ → Type 0) (code : List Insn) (made slot : ℕ) : Type 0 where
  pub before : ℕ
  pub count : made ≡ before + 1
  pub comes : ComesTo ops Member code before slot

-- What a refusal says of the walk that made so many steps: the layout has a fault, and no step is made; its last step is
-- refused; the step after them would pass the budget; or memory ran out at the last step, or before the first one.
abbrev pub IsRefusedEnd : {D : Type 0} → Operations D → (D → ℕ → Type 0) → List Insn → ℕ → Refusal → Type 0
IsRefusedEnd ops Member code made (refusal.Stuck reason slot) = ((made ≡ 0) × IsLayoutFault code reason slot) ⊎ ((last : IsLastStep ops Member code made slot) × IsRefusedAt ops code last.comes.here reason)
IsRefusedEnd ops Member code made (refusal.Budget slot) = ComesTo ops Member code made slot
IsRefusedEnd ops Member code made (refusal.Memory slot) = ((made ≡ 0) × (slot ≡ 0)) ⊎ IsLastStep ops Member code made slot

-- where the code is accepted, no state waits after those steps
abbrev pub IsEndOf : {D T : Type 0} → Operations D → (D → ℕ → Type 0) → List Insn → ℕ → Result T Refusal → Type 0
IsEndOf {D = D} ops Member code made (Ok v) = (kept : KeptStates D) × Walks ops Member code made [] kept
IsEndOf ops Member code made (Err e) = IsRefusedEnd ops Member code made e

-- the counter of the steps was raised by those of the walk that a result ends
pub record EndsWalk {D T : Type 0} (ops : Operations D) (Member : D → ℕ → Type 0) (code : List Insn) (old new : ℕ) (result : Result T Refusal) : Type 0 where
  pub made : ℕ
  pub count : new ≡ old + made
  pub end : IsEndOf ops Member code made result
