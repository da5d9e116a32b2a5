-- Interface. One step of the walk over all paths: how it continues, and its refusals.
use Rattle.std.specs.Prelude.{◌≡◌, ℕ, true, false, List, [], ◌∷◌, ◌++◌, Option, Some, None, Ok, Err, IfSome, IfNone, All}
use Rattle.insn.specs.Encoding.{Fits}
use Rattle.insn.specs.declared.instruction.Insn.{Insn}
use Rattle.semantics.specs.Slots.{fetch}
use Rattle.semantics.specs.Flow.{branch_slot}
use Rattle.semantics.specs.declared.reason.Reason.{Reason}
use Rattle.semantics.specs.declared.fetching.Fetched.TheVariants.{Begins}
use Rattle.semantics.specs.declared.fetching.Branch.{Branch}
use Rattle.semantics.specs.declared.fetching.Branch.TheVariants.{NotTaken, Taken}
use Rattle.interval.specs.Domains.{Operations}
use Rattle.absstate.specs.AbstractStates.{first_abstract_state}
use Rattle.absstate.specs.AbstractSteps.{abstract_step}
use Rattle.absstate.specs.MemberSteps.{state_after}
use Rattle.absstate.specs.declared.abstract_state.AbsState.{AbsState}
use Rattle.absstate.specs.declared.abstract_step.Next.{Next}
use Rattle.verifier.specs.Keeping.{kept_at, is_covered, HasCover, Keeps}
use Rattle.verifier.specs.Layout.{StartsAt}
use Rattle.verifier.specs.declared.kept.KeptStates.{KeptStates}
use Rattle.verifier.specs.declared.refusal.Refusal.{Refusal}
use Rattle.verifier.specs.declared.refusal.Refusal.TheVariants as refusal
use Rattle.verifier.specs.declared.walk.Pending.{Pending}
use Rattle.verifier.specs.declared.walk.Path.{Path}
use Rattle.verifier.specs.declared.walk.Path.TheVariants.{Continues, Ended}

-- an instruction begins at the slot of a pending state
abbrev pub BeginsInside : {D : Type 0} → List Insn → Pending D → Type 0
BeginsInside code p = StartsAt code p.slot

-- the pending state that a branch of the instruction at a slot leads to
pub record LeadsTo {D : Type 0} (code : List Insn) (here : ℕ) (i : Insn) (branch : Branch) (state : AbsState D) (p : Pending D) : Type 0 where
  pub leads : branch_slot code here i branch ≡ Ok p.slot
  pub state_is : p.state ≡ state

-- the pending state to follow, where the path continues
abbrev pub state_to_follow : {D : Type 0} → Path → Pending D → Option (Pending D)
state_to_follow Continues p = Some p
state_to_follow Ended p = None

-- the state of a branch is followed next where the branch is feasible
abbrev pub IsNext : {D : Type 0} → List Insn → ℕ → Insn → Branch → Option (AbsState D) → Option (Pending D) → Type 0
IsNext code here i branch None None = Unit {0}
IsNext code here i branch None (Some p) = ⊥
IsNext code here i branch (Some state) None = ⊥
IsNext code here i branch (Some state) (Some p) = LeadsTo code here i branch state p

-- the state of a branch is left pending where the branch is feasible, and no other
abbrev pub IsLeft : {D : Type 0} → List Insn → ℕ → Insn → Branch → Option (AbsState D) → List (Pending D) → Type 0
IsLeft code here i branch None left = left ≡ []
IsLeft {D = D} code here i branch (Some state) left = (p : Pending D) × LeadsTo code here i branch state p × (left ≡ p ∷ [])

-- the pending states, with that of the taken branch pushed where the branch is feasible
abbrev pub Leaves : {D : Type 0} → List Insn → ℕ → Insn → Option (AbsState D) → List (Pending D) → List (Pending D) → Type 0
Leaves {D = D} code here i state old new = (left : List (Pending D)) × (new ≡ old ++ left) × IsLeft code here i Taken state left

-- the branch that isn't taken is followed next, and the one that is taken is left pending
abbrev pub GoesOn : {D : Type 0} → List Insn → ℕ → Insn → Next D → Option (Pending D) → List (Pending D) → Type 0
GoesOn code here i answer on left = IsNext code here i NotTaken (state_after answer NotTaken) on × IsLeft code here i Taken (state_after answer Taken) left

-- one step of a path: its instruction is accepted, and the walk continues so
pub record Advances {D : Type 0} (ops : Operations D) (code : List Insn) (here : Pending D) (old : List (Pending D)) (next : Option (Pending D)) (new : List (Pending D)) : Type 0 where
  pub insn : Insn
  pub begins : fetch code here.slot ≡ Begins insn
  pub fits : Fits insn
  pub accepted : Next D
  pub step_is : abstract_step ops here.state insn ≡ Ok accepted
  pub left : List (Pending D)
  pub new_is : new ≡ old ++ left
  pub goes_on : GoesOn code here.slot insn accepted next left

-- the step from a pending state is refused for a reason
pub record IsRefusedAt {D : Type 0} (ops : Operations D) (code : List Insn) (here : Pending D) (reason : Reason) : Type 0 where
  pub insn : Insn
  pub begins : fetch code here.slot ≡ Begins insn
  pub fits : Fits insn
  pub step_is : abstract_step ops here.state insn ≡ Err reason

-- an allocation failure, at the instruction at a slot
abbrev pub IsOutOfMemory : ℕ → Refusal → Type 0
IsOutOfMemory here (refusal.Stuck reason slot) = ⊥
IsOutOfMemory here (refusal.Budget slot) = ⊥
IsOutOfMemory here (refusal.Memory slot) = slot ≡ here

-- a refusal of one step: a refused step of the path, or a failed allocation
abbrev pub IsStepRefusal : {D : Type 0} → Operations D → List Insn → Pending D → Refusal → Type 0
IsStepRefusal ops code here (refusal.Stuck reason slot) = (slot ≡ here.slot) × IsRefusedAt ops code here reason
IsStepRefusal ops code here (refusal.Budget slot) = ⊥
IsStepRefusal ops code here (refusal.Memory slot) = slot ≡ here.slot

-- the state from which the walk starts
abbrev pub first_pending : {D : Type 0} → Pending D
first_pending = record { slot = 0; state = first_abstract_state }

-- the states from which paths are still to be followed, the next one last
abbrev pub waiting_states : {D : Type 0} → Option (Pending D) → List (Pending D) → List (Pending D)
waiting_states None pending = pending
waiting_states (Some p) pending = pending ++ p ∷ []

-- a kept state of its slot covers a state, and so each member of the one is a member of the other
abbrev pub IsCovered : {D : Type 0} → Operations D → (D → ℕ → Type 0) → (ℕ → List (AbsState D)) → Pending D → Type 0
IsCovered ops Member kept p = (is_covered ops kept p ≡ true) × HasCover Member (kept p.slot) p.state

-- the last ones of some states are skipped
pub record Skips {D : Type 0} (ops : Operations D) (Member : D → ℕ → Type 0) (kept : ℕ → List (AbsState D)) (all rest : List (Pending D)) : Type 0 where
  pub skipped : List (Pending D)
  pub covered : All (IsCovered ops Member kept) skipped
  pub parts : all ≡ rest ++ skipped

-- the last of these states is followed that no kept one covers, and those after it are skipped
pub record Settles {D : Type 0} (ops : Operations D) (Member : D → ℕ → Type 0) (kept : ℕ → List (AbsState D)) (on : Option (Pending D)) (old : List (Pending D)) (picked : Option (Pending D)) (new : List (Pending D)) : Type 0 where
  pub skips : Skips ops Member kept (waiting_states on old) (waiting_states picked new)
  pub uncovered : IfSome picked (λ p. is_covered ops kept p ≡ false)
  pub ended : IfNone picked (new ≡ [])

-- one step of the walk: the current state is kept, its step is made, and the walk continues so
pub record IsWalkStep {D : Type 0} (ops : Operations D) (Member : D → ℕ → Type 0) (code : List Insn) (here : Pending D) (old : List (Pending D)) (kept : KeptStates D) (picked : Option (Pending D)) (new : List (Pending D)) (more : KeptStates D) : Type 0 where
  pub next : Option (Pending D)
  pub pending : List (Pending D)
  pub keeps : Keeps here kept more
  pub advances : Advances ops code here old next pending
  pub settles : Settles ops Member (kept_at more) next pending picked new
