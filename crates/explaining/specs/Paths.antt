-- Meaning. Paths of the states of a walk, and what a search has found of them.
use Rattle.std.specs.Prelude.{◌≡◌, pos, ◌⊎◌, List, [], ◌∷◌, ◌++◌, Some, Ok}
use Rattle.insn.specs.declared.instruction.Insn.{Insn}
use Rattle.insn.specs.declared.instruction.Insn.TheVariants.{JumpIf}
use Rattle.semantics.specs.Flow.{branch_slot}
use Rattle.semantics.specs.Slots.{fetch}
use Rattle.semantics.specs.declared.fetching.Branch.{Branch}
use Rattle.semantics.specs.declared.fetching.Fetched.TheVariants.{Begins}
use Rattle.interval.specs.Domains.{Operations}
use Rattle.interval.specs.Intervals.{interval_ops}
use Rattle.interval.specs.declared.interval.Interval.{Interval}
use Rattle.absstate.specs.AbstractSteps.{abstract_step}
use Rattle.absstate.specs.MemberSteps.{state_after}
use Rattle.absstate.specs.declared.abstract_step.Next.{Next}
use Rattle.verifier.specs.Layout.{IsLayoutFault}
use Rattle.verifier.specs.Walk.{IsRefusedAt, first_pending}
use Rattle.verifier.specs.declared.refusal.Refusal.{Refusal}
use Rattle.verifier.specs.declared.refusal.Refusal.TheVariants as refusal
use Rattle.verifier.specs.declared.walk.Pending.{Pending}

-- the step of an instruction from a state is accepted, and a branch of it leads to another state, at its slot
pub record IsBranchTo {D : Type 0} (ops : Operations D) (code : List Insn) (a b : Pending D) (i : Insn) (branch : Branch) : Type 0 where
  pub accepted : Next D
  pub step_is : abstract_step ops a.state i ≡ Ok accepted
  pub leads : branch_slot code a.slot i branch ≡ Ok b.slot
  pub state_is : state_after accepted branch ≡ Some b.state

-- so a state leads to another one by its instruction
pub record IsSuccessor {D : Type 0} (ops : Operations D) (code : List Insn) (a b : Pending D) : Type 0 where
  pub insn : Insn
  pub begins : fetch code a.slot ≡ Begins insn
  pub branch : Branch
  pub by : IsBranchTo ops code a b insn branch

-- a conditional jump whose branches lead to two slots: its distance is not 0
abbrev pub LeadsAway : Insn → Type 0
LeadsAway (JumpIf w c dst o distance) = distance ≡ pos 0 → ⊥
LeadsAway i = ⊥

-- each state succeeds the one before it
abbrev pub SucceedFrom : {D : Type 0} → Operations D → List Insn → Pending D → List (Pending D) → Type 0
SucceedFrom ops code a [] = Unit {0}
SucceedFrom ops code a (b ∷ rest) = IsSuccessor ops code a b × SucceedFrom ops code b rest

-- a path: its first state is that of the start at slot 0, and each other one succeeds the one before it
abbrev pub IsStatePath : {D : Type 0} → Operations D → List Insn → List (Pending D) → Type 0
IsStatePath ops code [] = Unit {0}
IsStatePath ops code (first ∷ rest) = (first ≡ first_pending) × SucceedFrom ops code first rest

-- a state is the last one of some path
abbrev pub EndsStatePath : {D : Type 0} → Operations D → List Insn → Pending D → Type 0
EndsStatePath {D = D} ops code p = (before : List (Pending D)) × IsStatePath ops code (before ++ p ∷ [])

-- the last state of a path has a property
abbrev pub AtPathEnd : {D : Type 0} → List (Pending D) → (Pending D → Type 0) → Type 0
AtPathEnd {D = D} path P = (before : List (Pending D)) × (last : Pending D) × (path ≡ before ++ last ∷ []) × P last

-- What a path shows of a refusal: it ends at its slot, and the step from its last state is refused for that reason, or is the
-- one that would pass the budget. A fault of the layout comes before every path, so it has no state, and of memory that runs
-- out nothing is said.
abbrev pub ShowsRefusal : List Insn → List (Pending Interval) → Refusal → Type 0
ShowsRefusal code path (refusal.Stuck reason slot) = (IsLayoutFault code reason slot × (path ≡ [])) ⊎ AtPathEnd path (λ last. (slot ≡ last.slot) × IsRefusedAt interval_ops code last reason)
ShowsRefusal code path (refusal.Budget slot) = AtPathEnd path (λ last. slot ≡ last.slot)
ShowsRefusal code path (refusal.Memory slot) = Unit {0}
