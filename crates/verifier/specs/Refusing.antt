-- Meaning. The refusals of the verifier, and their texts.
use Rattle.std.specs.Prelude.{◌≡◌, ℕ, ◌+◌, ◌<◌, ◌≤◌, ◌⊎◌, List, ◌++◌, length, codes, decimal, Result, Err, OnOk, IfErr}
use Rattle.insn.specs.declared.instruction.Insn.{Insn}
use Rattle.semantics.specs.Slots.{fetch}
use Rattle.semantics.specs.Runs.{IsSafe}
use Rattle.semantics.specs.declared.fetching.Fetched.TheVariants.{Begins}
use Rattle.semantics.specs.LooseRuns.{IsLooselyStuck, path_prefixes}
use Rattle.semantics.specs.Reasons.{reason_at}
use Rattle.semantics.specs.declared.reason.Reason.{Reason}
use Rattle.interval.specs.Domains.{Operations, ArePrecise}
use Rattle.absstate.specs.StepReasons.{IsStepReason, IsAboutPlaces, IsRegisterSum}
use Rattle.verifier.specs.Layout.{IsLaidOut, IsLayoutFault, StartsAt}
use Rattle.verifier.specs.declared.refusal.Refusal.{Refusal}
use Rattle.verifier.specs.declared.refusal.Refusal.TheVariants as refusal

-- the text of a refusal: its code and its slot
abbrev pub refusal_text : Refusal → List ℕ
refusal_text (refusal.Stuck reason slot) = reason_at reason slot
refusal_text (refusal.Budget slot) = codes "V17 at " ++ decimal slot
refusal_text (refusal.Memory slot) = codes "V19 at " ++ decimal slot

-- no instruction adds a register to another one, or subtracts it, on 64 bits
abbrev pub HasNoSums : List Insn → Type 0
HasNoSums code = (slot : ℕ) (i : Insn) → fetch code slot ≡ Begins i → IsRegisterSum i → ⊥

-- The cause that a refusal of code has. A reason with a slot is the first fault of the layout, or else, in code that is laid
-- out, a step that is really stuck there. The budget is refused where the code has more path prefixes than it allows,
-- and memory where an allocation failed, both at an instruction.
abbrev pub MayRefuseWhere : (Reason → ℕ → Type 0) → List Insn → ℕ → Refusal → Type 0
MayRefuseWhere Real code budget (refusal.Stuck reason slot) = IsLayoutFault code reason slot ⊎ (IsLaidOut code × IsStepReason reason × Real reason slot)
MayRefuseWhere Real code budget (refusal.Budget slot) = IsLaidOut code × StartsAt code slot × (budget < length (path_prefixes code))
MayRefuseWhere Real code budget (refusal.Memory slot) = IsLaidOut code × StartsAt code slot

-- A refusal of a step is real where a loose run is stuck there for that reason. A refusal that speaks of the places of
-- pointers, by the reason and the instruction at that slot, is real in code that adds and subtracts no two registers.
abbrev pub IsReal : List Insn → Reason → ℕ → Type 0
IsReal code reason slot = ((i : Insn) → fetch code slot ≡ Begins i → IsAboutPlaces reason i → HasNoSums code) → IsLooselyStuck code reason slot

abbrev pub MayRefuse : List Insn → ℕ → Refusal → Type 0
MayRefuse code budget e = MayRefuseWhere (IsReal code) code budget e

-- over a domain, where that is precise
abbrev pub MayRefuseOver : {D : Type 0} → Operations D → (D → ℕ → Type 0) → List Insn → ℕ → Refusal → Type 0
MayRefuseOver ops Member code budget e = MayRefuseWhere (λ reason slot. ArePrecise ops Member → IsReal code reason slot) code budget e

-- a fact that holds where the budget is the refusal
abbrev pub IfBudget : Refusal → Type 0 → Type 0
IfBudget (refusal.Stuck reason slot) P = Unit {0}
IfBudget (refusal.Budget slot) P = P
IfBudget (refusal.Memory slot) P = Unit {0}

-- The result of verification: accepted code is safe and laid out; a fault of the layout is the refusal; and every refusal
-- has its cause.
pub record IsVerdictOf {T : Type 0} (MayBe : Refusal → Type 0) (code : List Insn) (result : Result T Refusal) : Type 0 where
  pub safe : OnOk result (IsSafe code)
  pub laid_out : OnOk result (IsLaidOut code)
  pub layout : (reason : Reason) (slot : ℕ) → IsLayoutFault code reason slot → result ≡ Err (refusal.Stuck reason slot)
  pub refused : IfErr result MayBe

abbrev pub IsVerdict : {T : Type 0} → List Insn → ℕ → Result T Refusal → Type 0
IsVerdict code budget result = IsVerdictOf (MayRefuse code budget) code result

abbrev pub IsVerdictOver : {D T : Type 0} → Operations D → (D → ℕ → Type 0) → List Insn → ℕ → Result T Refusal → Type 0
IsVerdictOver ops Member code budget result = IsVerdictOf (MayRefuseOver ops Member code budget) code result

-- at most the budget's abstract steps are made, and all of them before the budget is the refusal
pub record CountsSteps {T : Type 0} (budget old new : ℕ) (result : Result T Refusal) : Type 0 where
  pub bound : new ≤ old + budget
  pub budget_made : IfErr result (λ e. IfBudget e (new ≡ old + budget))
