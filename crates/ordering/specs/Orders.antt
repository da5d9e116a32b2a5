-- Meaning. Where the branches of a program lead, forward or backward, its loops, and what a program in order keeps of its
-- meaning.
use Rattle.std.specs.Prelude.{◌≡◌, ℕ, zero, suc, ◌+◌, ◌<◌, ◌⊎◌, ℤ, pos, ◌+ℤ◌, int_le, unsigned_abs, true, List, [], ◌∷◌, length, slice_index_or, Option, Some, None, is_some, Result, Ok, Err, if◌then◌else◌}
use Rattle.insn.specs.Encoding.{slots_of, slot_count}
use Rattle.insn.specs.declared.decoding.TheConstants.{MAX_SLOTS}
use Rattle.insn.specs.declared.instruction.Insn.{Insn}
use Rattle.semantics.specs.Machine.{State, Environment}
use Rattle.semantics.specs.Effects.{effect}
use Rattle.semantics.specs.Slots.{fetch, landing, last_slot}
use Rattle.semantics.specs.Flow.{Flow, Straight, Jumps, Forks, Ends, flow_of, branches}
use Rattle.semantics.specs.Runs.{StepResult, Goes, Exits, Sticks, Running, Run, visits, run_after, run_onwards, step_to, step_by_effect, step}
use Rattle.semantics.specs.declared.effect.Effect.{Effect}
use Rattle.semantics.specs.declared.effect.Effect.TheVariants as effects
use Rattle.semantics.specs.declared.reason.Reason.{Reason}
use Rattle.semantics.specs.declared.reason.Reason.TheVariants.{JumpOutside, JumpIntoWide, FallsOffEnd}
use Rattle.semantics.specs.declared.fetching.Fetched.{Fetched}
use Rattle.semantics.specs.declared.fetching.Fetched.TheVariants.{Begins, Inside, Past}
use Rattle.semantics.specs.declared.fetching.Branch.{Branch}
use Rattle.semantics.specs.declared.fetching.Branch.TheVariants.{NotTaken, Taken}
use Rattle.ordering.specs.declared.error.OrderError.{OrderError}
use Rattle.ordering.specs.declared.places.Places.{Places}
use Rattle.ordering.specs.declared.places.Places.TheVariants.{Kept, Moved}
use Rattle.ordering.specs.declared.error.OrderError.TheVariants as errors

-- ---- where branches lead

-- the slot that a jump leads to, forward or backward: its distance counts from the next slot
abbrev pub any_target : List Insn → ℕ → ℤ → Result ℕ Reason
any_target code slot distance =
    if int_le (pos 0) (pos (slot + 1) +ℤ distance)
    then landing (fetch code (unsigned_abs (pos (slot + 1) +ℤ distance))) (unsigned_abs (pos (slot + 1) +ℤ distance))
    else Err JumpOutside

-- a fall-through leads to where an instruction begins
abbrev pub next_landing : Fetched → ℕ → Result ℕ Reason
next_landing (Begins i) slot = Ok slot
next_landing Inside slot = Err FallsOffEnd
next_landing Past slot = Err FallsOffEnd

abbrev pub next_target : List Insn → ℕ → Result ℕ Reason
next_target code slot = next_landing (fetch code slot) slot

-- the slot that a branch leads to, after an instruction of n slots
abbrev pub any_flow_slot : List Insn → ℕ → ℕ → Flow → Branch → Result ℕ Reason
any_flow_slot code slot n Straight branch = next_target code (slot + n)
any_flow_slot code slot n (Jumps distance) branch = any_target code slot distance
any_flow_slot code slot n (Forks distance) NotTaken = next_target code (slot + n)
any_flow_slot code slot n (Forks distance) Taken = any_target code slot distance
any_flow_slot code slot n Ends branch = next_target code (slot + n)

abbrev pub any_branch_slot : List Insn → ℕ → Insn → Branch → Result ℕ Reason
any_branch_slot code slot i branch = any_flow_slot code slot (slots_of i) (flow_of i) branch

abbrev pub IsOneOf : List Branch → Branch → Type 0
IsOneOf [] branch = ⊥
IsOneOf (b ∷ rest) branch = (b ≡ branch) ⊎ IsOneOf rest branch

-- an instruction begins at a slot, and one of its branches leads to a slot, or nowhere
pub record LeadsBy (code : List Insn) (slot : ℕ) (i : Insn) (branch : Branch) (to : Result ℕ Reason) : Type 0 where
  pub here : fetch code slot ≡ Begins i
  pub is_branch : IsOneOf (branches i) branch
  pub leads : any_branch_slot code slot i branch ≡ to

abbrev pub Leads : List Insn → ℕ → ℕ → Type 0
Leads code slot to = (i : Insn) × (branch : Branch) × LeadsBy code slot i branch (Ok to)

-- ---- paths

-- a path leads from a slot over some slots to another one
abbrev pub IsPath : List Insn → ℕ → List ℕ → ℕ → Type 0
IsPath code slot [] to = slot ≡ to
IsPath code slot (next ∷ path) to = Leads code slot next × IsPath code next path to

abbrev pub Reaches : List Insn → ℕ → ℕ → Type 0
Reaches code slot to = (path : List ℕ) × IsPath code slot path to

abbrev pub IsReachable : List Insn → ℕ → Type 0
IsReachable code slot = Reaches code 0 slot

-- a slot is reached, and a path of one or more branches leads from it back to it
pub record IsLooped (code : List Insn) (slot : ℕ) : Type 0 where
  pub reached : IsReachable code slot
  pub next : ℕ
  pub leads : Leads code slot next
  pub back : Reaches code next slot

abbrev pub HasNoLoop : List Insn → Type 0
HasNoLoop code = (slot : ℕ) → IsLooped code slot → ⊥

-- a slot is reached, and a branch of the instruction there leads to no instruction
pub record IsStuckAt (code : List Insn) (reason : Reason) (slot : ℕ) : Type 0 where
  pub reached : IsReachable code slot
  pub insn : Insn
  pub branch : Branch
  pub leads : LeadsBy code slot insn branch (Err reason)

-- why a program is not put in order: it has a loop, or a branch that leads to no instruction; or it may take more slots than a
-- program has, or memory ran out
abbrev pub IsOrderFault : List Insn → OrderError → Type 0
IsOrderFault code (errors.Loop slot) = IsLooped code slot
IsOrderFault code (errors.Stuck reason slot) = IsStuckAt code reason slot
IsOrderFault code errors.TooLong = MAX_SLOTS < slot_count code + length code
IsOrderFault code errors.Memory = Unit {0}

-- a run may come to a slot: it is reached, or it follows a reached instruction that continues with the next one
pub record FallsTo (code : List Insn) (slot : ℕ) : Type 0 where
  pub from : ℕ
  pub reached : IsReachable code from
  pub insn : Insn
  pub here : fetch code from ≡ Begins insn
  pub is_branch : IsOneOf (branches insn) NotTaken
  pub next : slot ≡ from + slots_of insn

abbrev pub IsEntered : List Insn → ℕ → Type 0
IsEntered code slot = IsReachable code slot ⊎ FallsTo code slot

-- ---- steps of a program whose jumps may lead backward

abbrev pub free_step_by_effect : Environment → List Insn → State → Insn → Result Effect Reason → StepResult
free_step_by_effect w code s i (Ok (effects.Jump offset)) = step_to s (any_target code s.slot offset)
free_step_by_effect w code s i result = step_by_effect w code s i result

abbrev pub free_step_of_fetched : Environment → List Insn → State → Fetched → StepResult
free_step_of_fetched w code s (Begins i) = free_step_by_effect w code s i (effect w.context s.memory s.registers i)
free_step_of_fetched w code s Inside = Sticks JumpIntoWide s.slot
free_step_of_fetched w code s Past = Sticks FallsOffEnd (last_slot code)

abbrev pub free_step : Environment → List Insn → State → StepResult
free_step w code s = free_step_of_fetched w code s (fetch code s.slot)

-- a run of at most m of these steps
abbrev pub free_run : Environment → List Insn → ℕ → State → Run
free_run w code zero s = record { ending = Running; path = []; state = s }
free_run w code (suc m) s = run_after (visits code s.slot) (run_onwards s (free_step w code s) (λ next. free_run w code m next))

-- ---- the same meaning

-- a state at the place that its slot has in another program
abbrev pub moved : (ℕ → ℕ) → State → State
moved place s = record s { slot = place s.slot }

-- a step goes to a state at a jump, and the jump continues; it changes the slot alone
pub record GoesOverJump (w : Environment) (code : List Insn) (s next : State) : Type 0 where
  pub between : State
  pub first : step w code s ≡ Goes between
  pub jump : Insn
  pub distance : ℤ
  pub here : fetch code between.slot ≡ Begins jump
  pub is_jump : flow_of jump ≡ Jumps distance
  pub second : step w code between ≡ Goes next
  pub same : next ≡ record between { slot = next.slot }

abbrev pub GoesTo : Environment → List Insn → State → State → Type 0
GoesTo w code s next = (step w code s ≡ Goes next) ⊎ GoesOverJump w code s next

-- what a step of a program does, a program in order does from the place of its slot
pub record KeepsStep (place : ℕ → ℕ) (w : Environment) (old new : List Insn) (s : State) : Type 0 where
  pub goes : (next : State) → free_step w old s ≡ Goes next → GoesTo w new (moved place s) (moved place next)
  pub exits : (verdict : ℕ) → free_step w old s ≡ Exits verdict → step w new (moved place s) ≡ Exits verdict
  pub sticks : (reason : Reason) (slot : ℕ) → free_step w old s ≡ Sticks reason slot → step w new (moved place s) ≡ Sticks reason (place slot)

-- each slot has a place, 0 has 0, and every step from a slot that a run may come to is kept
pub record KeepsMeaning (old new : List Insn) : Type 0 where
  pub place : ℕ → ℕ
  pub start : place 0 ≡ 0
  pub steps : (w : Environment) (s : State) → IsEntered old s.slot → KeepsStep place w old new s

-- ---- where the instructions are

-- the slot that the instruction of a slot has in the program in order
abbrev pub moved_slot : Places → ℕ → Option ℕ
moved_slot Kept slot = Some slot
moved_slot (Moved slots) slot = slice_index_or slots.items slot None

-- without one, a slot stands for itself
abbrev pub place_or : ℕ → Option ℕ → ℕ
place_or slot None = slot
place_or slot (Some place) = place

-- the meaning is kept with these places, and each instruction that is reached has one
pub record KeepsMeaningBy (places : Places) (old new : List Insn) : Type 0 where
  pub meaning : KeepsMeaning old new
  pub same : (slot : ℕ) → meaning.place slot ≡ place_or slot (moved_slot places slot)
  pub reached : (slot : ℕ) → IsReachable old slot → is_some (moved_slot places slot) ≡ true
