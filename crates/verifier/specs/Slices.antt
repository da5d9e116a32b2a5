-- Meaning. A walk that continues by slices of work.
use Rattle.std.specs.Prelude.{◌≡◌, ℕ, ◌+◌, ◌-◌, ◌*◌, ◌≤◌, List, length, Option, Some, None, Result, Ok, Err}
use Rattle.insn.specs.Encoding.{slot_count}
use Rattle.insn.specs.declared.decoding.TheConstants.{MAX_SLOTS}
use Rattle.insn.specs.declared.instruction.Insn.{Insn}
use Rattle.interval.specs.Domains.{Operations}
use Rattle.verifier.specs.Keeping.{kept_at}
use Rattle.verifier.specs.Layout.{IsLaidOut}
use Rattle.verifier.specs.Refusing.{CountsSteps}
use Rattle.verifier.specs.Searches.{HasPassed}
use Rattle.verifier.specs.Walk.{state_to_follow, waiting_states}
use Rattle.verifier.specs.Walks.{Pauses, IsEndOf}
use Rattle.verifier.specs.declared.kept.KeptStates.{KeptStates}
use Rattle.verifier.specs.declared.refusal.Refusal.{Refusal}
use Rattle.verifier.specs.declared.slices.Frontier.{Frontier}
use Rattle.verifier.specs.declared.walk.Path.{Path}
use Rattle.verifier.specs.declared.walk.Path.TheVariants.{Continues, Ended}
use Rattle.verifier.specs.declared.walk.Pending.{Pending}
use Rattle.verifier.specs.declared.weights.TheConstants.{UNIT, KEPT_STATE, HEAVIEST}

-- A walk that continues: its code, its budget, the steps made, the states that wait, the next one last, and those that are kept. Of
-- those at the slot of the next state the first ones are known not to cover it; and so much was done beyond the slices so far.
pub record Walking (D : Type 0) : Type 0 where
  pub code : List Insn
  pub budget : ℕ
  pub made : ℕ
  pub waits : List (Pending D)
  pub kept : KeptStates D
  pub passed : ℕ
  pub ahead : ℕ

-- so many steps of the walk lead there, and its budget allows them; less than a unit of work was done beyond the slices
pub record IsWalk {D : Type 0} (ops : Operations D) (Member : D → ℕ → Type 0) (w : Walking D) : Type 0 where
  pub few : slot_count w.code ≤ MAX_SLOTS
  pub laid_out : IsLaidOut w.code
  pub within : w.made ≤ w.budget
  pub pauses : Pauses ops Member w.code w.made w.waits w.kept
  pub light : w.ahead ≤ HEAVIEST

-- the most searches that are left: each step leaves at most one state more waiting than before, and each is searched for once
abbrev pub searches_left : {D : Type 0} → ℕ → ℕ → List (Pending D) → ℕ
searches_left budget made waits = 2 * (budget - made) + length waits

-- What the searches that are left weigh, at most, each with its step: there is a unit of work for each kept state, of which there
-- are no more than steps. Those that are passed aren't compared again.
abbrev pub weight_left : {D : Type 0} → ℕ → ℕ → List (Pending D) → ℕ → ℕ
weight_left budget made waits passed = searches_left budget made waits * (UNIT + budget * (UNIT + KEPT_STATE)) - passed * (UNIT + KEPT_STATE)

-- the most work that is left, by weight, with what is done already
abbrev pub work_left : {D : Type 0} → Walking D → ℕ
work_left w = weight_left w.budget w.made w.waits w.passed + w.ahead

-- the states that wait, the next one last
abbrev pub waits_of : {D : Type 0} → Frontier D → List (Pending D)
waits_of at = waiting_states (state_to_follow at.path at.here.value) at.pending.items

-- how many of the states that are kept at the slot of the current state are known not to cover it
abbrev pub passed_of : Path → ℕ → ℕ
passed_of Continues passed = passed
passed_of Ended passed = 0

abbrev pub passed_at : {D : Type 0} → Frontier D → ℕ
passed_at at = passed_of at.path at.passed

abbrev pub HasPassedHere : {D : Type 0} → Operations D → Frontier D → Type 0
HasPassedHere ops at = HasPassed ops (kept_at at.kept at.here.value.slot) (passed_at at) at.here.value.state

-- the walk of code with a budget, between two units of work
abbrev pub walking_at : {D : Type 0} → List Insn → ℕ → Frontier D → Walking D
walking_at code budget at = record { code = code; budget = budget; made = at.made; waits = waits_of at; kept = at.kept; passed = passed_at at; ahead = at.ahead }

-- the state to follow next is skipped, or its step is made: a search less is left
pub record HasSettled {D : Type 0} (ops : Operations D) (Member : D → ℕ → Type 0) (code : List Insn) (budget : ℕ) (from to : Frontier D) (old new : ℕ) : Type 0 where
  pub pauses : Pauses ops Member code to.made (waits_of to) to.kept
  pub within : to.made ≤ budget
  pub count : new + from.made ≡ old + to.made
  pub few : new ≤ old + 1
  pub less : searches_left budget to.made (waits_of to) + 1 ≤ searches_left budget from.made (waits_of from)
  pub none_passed : passed_at to ≡ 0

-- work of some weight leads from the one to the other, and its steps are counted
pub record HasWorked {D : Type 0} (ops : Operations D) (Member : D → ℕ → Type 0) (code : List Insn) (budget : ℕ) (from to : Frontier D) (weight old new : ℕ) : Type 0 where
  pub pauses : Pauses ops Member code to.made (waits_of to) to.kept
  pub has_passed : HasPassedHere ops to
  pub within : to.made ≤ budget
  pub count : new + from.made ≡ old + to.made
  pub less : weight_left budget to.made (waits_of to) (passed_at to) + weight ≤ weight_left budget from.made (waits_of from) (passed_at from)

-- a unit of work, which isn't heavy
pub record HasDoneUnit {D : Type 0} (ops : Operations D) (Member : D → ℕ → Type 0) (code : List Insn) (budget : ℕ) (from to : Frontier D) (old new weight : ℕ) : Type 0 where
  pub worked : HasWorked ops Member code budget from to weight old new
  pub few : new ≤ old + 1
  pub some : 1 ≤ weight
  pub light : weight ≤ HEAVIEST
  pub ahead : to.ahead ≡ from.ahead

-- So much work was done for a slice: with what was done before it, all that it asks for. What was done beyond it is less than a
-- unit weighs.
pub record HasDoneSlice {D : Type 0} (ops : Operations D) (Member : D → ℕ → Type 0) (code : List Insn) (budget : ℕ) (from to : Frontier D) (slice old new : ℕ) : Type 0 where
  pub weight : ℕ
  pub worked : HasWorked ops Member code budget from to weight old new
  pub sum : from.ahead + weight ≡ slice + to.ahead
  pub few : new ≤ old + slice
  pub light : to.ahead ≤ HEAVIEST

-- a fact that holds where the walk continues
abbrev pub IfContinues : Type 0 → Path → Type 0
IfContinues P Continues = P
IfContinues P Ended = Unit {0}

-- the walk that had made some steps ends in a result after all of its steps, of which at most so many are counted
pub record Stops {D T : Type 0} (ops : Operations D) (Member : D → ℕ → Type 0) (code : List Insn) (budget before units old new : ℕ) (result : Result T Refusal) : Type 0 where
  pub made : ℕ
  pub count : new + before ≡ old + made
  pub few : new ≤ old + units
  pub counts : CountsSteps budget 0 made result
  pub end : IsEndOf ops Member code made result

-- so it ends where no state waits, and at a refusal
abbrev pub StopsIn : {D : Type 0} → Operations D → (D → ℕ → Type 0) → List Insn → ℕ → ℕ → ℕ → ℕ → ℕ → Result Path Refusal → Type 0
StopsIn ops Member code budget before units old new (Ok Continues) = Unit {0}
StopsIn ops Member code budget before units old new (Ok Ended) = Stops {T = Unit {0}} ops Member code budget before units old new (Ok tt)
StopsIn ops Member code budget before units old new (Err e) = Stops {T = Unit {0}} ops Member code budget before units old new (Err e)

-- the same of a unit of work, whose weight is known where the walk continues
abbrev pub StopsUnit : {D : Type 0} → Operations D → (D → ℕ → Type 0) → List Insn → ℕ → ℕ → ℕ → ℕ → Result (Option ℕ) Refusal → Type 0
StopsUnit ops Member code budget before old new (Ok (Some weight)) = Unit {0}
StopsUnit ops Member code budget before old new (Ok None) = Stops {T = Unit {0}} ops Member code budget before 1 old new (Ok tt)
StopsUnit ops Member code budget before old new (Err e) = Stops {T = Unit {0}} ops Member code budget before 1 old new (Err e)
