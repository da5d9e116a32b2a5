-- Internal. The instructions that were placed so far: the last ones of the new program.
use Rattle.std.specs.Prelude.{◌≡◌, ◌==◌, ℕ, ◌+◌, ◌-◌, ◌<◌, ◌≤◌, ℤ, pos, List, ◌∷◌, Option, Some, None, if◌then◌else◌, reverse}
use Rattle.insn.specs.Encoding.{slot_count, AllFit}
use Rattle.insn.specs.Jumps.{with_distance}
use Rattle.insn.specs.declared.decoding.TheConstants.{MAX_SLOTS}
use Rattle.insn.specs.declared.instruction.Insn.{Insn}
use Rattle.insn.specs.declared.instruction.Insn.TheVariants as insn
use Rattle.semantics.specs.Slots.{fetch}
use Rattle.semantics.specs.Flow.{flow_of, flow_distance}
use Rattle.semantics.specs.declared.fetching.Fetched.{Fetched}
use Rattle.semantics.specs.declared.fetching.Fetched.TheVariants.{Begins}
use Rattle.ordering.specs.declared.error.OrderError.{OrderError}
use Rattle.ordering.specs.declared.error.OrderError.TheVariants as errors
use Rattle.ordering.specs.declared.tail.Tail.{Tail}

-- the instructions, which are kept with the last one first
abbrev pub tail_list : Tail → List Insn
tail_list tail = reverse tail.back.items

-- what is n slots before the end
abbrev pub fetch_back : List Insn → ℕ → Fetched
fetch_back rest n = fetch rest (slot_count rest - n)

-- an instruction begins n slots before the end
pub record BeginsBack (rest : List Insn) (n : ℕ) : Type 0 where
  pub inside : n ≤ slot_count rest
  pub insn : Insn
  pub begins : fetch_back rest n ≡ Begins insn

-- a jump n slots before the end leads ahead, to an instruction
pub record LandsBack (rest : List Insn) (n : ℕ) (distance : ℤ) : Type 0 where
  pub place : ℕ
  pub begins : BeginsBack rest place
  pub ahead : ℕ
  pub is : distance ≡ pos ahead
  pub at : n ≡ place + 1 + ahead

-- each jump leads ahead
abbrev pub JumpsAhead : List Insn → Type 0
JumpsAhead rest = (n : ℕ) (i : Insn) (distance : ℤ) → n ≤ slot_count rest → fetch_back rest n ≡ Begins i → flow_distance (flow_of i) ≡ Some distance → LandsBack rest n distance

pub record IsTail (tail : Tail) : Type 0 where
  pub count : tail.slots ≡ slot_count (tail_list tail)
  pub few : slot_count (tail_list tail) ≤ MAX_SLOTS
  pub fit : AllFit (tail_list tail)
  pub jumps : JumpsAhead (tail_list tail)

-- more slots are needed than a program may have, or memory ran out
abbrev pub IsNoRoom : ℕ → OrderError → Type 0
IsNoRoom needed (errors.Loop slot) = ⊥
IsNoRoom needed (errors.Stuck reason slot) = ⊥
IsNoRoom needed errors.TooLong = MAX_SLOTS < needed
IsNoRoom needed errors.Memory = Unit {0}

-- where it is put before some instructions, an instruction leads to one of them, if it is a jump
abbrev pub LandsBefore : List Insn → Insn → Type 0
LandsBefore rest i = (distance : ℤ) → flow_distance (flow_of i) ≡ Some distance → LandsBack rest (slot_count rest + 1) distance

-- a jump to a place, unless the place is the first one
abbrev pub bridge_to : List Insn → ℕ → List Insn
bridge_to rest place = if place == slot_count rest then rest else (insn.Jump (pos (slot_count rest - place)) ∷ rest)

abbrev pub bridged : List Insn → Option ℕ → List Insn
bridged rest None = rest
bridged rest (Some place) = bridge_to rest place

abbrev pub jump_to : List Insn → Insn → Option ℕ → Insn
jump_to rest i None = i
jump_to rest i (Some place) = with_distance i (pos (slot_count rest - place))

-- an instruction whose taken branch and whose fall-through lead to places, if it has them
abbrev pub put_before : List Insn → Insn → Option ℕ → Option ℕ → List Insn
put_before rest i taken next = jump_to (bridged rest next) i taken ∷ bridged rest next

abbrev pub BeginsAt : List Insn → Option ℕ → Type 0
BeginsAt rest None = Unit {0}
BeginsAt rest (Some place) = BeginsBack rest place

-- a jump has a place that it leads to
abbrev pub HasPlace : List Insn → Insn → Option ℕ → Type 0
HasPlace rest i None = flow_distance (flow_of i) ≡ None
HasPlace rest i (Some place) = BeginsBack rest place
