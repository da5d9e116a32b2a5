-- Meaning. The layout of a program: each jump leads to an instruction ahead, and the last instruction is the exit.
use Rattle.std.specs.Prelude.{◌≡◌, ℕ, ◌<◌, ◌⊎◌, ℤ, List, Option, Some, None, Result, Ok, Err}
use Rattle.insn.specs.declared.instruction.Insn.{Insn}
use Rattle.insn.specs.declared.instruction.Insn.TheVariants.{Exit}
use Rattle.basics.specs.Fallible.{◌>>=◌}
use Rattle.semantics.specs.Slots.{fetch, fetch_in, target, last_slot}
use Rattle.semantics.specs.Flow.{flow_of, flow_distance}
use Rattle.semantics.specs.declared.reason.Reason.{Reason}
use Rattle.semantics.specs.declared.reason.Reason.TheVariants as reasons
use Rattle.semantics.specs.declared.fetching.Fetched.{Fetched}
use Rattle.semantics.specs.declared.fetching.Fetched.TheVariants.{Begins, Inside, Past}
use Rattle.verifier.specs.declared.refusal.Refusal.{Refusal}
use Rattle.verifier.specs.declared.refusal.Refusal.TheVariants as refusal

-- an instruction begins at a slot
abbrev pub StartsAt : List Insn → ℕ → Type 0
StartsAt code slot = (i : Insn) × (fetch code slot ≡ Begins i)

-- the distance of a jump
abbrev pub distance_of : Insn → Option ℤ
distance_of i = flow_distance (flow_of i)

-- a jump leads to an instruction ahead
abbrev pub distance_checked : List Insn → ℕ → Option ℤ → Result (Unit {0}) Reason
distance_checked code slot None = Ok tt
distance_checked code slot (Some d) = target code slot d >>= λ to. Ok tt

abbrev pub jump_checked : List Insn → ℕ → Insn → Result (Unit {0}) Reason
jump_checked code slot i = distance_checked code slot (distance_of i)

abbrev pub fetched_checked : List Insn → ℕ → Fetched → Result (Unit {0}) Reason
fetched_checked code slot (Begins i) = jump_checked code slot i
fetched_checked code slot Inside = Ok tt
fetched_checked code slot Past = Ok tt

-- an instruction that begins at a slot is no faulty jump, or the reason for which it is one
abbrev pub slot_checked : List Insn → ℕ → Result (Unit {0}) Reason
slot_checked code slot = fetched_checked code slot (fetch code slot)

-- a list has what is at each slot of a program, and that there is none after the last
abbrev pub ListsSlots : List Insn → List Fetched → Type 0
ListsSlots code all = (slot : ℕ) → fetch_in all slot ≡ fetch code slot

-- no jump is faulty
abbrev pub HasGoodJumps : List Insn → Type 0
HasGoodJumps code = (slot : ℕ) → slot_checked code slot ≡ Ok tt

abbrev pub EndsInExit : List Insn → Type 0
EndsInExit code = fetch code (last_slot code) ≡ Begins Exit

pub record IsLaidOut (code : List Insn) : Type 0 where
  pub jumps : HasGoodJumps code
  pub exit : EndsInExit code

-- the first faulty jump, in the order of slots
pub record IsFirstFaultyJump (code : List Insn) (reason : Reason) (slot : ℕ) : Type 0 where
  pub faulty : slot_checked code slot ≡ Err reason
  pub first : (k : ℕ) → k < slot → slot_checked code k ≡ Ok tt

-- no jump is faulty, and the program continues past its last instruction
pub record FallsOff (code : List Insn) (reason : Reason) (slot : ℕ) : Type 0 where
  pub reason_is : reason ≡ reasons.FallsOffEnd
  pub slot_is : slot ≡ last_slot code
  pub jumps : HasGoodJumps code
  pub no_exit : EndsInExit code → ⊥

abbrev pub IsLayoutFault : List Insn → Reason → ℕ → Type 0
IsLayoutFault code reason slot = IsFirstFaultyJump code reason slot ⊎ FallsOff code reason slot

abbrev pub IsLayoutRefusal : List Insn → Refusal → Type 0
IsLayoutRefusal code (refusal.Stuck reason slot) = IsLayoutFault code reason slot
IsLayoutRefusal code (refusal.Budget slot) = ⊥
IsLayoutRefusal code (refusal.Memory slot) = ⊥
