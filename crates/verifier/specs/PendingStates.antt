-- Internal. What the proofs keep of each pending state.
use Rattle.std.specs.Prelude.{◌≡◌, ℕ, ◌≤◌, ◌<◌, pos, ◌≤ℤ◌, ℤ, List, length, replicate, sum_by, All}
use Rattle.insn.specs.Encoding.{slot_count}
use Rattle.insn.specs.declared.decoding.TheConstants.{MAX_SLOTS}
use Rattle.insn.specs.declared.instruction.Insn.{Insn}
use Rattle.semantics.specs.Machine.{State, Environment, start}
use Rattle.semantics.specs.Slots.{instructions_ahead}
use Rattle.semantics.specs.Runs.{Exited, run, IsPossible, IsSafe}
use Rattle.semantics.specs.declared.limits.TheConstants.{MAX_DATAGRAM}
use Rattle.semantics.specs.LooseRuns.{Loosens, LooselyReaches, path_prefixes_from}
use Rattle.absstate.specs.Membership.{Loose, Strict, IsMember}
use Rattle.absstate.specs.laws.Step.Anchors.{NameNoVariableAnchor, reach_of}
use Rattle.verifier.specs.Refusing.{HasNoSums}
use Rattle.verifier.specs.declared.walk.Pending.{Pending}

-- ---- accepted code exits

-- a run from a state exits within as many steps as instructions are ahead
abbrev pub ExitsFrom : Environment → List Insn → State → Type 0
ExitsFrom w code s = (verdict : ℕ) × ((run w code (instructions_ahead code s.slot) s).ending ≡ Exited verdict)

-- every run exits so, in a possible environment, from every member of a pending state with a datagram of at most 65,507
-- bytes
abbrev pub AllRunsExit : {D : Type 0} → (D → ℕ → Type 0) → List Insn → Pending D → Type 0
AllRunsExit Member code p = (w : Environment) (s : State) → IsPossible w → s.slot ≡ p.slot → s.memory.length ≤ MAX_DATAGRAM → IsMember Member Loose p.state s → ExitsFrom w code s

-- a verified program is safe, and not too long
pub record IsVerified (code : List Insn) : Type 0 where
  pub safe : IsSafe code
  pub few : slot_count code ≤ MAX_SLOTS

-- ---- loose runs reach every pending state

-- an environment that a relay can give: a client's datagram, and helpers that find nothing
abbrev pub some_environment : Environment
some_environment = record {
  context = record { side = 0; source = replicate 8 0; wide_source = replicate 20 0; tx = replicate 12 0 };
  answer = λ helper number address. (0, replicate 20 0);
}

-- a loose run over a datagram of n bytes, loosened once more at its end, reaches a member of a pending state
pub record IsReachedOver {D : Type 0} (Member : D → ℕ → Type 0) (code : List Insn) (p : Pending D) (n : ℕ) : Type 0 where
  pub datagram : List ℕ
  pub bytes_fit : All (λ b. b < 256) datagram
  pub steps : ℕ
  pub last : State
  pub loosened : State
  pub reaches : LooselyReaches some_environment code steps (start datagram) last
  pub loosens : Loosens last loosened
  pub slot : loosened.slot ≡ p.slot
  pub size : loosened.memory.length ≡ n
  pub member : IsMember Member Strict p.state loosened

-- Over each datagram of some length on, a loose run reaches the pending state: one that reaches beyond every pointer of it.
-- Where no register is added to another one or subtracted from it, that is each datagram that has the bytes that are proved.
pub record IsReached {D : Type 0} (Member : D → ℕ → Type 0) (code : List Insn) (p : Pending D) : Type 0 where
  pub not_negative : pos 0 ≤ℤ p.state.proved
  pub floor : ℤ
  pub proved : p.state.proved ≤ℤ floor
  pub reach : reach_of p.state.values ≤ℤ floor
  pub over : (n : ℕ) → floor ≤ℤ pos n → IsReachedOver Member code p n
  pub plain : HasNoSums code → NameNoVariableAnchor p.state.values × (floor ≤ℤ p.state.proved)

-- ---- path prefixes

-- the number of path prefixes from a pending state on
abbrev pub count_of_prefixes : {D : Type 0} → List Insn → Pending D → ℕ
count_of_prefixes code p = length (path_prefixes_from code (instructions_ahead code p.slot) p.slot)

abbrev pub counts_from : {D : Type 0} → List Insn → List (Pending D) → ℕ
counts_from code pending = sum_by (count_of_prefixes code) pending
