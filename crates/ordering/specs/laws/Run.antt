-- Interface. Runs of a program and of one in order that keeps its meaning.
use Rattle.std.specs.Prelude.{◌≡◌, ℕ, ◌*◌, ◌≤◌, List}
use Rattle.insn.specs.declared.instruction.Insn.{Insn}
use Rattle.semantics.specs.Machine.{State, Environment, start}
use Rattle.semantics.specs.Runs.{Ending, Exited, Stuck, Running, run}
use Rattle.ordering.specs.Orders.{free_run, moved}

-- an ending at the place of its slot
abbrev pub moved_ending : (ℕ → ℕ) → Ending → Ending
moved_ending place (Exited verdict) = Exited verdict
moved_ending place (Stuck reason slot) = Stuck reason (place slot)
moved_ending place Running = Running

-- a run of at least m and at most 2m steps of a program in order ends as one of m steps of the other does, in its state
pub record KeepsRun (place : ℕ → ℕ) (w : Environment) (old new : List Insn) (m : ℕ) (from to : State) : Type 0 where
  pub steps : ℕ
  pub least : m ≤ steps
  pub most : steps ≤ 2 * m
  pub ending : (run w new steps to).ending ≡ moved_ending place (free_run w old m from).ending
  pub state : (run w new steps to).state ≡ moved place (free_run w old m from).state

-- so does every run over a datagram
abbrev pub KeepsRuns : (ℕ → ℕ) → List Insn → List Insn → Type 0
KeepsRuns place old new = (w : Environment) (datagram : List ℕ) (m : ℕ) → KeepsRun place w old new m (start datagram) (start datagram)
