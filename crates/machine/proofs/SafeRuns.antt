-- The run of safe code over a frame.
use Rattle.std.proofs.Common.{◌≡◌, ℕ, ◌+◌, ◌≤◌, List, length, sym, ap, ◌∙◌, arith}
use Rattle.insn.specs.declared.instruction.Insn.{Insn}
use Rattle.semantics.specs.Machine.{Environment, start}
use Rattle.semantics.specs.Runs.{Run, Exited, Stuck, IsPossible, IsDatagram, IsSafe, run}
use Rattle.semantics.specs.laws.Run.{exits_the_same, path_is_short}
use Rattle.semantics.specs.declared.reason.Reason.{Reason}

one_more : (n : ℕ) → n ≤ n + 1
one_more n = omega arith

-- the step past the last instruction is never made
pub no_step_past : (w : Environment) (code : List Insn) (d : List ℕ) → IsSafe code → IsPossible w → IsDatagram d → run w code (length code + 1) (start d) ≡ run w code (length code) (start d)
no_step_past w code d safe real datagram = let exits = safe w d real datagram in exits_the_same w code (length code) (length code + 1) (start d) exits.0 (one_more (length code)) exits.1

stuck_is_no_exit : (reason : Reason) (slot verdict : ℕ) → Stuck reason slot ≡ Exited verdict → ⊥
stuck_is_no_exit reason slot verdict e = absurd cc

pub never_stuck : (w : Environment) (code : List Insn) (d : List ℕ) (reason : Reason) (slot : ℕ) → IsSafe code → IsPossible w → IsDatagram d → (run w code (length code + 1) (start d)).ending ≡ Stuck reason slot → ⊥
never_stuck w code d reason slot safe real datagram e =
    let exits = safe w d real datagram in
    stuck_is_no_exit reason slot exits.0 (sym e ∙ ap (λ (r : Run). r.ending) (no_step_past w code d safe real datagram) ∙ exits.1)

pub few_steps : (w : Environment) (code : List Insn) (d : List ℕ) (steps : ℕ) → length (run w code (length code) (start d)).path ≡ steps → steps ≤ length code
few_steps w code d steps e = omega (arith, e, path_is_short w code (length code) (start d))
