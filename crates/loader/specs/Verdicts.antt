-- Interface. The walk of the verification that a result of the loader comes from.
use Rattle.std.specs.Prelude.{ℕ, List, Result, Ok, Err}
use Rattle.insn.specs.Encoding.{Encodes}
use Rattle.insn.specs.declared.instruction.Insn.{Insn}
use Rattle.interval.specs.Intervals.{LiesBetween, interval_ops}
use Rattle.verifier.specs.Refusing.{CountsSteps}
use Rattle.verifier.specs.Walks.{EndsWalk}
use Rattle.verifier.specs.declared.refusal.Refusal.{Refusal}
use Rattle.loader.specs.declared.loaded.TheConstants.{BUDGET}
use Rattle.loader.specs.declared.refusal.LoadError.{LoadError}
use Rattle.loader.specs.declared.refusal.LoadError.TheVariants.{Decode, Verify}

-- The verdict on code comes from a walk of so many steps, at most those of the budget: it is accepted where no state is left,
-- and refused at the step that is refused, or before the one that would pass the budget, or where memory runs out.
pub record IsWalked {T : Type 0} (code : List Insn) (verdict : Result T Refusal) : Type 0 where
  pub made : ℕ
  pub counts : CountsSteps BUDGET 0 made verdict
  pub walked : EndsWalk interval_ops LiesBetween code 0 made verdict

-- so does the verdict on the program that bytes encode, where they were decoded
abbrev pub ComesFromWalk : {T : Type 0} → List ℕ → Result T LoadError → Type 0
ComesFromWalk {T} bytes (Ok loaded) = (code : List Insn) × Encodes code bytes × IsWalked {T = T} code (Ok loaded)
ComesFromWalk bytes (Err (Decode e)) = Unit {0}
ComesFromWalk {T} bytes (Err (Verify e)) = (code : List Insn) × Encodes code bytes × IsWalked {T = T} code (Err e)
