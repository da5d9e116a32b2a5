-- Meaning. What an explanation says of a file, and the texts of errors.
use Rattle.std.specs.Prelude.{ℕ, List, Option, Some, None, codes}
use Rattle.insn.specs.declared.instruction.Insn.{Insn}
use Rattle.loader.specs.Loads.{IsLoaded, IsLoadRefusal, IsMemoryRefusal}
use Rattle.loader.specs.declared.loaded.TheConstants.{BUDGET}
use Rattle.loader.specs.declared.refusal.LoadError.{LoadError}
use Rattle.loader.specs.declared.refusal.LoadError.TheVariants.{Verify}
use Rattle.semantics.specs.Runs.{IsSafe}
use Rattle.verifier.specs.Refusing.{MayRefuse}
use Rattle.verifier.specs.declared.refusal.Refusal.{Refusal}
use Rattle.explaining.specs.LongestPaths.{IsCostOf}
use Rattle.explaining.specs.declared.error.ExplainError.{ExplainError}
use Rattle.explaining.specs.declared.error.ExplainError.TheVariants as error
use Rattle.explaining.specs.declared.file.Explained.{Explained}
use Rattle.explaining.specs.declared.file.Explained.TheVariants.{Accepted, Refused}

-- the loader accepts the file, and a run of its program costs so much at most; or it refuses it for another cause than memory
abbrev pub IsExplained : List ℕ → Explained → Type 0
IsExplained file (Accepted cost effort) = (code : List Insn) × IsLoaded code file × IsCostOf code cost
IsExplained file Refused = (e : LoadError) × (IsMemoryRefusal e → ⊥) × IsLoadRefusal file e

-- the same of a program that was decoded
abbrev pub IsExplainedCode : List Insn → Explained → Type 0
IsExplainedCode code (Accepted cost effort) = IsSafe code × IsCostOf code cost
IsExplainedCode code Refused = (e : Refusal) × (IsMemoryRefusal (Verify e) → ⊥) × MayRefuse code BUDGET e

-- a graph is drawn of what the loader accepts, or of what it refuses for this cause, which isn't memory
abbrev pub IsDrawn : List ℕ → Option LoadError → Type 0
IsDrawn file None = (code : List Insn) × IsLoaded code file
IsDrawn file (Some e) = (IsMemoryRefusal e → ⊥) × IsLoadRefusal file e

-- the same of a program that was decoded
abbrev pub IsDrawnCode : List Insn → Option Refusal → Type 0
IsDrawnCode code None = IsSafe code
IsDrawnCode code (Some e) = (IsMemoryRefusal (Verify e) → ⊥) × MayRefuse code BUDGET e

abbrev pub explain_error_text : ExplainError → List ℕ
explain_error_text error.Output = codes "cannot write output"
explain_error_text error.Memory = codes "out of memory"
