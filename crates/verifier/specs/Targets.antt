-- Meaning. The targets of jumps: the slots that some jump of a program leads to.
use Rattle.std.specs.Prelude.{◌≡◌, ℕ, ℤ, List, Option, Some, None}
use Rattle.std.specs.Result.{result_ok}
use Rattle.insn.specs.declared.instruction.Insn.{Insn}
use Rattle.semantics.specs.Slots.{fetch, target}
use Rattle.semantics.specs.declared.fetching.Fetched.{Fetched}
use Rattle.semantics.specs.declared.fetching.Fetched.TheVariants.{Begins, Inside, Past}
use Rattle.verifier.specs.Layout.{distance_of}

abbrev pub target_by : List Insn → ℕ → Option ℤ → Option ℕ
target_by code slot None = None
target_by code slot (Some d) = result_ok (target code slot d)

abbrev pub fetched_target : List Insn → ℕ → Fetched → Option ℕ
fetched_target code slot (Begins i) = target_by code slot (distance_of i)
fetched_target code slot Inside = None
fetched_target code slot Past = None

-- the slot that the jump at a slot leads to
abbrev pub target_at : List Insn → ℕ → Option ℕ
target_at code slot = fetched_target code slot (fetch code slot)

-- some jump leads to a slot
abbrev pub IsTarget : List Insn → ℕ → Type 0
IsTarget code to = (slot : ℕ) × (target_at code slot ≡ Some to)
