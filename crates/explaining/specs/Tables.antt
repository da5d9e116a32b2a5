-- Internal. The table by which the longest path is found: for each slot, how many instructions are on the longest path from there.
use Rattle.std.specs.Prelude.{ℕ, ◌-◌, ◌≤◌, Bool, true, false, List, Result, Ok, Err, slice_index_or, if◌then◌else◌}
use Rattle.insn.specs.declared.decoding.TheConstants.{MAX_SLOTS}
use Rattle.insn.specs.declared.instruction.Insn.{Insn}
use Rattle.semantics.specs.Flow.{Flow, Straight, Jumps, Forks, Ends, flow_of, branch_slot}
use Rattle.semantics.specs.declared.fetching.Branch.{Branch}
use Rattle.semantics.specs.declared.fetching.Branch.TheVariants.{NotTaken, Taken}
use Rattle.semantics.specs.declared.reason.Reason.{Reason}
use Rattle.explaining.specs.LongestPaths.{IsLongestFrom}

abbrev pub count_at : List ℕ → ℕ → ℕ
count_at counts slot = slice_index_or counts slot 0

abbrev pub count_to : List ℕ → Result ℕ Reason → ℕ
count_to counts (Ok to) = count_at counts to
count_to counts (Err reason) = 0

abbrev pub has_branch : Flow → Branch → Bool
has_branch Straight NotTaken = true
has_branch Straight Taken = false
has_branch (Jumps distance) NotTaken = false
has_branch (Jumps distance) Taken = true
has_branch (Forks distance) branch = true
has_branch Ends branch = false

-- how many are on the longest path after an instruction, by one of its branches; none where it hasn't this branch
abbrev pub count_by : List Insn → List ℕ → ℕ → Insn → Branch → ℕ
count_by code counts slot i branch = if has_branch (flow_of i) branch then count_to counts (branch_slot code slot i branch) else 0

-- of the slots from one on, the table has the longest paths, which are no longer than there are slots
pub record IsTableFrom (code : List Insn) (from : ℕ) (counts : List ℕ) : Type 0 where
  pub longest : (slot : ℕ) → from ≤ slot → IsLongestFrom code slot (count_at counts slot)
  pub short : (slot : ℕ) → from ≤ slot → count_at counts slot ≤ MAX_SLOTS - slot
