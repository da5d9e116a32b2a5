-- Internal. What a branch leads to, as the code finds it.
use Rattle.std.specs.Prelude.{◌≡◌, ℕ, Bool, true, false, List, Option, Some, None, Result, Ok, Err}
use Rattle.insn.specs.declared.instruction.Insn.{Insn}
use Rattle.semantics.specs.Slots.{fetch}
use Rattle.semantics.specs.Flow.{Flow, Straight, Jumps, Forks, Ends, branches}
use Rattle.semantics.specs.declared.reason.Reason.{Reason}
use Rattle.semantics.specs.declared.fetching.Fetched.TheVariants.{Begins}
use Rattle.semantics.specs.declared.fetching.Branch.{Branch}
use Rattle.semantics.specs.declared.fetching.Visit.{Visit}
use Rattle.ordering.specs.Orders.{IsOneOf, LeadsBy}

abbrev pub falls_through : Flow → Bool
falls_through Straight = true
falls_through (Jumps distance) = false
falls_through (Forks distance) = true
falls_through Ends = false

-- the instruction of a visit begins at its slot
abbrev pub IsVisit : List Insn → Visit → Type 0
IsVisit code v = fetch code v.slot ≡ Begins v.insn

-- a slot that a branch leads to, with its instruction
abbrev pub IsLanding : List Insn → Result ℕ Reason → Result Visit Reason → Type 0
IsLanding code slot (Ok to) = (slot ≡ Ok to.slot) × IsVisit code to
IsLanding code slot (Err reason) = slot ≡ Err reason

-- where a branch of an instruction leads, if it has such a branch
abbrev pub IsBranchTarget : List Insn → Visit → Branch → Result (Option Visit) Reason → Type 0
IsBranchTarget code from branch (Ok None) = IsOneOf (branches from.insn) branch → ⊥
IsBranchTarget code from branch (Ok (Some to)) = LeadsBy code from.slot from.insn branch (Ok to.slot) × IsVisit code to
IsBranchTarget code from branch (Err reason) = LeadsBy code from.slot from.insn branch (Err reason)
