-- What the code finds of branches.
use Rattle.std.proofs.Common.{◌≡◌, ℕ, ◌+◌, ◌<◌, ◌≤◌, List, Option, Some, Ok, Fits, w64, subst, rules, arith, Bool, true, false, ℤ, pos, ◌+ℤ◌, Result, Err, sym, ap, ◌∙◌}
use Rattle.std.specs.Prelude.{int_le, int_lt, unsigned_abs, if◌then◌else◌}
use Rattle.std.proofs.lemmas.Int.{ints}
use Rattle.insn.specs.Encoding.{slots_of, slot_count}
use Rattle.insn.specs.declared.decoding.TheConstants.{MAX_SLOTS}
use Rattle.insn.specs.declared.instruction.Insn.{Insn}
use Rattle.insn.specs.declared.instruction.Insn.TheVariants as insn
use Rattle.semantics.specs.laws.Slot.{begins_inside}
use Rattle.semantics.specs.declared.fetching.Branch.{Branch}
use Rattle.semantics.specs.declared.fetching.Visit.{Visit}
use Rattle.semantics.specs.Slots.{fetch, landing}
use Rattle.semantics.specs.declared.fetching.Fetched.{Fetched}
use Rattle.semantics.specs.declared.reason.Reason.{Reason}
use Rattle.semantics.specs.declared.reason.Reason.TheVariants.{JumpOutside}
use Rattle.ordering.specs.Orders.{any_target, LeadsBy}
use Rattle.ordering.specs.BranchTargets.{IsVisit, IsBranchTarget}

two_slots : (i : Insn) → slots_of i ≤ 2
two_slots (insn.LoadImm dst n) = omega arith
two_slots i = omega arith

-- the slot of a visit is one of the program's
pub visit_inside : (code : List Insn) (v : Visit) (n : ℕ) → IsVisit code v → slot_count code ≤ n → v.slot < n
visit_inside code v n here few = omega (arith, begins_inside code v.slot v.insn here)

-- and so is the next one, or the end
pub few_more : (code : List Insn) (v : Visit) (n : ℕ) → IsVisit code v → slot_count code ≤ MAX_SLOTS → n ≡ slots_of v.insn → Fits w64 (v.slot + n)
few_more code v n here few e =
    let inside : v.slot < MAX_SLOTS = visit_inside code v MAX_SLOTS here few in
    let some : n ≤ 2 = omega (arith, e, two_slots v.insn) in
    search (rules, inside, some)

-- the instruction that a branch leads to
pub branch_leads : (code : List Insn) (from : Visit) (branch : Branch) (landed : Option Visit) (to : Visit) → IsBranchTarget code from branch (Ok landed) → landed ≡ Some to → LeadsBy code from.slot from.insn branch (Ok to.slot) × IsVisit code to
branch_leads code from branch landed to h e = subst (λ (o : Option Visit). IsBranchTarget code from branch (Ok o)) e h
