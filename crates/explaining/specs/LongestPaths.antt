-- Meaning. Paths through the instructions of a program, and what a run of it costs at most.
use Rattle.std.specs.Prelude.{◌≡◌, ℕ, ◌≤◌, List, [], ◌∷◌, ◌++◌, length, codes, decimal, Ok}
use Rattle.insn.specs.declared.instruction.Insn.{Insn}
use Rattle.insn.specs.declared.instruction.Insn.TheVariants.{Exit}
use Rattle.semantics.specs.Flow.{branches, branch_slot}
use Rattle.semantics.specs.Machine.{Environment, start}
use Rattle.semantics.specs.Runs.{run}
use Rattle.semantics.specs.Slots.{fetch}
use Rattle.semantics.specs.declared.fetching.Branch.{Branch}
use Rattle.semantics.specs.declared.fetching.Fetched.TheVariants.{Begins}
use Rattle.semantics.specs.declared.fetching.Visit.{Visit}
use Rattle.ordering.specs.Orders.{IsOneOf}
use Rattle.explaining.specs.declared.cost.Cost.{Cost}

-- a branch of an instruction leads to another one
pub record IsFollowedBy (code : List Insn) (v next : Visit) : Type 0 where
  pub branch : Branch
  pub is_branch : IsOneOf (branches v.insn) branch
  pub leads : branch_slot code v.slot v.insn branch ≡ Ok next.slot
  pub begins : fetch code next.slot ≡ Begins next.insn

-- each instruction follows the one before it
abbrev pub FollowFrom : List Insn → Visit → List Visit → Type 0
FollowFrom code v [] = Unit {0}
FollowFrom code v (next ∷ rest) = IsFollowedBy code v next × FollowFrom code next rest

-- a path: its first instruction begins at a slot, and each other one follows the one before it; or there is no instruction on it
abbrev pub IsPathFrom : List Insn → ℕ → List Visit → Type 0
IsPathFrom code slot [] = Unit {0}
IsPathFrom code slot (v ∷ rest) = (v.slot ≡ slot) × (fetch code slot ≡ Begins v.insn) × FollowFrom code v rest

-- no path from a slot has more instructions, and one has so many
pub record IsLongestFrom (code : List Insn) (slot n : ℕ) : Type 0 where
  pub most : (path : List Visit) → IsPathFrom code slot path → length path ≤ n
  pub path : List Visit
  pub is_path : IsPathFrom code slot path
  pub count : length path ≡ n

abbrev pub EndsAtExit : List Visit → Type 0
EndsAtExit [] = ⊥
EndsAtExit (v ∷ []) = v.insn ≡ Exit
EndsAtExit (v ∷ next ∷ rest) = EndsAtExit (next ∷ rest)

-- no run makes more steps: in any environment, over any datagram, and however many it may make
abbrev pub RunWithin : List Insn → ℕ → Type 0
RunWithin code n = (w : Environment) (datagram : List ℕ) (m : ℕ) → length (run w code m (start datagram)).path ≤ n

-- the steps are those of the longest path from slot 0, which leads to an exit, and no run makes more
pub record IsCostOf (code : List Insn) (cost : Cost) : Type 0 where
  pub longest : IsLongestFrom code 0 cost.steps
  pub exits : EndsAtExit longest.path
  pub runs : RunWithin code cost.steps

abbrev pub cost_text : Cost → List ℕ
cost_text cost = codes "at most " ++ decimal cost.steps ++ codes " steps a run"
