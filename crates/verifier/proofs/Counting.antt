-- Each step of the walk is one beginning of a path.
use Rattle.std.proofs.Common.{◌≡◌, ℕ, zero, suc, ◌+◌, ◌-◌, ◌<◌, ◌≤◌, List, [], ◌∷◌, ◌++◌, length, Option, Some, None, Result, Ok, Err, refl, sym, ap, ◌∙◌, arith, length-append}
use Rattle.std.specs.List.{flat_map}
use Rattle.std.proofs.lemmas.List.{length-map}
use Rattle.insn.specs.declared.instruction.Insn.{Insn}
use Rattle.semantics.specs.Slots.{fetch, target, instructions_ahead}
use Rattle.semantics.specs.laws.Slot.{ahead_falls}
use Rattle.insn.specs.Encoding.{slots_of}
use Rattle.semantics.specs.Flow.{Flow, Straight, Jumps, Forks, flow_of, flow_slot, flow_branches, branches, branch_slot}
use Rattle.semantics.specs.Flow as flow
use Rattle.semantics.specs.LooseRuns.{path_onwards, paths_at, path_prefixes_from}
use Rattle.semantics.specs.declared.reason.Reason.{Reason}
use Rattle.semantics.specs.declared.fetching.Fetched.{Fetched}
use Rattle.semantics.specs.declared.fetching.Fetched.TheVariants.{Begins, Inside, Past}
use Rattle.semantics.specs.declared.fetching.Branch.{Branch}
use Rattle.semantics.specs.declared.fetching.Branch.TheVariants.{NotTaken, Taken}
use Rattle.verifier.specs.PendingStates.{count_of_prefixes, counts_from}
use Rattle.absstate.specs.Successors.{One, Two, flow_successors, successors_of, successors_in}
use Rattle.verifier.specs.Walk.{LeadsTo, IsNext, IsLeft, GoesOn}
use Rattle.absstate.specs.declared.abstract_state.AbsState.{AbsState}
use Rattle.absstate.specs.declared.abstract_step.Next.{Next}
use Rattle.absstate.specs.declared.abstract_step.Next.TheVariants as next
use Rattle.verifier.specs.declared.walk.Pending.{Pending}
use Rattle.verifier.proofs.Branches.{branch_rises}

-- ---- more fuel, no fewer prefixes

onwards_length : (branch : Branch) (r : Result ℕ Reason) (f g : ℕ → List (List Branch)) → ((n : ℕ) → length (f n) ≤ length (g n)) → length (path_onwards branch r f) ≤ length (path_onwards branch r g)
onwards_length branch (Ok n) f g le = omega (arith, length-map (f n) (λ (path : List Branch). branch ∷ path), length-map (g n) (λ (path : List Branch). branch ∷ path), le n)
onwards_length branch (Err e) f g le = omega arith

all_branches : (bs : List Branch) (f g : Branch → List (List Branch)) → ((b : Branch) → length (f b) ≤ length (g b)) → length (flat_map f bs) ≤ length (flat_map g bs)
all_branches [] f g le = omega arith
all_branches (b ∷ bs) f g le = omega (arith, length-append (f b) (flat_map f bs), length-append (g b) (flat_map g bs), le b, all_branches bs f g le)

paths_length : (code : List Insn) (slot : ℕ) (p : Fetched) (f g : ℕ → List (List Branch)) → ((n : ℕ) → length (f n) ≤ length (g n)) → length (paths_at code slot p f) ≤ length (paths_at code slot p g)
paths_length code slot (Begins i) f g le =
    let branches_le = all_branches (branches i) (λ branch. path_onwards branch (branch_slot code slot i branch) f) (λ branch. path_onwards branch (branch_slot code slot i branch) g) (λ branch. onwards_length branch (branch_slot code slot i branch) f g le) in
    omega (arith, branches_le)
paths_length code slot Inside f g le = omega arith
paths_length code slot Past f g le = omega arith

more_fuel : (code : List Insn) (m n slot : ℕ) → m ≤ n → length (path_prefixes_from code m slot) ≤ length (path_prefixes_from code n slot)
more_fuel code zero n slot le = omega arith
more_fuel code (suc m) zero slot le = absurd (omega (arith, le))
more_fuel code (suc m) (suc n) slot le = paths_length code slot (fetch code slot) (λ next. path_prefixes_from code m next) (λ next. path_prefixes_from code n next) (λ next. more_fuel code m n next (omega (arith, le)))

-- ---- the prefixes from a pending state: its own, and those from the states that its branches lead to

pub counted_at : (code : List Insn) (slot m : ℕ) (i : Insn) → fetch code slot ≡ Begins i → length (path_prefixes_from code (suc m) slot) ≡ suc (length (flat_map (λ branch. path_onwards branch (branch_slot code slot i branch) (λ next. path_prefixes_from code m next)) (branches i)))
counted_at code slot m i here = ap (λ (p : Fetched). length (paths_at code slot p (λ next. path_prefixes_from code m next))) here

-- an instruction and those after it
pub fuel_is : (code : List Insn) (slot : ℕ) (i : Insn) → fetch code slot ≡ Begins i → instructions_ahead code slot ≡ suc (instructions_ahead code slot - 1)
fuel_is code slot i begins = omega (arith, ahead_falls code slot (slot + 1) i begins (next_rises slot)) where
  next_rises : (n : ℕ) → n < n + 1
  next_rises n = omega arith

after : (code : List Insn) (slot to : ℕ) (i : Insn) → fetch code slot ≡ Begins i → slot < to → instructions_ahead code to ≤ instructions_ahead code slot - 1
after code slot to i begins rises = omega (arith, ahead_falls code slot to i begins rises)

onwards_is : (branch : Branch) (r : Result ℕ Reason) (n : ℕ) (f : ℕ → List (List Branch)) → r ≡ Ok n → length (path_onwards branch r f) ≡ length (f n)
onwards_is branch r n f e = ap (λ (q : Result ℕ Reason). length (path_onwards branch q f)) e ∙ length-map (f n) (λ (path : List Branch). branch ∷ path)

-- the path prefixes through a branch are at least those from the pending state that it leads to
branch_counts : {D : Type 0} (code : List Insn) (slot : ℕ) (i : Insn) → fetch code slot ≡ Begins i → (branch : Branch) (known : AbsState D) (p : Pending D) → LeadsTo code slot i branch known p
    → count_of_prefixes code p ≤ length (path_onwards branch (branch_slot code slot i branch) (λ next. path_prefixes_from code (instructions_ahead code slot - 1) next))
branch_counts code slot i begins branch known p point =
    let m : ℕ = instructions_ahead code slot - 1 in
    let is = onwards_is branch (branch_slot code slot i branch) p.slot (λ next. path_prefixes_from code m next) point.leads in
    let fewer = more_fuel code (instructions_ahead code p.slot) m p.slot (after code slot p.slot i begins (branch_rises code slot p.slot i branch point.leads)) in
    omega (arith, is, fewer)

abbrev all_onwards : List Insn → ℕ → Insn → ℕ → List (List Branch)
all_onwards code slot i m = flat_map (λ branch. path_onwards branch (branch_slot code slot i branch) (λ next. path_prefixes_from code m next)) (branches i)

abbrev branch_onwards : List Insn → ℕ → Insn → Branch → ℕ → List (List Branch)
branch_onwards code slot i branch m = path_onwards branch (branch_slot code slot i branch) (λ next. path_prefixes_from code m next)

-- an instruction with one successor counts the same by either branch
same_onwards : (r : Result ℕ Reason) (f : ℕ → List (List Branch)) → length (path_onwards NotTaken r f) ≡ length (path_onwards Taken r f)
same_onwards (Ok n) f = length-map (f n) (λ (path : List Branch). NotTaken ∷ path) ∙ sym (length-map (f n) (λ (path : List Branch). Taken ∷ path))
same_onwards (Err e) f = refl

abbrev onwards_by : List Insn → ℕ → ℕ → Flow → Branch → ℕ → List (List Branch)
onwards_by code slot n f branch m = path_onwards branch (flow_slot code slot n f branch) (λ next. path_prefixes_from code m next)

abbrev all_by : List Insn → ℕ → ℕ → Flow → ℕ → List (List Branch)
all_by code slot n f m = flat_map (λ branch. onwards_by code slot n f branch m) (flow_branches f)

one_way : (code : List Insn) (slot n m : ℕ) (f : Flow) → One ≡ flow_successors f → length (onwards_by code slot n f NotTaken m) ≤ length (all_by code slot n f m)
one_way code slot n m Straight e = omega (arith, length-append (onwards_by code slot n Straight NotTaken m) [])
one_way code slot n m (Jumps d) e = omega (arith, length-append (onwards_by code slot n (Jumps d) Taken m) [], same_onwards (target code slot d) (λ next. path_prefixes_from code m next))
one_way code slot n m (Forks d) e = absurd cc
one_way code slot n m flow.Ends e = absurd cc

two_ways : (code : List Insn) (slot n m : ℕ) (f : Flow) → Two ≡ flow_successors f → length (onwards_by code slot n f NotTaken m) + length (onwards_by code slot n f Taken m) ≤ length (all_by code slot n f m)
two_ways code slot n m (Forks d) e =
    omega (arith, length-append (onwards_by code slot n (Forks d) NotTaken m) (onwards_by code slot n (Forks d) Taken m ++ []), length-append (onwards_by code slot n (Forks d) Taken m) [])
two_ways code slot n m Straight e = absurd cc
two_ways code slot n m (Jumps d) e = absurd cc
two_ways code slot n m flow.Ends e = absurd cc

one_branch : (code : List Insn) (slot m : ℕ) (i : Insn) → One ≡ successors_of i → length (branch_onwards code slot i NotTaken m) ≤ length (all_onwards code slot i m)
one_branch code slot m i e = one_way code slot (slots_of i) m (flow_of i) e

two_branches : (code : List Insn) (slot m : ℕ) (i : Insn) → Two ≡ successors_of i → length (branch_onwards code slot i NotTaken m) + length (branch_onwards code slot i Taken m) ≤ length (all_onwards code slot i m)
two_branches code slot m i e = two_ways code slot (slots_of i) m (flow_of i) e

-- the number of path prefixes from the current state, if there is one
abbrev pub count_next : {D : Type 0} → List Insn → Option (Pending D) → ℕ
count_next code None = 0
count_next code (Some p) = count_of_prefixes code p

module _ {D : Type 0} (code : List Insn) (slot : ℕ) (i : Insn) (begins : fetch code slot ≡ Begins i) where
  next_counts : (branch : Branch) (state : Option (AbsState D)) (on : Option (Pending D)) → IsNext code slot i branch state on → count_next code on ≤ length (branch_onwards code slot i branch (instructions_ahead code slot - 1))
  next_counts branch None None is = omega arith
  next_counts branch None (Some p) is = absurd is
  next_counts branch (Some state) None is = absurd is
  next_counts branch (Some state) (Some p) is = branch_counts code slot i begins branch state p is

  left_counts : (branch : Branch) (state : Option (AbsState D)) (left : List (Pending D)) → IsLeft code slot i branch state left → counts_from code left ≤ length (branch_onwards code slot i branch (instructions_ahead code slot - 1))
  left_counts branch None left is = let none : counts_from code left ≡ 0 = ap (counts_from code) is in omega (arith, none)
  left_counts branch (Some state) left is =
      let one : counts_from code left ≡ 0 + count_of_prefixes code is.0 = ap (counts_from code) is.2 in
      omega (arith, one, branch_counts code slot i begins branch state is.0 is.1)

  -- where no state follows a branch, nothing is followed or left
  no_next : (on : Option (Pending D)) → IsNext code slot i NotTaken None on → count_next code on ≡ 0
  no_next None is = refl
  no_next (Some p) is = absurd is

  onwards_count : (answer : Next D) → successors_in answer ≡ successors_of i → (on : Option (Pending D)) (left : List (Pending D)) → GoesOn code slot i answer on left
      → count_next code on + counts_from code left ≤ length (all_onwards code slot i (instructions_ahead code slot - 1))
  onwards_count (next.On b) successors_are on left goes =
      let none : counts_from code left ≡ 0 = ap (counts_from code) goes.1 in
      omega (arith, none, next_counts NotTaken (Some b) on goes.0, one_branch code slot (instructions_ahead code slot - 1) i successors_are)
  onwards_count (next.Fork not_taken taken) successors_are on left goes =
      omega (arith, next_counts NotTaken not_taken on goes.0, left_counts Taken taken left goes.1, two_branches code slot (instructions_ahead code slot - 1) i successors_are)
  onwards_count next.Exit successors_are on left goes =
      let none : counts_from code left ≡ 0 = ap (counts_from code) goes.1 in
      omega (arith, none, no_next on goes.0)

-- a step takes one of the path prefixes from its pending state
pub counts_before : {D : Type 0} (code : List Insn) (here : Pending D) (i : Insn) → fetch code here.slot ≡ Begins i → (answer : Next D) → successors_in answer ≡ successors_of i → (on : Option (Pending D)) (left : List (Pending D)) → GoesOn code here.slot i answer on left
    → 1 + (count_next code on + counts_from code left) ≤ count_of_prefixes code here
counts_before code here i begins answer successors_are on left goes =
    let m : ℕ = instructions_ahead code here.slot - 1 in
    let fuel : count_of_prefixes code here ≡ length (path_prefixes_from code (suc m) here.slot) = ap (λ (k : ℕ). length (path_prefixes_from code k here.slot)) (fuel_is code here.slot i begins) in
    omega (arith, fuel, counted_at code here.slot m i begins, onwards_count code here.slot i begins answer successors_are on left goes)
