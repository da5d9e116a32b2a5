-- Branches of the instructions of a program whose layout is good lead ahead, to instructions.
use Rattle.std.proofs.Common.{◌≡◌, ℕ, ◌+◌, ◌<◌, ◌≤◌, Bool, true, false, cond, List, Result, Ok, Err, refl, sym, ap, ◌∙◌, subst, arith}
use Rattle.std.specs.Prelude.{ℤ, pos, Option, Some, None, IfSome, ◌+ℤ◌, ◌<ℤ◌, int_le, unsigned_abs, IsOk}
use Rattle.std.proofs.lemmas.Int.{ints}
use Rattle.insn.specs.Encoding.{slots_of, slot_count}
use Rattle.insn.specs.declared.decoding.TheConstants.{MAX_SLOTS}
use Rattle.insn.specs.declared.instruction.Insn.{Insn}
use Rattle.basics.specs.Fallible.{◌>>=◌}
use Rattle.semantics.specs.Slots.{fetch, target, landing}
use Rattle.semantics.specs.laws.Slot.{some_slots, begins_inside}
use Rattle.semantics.specs.Flow.{Flow, Straight, Jumps, Forks, flow_of, flow_distance, flow_slot, branch_slot}
use Rattle.semantics.specs.Flow as flow
use Rattle.semantics.specs.declared.fetching.Branch.{Branch}
use Rattle.semantics.specs.declared.fetching.Branch.TheVariants.{NotTaken, Taken}
use Rattle.semantics.specs.declared.reason.Reason.{Reason}
use Rattle.semantics.specs.declared.reason.Reason.TheVariants as reasons
use Rattle.semantics.specs.declared.fetching.Fetched.{Fetched}
use Rattle.semantics.specs.declared.fetching.Fetched.TheVariants.{Begins}
use Rattle.absstate.specs.MemberSteps.{state_after}
use Rattle.absstate.specs.Successors.{Ends, successors_of, successors_in}
use Rattle.absstate.specs.laws.Step.Bounds.{not_le}
use Rattle.absstate.specs.laws.Step.MemoryValues.{abs_is}
use Rattle.absstate.specs.declared.abstract_state.AbsState.{AbsState}
use Rattle.absstate.specs.declared.abstract_step.Next.{Next}
use Rattle.absstate.specs.declared.abstract_step.Next.TheVariants as next
use Rattle.operations.specs.Operations.{LeadsInside, HasJumpsInside}
use Rattle.verifier.specs.Layout.{distance_checked, fetched_checked, HasGoodJumps, EndsInExit}
use Rattle.verifier.proofs.Positions.{one_goes_on, two_goes_on, next_begins, target_begins, landing_ok}

passes : (x : Result ℕ Reason) → ◌≡◌ {A = Result (Unit {0}) Reason} (x >>= λ to. Ok tt) (Ok tt) → IsOk x
passes (Ok n) e = refl
passes (Err r) e = absurd cc

flow_checked : (code : List Insn) (slot n : ℕ) (f : Flow) (branch : Branch) → distance_checked code slot (flow_distance f) ≡ Ok tt → IsOk (flow_slot code slot n f branch)
flow_checked code slot n Straight branch e = refl
flow_checked code slot n (Jumps d) branch e = passes (target code slot d) e
flow_checked code slot n (Forks d) NotTaken e = refl
flow_checked code slot n (Forks d) Taken e = passes (target code slot d) e
flow_checked code slot n flow.Ends branch e = refl

-- where no jump is faulty, every branch leads to a slot
pub branch_is_good : (code : List Insn) (slot : ℕ) (i : Insn) (branch : Branch) → HasGoodJumps code → fetch code slot ≡ Begins i → IsOk (branch_slot code slot i branch)
branch_is_good code slot i branch jumps here = flow_checked code slot (slots_of i) (flow_of i) branch (ap (fetched_checked code slot) (sym here) ∙ jumps slot)

ahead : (a : ℤ) (slot n : ℕ) (b : Bool) (p : Fetched) → int_le a (pos slot) ≡ b → cond b (Err reasons.JumpBackward) (landing p (unsigned_abs a)) ≡ Ok n → slot < n
ahead a slot n true p e f = absurd cc
ahead a slot n false p e f =
    let landed = landing_ok p (unsigned_abs a) n f in
    let above : pos slot <ℤ a = not_le a (pos slot) e in
    let from : pos (unsigned_abs a) ≡ a = abs_is a (omega (arith, ints)) in
    omega (arith, ints, landed.2)

goes_ahead : (code : List Insn) (slot n : ℕ) (d : ℤ) → target code slot d ≡ Ok n → slot < n
goes_ahead code slot n d e = ahead (pos (slot + 1) +ℤ d) slot n (int_le (pos (slot + 1) +ℤ d) (pos slot)) (fetch code (unsigned_abs (pos (slot + 1) +ℤ d))) refl e

goes_by : (slot n k : ℕ) → 1 ≤ k → ◌≡◌ {A = Result ℕ Reason} (Ok (slot + k)) (Ok n) → slot < n
goes_by slot n k some e = let is : slot + k ≡ n = cc in omega arith

flow_rises : (code : List Insn) (slot n k : ℕ) (f : Flow) (branch : Branch) → 1 ≤ k → flow_slot code slot k f branch ≡ Ok n → slot < n
flow_rises code slot n k Straight branch some e = goes_by slot n k some e
flow_rises code slot n k (Jumps d) branch some e = goes_ahead code slot n d e
flow_rises code slot n k (Forks d) NotTaken some e = goes_by slot n k some e
flow_rises code slot n k (Forks d) Taken some e = goes_ahead code slot n d e
flow_rises code slot n k flow.Ends branch some e = goes_by slot n k some e

-- every branch leads ahead
pub branch_rises : (code : List Insn) (slot n : ℕ) (i : Insn) (branch : Branch) → branch_slot code slot i branch ≡ Ok n → slot < n
branch_rises code slot n i branch e = flow_rises code slot n (slots_of i) (flow_of i) branch (some_slots i) e

next_is : (code : List Insn) (slot n : ℕ) (i : Insn) → EndsInExit code → fetch code slot ≡ Begins i → (successors_of i ≡ Ends → ⊥) → ◌≡◌ {A = Result ℕ Reason} (Ok (slot + slots_of i)) (Ok n) → (j : Insn) × (fetch code n ≡ Begins j)
next_is code slot n i exit here on e =
    let is : slot + slots_of i ≡ n = cc in
    subst (λ (k : ℕ). (j : Insn) × (fetch code k ≡ Begins j)) is (next_begins code slot i exit here on)

flow_begins : (code : List Insn) (slot n k : ℕ) (f : Flow) (branch : Branch) → (◌≡◌ {A = Result ℕ Reason} (Ok (slot + k)) (Ok n) → (j : Insn) × (fetch code n ≡ Begins j)) → flow_slot code slot k f branch ≡ Ok n → (j : Insn) × (fetch code n ≡ Begins j)
flow_begins code slot n k Straight branch next e = next e
flow_begins code slot n k (Jumps d) branch next e = target_begins code slot n d e
flow_begins code slot n k (Forks d) NotTaken next e = next e
flow_begins code slot n k (Forks d) Taken next e = target_begins code slot n d e
flow_begins code slot n k flow.Ends branch next e = next e

-- and to an instruction, where the last instruction is the exit
pub branch_begins : (code : List Insn) (slot n : ℕ) (i : Insn) (branch : Branch) → EndsInExit code → fetch code slot ≡ Begins i → (successors_of i ≡ Ends → ⊥) → branch_slot code slot i branch ≡ Ok n → (j : Insn) × (fetch code n ≡ Begins j)
branch_begins code slot n i branch exit here on e = flow_begins code slot n (slots_of i) (flow_of i) branch (next_is code slot n i exit here on) e

-- ---- the slots that jumps lead to

place_is : (a : ℤ) (slot n : ℕ) (b : Bool) (p : Fetched) → int_le a (pos slot) ≡ b → cond b (Err reasons.JumpBackward) (landing p (unsigned_abs a)) ≡ Ok n → pos n ≡ a
place_is a slot n true p e f = absurd cc
place_is a slot n false p e f =
    let above : pos slot <ℤ a = not_le a (pos slot) e in
    ap pos (sym (landing_ok p (unsigned_abs a) n f).2) ∙ abs_is a (omega (arith, ints))

leads_inside : (code : List Insn) (slot n : ℕ) (d : ℤ) → slot_count code ≤ MAX_SLOTS → target code slot d ≡ Ok n → LeadsInside slot d
leads_inside code slot n d few e =
    let a : ℤ = pos (slot + 1) +ℤ d in
    let is : pos n ≡ a = place_is a slot n (int_le a (pos slot)) (fetch code (unsigned_abs a)) refl e in
    let there = target_begins code slot n d e in
    let inside : n < slot_count code = begins_inside code n there.0 there.1 in
    record { first = omega (arith, ints, is); last = omega (arith, ints, is, inside, few) }

target_inside : (code : List Insn) (slot : ℕ) (d : ℤ) (r : Result ℕ Reason) → slot_count code ≤ MAX_SLOTS → target code slot d ≡ r → ◌≡◌ {A = Result (Unit {0}) Reason} (r >>= λ to. Ok tt) (Ok tt) → LeadsInside slot d
target_inside code slot d (Ok n) few is e = leads_inside code slot n d few is
target_inside code slot d (Err reason) few is e = absurd cc

distance_inside : (code : List Insn) (slot : ℕ) (o : Option ℤ) → slot_count code ≤ MAX_SLOTS → distance_checked code slot o ≡ Ok tt → IfSome o (LeadsInside slot)
distance_inside code slot None few e = tt
distance_inside code slot (Some d) few e = target_inside code slot d (target code slot d) few refl e

-- where no jump is faulty, each leads to one of the few slots
pub jumps_inside : (code : List Insn) → slot_count code ≤ MAX_SLOTS → HasGoodJumps code → HasJumpsInside code
jumps_inside code few jumps slot i here = distance_inside code slot (flow_distance (flow_of i)) few (ap (fetched_checked code slot) (sym here) ∙ jumps slot)

-- an instruction with a state after it goes on
pub state_goes_on : {D : Type 0} (i : Insn) (answer : Next D) (branch : Branch) (b : AbsState D) → successors_in answer ≡ successors_of i → state_after answer branch ≡ Some b → successors_of i ≡ Ends → ⊥
state_goes_on i (next.On c) branch b same e = one_goes_on (successors_of i) same
state_goes_on i (next.Fork not_taken taken) branch b same e = two_goes_on (successors_of i) same
state_goes_on i next.Exit branch b same e = absurd cc
