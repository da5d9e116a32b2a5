-- Positions of a program whose layout is good, and the loop over its jumps.
use Rattle.std.proofs.Common.{◌≡◌, ℕ, ◌+◌, ◌<◌, ◌≤◌, Bool, true, false, cond, List, [], ◌∷◌, Result, Ok, Err, inl, inr, refl, sym, ap, ◌∙◌, arith}
use Rattle.std.specs.Prelude.{ℤ, int_le, pos, ◌+ℤ◌, unsigned_abs}
use Rattle.std.proofs.lemmas.Bool.{cases_lt}
use Rattle.insn.specs.Encoding.{slots_of, slot_count}
use Rattle.insn.specs.declared.instruction.Insn.{Insn}
use Rattle.insn.specs.declared.instruction.Insn.TheVariants.{Exit}
use Rattle.semantics.specs.Slots.{fetch, target, landing, last_slot}
use Rattle.semantics.specs.laws.Slot.{slots_go_on, fetch_past}
use Rattle.semantics.specs.declared.reason.Reason.{Reason}
use Rattle.semantics.specs.declared.reason.Reason.TheVariants.{JumpBackward, FallsOffEnd}
use Rattle.semantics.specs.declared.fetching.Fetched.{Fetched}
use Rattle.semantics.specs.declared.fetching.Fetched.TheVariants.{Begins, Inside, Past}
use Rattle.verifier.specs.Layout.{fetched_checked, slot_checked, HasGoodJumps, EndsInExit, IsFirstFaultyJump, IsLayoutFault}
use Rattle.absstate.specs.Successors.{Successors, One, Two, Ends, successors_of}

pub landing_ok : (p : Fetched) (g n : ℕ) → landing p g ≡ Ok n → (i : Insn) × (p ≡ Begins i) × (g ≡ n)
landing_ok (Begins i) g n e = (i, refl, cc)
landing_ok Inside g n e = absurd cc
landing_ok Past g n e = absurd cc

passed : (b : Bool) (r : Result ℕ Reason) (n : ℕ) → cond b (Err JumpBackward) r ≡ Ok n → r ≡ Ok n
passed true r n e = absurd cc
passed false r n e = e

-- a jump that may be taken leads to an instruction
pub target_begins : (code : List Insn) (slot n : ℕ) (d : ℤ) → target code slot d ≡ Ok n → (i : Insn) × (fetch code n ≡ Begins i)
target_begins code slot n d e =
    let to : ℕ = unsigned_abs (pos (slot + 1) +ℤ d) in
    let landed = landing_ok (fetch code to) to n (passed (int_le (pos (slot + 1) +ℤ d) (pos slot)) (landing (fetch code to) to) n e) in
    (landed.0, ap (fetch code) (sym landed.2) ∙ landed.1)

begins_is : (i j : Insn) → Begins i ≡ Begins j → i ≡ j
begins_is i j e = cc

-- and so does the next slot of an instruction that goes on
pub next_begins : (code : List Insn) (slot : ℕ) (i : Insn) → EndsInExit code → fetch code slot ≡ Begins i → (successors_of i ≡ Ends → ⊥) → (j : Insn) × (fetch code (slot + slots_of i) ≡ Begins j)
next_begins code slot i exit here goes_on =
    elim (slots_go_on code slot i here) [
      | inl last ↦ absurd (goes_on (ap successors_of (begins_is i Exit (sym here ∙ ap (fetch code) last ∙ exit))))
      | inr next ↦ next
    ]

pub one_goes_on : (w : Successors) → One ≡ w → w ≡ Ends → ⊥
one_goes_on w e f = let bad : One ≡ Ends = e ∙ f in absurd cc

pub two_goes_on : (w : Successors) → Two ≡ w → w ≡ Ends → ⊥
two_goes_on w e f = let bad : Two ≡ Ends = e ∙ f in absurd cc

past_is_not_begins : (i : Insn) → Past ≡ Begins i → ⊥
past_is_not_begins i e = absurd cc

-- a program that ends in its exit has a first instruction
pub first_begins : (code : List Insn) → EndsInExit code → (i : Insn) × (fetch code 0 ≡ Begins i)
first_begins [] exit = absurd (past_is_not_begins Exit exit)
first_begins (i ∷ code) exit = (i, refl)

nothing_below : (k : ℕ) → k < 0 → ⊥
nothing_below k lt = omega arith

-- no faulty jump below the end is no faulty jump at all
pub good_jumps : (code : List Insn) → ((k : ℕ) → k < slot_count code → slot_checked code k ≡ Ok tt) → HasGoodJumps code
good_jumps code checked k =
    elim (cases_lt k (slot_count code)) [
      | inl lt ↦ checked k lt
      | inr le ↦ ap (fetched_checked code k) (fetch_past code k le)
    ]

-- ---- the loop over the jumps

pub first_faulty : (code : List Insn) (slot : ℕ) → ((k : ℕ) → k < slot → slot_checked code k ≡ Ok tt) → (reason : Reason) → slot_checked code slot ≡ Err reason → IsFirstFaultyJump code reason slot
first_faulty code slot passed reason bad = record { faulty = bad; first = passed }

pub all_passed : (code : List Insn) (most : ℕ) → slot_count code ≤ most → ((k : ℕ) → k < most → slot_checked code k ≡ Ok tt) → HasGoodJumps code
all_passed code most few passed = good_jumps code (λ k lt. passed k (omega (arith, few, lt)))

pub falls_off : (code : List Insn) → HasGoodJumps code → (EndsInExit code → ⊥) → IsLayoutFault code FallsOffEnd (last_slot code)
falls_off code jumps no_exit = inr (record { reason_is = refl; slot_is = refl; jumps = jumps; no_exit = no_exit })
