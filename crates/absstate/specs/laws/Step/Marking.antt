-- Interface. Laws of marks: a byte that is set is marked, and every other one is marked as before.
use Rattle.std.proofs.Common.{◌≡◌, ℕ, zero, suc, ◌+◌, ◌<◌, ◌≤◌, true, false, length, refl, ap, ◌∙◌, arith, inl, inr}
use Rattle.std.proofs.lemmas.Bool.{cases_eq, cases_lt}
use Rattle.std.proofs.lemmas.List.{get_or-set_same, get_or-set_other, length-set}
use Rattle.semantics.specs.declared.limits.TheConstants.{STACK_BYTES}
use Rattle.absstate.specs.AbstractStates.{is_marked, mark, marks_from, unmark, unmarked_from}
use Rattle.absstate.specs.declared.abstract_state.InitialisedBytes.{InitialisedBytes}

-- ---- one byte

module _ (m : InitialisedBytes) (i : ℕ) where
  mark_same : length m.cells ≡ STACK_BYTES → i < STACK_BYTES → is_marked (mark m i) i ≡ true
  mark_same count lt = get_or-set_same m.cells i true false (omega (arith, count, lt))

  mark_other : (k : ℕ) → (k ≡ i → ⊥) → is_marked (mark m i) k ≡ is_marked m k
  mark_other k apart = get_or-set_other m.cells i k true false apart

  pub length-mark : length (mark m i).cells ≡ length m.cells
  length-mark = length-set m.cells i true

-- ---- several bytes

pub length-marked : (n i : ℕ) (m : InitialisedBytes) → length (marks_from m i n).cells ≡ length m.cells
length-marked zero i m = refl
length-marked (suc n) i m = length-marked n (suc i) (mark m i) ∙ length-mark m i

pub marked_before : (n i k : ℕ) (m : InitialisedBytes) → length m.cells ≡ STACK_BYTES → i + n ≤ STACK_BYTES → k < i → is_marked (marks_from m i n) k ≡ is_marked m k
marked_before zero i k m count le lt = refl
marked_before (suc n) i k m count le lt = marked_before n (suc i) k (mark m i) (length-mark m i ∙ count) (omega (arith, le)) (omega (arith, lt)) ∙ mark_other m i k (λ e. omega (arith, e, lt))

pub marked_after : (n i k : ℕ) (m : InitialisedBytes) → length m.cells ≡ STACK_BYTES → i + n ≤ STACK_BYTES → i + n ≤ k → is_marked (marks_from m i n) k ≡ is_marked m k
marked_after zero i k m count le lt = refl
marked_after (suc n) i k m count le lt = marked_after n (suc i) k (mark m i) (length-mark m i ∙ count) (omega (arith, le)) (omega (arith, lt)) ∙ mark_other m i k (λ e. omega (arith, e, lt))

pub marked_at : (n i k : ℕ) (m : InitialisedBytes) → length m.cells ≡ STACK_BYTES → i + n ≤ STACK_BYTES → i ≤ k → k < i + n → is_marked (marks_from m i n) k ≡ true
marked_at zero i k m count le low high = absurd (omega (arith, low, high))
marked_at (suc n) i k m count le low high = elim (cases_eq k i) [
  | inl same ↦
      ap (is_marked (marks_from (mark m i) (suc i) n)) same
      ∙ marked_before n (suc i) i (mark m i) (length-mark m i ∙ count) (omega (arith, le)) (omega arith)
      ∙ mark_same m i count (omega (arith, le))
  | inr other ↦ marked_at n (suc i) k (mark m i) (length-mark m i ∙ count) (omega (arith, le)) (above i k low other) (omega (arith, high))
] where
  above : (i k : ℕ) → i ≤ k → (k ≡ i → ⊥) → suc i ≤ k
  above i k le apart = elim (cases_lt i k) [
    | inl lt ↦ omega (arith, lt)
    | inr ge ↦ absurd (apart (omega (arith, ge, le)))
  ]

-- ---- bytes that are no longer set

unmark_other : (m : InitialisedBytes) (i k : ℕ) → (k ≡ i → ⊥) → is_marked (unmark m i) k ≡ is_marked m k
unmark_other m i k apart = get_or-set_other m.cells i k false false apart

pub length-unmarked : (n i : ℕ) (m : InitialisedBytes) → length (unmarked_from m i n).cells ≡ length m.cells
length-unmarked zero i m = refl
length-unmarked (suc n) i m = length-unmarked n (suc i) (unmark m i) ∙ length-set m.cells i false

pub unmarked_before : (n i k : ℕ) (m : InitialisedBytes) → k < i → is_marked (unmarked_from m i n) k ≡ is_marked m k
unmarked_before zero i k m lt = refl
unmarked_before (suc n) i k m lt = unmarked_before n (suc i) k (unmark m i) (omega (arith, lt)) ∙ unmark_other m i k (λ e. omega (arith, e, lt))

pub unmarked_after : (n i k : ℕ) (m : InitialisedBytes) → i + n ≤ k → is_marked (unmarked_from m i n) k ≡ is_marked m k
unmarked_after zero i k m le = refl
unmarked_after (suc n) i k m le = unmarked_after n (suc i) k (unmark m i) (omega (arith, le)) ∙ unmark_other m i k (λ e. omega (arith, e, le))

pub unmarked_at : (n i k : ℕ) (m : InitialisedBytes) → length m.cells ≡ STACK_BYTES → i + n ≤ STACK_BYTES → i ≤ k → k < i + n → is_marked (unmarked_from m i n) k ≡ false
unmarked_at zero i k m count le low high = absurd (omega (arith, low, high))
unmarked_at (suc n) i k m count le low high = elim (cases_eq k i) [
  | inl same ↦
      ap (is_marked (unmarked_from (unmark m i) (suc i) n)) same
      ∙ unmarked_before n (suc i) i (unmark m i) (omega arith)
      ∙ get_or-set_same m.cells i false false (omega (arith, count, le))
  | inr other ↦ unmarked_at n (suc i) k (unmark m i) (length-set m.cells i false ∙ count) (omega (arith, le)) (higher i k low other) (omega (arith, high))
] where
  higher : (i k : ℕ) → i ≤ k → (k ≡ i → ⊥) → suc i ≤ k
  higher i k le apart = elim (cases_lt i k) [
    | inl lt ↦ omega (arith, lt)
    | inr ge ↦ absurd (apart (omega (arith, ge, le)))
  ]
