-- The room that is used: no more than the slots of a program and one more for each of its instructions.
use Rattle.std.proofs.Common.{◌≡◌, ℕ, zero, suc, ◌+◌, ◌-◌, ◌<◌, ◌≤◌, List, [], ◌∷◌, ◌++◌, length, replicate, refl, ap, ◌∙◌, arith}
use Rattle.std.specs.Prelude.{slice_set}
use Rattle.insn.specs.Encoding.{slots_of, slot_count}
use Rattle.insn.specs.declared.instruction.Insn.{Insn}
use Rattle.semantics.specs.Slots.{slots, fetch_in}
use Rattle.semantics.specs.declared.fetching.Fetched.{Fetched}
use Rattle.semantics.specs.declared.fetching.Fetched.TheVariants.{Begins, Inside, Past}
use Rattle.ordering.specs.Searches.{mark_at, used}
use Rattle.ordering.specs.declared.search.Mark.{Mark}
use Rattle.ordering.specs.declared.search.Mark.TheVariants.{Unseen, Open, Placed}

unseen_is_not_open : Unseen ≡ Open → ⊥
unseen_is_not_open e = absurd cc

placed_is_not_open : (n : ℕ) → Placed n ≡ Open → ⊥
placed_is_not_open n e = absurd cc

placed_is_not_unseen : (n : ℕ) → Placed n ≡ Unseen → ⊥
placed_is_not_unseen n e = absurd cc

past_is_not_begins : (i : Insn) → Past ≡ Begins i → ⊥
past_is_not_begins i e = absurd cc

first_same : (f : Fetched) (i : Insn) (m : ℕ) (marks : List Mark) (all : List Fetched) → f ≡ Begins i → used (Placed m ∷ marks) (f ∷ all) ≡ used marks all + (slots_of i + 1)
first_same f i m marks all e = ap (λ (g : Fetched). used (Placed m ∷ marks) (g ∷ all)) e ∙ omega arith

-- a slot that gets a place uses its own slots and one more
pub used_placed : (marks : List Mark) (all : List Fetched) (k n : ℕ) (i : Insn) → k < length marks → mark_at marks k ≡ Open → fetch_in all k ≡ Begins i → used (slice_set marks k (Placed n)) all ≡ used marks all + (slots_of i + 1)
used_placed [] all k n i lt is_open here = absurd (omega arith)
used_placed (m ∷ marks) [] k n i lt is_open here = absurd (past_is_not_begins i here)
used_placed (Open ∷ marks) (f ∷ all) zero n i lt is_open here = first_same f i n marks all here
used_placed (Unseen ∷ marks) (f ∷ all) zero n i lt is_open here = absurd (unseen_is_not_open is_open)
used_placed (Placed m ∷ marks) (f ∷ all) zero n i lt is_open here = absurd (placed_is_not_open m is_open)
used_placed (Open ∷ marks) (f ∷ all) (suc k) n i lt is_open here = used_placed marks all k n i (omega arith) is_open here
used_placed (Unseen ∷ marks) (f ∷ all) (suc k) n i lt is_open here = used_placed marks all k n i (omega arith) is_open here
used_placed (Placed m ∷ marks) (Begins j ∷ all) (suc k) n i lt is_open here = omega (arith, used_placed marks all k n i (omega arith) is_open here)
used_placed (Placed m ∷ marks) (Inside ∷ all) (suc k) n i lt is_open here = used_placed marks all k n i (omega arith) is_open here
used_placed (Placed m ∷ marks) (Past ∷ all) (suc k) n i lt is_open here = used_placed marks all k n i (omega arith) is_open here

-- and one that is opened uses nothing
pub used_opened : (marks : List Mark) (all : List Fetched) (k : ℕ) → mark_at marks k ≡ Unseen → used (slice_set marks k Open) all ≡ used marks all
used_opened [] all k unseen = refl
used_opened (m ∷ marks) [] zero unseen = refl
used_opened (m ∷ marks) [] (suc k) unseen = refl
used_opened (Unseen ∷ marks) (f ∷ all) zero unseen = refl
used_opened (Open ∷ marks) (f ∷ all) zero unseen = refl
used_opened (Placed m ∷ marks) (f ∷ all) zero unseen = absurd (placed_is_not_unseen m unseen)
used_opened (Unseen ∷ marks) (f ∷ all) (suc k) unseen = used_opened marks all k unseen
used_opened (Open ∷ marks) (f ∷ all) (suc k) unseen = used_opened marks all k unseen
used_opened (Placed m ∷ marks) (Begins i ∷ all) (suc k) unseen = ap (λ (n : ℕ). slots_of i + 1 + n) (used_opened marks all k unseen)
used_opened (Placed m ∷ marks) (Inside ∷ all) (suc k) unseen = used_opened marks all k unseen
used_opened (Placed m ∷ marks) (Past ∷ all) (suc k) unseen = used_opened marks all k unseen

-- ---- the most that can be used

all_used : List Fetched → ℕ
all_used [] = 0
all_used (Begins i ∷ all) = slots_of i + 1 + all_used all
all_used (Inside ∷ all) = all_used all
all_used (Past ∷ all) = all_used all

used_at_most : (marks : List Mark) (all : List Fetched) → used marks all ≤ all_used all
unfolding all_used
used_at_most [] all = omega arith
used_at_most (m ∷ marks) [] = omega arith
used_at_most (Placed n ∷ marks) (Begins i ∷ all) = omega (arith, used_at_most marks all)
used_at_most (Placed n ∷ marks) (Inside ∷ all) = used_at_most marks all
used_at_most (Placed n ∷ marks) (Past ∷ all) = used_at_most marks all
used_at_most (Unseen ∷ marks) (Begins i ∷ all) = omega (arith, used_at_most marks all)
used_at_most (Unseen ∷ marks) (Inside ∷ all) = used_at_most marks all
used_at_most (Unseen ∷ marks) (Past ∷ all) = used_at_most marks all
used_at_most (Open ∷ marks) (Begins i ∷ all) = omega (arith, used_at_most marks all)
used_at_most (Open ∷ marks) (Inside ∷ all) = used_at_most marks all
used_at_most (Open ∷ marks) (Past ∷ all) = used_at_most marks all

inside_unused : (n : ℕ) (all : List Fetched) → all_used (replicate n Inside ++ all) ≡ all_used all
unfolding all_used
inside_unused zero all = refl
inside_unused (suc n) all = inside_unused n all

all_used_is : (code : List Insn) → all_used (slots code) ≡ slot_count code + length code
unfolding all_used
all_used_is [] = refl
all_used_is (i ∷ code) = omega (arith, inside_unused (slots_of i - 1) (slots code), all_used_is code)

pub used_few : (code : List Insn) (marks : List Mark) → used marks (slots code) ≤ slot_count code + length code
used_few code marks = omega (arith, used_at_most marks (slots code), all_used_is code)
