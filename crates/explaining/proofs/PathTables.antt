-- The longest path from a slot, by those from the slots that branches lead to.
use Rattle.std.proofs.Common.{◌≡◌, ◌≢◌, ℕ, zero, suc, ◌+◌, ◌-◌, ◌<◌, ◌≤◌, Bool, true, false, List, [], ◌∷◌, length, Result, Ok, Err, inl, inr, refl, sym, ap, ap₂, ◌∙◌, subst, arith, get_or}
use Rattle.std.specs.Prelude.{max, slice_set, replicate, ◌⊎◌, if◌then◌else◌}
use Rattle.std.proofs.lemmas.Bool.{cases_eq, cases_lt}
use Rattle.std.proofs.lemmas.List.{get_or-set_same, get_or-set_other}
use Rattle.insn.specs.Encoding.{slot_count}
use Rattle.insn.specs.declared.decoding.TheConstants.{MAX_SLOTS}
use Rattle.insn.specs.declared.instruction.Insn.{Insn}
use Rattle.semantics.specs.Flow.{Flow, Straight, Jumps, Forks, flow_of, flow_distance, flow_branches, flow_slot, branches, branch_slot}
use Rattle.semantics.specs.Flow as flow
use Rattle.semantics.specs.Slots.{fetch}
use Rattle.semantics.specs.laws.Slot.{fetch_past}
use Rattle.semantics.specs.declared.fetching.Branch.{Branch}
use Rattle.semantics.specs.declared.fetching.Branch.TheVariants.{NotTaken, Taken}
use Rattle.semantics.specs.declared.fetching.Fetched.{Fetched}
use Rattle.semantics.specs.declared.fetching.Fetched.TheVariants.{Begins, Past}
use Rattle.semantics.specs.declared.fetching.Visit.{Visit}
use Rattle.semantics.specs.declared.reason.Reason.{Reason}
use Rattle.verifier.proofs.Branches.{branch_rises}
use Rattle.ordering.specs.Orders.{IsOneOf}
use Rattle.explaining.specs.LongestPaths.{IsFollowedBy, IsPathFrom, IsLongestFrom}
use Rattle.explaining.specs.Tables.{count_at, count_to, has_branch, count_by, IsTableFrom}

-- ---- the branches of an instruction

is_there : (f : Flow) (b : Branch) → IsOneOf (flow_branches f) b → has_branch f b ≡ true
is_there Straight b (inl e) = subst (λ (x : Branch). has_branch Straight x ≡ true) e refl
is_there Straight b (inr none) = absurd none
is_there (Jumps d) b (inl e) = subst (λ (x : Branch). has_branch (Jumps d) x ≡ true) e refl
is_there (Jumps d) b (inr none) = absurd none
is_there (Forks d) b one = refl
is_there flow.Ends b none = absurd none

is_one_of : (f : Flow) (b : Branch) → has_branch f b ≡ true → IsOneOf (flow_branches f) b
is_one_of Straight NotTaken e = inl refl
is_one_of Straight Taken e = absurd cc
is_one_of (Jumps d) NotTaken e = absurd cc
is_one_of (Jumps d) Taken e = inl refl
is_one_of (Forks d) NotTaken e = inl refl
is_one_of (Forks d) Taken e = inr (inl refl)
is_one_of flow.Ends b e = absurd cc

-- ---- one slot more

begins_same : (i j : Insn) → Begins i ≡ Begins j → i ≡ j
begins_same i j e = cc

nowhere : (code : List Insn) (slot : ℕ) (f : Fetched) → f ≡ fetch code slot → ((i : Insn) → f ≡ Begins i → ⊥) → IsLongestFrom code slot 0
nowhere code slot f read none = record { most = none_longer; path = []; is_path = tt; count = refl } where
  none_longer : (path : List Visit) → IsPathFrom code slot path → length path ≤ 0
  none_longer [] is = omega arith
  none_longer (v ∷ rest) is = absurd (none v.insn (read ∙ is.1))

module _ (code : List Insn) (counts : List ℕ) (slot : ℕ) (table : IsTableFrom code (slot + 1) counts) where
  short_by : (has : Bool) (r : Result ℕ Reason) → ((to : ℕ) → r ≡ Ok to → slot < to) → (if has then count_to counts r else 0) ≤ MAX_SLOTS - (slot + 1)
  short_by false r rises = omega arith
  short_by true (Err reason) rises = omega arith
  short_by true (Ok to) rises = let above : slot < to = rises to refl in omega (arith, table.short to (omega (arith, above)))

  pub count_is_short : (i : Insn) (b : Branch) → count_by code counts slot i b ≤ MAX_SLOTS - (slot + 1)
  count_is_short i b = short_by (has_branch (flow_of i) b) (branch_slot code slot i b) (λ to e. branch_rises code slot to i b e)

  -- a path that goes on by a branch
  on_by : (i : Insn) (b : Branch) (to : ℕ) (path : List Visit) → IsOneOf (branches i) b → branch_slot code slot i b ≡ Ok to → IsPathFrom code to path → length path ≤ count_by code counts slot i b
  on_by i b to path one leads is =
      let value : count_by code counts slot i b ≡ count_at counts to = ap₂ (λ (has : Bool) (r : Result ℕ Reason). if has then count_to counts r else 0) (is_there (flow_of i) b one) leads in
      let above : slot < to = branch_rises code slot to i b leads in
      omega (arith, value, (table.longest to (omega (arith, above))).most path is)

  module _ (i : Insn) (here : fetch code slot ≡ Begins i) where
    abbrev further : ℕ
    further = max (count_by code counts slot i NotTaken) (count_by code counts slot i Taken)

    below_max : (b : Branch) → count_by code counts slot i b ≤ further
    below_max NotTaken = omega arith
    below_max Taken = omega arith

    none_longer : (path : List Visit) → IsPathFrom code slot path → length path ≤ further + 1
    none_longer [] is = omega arith
    none_longer (v ∷ []) is = omega arith
    none_longer (v ∷ next ∷ rest) (at, begins, (follows, others)) =
        let same : v.insn ≡ i = begins_same v.insn i (sym begins ∙ here) in
        let one : IsOneOf (branches i) follows.branch = subst (λ (j : Insn). IsOneOf (branches j) follows.branch) same follows.is_branch in
        let leads : branch_slot code slot i follows.branch ≡ Ok next.slot = subst (λ (j : Insn). branch_slot code slot j follows.branch ≡ Ok next.slot) same (subst (λ (k : ℕ). branch_slot code k v.insn follows.branch ≡ Ok next.slot) at follows.leads) in
        omega (arith, on_by i follows.branch next.slot (next ∷ rest) one leads (refl, follows.begins, others), below_max follows.branch)

    abbrev first : Visit
    first = record { slot = slot; insn = i }

    -- a path of one instruction more than another number
    abbrev HasPath : ℕ → Type 0
    HasPath n = (path : List Visit) × IsPathFrom code slot path × (length path ≡ n + 1)

    alone : (n : ℕ) → n ≡ 0 → HasPath n
    alone n none = (first ∷ [], (refl, here, tt), omega (arith, none))

    before : (b : Branch) (to n : ℕ) → IsOneOf (branches i) b → branch_slot code slot i b ≡ Ok to → (path : List Visit) → IsPathFrom code to path → length path ≡ n → HasPath n
    before b to n one leads [] is count = alone n (omega (arith, count))
    before b to n one leads (next ∷ rest) (at, begins, others) count =
        let follows : IsFollowedBy code first next =
        record { branch = b; is_branch = one; leads = leads ∙ ap Ok (sym at); begins = subst (λ (k : ℕ). fetch code k ≡ Begins next.insn) (sym at) begins } in
        (first ∷ next ∷ rest, (refl, here, (follows, others)), omega (arith, count))

    by_branch : (b : Branch) (has : Bool) (r : Result ℕ Reason) → has_branch (flow_of i) b ≡ has → branch_slot code slot i b ≡ r → HasPath (if has then count_to counts r else 0)
    by_branch b false r is leads = alone 0 refl
    by_branch b true (Err reason) is leads = alone 0 refl
    by_branch b true (Ok to) is leads =
        let above : slot < to = branch_rises code slot to i b leads in
        let onwards : IsLongestFrom code to (count_at counts to) = table.longest to (omega (arith, above)) in
        before b to (count_at counts to) (is_one_of (flow_of i) b is) leads onwards.path onwards.is_path onwards.count

    reached_by : (b : Branch) → HasPath (count_by code counts slot i b)
    reached_by b = by_branch b (has_branch (flow_of i) b) (branch_slot code slot i b) refl refl

    greater : (a b : ℕ) → (max a b ≡ a) ⊎ (max a b ≡ b)
    greater a b = elim (cases_lt a b) [
      | inl lt ↦ inr (omega (arith, lt))
      | inr le ↦ inl (omega (arith, le))
    ]

    has_further : HasPath further
    has_further = elim (greater (count_by code counts slot i NotTaken) (count_by code counts slot i Taken)) [
      | inl e ↦ subst HasPath (sym e) (reached_by NotTaken)
      | inr e ↦ subst HasPath (sym e) (reached_by Taken)
    ]

    pub longest_here : IsLongestFrom code slot (further + 1)
    longest_here = record { most = none_longer; path = has_further.0; is_path = has_further.1; count = has_further.2 }

    pub short_here : slot < MAX_SLOTS → further + 1 ≤ MAX_SLOTS - slot
    short_here inside = omega (arith, inside, count_is_short i NotTaken, count_is_short i Taken)

-- ---- the table

none_yet : (n k : ℕ) → let none : ℕ = 0 in get_or (replicate n none) k none ≡ none
none_yet zero k = refl
none_yet (suc n) zero = refl
none_yet (suc n) (suc k) = none_yet n k

past_is_no_begin : (i : Insn) → Past ≡ Begins i → ⊥
past_is_no_begin i e = absurd cc

pub table_at_end : (code : List Insn) (counts : List ℕ) → slot_count code ≤ MAX_SLOTS → counts ≡ replicate MAX_SLOTS 0 → IsTableFrom code MAX_SLOTS counts
table_at_end code counts few is = record {
  longest = λ slot le. subst (IsLongestFrom code slot) (sym (none slot)) (nowhere code slot Past (sym (fetch_past code slot (omega (arith, few, le)))) past_is_no_begin);
  short = λ slot le. omega (arith, none slot);
} where
  none : (slot : ℕ) → count_at counts slot ≡ 0
  none slot = ap (λ (all : List ℕ). count_at all slot) is ∙ none_yet MAX_SLOTS slot

pub table_with : (code : List Insn) (counts : List ℕ) (slot n : ℕ) → IsTableFrom code (slot + 1) counts → slot < length counts → IsLongestFrom code slot n → n ≤ MAX_SLOTS - slot → IsTableFrom code slot (slice_set counts slot n)
table_with code counts slot n table lt longest short = record { longest = longest_at; short = short_at } where
  here : count_at (slice_set counts slot n) slot ≡ n
  here = get_or-set_same counts slot n 0 lt

  other : (k : ℕ) → k ≢ slot → count_at (slice_set counts slot n) k ≡ count_at counts k
  other k ne = get_or-set_other counts slot k n 0 ne

  longest_at : (k : ℕ) → slot ≤ k → IsLongestFrom code k (count_at (slice_set counts slot n) k)
  longest_at k le = elim (cases_eq k slot) [
    | inl same ↦ subst (λ (m : ℕ). IsLongestFrom code m (count_at (slice_set counts slot n) m)) (sym same) (subst (IsLongestFrom code slot) (sym here) longest)
    | inr ne ↦ subst (IsLongestFrom code k) (sym (other k ne)) (table.longest k (omega (arith, le, ne)))
  ]

  short_at : (k : ℕ) → slot ≤ k → count_at (slice_set counts slot n) k ≤ MAX_SLOTS - k
  short_at k le = elim (cases_eq k slot) [
    | inl same ↦ omega (arith, short, here, same, ap (count_at (slice_set counts slot n)) same)
    | inr ne ↦ omega (arith, other k ne, table.short k (omega (arith, le, ne)))
  ]
