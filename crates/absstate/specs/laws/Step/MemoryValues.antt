-- Internal. Where the abstract step places an access, and what it lets read there, agree with the memory of a member.
use Rattle.std.proofs.Common.{◌≡◌, ℕ, zero, suc, ◌+◌, ◌*◌, ◌<◌, ◌≤◌, ◌^◌, Bool, true, false, not, ◌&&◌, ℤ, pos, negsuc, ◌+ℤ◌, ◌-ℤ◌, ◌≤ℤ◌, List, ◌∷◌, length, take, drop, get_or, Option, Some, None, Result, Ok, refl, inl, inr, sym, ap, ◌∙◌, subst, arith, All, drop-cons}
use Rattle.std.specs.Prelude.{is_some, int_le, slice_index_or, unsigned_abs, if◌then◌else◌}
use Rattle.std.specs.Option.{ok_or, option_map}
use Rattle.std.proofs.lemmas.Int.{ints}
use Rattle.basics.specs.Fallible.{◌>>=◌, check}
use Rattle.semantics.specs.Access.{is_within, index_within, part, cells_number, number_in, stack_first, headroom_first, is_pointer, is_aligned, group_of, pointer_in, touches_pointer}
use Rattle.semantics.specs.laws.Group.{group_of_none, groups_agree, group_implied, any_of_aligned}
use Rattle.semantics.specs.Access as access
use Rattle.semantics.specs.laws.Access.{index_short}
use Rattle.semantics.specs.Access.{cells_bytes}
use Rattle.semantics.specs.Calls.{bytes_at}
use Rattle.semantics.specs.laws.Call.{bytes_or_number}
use Rattle.semantics.specs.Loading.{whole_group, kept_in, pointer_or}
use Rattle.insn.specs.Codes.{byte_count}
use Rattle.insn.specs.declared.size.Size.{Size}
use Rattle.insn.specs.declared.size.Size.TheVariants as size
use Rattle.std.proofs.lemmas.Bool.{cases_eq}
use Rattle.semantics.specs.declared.value.Value.TheVariants as value
use Rattle.semantics.specs.laws.Number.{cells_fit, bytes_fit, cells_read_fit}
use Rattle.semantics.specs.Machine.{AreBytes, State}
use Rattle.semantics.specs.declared.access.Location.{Location}
use Rattle.semantics.specs.declared.access.Location.TheVariants.{InStack, InBytes}
use Rattle.semantics.specs.declared.limits.TheConstants.{TAILROOM}
use Rattle.semantics.specs.declared.reason.Reason.{Reason}
use Rattle.semantics.specs.declared.reason.Reason.TheVariants.{UninitStack, DatagramBounds, StackBounds, PointerBytes}
use Rattle.absstate.specs.AbstractStates.{group_at, is_marked, are_marked}
use Rattle.absstate.specs.declared.abstract_state.AbsState.{AbsState}
use Rattle.absstate.specs.declared.abstract_state.AbstractValue.{AbstractValue}
use Rattle.absstate.specs.declared.abstract_state.AbstractValue.TheVariants as known
use Rattle.semantics.specs.declared.value.Value.{Value}
use Rattle.absstate.specs.AbstractSteps as abstract
use Rattle.absstate.specs.Membership.{Mode, Strict, Places, IsAnchorPlace, IsHeld, IsValue, IsMarkedCell, IsMemberAt}
use Rattle.absstate.specs.declared.memory.Region.{Region}
use Rattle.absstate.specs.declared.memory.Region.TheVariants as regions
use Rattle.absstate.specs.declared.abstract_state.InitialisedBytes.{InitialisedBytes}
use Rattle.absstate.specs.laws.Step.Agreement.{Agree}
use Rattle.absstate.specs.laws.Step.Anchors.{access_inside}
use Rattle.absstate.specs.laws.Step.Bounds.{le_of, le_is_true, same_order}

-- ---- stack cells

mapped : (i : ℕ) (o : Option ℕ) → is_some (option_map (λ (n : ℕ). i + 256 * n) o) ≡ is_some o
mapped i None = refl
mapped i (Some n) = refl

is_number : (x : Option ℕ) (cells : List (Option ℕ)) → is_some (cells_number (x ∷ cells)) ≡ (is_some x && is_some (cells_number cells))
is_number None cells = refl
is_number (Some b) cells = mapped b (cells_number cells)

pub first_of_and : (a b : Bool) → (a && b) ≡ true → a ≡ true
first_of_and true b e = refl
first_of_and false b e = e

pub rest_of_and : (a b : Bool) → (a && b) ≡ true → b ≡ true
rest_of_and true b e = e
rest_of_and false b e = absurd cc

pub both_true : (a b : Bool) → a ≡ true → b ≡ true → (a && b) ≡ true
both_true a b e q = ap (λ (test : Bool). test && b) e ∙ q

cons_at : (stack : List (Option ℕ)) (i n : ℕ) → i < length stack → take (suc n) (drop i stack) ≡ get_or stack i None ∷ take n (drop (suc i) stack)
cons_at stack i n lt = ap (take (suc n)) (drop-cons stack i None lt)

marks_hold : (m : InitialisedBytes) (stack : List (Option ℕ)) → length stack ≡ 512 → ((i : ℕ) → i < 512 → is_marked m i ≡ true → is_some (slice_index_or stack i None) ≡ true)
    → (n i : ℕ) → i + n ≤ 512 → are_marked m i n ≡ true → is_some (cells_number (part n i stack)) ≡ true
marks_hold m stack count held zero i short e = refl
marks_hold m stack count held (suc n) i short e =
    let front : Option ℕ = get_or stack i None in
    let here : is_some front ≡ true = held i (omega arith) (first_of_and (is_marked m i) (are_marked m (suc i) n) e) in
    let on : is_some (cells_number (part n (suc i) stack)) ≡ true = marks_hold m stack count held n (suc i) (omega arith) (rest_of_and (is_marked m i) (are_marked m (suc i) n) e) in
    ap (λ cells. is_some (cells_number cells)) (cons_at stack i n (omega arith)) ∙ is_number front (part n (suc i) stack) ∙ both_true (is_some front) (is_some (cells_number (part n (suc i) stack))) here on

marks_are : (m : InitialisedBytes) (stack : List (Option ℕ)) → length stack ≡ 512 → ((i : ℕ) → i < 512 → is_some (slice_index_or stack i None) ≡ is_marked m i)
    → (n i : ℕ) → i + n ≤ 512 → is_some (cells_number (part n i stack)) ≡ are_marked m i n
marks_are m stack count same zero i short = refl
marks_are m stack count same (suc n) i short =
    let front : Option ℕ = get_or stack i None in
    ap (λ cells. is_some (cells_number cells)) (cons_at stack i n (omega arith)) ∙ is_number front (part n (suc i) stack)
    ∙ ap (λ (b : Bool). b && is_some (cells_number (part n (suc i) stack))) (same i (omega arith))
    ∙ ap (λ (b : Bool). is_marked m i && b) (marks_are m stack count same n (suc i) (omega arith))

-- ---- where an access lies

same_place : {A B : Type 0} (claimed : Reason → Type 0) (S : A → B → Type 0) (reason : Reason) (o : Option ℕ) (f : ℕ → Result A Reason) (g : ℕ → Result B Reason)
    → ((i : ℕ) → o ≡ Some i → Agree claimed S (f i) (g i)) → Agree claimed S (ok_or o reason >>= f) (ok_or o reason >>= g)
same_place claimed S reason None f g on = λ c. refl
same_place claimed S reason (Some i) f g on = on i refl

pub abs_is : (z : ℤ) → pos 0 ≤ℤ z → pos (unsigned_abs z) ≡ z
abs_is (pos n) h = refl
abs_is (negsuc n) h = absurd (omega (arith, ints))

-- what is known of where n bytes lie, and where they lie: in the stack the index is known
abbrev pub IsRegionOf : ℕ → Region → Location → Type 0
IsRegionOf n (regions.InStack i) (InStack j) = (i ≡ j) × (i + n ≤ 512)
IsRegionOf n (regions.InStack i) (InBytes j) = ⊥
IsRegionOf n regions.InBytes (InStack j) = ⊥
IsRegionOf n regions.InBytes (InBytes j) = Unit {0}

module _ (claimed : Reason → Type 0) where
  pub stack_located : (p : ℤ) (n : ℕ) → Agree claimed (IsRegionOf n) (abstract.region_in_stack p n) (access.in_stack p n)
  stack_located p n = same_place claimed (IsRegionOf n) StackBounds (index_within p n stack_first stack_first (pos 0)) _ _ (λ i e. (refl, index_short p n i e))

  bytes_located : (n : ℕ) (b b' : Bool) (i : ℕ) → (b ≡ true → b' ≡ true) → (claimed DatagramBounds → b ≡ b')
      → Agree claimed (IsRegionOf n) (check b DatagramBounds >>= λ u. Ok regions.InBytes) (ok_or (if b' then Some i else None) DatagramBounds >>= λ j. Ok (InBytes j))
  bytes_located n true true i reach exact = tt
  bytes_located n true false i reach exact = absurd (let bad : false ≡ true = reach refl in cc)
  bytes_located n false true i reach exact = λ c. let bad : false ≡ true = exact c in absurd cc
  bytes_located n false false i reach exact = λ c. refl

  -- a place is reached from its anchor's interval on, as far as is proved of the anchor
  within_reach : (low high proved place k d first : ℤ) (n size : ℕ) → IsAnchorPlace size low high proved place → is_within (k +ℤ d) n (first -ℤ low) proved ≡ true → is_within ((place +ℤ k) +ℤ d) n first (pos size) ≡ true
  within_reach low high proved place k d first n size is e =
      let inside = access_inside low high proved place k d first n size is
      (le_of (first -ℤ low) (k +ℤ d) (first_of_and (int_le (first -ℤ low) (k +ℤ d)) (int_le ((k +ℤ d) +ℤ pos n) proved) e))
      (le_of ((k +ℤ d) +ℤ pos n) proved (rest_of_and (int_le (first -ℤ low) (k +ℤ d)) (int_le ((k +ℤ d) +ℤ pos n) proved) e)) in
      both_true (int_le first ((place +ℤ k) +ℤ d)) (int_le (((place +ℤ k) +ℤ d) +ℤ pos n) (pos size)) (le_is_true first ((place +ℤ k) +ℤ d) inside.0) (le_is_true (((place +ℤ k) +ℤ d) +ℤ pos n) (pos size) inside.1)

  pub datagram_located : (size : ℕ) (low high proved place k d : ℤ) (n : ℕ) → IsAnchorPlace size low high proved place → (claimed DatagramBounds → (place ≡ pos 0) × (low ≡ pos 0) × (pos size ≡ proved))
      → Agree claimed (IsRegionOf n) (abstract.region_in_datagram (k +ℤ d) n (headroom_first -ℤ low) proved) (access.in_bytes ((place +ℤ k) +ℤ d) n headroom_first (pos size))
  datagram_located size low high proved place k d n is exact =
      bytes_located n (is_within (k +ℤ d) n (headroom_first -ℤ low) proved) (is_within ((place +ℤ k) +ℤ d) n headroom_first (pos size)) (unsigned_abs (((place +ℤ k) +ℤ d) -ℤ headroom_first))
      (within_reach low high proved place k d headroom_first n size is)
      (λ c. let e = exact c in (λ i. is_within (offset_is (e.0) i) n (first_is (e.1) i) (sym e.2 i))) where
        offset_is : place ≡ pos 0 → (k +ℤ d) ≡ ((place +ℤ k) +ℤ d)
        offset_is e = omega (arith, ints)

        first_is : low ≡ pos 0 → (headroom_first -ℤ low) ≡ headroom_first
        first_is e = ap (λ (z : ℤ). headroom_first -ℤ z) e

  end_is : (d : ℤ) (n size : ℕ) → is_within d n (pos 0) (pos TAILROOM) ≡ is_within (pos size +ℤ d) n (pos size) (pos (size + TAILROOM))
  end_is d n size =
      let low : int_le (pos 0) d ≡ int_le (pos size) (pos size +ℤ d) = same_order (pos 0) d (pos size) (pos size +ℤ d) (λ h. omega (arith, ints)) (λ h. omega (arith, ints)) in
      let high : int_le (d +ℤ pos n) (pos TAILROOM) ≡ int_le ((pos size +ℤ d) +ℤ pos n) (pos (size + TAILROOM)) = same_order (d +ℤ pos n) (pos TAILROOM) ((pos size +ℤ d) +ℤ pos n) (pos (size + TAILROOM)) (λ h. omega (arith, ints)) (λ h. omega (arith, ints)) in
      ap (λ (b : Bool). b && int_le (d +ℤ pos n) (pos TAILROOM)) low ∙ ap (λ (b : Bool). int_le (pos size) (pos size +ℤ d) && b) high

  pub tailroom_located : (size : ℕ) (d : ℤ) (n : ℕ) → Agree claimed (IsRegionOf n) (abstract.region_in_datagram d n (pos 0) (pos TAILROOM)) (access.in_bytes (pos size +ℤ d) n (pos size) (pos (size + TAILROOM)))
  tailroom_located size d n =
      bytes_located n (is_within d n (pos 0) (pos TAILROOM)) (is_within (pos size +ℤ d) n (pos size) (pos (size + TAILROOM))) (unsigned_abs ((pos size +ℤ d) -ℤ headroom_first))
      (λ e. sym (end_is d n size) ∙ e) (λ c. end_is d n size)

-- ---- what is read there

-- what is read of n bytes has no more than those
abbrev pub IsReadNumber : ℕ → Unit {0} → ℕ → Type 0
IsReadNumber n u i = i < 256 ^ n

module _ (claimed : Reason → Type 0) (mode : Mode) (unset : claimed UninitStack → mode ≡ Strict) where
  cells_agree : {X : Type 0} (P : X → Type 0) (b : Bool) (option : Option X) → (b ≡ true → is_some option ≡ true) → (mode ≡ Strict → is_some option ≡ b) → ((x : X) → option ≡ Some x → P x)
      → Agree claimed (λ (u : Unit {0}) (x : X). P x) (check b UninitStack) (ok_or option UninitStack)
  cells_agree P true None held same is = absurd (let bad : false ≡ true = held refl in cc)
  cells_agree P true (Some x) held same is = is x refl
  cells_agree P false None held same is = λ c. refl
  cells_agree P false (Some x) held same is = λ c. let bad : true ≡ false = same (unset c) in absurd cc

  stack_read : (m : InitialisedBytes) (stack : List (Option ℕ)) → length stack ≡ 512 → ((i : ℕ) → i < 512 → IsMarkedCell mode (is_marked m i) (slice_index_or stack i None))
      → All (λ c. (b : ℕ) → c ≡ Some b → b < 256) stack → (n i : ℕ) → i + n ≤ 512
      → Agree claimed (IsReadNumber n) (check (are_marked m i n) UninitStack) (ok_or (cells_number (part n i stack)) UninitStack)
  stack_read m stack count cells fit n i short =
      cells_agree (λ (c : ℕ). c < 256 ^ n) (are_marked m i n) (cells_number (part n i stack))
      (marks_hold m stack count (λ c lt. (cells c lt).held) n i short)
      (λ is_mode. marks_are m stack count (λ c lt. (cells c lt).no_other is_mode) n i short)
      (cells_fit stack count fit n i short)

  -- a pointer is no part of what may be read as bytes
  touch_agree : {X : Type 0} (P : X → Type 0) (k t b : Bool) (option : Option X) → (k ≡ true → t ≡ true) → (b ≡ true → t ≡ false) → (mode ≡ Strict → t ≡ k)
      → Agree claimed (λ (u : Unit {0}) (x : X). P x) (check b UninitStack) (ok_or option UninitStack)
      → Agree claimed (λ (u : Unit {0}) (x : X). P x) (check (not k) PointerBytes >>= λ u. check b UninitStack) (check (not t) PointerBytes >>= λ u. ok_or option UninitStack)
  touch_agree P true true b option known apart same agree = λ c. refl
  touch_agree P true false b option known apart same agree = absurd (let bad : false ≡ true = known refl in cc)
  touch_agree P false false b option known apart same agree = agree
  touch_agree P false true true option known apart same agree = absurd (let bad : true ≡ false = apart refl in cc)
  touch_agree P false true false option known apart same agree = λ c. let bad : true ≡ false = same (unset c) in absurd cc

-- ---- groups

marked_inside : (m : InitialisedBytes) (n i j : ℕ) → are_marked m i n ≡ true → i ≤ j → j < i + n → is_marked m j ≡ true
marked_inside m zero i j e from to = absurd (omega (arith, from, to))
marked_inside m (suc n) i j e from to = elim (cases_eq j i) [
  | inl same ↦ subst (λ (k : ℕ). is_marked m k ≡ true) (sym same) (first_of_and (is_marked m i) (are_marked m (suc i) n) e)
  | inr other ↦ marked_inside m n (suc i) j (rest_of_and (is_marked m i) (are_marked m (suc i) n) e) (omega (arith, from, other)) (omega (arith, to))
]

not_true : (x : Bool) → (x ≡ true → ⊥) → x ≡ false
not_true true p = absurd (p refl)
not_true false p = refl

module _ {D : Type 0} (Member : D → ℕ → Type 0) (mode : Mode) (places : Places) (size : ℕ) where
  -- a group that is known to hold a pointer holds one
  pub pointer_known : (k : AbstractValue D) (v : Value) → IsValue Member mode places size k v → abstract.is_known_pointer k ≡ true → is_pointer v ≡ true
  pointer_known known.Nothing v is e = absurd cc
  pointer_known (known.Scalar n) v is e = absurd cc
  pointer_known known.Ctx v is e = ap is_pointer is.2
  pointer_known (known.Stack n) v is e = ap is_pointer is.2
  pointer_known (known.Data anchor n) v is e = ap is_pointer is.2
  pointer_known known.End v is e = ap is_pointer is.2

  -- and in strict membership no other does
  pub pointer_same : (k : AbstractValue D) (v : Value) → IsValue Member mode places size k v → mode ≡ Strict → is_pointer v ≡ abstract.is_known_pointer k
  pointer_same known.Nothing v is strict = ap is_pointer (is strict)
  pointer_same (known.Scalar n) v is strict = ap is_pointer is.2
  pointer_same known.Ctx v is strict = ap is_pointer is.2
  pointer_same (known.Stack n) v is strict = ap is_pointer is.2
  pointer_same (known.Data anchor n) v is strict = ap is_pointer is.2
  pointer_same known.End v is strict = ap is_pointer is.2

  pub held_pointer : (k : AbstractValue D) (v : Value) → IsValue Member mode places size k v → abstract.is_known_pointer k ≡ true → IsHeld Member places size k v
  held_pointer known.Nothing v is e = absurd cc
  held_pointer (known.Scalar n) v is e = is
  held_pointer known.Ctx v is e = is
  held_pointer (known.Stack n) v is e = is
  held_pointer (known.Data anchor n) v is e = is
  held_pointer known.End v is e = is

module _ {D : Type 0} (Member : D → ℕ → Type 0) (claimed : Reason → Type 0) (mode : Mode) (places : Places) (a : AbsState D) (s : State) (member : IsMemberAt Member mode places a s) (unset : claimed UninitStack → mode ≡ Strict) where
  abbrev groups : List Value
  groups = s.memory.stack.groups

  at_group : (i : ℕ) → i < 512 → IsValue Member mode places s.memory.length (group_at a.values (group_of i)) (pointer_in groups (group_of i))
  at_group i lt = member.groups (group_of i) (omega (arith, lt))

  -- a cell that is set is no part of a pointer
  set_no_pointer : (j : ℕ) → j < 512 → is_marked a.marks j ≡ true → is_pointer (pointer_in groups (group_of j)) ≡ true → ⊥
  set_no_pointer j lt marked e =
      let held : is_some (slice_index_or s.memory.stack.cells j None) ≡ true = (member.cells j lt).held marked in
      let none : slice_index_or s.memory.stack.cells j None ≡ None = member.tagged.memory.apart j e in
      let bad : false ≡ true = sym (ap is_some none) ∙ held in cc

  touched_known : (n i : ℕ) → i + n ≤ 512 → abstract.touches_known a n i ≡ true → touches_pointer groups n i ≡ true
  touched_known n i short =
      group_implied (λ g. abstract.is_known_pointer (group_at a.values g)) (λ g. is_pointer (pointer_in groups g)) n i
      (λ j from to. pointer_known Member mode places s.memory.length _ _ (at_group j (omega (arith, to, short))))

  -- none of the cells that are set is a part of a pointer
  marked_apart : (n i j : ℕ) → i + n ≤ 512 → are_marked a.marks i n ≡ true → i ≤ j → j < i + n → is_pointer (pointer_in groups (group_of j)) ≡ false
  marked_apart n i j short e from to = not_true (is_pointer (pointer_in groups (group_of j))) (set_no_pointer j (omega (arith, to, short)) (marked_inside a.marks n i j e from to))

  pub touched_apart : (n i : ℕ) → i + n ≤ 512 → are_marked a.marks i n ≡ true → touches_pointer groups n i ≡ false
  touched_apart n i short e = group_of_none (λ g. is_pointer (pointer_in groups g)) n i (λ j from to. marked_apart n i j short e from to)

  touched_same : (n i : ℕ) → i + n ≤ 512 → mode ≡ Strict → touches_pointer groups n i ≡ abstract.touches_known a n i
  touched_same n i short strict =
      groups_agree (λ g. is_pointer (pointer_in groups g)) (λ g. abstract.is_known_pointer (group_at a.values g)) n i
      (λ j from to. pointer_same Member mode places s.memory.length _ _ (at_group j (omega (arith, to, short))) strict)

  cells_read : {X : Type 0} (P : X → Type 0) (option : Option X) (n i : ℕ) → i + n ≤ 512 → Agree claimed (λ (u : Unit {0}) (x : X). P x) (check (are_marked a.marks i n) UninitStack) (ok_or option UninitStack)
      → Agree claimed (λ (u : Unit {0}) (x : X). P x) (abstract.cells_readable a n i) (access.no_pointer groups n i >>= λ u. ok_or option UninitStack)
  cells_read P option n i short agree =
      touch_agree claimed mode unset P (abstract.touches_known a n i) (touches_pointer groups n i) (are_marked a.marks i n) option (touched_known n i short) (touched_apart n i short) (touched_same n i short) agree

  pub region_read : (n : ℕ) (r : Region) (at : Location) → IsRegionOf n r at → Agree claimed (IsReadNumber n) (abstract.region_readable a n r) (number_in s.memory n at)
  region_read n (regions.InStack i) (InStack j) is =
      subst (λ (c : ℕ). Agree claimed (IsReadNumber n) (abstract.cells_readable a n i) (number_in s.memory n (InStack c))) is.0
      (cells_read (λ (c : ℕ). c < 256 ^ n) (cells_number (part n i s.memory.stack.cells)) n i is.1
      (stack_read claimed mode unset a.marks s.memory.stack.cells member.tagged.memory.count member.cells member.tagged.memory.cells n i is.1))
  region_read n (regions.InStack i) (InBytes j) is = absurd is
  region_read n regions.InBytes (InStack j) is = absurd is
  region_read n regions.InBytes (InBytes j) is = bytes_fit s.memory.bytes member.tagged.memory.bytes n j

  -- bytes in the stack
  pub bytes_read : (n i : ℕ) → i + n ≤ 512 → Agree claimed (λ (u : Unit {0}) (bytes : List ℕ). AreBytes n bytes) (abstract.cells_readable a n i) (bytes_at s.memory n i)
  bytes_read n i short =
      let part_of : List (Option ℕ) = part n i s.memory.stack.cells in
      let same : is_some (cells_bytes part_of) ≡ is_some (cells_number part_of) = bytes_or_number part_of in
      cells_read (AreBytes n) (cells_bytes part_of) n i short
      (cells_agree claimed mode unset (AreBytes n) (are_marked a.marks i n) (cells_bytes part_of)
      (λ e. same ∙ marks_hold a.marks s.memory.stack.cells member.tagged.memory.count (λ k lt. (member.cells k lt).held) n i short e)
      (λ is_mode. same ∙ marks_are a.marks s.memory.stack.cells member.tagged.memory.count (λ k lt. (member.cells k lt).no_other is_mode) n i short)
      (cells_read_fit s.memory.stack.cells member.tagged.memory.count member.tagged.memory.cells n i short))

  -- ---- a group that is read as a whole

  -- a pointer that isn't known is refused, but without a claim
  unknown_pointer : {X Y : Type 0} (F : X → Y → Type 0) (f : Unit {0} → Result X Reason) (i : ℕ) (y : Y) → i + 8 ≤ 512 → abstract.touches_known a 8 i ≡ false → touches_pointer groups 8 i ≡ true → Agree claimed F (abstract.cells_readable a 8 i >>= f) (Ok y)
  unknown_pointer {X} {Y} F f i y short none touched =
      subst (λ (k : Bool). Agree claimed F ((check (not k) PointerBytes >>= λ u. check (are_marked a.marks i 8) UninitStack) >>= f) (Ok y)) (sym none)
      (by (are_marked a.marks i 8) refl) where
        by : (b : Bool) → are_marked a.marks i 8 ≡ b → Agree claimed F (check b UninitStack >>= f) (Ok y)
        by true e = absurd (let bad : false ≡ true = sym (touched_apart 8 i short e) ∙ touched in cc)
        by false e = λ c. let bad : true ≡ false = sym touched ∙ touched_same 8 i short (unset c) ∙ none in absurd cc

  module _ (F : AbstractValue D → Value → Type 0) (holds : (k : AbstractValue D) (v : Value) → IsHeld Member places s.memory.length k v → F k v) (number : D) where
    whole_by : (i : ℕ) (numbers : Result ℕ Reason) → i + 8 ≤ 512 → is_aligned i ≡ true → Agree claimed F (abstract.cells_readable a 8 i >>= λ u. Ok (known.Scalar number)) (numbers >>= λ n. Ok (value.Scalar n))
        → (p : Bool) → abstract.is_known_pointer (group_at a.values (group_of i)) ≡ p → (q : Bool) → is_pointer (pointer_in groups (group_of i)) ≡ q
        → Agree claimed F (abstract.known_or (if p then Some (group_at a.values (group_of i)) else None) (abstract.cells_readable a 8 i) number) (pointer_or (if q then Some (pointer_in groups (group_of i)) else None) numbers)
    whole_by i numbers short aligned agree true e true f = holds _ _ (held_pointer Member mode places s.memory.length _ _ (at_group i (omega (arith, short))) e)
    whole_by i numbers short aligned agree true e false f = absurd (let bad : false ≡ true = sym f ∙ pointer_known Member mode places s.memory.length _ _ (at_group i (omega (arith, short))) e in cc)
    whole_by i numbers short aligned agree false e false f = agree
    whole_by i numbers short aligned agree false e true f =
        unknown_pointer F (λ u. Ok (known.Scalar number)) i (pointer_in groups (group_of i)) short
        (any_of_aligned (λ g. abstract.is_known_pointer (group_at a.values g)) i aligned ∙ e)
        (any_of_aligned (λ g. is_pointer (pointer_in groups g)) i aligned ∙ f)

    -- what a load of a size reads at a region
    abbrev ReadsAlike : Size → Region → Location → Type 0
    ReadsAlike z r at = Agree claimed F (abstract.known_or (abstract.known_in a (abstract.known_group r z)) (abstract.region_readable a (byte_count z) r) number) (pointer_or (kept_in s.memory (whole_group at z)) (number_in s.memory (byte_count z) at))

    abbrev NumbersAlike : Size → Region → Location → Type 0
    NumbersAlike z r at = Agree claimed F (abstract.region_readable a (byte_count z) r >>= λ u. Ok (known.Scalar number)) (number_in s.memory (byte_count z) at >>= λ n. Ok (value.Scalar n))

    double_read : (i : ℕ) → i + 8 ≤ 512 → NumbersAlike size.Double (regions.InStack i) (InStack i) → (t : Bool) → is_aligned i ≡ t
        → Agree claimed F (abstract.known_or (abstract.known_in a (if t then Some (group_of i) else None)) (abstract.cells_readable a 8 i) number) (pointer_or (kept_in s.memory (if t then Some (group_of i) else None)) (number_in s.memory 8 (InStack i)))
    double_read i short numbers true aligned = whole_by i (number_in s.memory 8 (InStack i)) short aligned numbers (abstract.is_known_pointer (group_at a.values (group_of i))) refl (is_pointer (pointer_in groups (group_of i))) refl
    double_read i short numbers false aligned = numbers

    stack_alike : (z : Size) (i : ℕ) → i + byte_count z ≤ 512 → NumbersAlike z (regions.InStack i) (InStack i) → ReadsAlike z (regions.InStack i) (InStack i)
    stack_alike size.Double i short numbers = double_read i short numbers (is_aligned i) refl
    stack_alike size.Word i short numbers = numbers
    stack_alike size.Half i short numbers = numbers
    stack_alike size.Byte i short numbers = numbers

    pub reads_alike : (z : Size) (r : Region) (at : Location) → IsRegionOf (byte_count z) r at → NumbersAlike z r at → ReadsAlike z r at
    reads_alike z (regions.InStack i) (InStack j) is numbers =
        subst (λ (k : ℕ). ReadsAlike z (regions.InStack i) (InStack k)) is.0 (stack_alike z i is.1 (subst (λ (k : ℕ). NumbersAlike z (regions.InStack i) (InStack k)) (sym is.0) numbers))
    reads_alike z (regions.InStack i) (InBytes j) is numbers = absurd is
    reads_alike z regions.InBytes (InStack j) is numbers = absurd is
    reads_alike z regions.InBytes (InBytes j) is numbers = numbers
