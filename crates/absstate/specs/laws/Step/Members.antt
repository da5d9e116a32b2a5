-- Interface. Steps keep members, and members of one abstract state are loosenings of each other.
use Rattle.std.proofs.Common.{◌≡◌, ℕ, zero, suc, ◌+◌, ◌<◌, ◌≤◌, ◌^◌, Bool, true, false, ℤ, pos, ◌+ℤ◌, ◌≤ℤ◌, List, length, get_or, map, Option, Some, None, refl, sym, ap, ◌∙◌, subst, arith, All, inl, inr}
use Rattle.std.specs.Prelude.{◌-◌, ◌*◌, replicate, is_some, IfSome, int_lt, slice_index_or, slice_set, ◌==◌, if◌then◌else◌}
use Rattle.std.proofs.lemmas.Int.{ints}
use Rattle.std.proofs.lemmas.Bool.{cases_eq, cases_lt, eqb-true}
use Rattle.std.proofs.lemmas.List.{get_or-set_other, set-get_or, length-set, length-map, length-replicate, get_or-map, get_or-replicate, get_or_past}
use Rattle.std.proofs.lemmas.Grind.{get_or-set_at}
use Rattle.insn.specs.Register.{number_of}
use Rattle.insn.specs.declared.register.Reg.{Reg}
use Rattle.insn.specs.declared.register.Reg.TheVariants as reg
use Rattle.semantics.specs.Access.{overlay, written_at, group_of, second_group, third_group, last_group, pointer_in, without_pointers, no_cells}
use Rattle.semantics.specs.laws.Group.{first_without, second_without, third_without, last_without, other_without, no_cells_none}
use Rattle.semantics.specs.laws.Access.{put_at, put_before, put_after}
use Rattle.semantics.specs.Kept.{IsMemory, IsKept, IsProper}
use Rattle.semantics.specs.laws.Kept.{in_eleven, written_is_memory, stored_is_memory, start_is_tagged, few_bytes}
use Rattle.semantics.specs.Calls.{record_bytes, as_form}
use Rattle.semantics.specs.laws.Number.{as_form_bytes}
use Rattle.semantics.specs.declared.helper.Room.{Room}
use Rattle.semantics.specs.Machine.{AddressRecord, AreBytes, Memory, State, start, empty_cells, no_pointers}
use Rattle.semantics.specs.declared.plan.Plan.{Plan}
use Rattle.semantics.specs.declared.access.Location.{Location}
use Rattle.semantics.specs.declared.access.Location.TheVariants.{InStack, InBytes}
use Rattle.semantics.specs.laws.Start.{nothing_set, no_pointer_at}
use Rattle.semantics.specs.declared.limits.TheConstants.{STACK_BYTES, GROUPS}
use Rattle.semantics.specs.Effects.{value_at}
use Rattle.semantics.specs.Runs.{registers_with, registers_after_call, state_after_answer, memory_with_pointer}
use Rattle.semantics.specs.LooseRuns.{SameKind, Loosens}
use Rattle.semantics.specs.declared.value.Value.{Value}
use Rattle.semantics.specs.declared.value.Value.TheVariants as value
use Rattle.absstate.specs.AbstractStates.{abstract_at, group_at, group_index, without_groups, no_groups, abstract_with_pointer, unmarked_from, is_marked, marks_from, no_marks, id_of, greatest_id, proved_up_to, raised_value, first_abstract_state, with_value, with_reach, with_least, with_answer, with_out}
use Rattle.absstate.specs.Membership.{Mode, Strict, Places, place_of, IsAnchorPlace, IsNumberOf, IsHeld, IsValue, IsMarkedCell, IsMemberAt, concrete_value}
use Rattle.absstate.specs.AbstractSteps.{with_region}
use Rattle.absstate.specs.declared.abstract_state.Anchor.{Anchor}
use Rattle.absstate.specs.declared.abstract_state.Anchor.TheVariants.{First, Variable}
use Rattle.absstate.specs.declared.abstract_state.AbstractValue.{AbstractValue}
use Rattle.absstate.specs.declared.abstract_state.AbstractValue.TheVariants as known
use Rattle.absstate.specs.declared.abstract_state.AbsState.{AbsState}
use Rattle.absstate.specs.declared.abstract_state.InitialisedBytes.{InitialisedBytes}
use Rattle.absstate.specs.declared.memory.Region.{Region}
use Rattle.absstate.specs.declared.memory.Region.TheVariants as regions
use Rattle.absstate.specs.laws.Step.Bounds.{IsLeast}
use Rattle.absstate.specs.laws.Step.Anchors.{Extends, id_at_most, raised_reaches}
use Rattle.absstate.specs.laws.Step.Marking.{length-marked, marked_before, marked_after, marked_at, length-unmarked, unmarked_before, unmarked_after, unmarked_at}
use Rattle.absstate.specs.laws.Step.MemoryValues.{IsRegionOf}
use Rattle.absstate.specs.laws.Step.Tagged.{register_proper, register_tagged, memory_tagged}

-- ---- registers and the proved length

held_value : {D : Type 0} (Member : D → ℕ → Type 0) (mode : Mode) (places : Places) (size : ℕ) (k : AbstractValue D) (v : Value) → IsHeld Member places size k v → IsValue Member mode places size k v
held_value Member mode places size known.Nothing v h = absurd h.1
held_value Member mode places size (known.Scalar n) v h = h
held_value Member mode places size known.Ctx v h = h
held_value Member mode places size (known.Stack n) v h = h
held_value Member mode places size (known.Data anchor n) v h = h
held_value Member mode places size known.End v h = h

reach_more : (proved z size : ℤ) (b : Bool) → proved ≤ℤ size → z ≤ℤ size → (if b then z else proved) ≤ℤ size
reach_more proved z size true h g = g
reach_more proved z size false h g = h

-- a value, with the anchors at places at which those that it may name stay
moved_anchored : (greatest : ℕ) (places more : Places) (size : ℕ) (id : ℕ) (low high proved : ℤ) → Extends greatest places more → id ≤ greatest → IsAnchorPlace size low high proved (places id) → IsAnchorPlace size low high proved (more id)
moved_anchored greatest places more size id low high proved extends le is = subst (IsAnchorPlace size low high proved) (sym (extends id le)) is

moved_value : {D : Type 0} (Member : D → ℕ → Type 0) (mode : Mode) (greatest : ℕ) (places more : Places) (size : ℕ) (k : AbstractValue D) (v : Value) → Extends greatest places more → id_of k ≤ greatest → IsValue Member mode places size k v → IsValue Member mode more size k v
moved_value Member mode greatest places more size known.Nothing v extends le h = h
moved_value Member mode greatest places more size (known.Scalar n) v extends le h = h
moved_value Member mode greatest places more size known.Ctx v extends le h = h
moved_value Member mode greatest places more size (known.Stack n) v extends le h = h
moved_value Member mode greatest places more size (known.Data First n) v extends le h = h
moved_value Member mode greatest places more size (known.Data (Variable id low high proved) n) v extends le h =
    (h.0, moved_anchored greatest places more size id low high proved extends le h.1, h.2 ∙ ap (λ (z : ℤ). value.Data (z +ℤ n)) (sym (extends id le)))
moved_value Member mode greatest places more size known.End v extends le h = h

-- a value of which more is proved of an anchor
raised_if : (other id : ℕ) (b : Bool) → (other == id) ≡ b → (places : Places) (size : ℕ) (low high proved z : ℤ) → (places id +ℤ z) ≤ℤ pos size → IsAnchorPlace size low high proved (places other) → IsAnchorPlace size low high (if b then proved_up_to proved z else proved) (places other)
raised_if other id true e places size low high proved z reach is =
    let same : other ≡ id = eqb-true other id e in
    record { least = is.least; greatest = is.greatest; reaches = raised_reaches (places other) proved z size is.reaches (subst (λ (j : ℕ). (places j +ℤ z) ≤ℤ pos size) (sym same) reach) }
raised_if other id false e places size low high proved z reach is = is

value_raised : {D : Type 0} (Member : D → ℕ → Type 0) (mode : Mode) (places : Places) (size : ℕ) (id : ℕ) (z : ℤ) (k : AbstractValue D) (v : Value) → (places id +ℤ z) ≤ℤ pos size → IsValue Member mode places size k v → IsValue Member mode places size (raised_value id z k) v
value_raised Member mode places size id z known.Nothing v reach h = h
value_raised Member mode places size id z (known.Scalar x) v reach h = h
value_raised Member mode places size id z known.Ctx v reach h = h
value_raised Member mode places size id z (known.Stack x) v reach h = h
value_raised Member mode places size id z (known.Data First x) v reach h = h
value_raised Member mode places size id z (known.Data (Variable other low high proved) x) v reach h = (h.0, raised_if other id (other == id) refl places size low high proved z reach h.1, h.2)
value_raised Member mode places size id z known.End v reach h = h

cell_same : {mode : Mode} {b d : Bool} {c o : Option ℕ} → d ≡ b → o ≡ c → IsMarkedCell mode b c → IsMarkedCell mode d o
cell_same {mode} {b} {d} {c} {o} g q h = subst (λ (x : Option ℕ). IsMarkedCell mode d x) (sym q) (subst (λ (x : Bool). IsMarkedCell mode x c) (sym g) h)

no_cell : {mode : Mode} {b : Bool} {c : Option ℕ} → b ≡ false → c ≡ None → IsMarkedCell mode b c
no_cell {mode} {b} {c} h q = subst (IsMarkedCell mode b) (sym q) (subst (λ (x : Bool). IsMarkedCell mode x None) (sym h) (record { held = λ e. absurd cc; no_other = λ e. refl }))

set_cell : {mode : Mode} {b : Bool} {c : Option ℕ} → b ≡ true → is_some c ≡ true → IsMarkedCell mode b c
set_cell h q = record { held = λ e. q; no_other = λ e. q ∙ sym h }

module _ {D : Type 0} (Member : D → ℕ → Type 0) (mode : Mode) (places : Places) (a : AbsState D) (s : State) (member : IsMemberAt Member mode places a s) where
  register_at : (r reg : Reg) (k : AbstractValue D) (v : Value) → IsValue Member mode places s.memory.length k v → IsValue Member mode places s.memory.length (abstract_at (slice_set a.values (number_of r) k) reg) (value_at (slice_set s.registers (number_of r) v) reg)
  register_at r reg k v is =
      elim (cases_eq (number_of reg) (number_of r)) [
        | inl same ↦
            let known_is : abstract_at (slice_set a.values (number_of r) k) reg ≡ k = get_or-set_at a.values (number_of r) (number_of reg) k known.Nothing same (omega (arith, in_eleven r, member.known_count)) in
            let value_is : value_at (slice_set s.registers (number_of r) v) reg ≡ v = get_or-set_at s.registers (number_of r) (number_of reg) v value.Nothing same (omega (arith, in_eleven r, member.tagged.count)) in
            subst (λ (l : AbstractValue D). IsValue Member mode places s.memory.length l (value_at (slice_set s.registers (number_of r) v) reg)) (sym known_is) (subst (IsValue Member mode places s.memory.length k) (sym value_is) is)
        | inr other ↦
            let known_is : abstract_at (slice_set a.values (number_of r) k) reg ≡ abstract_at a.values reg = get_or-set_other a.values (number_of r) (number_of reg) k known.Nothing other in
            let value_is : value_at (slice_set s.registers (number_of r) v) reg ≡ value_at s.registers reg = get_or-set_other s.registers (number_of r) (number_of reg) v value.Nothing other in
            subst (λ (l : AbstractValue D). IsValue Member mode places s.memory.length l (value_at (slice_set s.registers (number_of r) v) reg)) (sym known_is)
            (subst (IsValue Member mode places s.memory.length (abstract_at a.values reg)) (sym value_is) (member.registers reg))
      ]

  -- the groups are as before where a register is written
  group_kept : (r : Reg) (k : AbstractValue D) (g : ℕ) → group_at (slice_set a.values (number_of r) k) g ≡ group_at a.values g
  group_kept r k g = get_or-set_other a.values (number_of r) (group_index g) k known.Nothing (λ e. omega (arith, in_eleven r, e))

  -- a register is written
  pub member_put : (r : Reg) (k : AbstractValue D) (v : Value) (n : ℕ) → IsValue Member mode places s.memory.length k v → IsProper v → IsMemberAt Member mode places (with_value a r k) (record s { slot = n; registers = registers_with s r v })
  member_put r k v n is proper = record {
    reaches = member.reaches;
    known_count = length-set a.values (number_of r) k ∙ member.known_count;
    marks_count = member.marks_count;
    registers = λ q. register_at r q k v is;
    groups = λ g lt. subst (λ (l : AbstractValue D). IsValue Member mode places s.memory.length l (pointer_in s.memory.stack.groups g)) (sym (group_kept r k g)) (member.groups g lt);
    cells = member.cells;
    tagged = register_tagged s r v n proper member.tagged;
  }

  pub member_written : (r : Reg) (k : AbstractValue D) (v : Value) (n : ℕ) → IsHeld Member places s.memory.length k v → IsProper v → IsMemberAt Member mode places (with_value a r k) (record s { slot = n; registers = registers_with s r v })
  member_written r k v n held proper = member_put r k v n (held_value Member mode places s.memory.length k v held) proper

  -- it is uninitialised
  pub member_forgotten : (r : Reg) (n : ℕ) → IsMemberAt Member mode places (with_value a r known.Nothing) (record s { slot = n; registers = registers_with s r value.Nothing })
  member_forgotten r n = member_put r known.Nothing value.Nothing n (λ e. refl) tt

  -- more is known of a register
  pub member_known : (r : Reg) (k : AbstractValue D) (n : ℕ) → IsHeld Member places s.memory.length k (value_at s.registers r) → IsMemberAt Member mode places (with_value a r k) (record s { slot = n })
  member_known r k n held =
      subst (λ (registers : List Value). IsMemberAt Member mode places (with_value a r k) (record s { slot = n; registers = registers })) (set-get_or s.registers (number_of r) value.Nothing)
      (member_written r k (value_at s.registers r) n held (register_proper s r member.tagged))

  -- memory is replaced by another one of the same length, and the marks by those of its cells
  with_new_memory : (registers : List (AbstractValue D)) (marks : InitialisedBytes) (memory : Memory) (n : ℕ) (p : Plan) → length registers ≡ 75 → ((r : Reg) → abstract_at registers r ≡ abstract_at a.values r) → length marks.cells ≡ STACK_BYTES → memory.length ≡ s.memory.length → IsMemory memory → ((i : ℕ) → i < 512 → IsMarkedCell mode (is_marked marks i) (slice_index_or memory.stack.cells i None))
      → ((g : ℕ) → g < GROUPS → IsValue Member mode places s.memory.length (group_at registers g) (pointer_in memory.stack.groups g)) → IsMemberAt Member mode places (record a { values = registers; marks = marks }) (record s { slot = n; memory = memory; plan = p })
  with_new_memory registers marks memory n p known same count size is cells groups = record {
    reaches = subst (λ (j : ℕ). a.proved ≤ℤ pos j) (sym size) member.reaches;
    known_count = known;
    marks_count = count;
    registers = λ r. subst (λ (l : AbstractValue D). IsValue Member mode places memory.length l (value_at s.registers r)) (sym (same r)) (subst (λ (j : ℕ). IsValue Member mode places j (abstract_at a.values r) (value_at s.registers r)) (sym size) (member.registers r));
    groups = λ g lt. subst (λ (j : ℕ). IsValue Member mode places j (group_at registers g) (pointer_in memory.stack.groups g)) (sym size) (groups g lt);
    cells = cells;
    tagged = memory_tagged s memory n p is member.tagged;
  }

  -- slot and plan are no part of the abstract state
  member_elsewhere : (n : ℕ) (p : Plan) → IsMemberAt Member mode places a (record s { slot = n; plan = p })
  member_elsewhere n p = with_new_memory a.values a.marks s.memory n p member.known_count (λ r. refl) member.marks_count refl member.tagged.memory member.cells member.groups

  -- a jump changes no more than the slot
  pub member_moved : (n : ℕ) → IsMemberAt Member mode places a (record s { slot = n })
  member_moved n = member_elsewhere n s.plan

  pub member_planned : (p : Plan) → IsMemberAt Member mode places a (record s { plan = p })
  member_planned p = member_elsewhere s.slot p

  -- the anchors may be elsewhere where those that registers name stay
  pub member_extends : (more : Places) → Extends (greatest_id a.values) places more → IsMemberAt Member mode more a s
  member_extends more extends = record {
    reaches = member.reaches;
    known_count = member.known_count;
    marks_count = member.marks_count;
    registers = λ r. moved_value Member mode (greatest_id a.values) places more s.memory.length (abstract_at a.values r) (value_at s.registers r) extends (id_at_most a.values (number_of r)) (member.registers r);
    groups = λ g lt. moved_value Member mode (greatest_id a.values) places more s.memory.length (group_at a.values g) (pointer_in s.memory.stack.groups g) extends (id_at_most a.values (group_index g)) (member.groups g lt);
    cells = member.cells;
    tagged = member.tagged;
  }

  -- the datagram reaches as far from an anchor on
  reached_value : (id : ℕ) (z : ℤ) → (places id +ℤ z) ≤ℤ pos s.memory.length → (r : Reg) → IsValue Member mode places s.memory.length (abstract_at (map (raised_value id z) a.values) r) (value_at s.registers r)
  reached_value id z le r =
      let is : abstract_at (map (raised_value id z) a.values) r ≡ raised_value id z (abstract_at a.values r) = get_or-map (raised_value id z) a.values (number_of r) known.Nothing known.Nothing (omega (arith, in_eleven r, member.known_count)) in
      subst (λ (k : AbstractValue D). IsValue Member mode places s.memory.length k (value_at s.registers r)) (sym is)
      (value_raised Member mode places s.memory.length id z (abstract_at a.values r) (value_at s.registers r) le (member.registers r))

  reached_group : (id : ℕ) (z : ℤ) → (places id +ℤ z) ≤ℤ pos s.memory.length → (g : ℕ) → g < GROUPS → IsValue Member mode places s.memory.length (group_at (map (raised_value id z) a.values) g) (pointer_in s.memory.stack.groups g)
  reached_group id z le g lt =
      let is : group_at (map (raised_value id z) a.values) g ≡ raised_value id z (group_at a.values g) = get_or-map (raised_value id z) a.values (group_index g) known.Nothing known.Nothing (omega (arith, lt, member.known_count)) in
      subst (λ (k : AbstractValue D). IsValue Member mode places s.memory.length k (pointer_in s.memory.stack.groups g)) (sym is)
      (value_raised Member mode places s.memory.length id z (group_at a.values g) (pointer_in s.memory.stack.groups g) le (member.groups g lt))

  member_reaching : (anchor : Anchor) (z : ℤ) (to : ℕ) → (place_of places anchor +ℤ z) ≤ℤ pos s.memory.length → IsMemberAt Member mode places (with_reach a anchor z) (record s { slot = to })
  member_reaching First z to le = record {
    reaches = reach_more a.proved z (pos s.memory.length) (int_lt a.proved z) member.reaches (omega (arith, ints));
    known_count = member.known_count;
    marks_count = member.marks_count;
    registers = member.registers;
    groups = member.groups;
    cells = member.cells;
    tagged = memory_tagged s s.memory to s.plan member.tagged.memory member.tagged;
  }
  member_reaching (Variable id low high proved) z to le = record {
    reaches = member.reaches;
    known_count = length-map a.values (raised_value id z) ∙ member.known_count;
    marks_count = member.marks_count;
    registers = reached_value id z le;
    groups = reached_group id z le;
    cells = member.cells;
    tagged = memory_tagged s s.memory to s.plan member.tagged.memory member.tagged;
  }

  pub member_least : (anchor : Anchor) (least : Option ℤ) (to : ℕ) → IsLeast (place_of places anchor) least s.memory.length → IsMemberAt Member mode places (with_least a anchor least) (record s { slot = to })
  member_least anchor None to le = member_moved to
  member_least anchor (Some n) to le = member_reaching anchor n to le

  -- ---- bytes are stored

  -- the cells of the stack after a store
  stored_cell : (i n : ℕ) (bytes : List ℕ) → i + n ≤ 512 → length bytes ≡ n → (j : ℕ) → j < 512 → IsMarkedCell mode (is_marked (marks_from a.marks i n) j) (slice_index_or (overlay i (map Some bytes) s.memory.stack.cells) j None)
  stored_cell i n bytes le long j lt =
      let cells : List (Option ℕ) = map (λ (m : ℕ). Some m) bytes in
      let count : length cells ≡ n = length-map bytes (λ (m : ℕ). Some m) ∙ long in
      elim (cases_lt j i) [
        | inl before ↦
            cell_same (marked_before n i j a.marks member.marks_count le before) (put_before i j cells s.memory.stack.cells None before) (member.cells j lt)
        | inr from ↦
            elim (cases_lt j (i + n)) [
              | inl within ↦
                  let byte : slice_index_or (overlay i cells s.memory.stack.cells) j None ≡ Some (get_or bytes (j - i) 0) =
                  put_at i (j - i) j cells s.memory.stack.cells None (omega (arith, from)) (omega (arith, count, within, from)) (omega (arith, count, le, member.tagged.memory.count))
                  ∙ get_or-map (λ (m : ℕ). Some m) bytes (j - i) 0 None (omega (arith, long, within, from)) in
                  set_cell (marked_at n i j a.marks member.marks_count le from within) (ap is_some byte)
              | inr after ↦
                  cell_same (marked_after n i j a.marks member.marks_count le after) (put_after i j cells s.memory.stack.cells None (omega (arith, count, after))) (member.cells j lt)
            ]
      ]

  -- the groups after a store
  abbrev one_group : ℕ → List (AbstractValue D)
  one_group i = slice_set a.values (group_index (group_of i)) known.Nothing

  abbrev two_groups : ℕ → ℕ → List (AbstractValue D)
  two_groups n i = slice_set (one_group i) (group_index (second_group n i)) known.Nothing

  abbrev three_groups : ℕ → ℕ → List (AbstractValue D)
  three_groups n i = slice_set (two_groups n i) (group_index (third_group n i)) known.Nothing

  length-one : (i : ℕ) → length (one_group i) ≡ length a.values
  length-one i = length-set a.values (group_index (group_of i)) known.Nothing

  length-two : (n i : ℕ) → length (two_groups n i) ≡ length a.values
  length-two n i = length-set (one_group i) (group_index (second_group n i)) known.Nothing ∙ length-one i

  length-three : (n i : ℕ) → length (three_groups n i) ≡ length a.values
  length-three n i = length-set (two_groups n i) (group_index (third_group n i)) known.Nothing ∙ length-two n i

  length-without_groups : (n i : ℕ) → length (without_groups a.values n i) ≡ length a.values
  length-without_groups n i = length-set (three_groups n i) (group_index (last_group n i)) known.Nothing ∙ length-three n i

  register_without : (n i : ℕ) (r : Reg) → abstract_at (without_groups a.values n i) r ≡ abstract_at a.values r
  register_without n i r =
      get_or-set_other (three_groups n i) (group_index (last_group n i)) (number_of r) known.Nothing known.Nothing (λ e. omega (arith, in_eleven r, e))
      ∙ get_or-set_other (two_groups n i) (group_index (third_group n i)) (number_of r) known.Nothing known.Nothing (λ e. omega (arith, in_eleven r, e))
      ∙ get_or-set_other (one_group i) (group_index (second_group n i)) (number_of r) known.Nothing known.Nothing (λ e. omega (arith, in_eleven r, e))
      ∙ get_or-set_other a.values (group_index (group_of i)) (number_of r) known.Nothing known.Nothing (λ e. omega (arith, in_eleven r, e))

  both_are : {k l : AbstractValue D} {u v : Value} → l ≡ k → u ≡ v → IsValue Member mode places s.memory.length k v → IsValue Member mode places s.memory.length l u
  both_are {k} {l} {u} {v} p q is = subst (λ (x : AbstractValue D). IsValue Member mode places s.memory.length x u) (sym p) (subst (IsValue Member mode places s.memory.length k) (sym q) is)

  no_value : {k : AbstractValue D} {v : Value} → k ≡ known.Nothing → v ≡ value.Nothing → IsValue Member mode places s.memory.length k v
  no_value p q = both_are p q (λ e. refl)

  group_unknown : (registers : List (AbstractValue D)) (g : ℕ) → length registers ≡ 75 → g < GROUPS → group_at (slice_set registers (group_index g) known.Nothing) g ≡ known.Nothing
  group_unknown registers g count lt = get_or-set_at registers (group_index g) (group_index g) known.Nothing known.Nothing refl (omega (arith, lt, count))

  group_still : (registers : List (AbstractValue D)) (g h : ℕ) → (h ≡ g → ⊥) → group_at (slice_set registers (group_index g) known.Nothing) h ≡ group_at registers h
  group_still registers g h other = get_or-set_other registers (group_index g) (group_index h) known.Nothing known.Nothing (λ e. other (omega (arith, e)))

  -- of a group that is the one that is set nothing is known, nor of one of which nothing was
  set_unknown : (registers : List (AbstractValue D)) (g h : ℕ) → length registers ≡ 75 → h < GROUPS → h ≡ g → group_at (slice_set registers (group_index g) known.Nothing) h ≡ known.Nothing
  set_unknown registers g h count lt same = subst (λ (k : ℕ). group_at (slice_set registers (group_index k) known.Nothing) h ≡ known.Nothing) same (group_unknown registers h count lt)

  stays_unknown : (registers : List (AbstractValue D)) (g h : ℕ) → length registers ≡ 75 → h < GROUPS → group_at registers h ≡ known.Nothing → group_at (slice_set registers (group_index g) known.Nothing) h ≡ known.Nothing
  stays_unknown registers g h count lt e = elim (cases_eq h g) [
    | inl same ↦ set_unknown registers g h count lt same
    | inr other ↦ group_still registers g h other ∙ e
  ]

  group_without : (n i g : ℕ) → g < GROUPS → IsValue Member mode places s.memory.length (group_at (without_groups a.values n i) g) (pointer_in (without_pointers s.memory.stack.groups n i) g)
  group_without n i g lt =
      let count : length a.values ≡ 75 = member.known_count in
      let one : length (one_group i) ≡ 75 = length-one i ∙ count in
      let two : length (two_groups n i) ≡ 75 = length-two n i ∙ count in
      let three : length (three_groups n i) ≡ 75 = length-three n i ∙ count in
      elim (cases_eq g (last_group n i)) [
        | inl same ↦ no_value (set_unknown (three_groups n i) (last_group n i) g three lt same) (at (last_group n i) same (last_without s.memory.stack.groups n i))
        | inr last ↦ elim (cases_eq g (third_group n i)) [
          | inl same ↦
              no_value (stays_unknown (three_groups n i) (last_group n i) g three lt (set_unknown (two_groups n i) (third_group n i) g two lt same))
              (at (third_group n i) same (third_without s.memory.stack.groups n i))
          | inr third ↦ elim (cases_eq g (second_group n i)) [
            | inl same ↦
                no_value (stays_unknown (three_groups n i) (last_group n i) g three lt (stays_unknown (two_groups n i) (third_group n i) g two lt (set_unknown (one_group i) (second_group n i) g one lt same)))
                (at (second_group n i) same (second_without s.memory.stack.groups n i))
            | inr second ↦ elim (cases_eq g (group_of i)) [
              | inl same ↦
                  no_value (stays_unknown (three_groups n i) (last_group n i) g three lt (stays_unknown (two_groups n i) (third_group n i) g two lt (stays_unknown (one_group i) (second_group n i) g one lt (set_unknown a.values (group_of i) g count lt same))))
                  (at (group_of i) same (first_without s.memory.stack.groups n i))
              | inr first ↦
                  both_are (group_still (three_groups n i) (last_group n i) g last ∙ group_still (two_groups n i) (third_group n i) g third ∙ group_still (one_group i) (second_group n i) g second ∙ group_still a.values (group_of i) g first)
                  (other_without s.memory.stack.groups n i g first second third last) (member.groups g lt)
            ]
          ]
        ]
      ] where
        at : (h : ℕ) → g ≡ h → pointer_in (without_pointers s.memory.stack.groups n i) h ≡ value.Nothing → pointer_in (without_pointers s.memory.stack.groups n i) g ≡ value.Nothing
        at h same e = subst (λ (k : ℕ). pointer_in (without_pointers s.memory.stack.groups n i) k ≡ value.Nothing) (sym same) e

  -- bytes are stored at a location that is known as a region
  pub member_stored : (n : ℕ) (region : Region) (at : Location) (bytes : List ℕ) (to : ℕ) → IsRegionOf n region at → n ≤ 24 → length bytes ≡ n → All (λ b. b < 256) bytes → IsMemberAt Member mode places (with_region a n region) (record s { slot = to; memory = written_at s.memory at bytes })
  member_stored n (regions.InStack i) (InStack j) bytes to is few long fit =
      subst (λ (m : ℕ). IsMemberAt Member mode places (with_region a n (regions.InStack i)) (record s { slot = to; memory = written_at s.memory (InStack m) bytes })) is.0
      (with_new_memory (without_groups a.values n i) (marks_from a.marks i n) (written_at s.memory (InStack i) bytes) to s.plan (length-without_groups n i ∙ member.known_count) (register_without n i) (length-marked n i a.marks ∙ member.marks_count) refl
      (written_is_memory s.memory (InStack i) bytes member.tagged.memory (omega (arith, few, long)) fit) (stored_cell i n bytes is.1 long)
      (λ g lt. subst (λ (m : ℕ). IsValue Member mode places s.memory.length (group_at (without_groups a.values n i) g) (pointer_in (without_pointers s.memory.stack.groups m i) g)) (sym long) (group_without n i g lt)))
  member_stored n (regions.InStack i) (InBytes j) bytes to is few long fit = absurd is
  member_stored n regions.InBytes (InStack j) bytes to is few long fit = absurd is
  member_stored n regions.InBytes (InBytes j) bytes to is few long fit =
      with_new_memory a.values a.marks (written_at s.memory (InBytes j) bytes) to s.plan member.known_count (λ r. refl) member.marks_count refl (written_is_memory s.memory (InBytes j) bytes member.tagged.memory (omega (arith, few, long)) fit) member.cells member.groups

  -- ---- a pointer is stored

  -- the cells of its group are uninitialised
  unset_cell : (g : ℕ) → g < GROUPS → (j : ℕ) → j < 512 → IsMarkedCell mode (is_marked (unmarked_from a.marks (8 * g) 8) j) (slice_index_or (overlay (8 * g) no_cells s.memory.stack.cells) j None)
  unset_cell g below j lt = elim (cases_lt j (8 * g)) [
    | inl before ↦
        cell_same (unmarked_before 8 (8 * g) j a.marks before) (put_before (8 * g) j no_cells s.memory.stack.cells None before) (member.cells j lt)
    | inr from ↦
        elim (cases_lt j (8 * g + 8)) [
          | inl within ↦
              no_cell (unmarked_at 8 (8 * g) j a.marks member.marks_count (omega (arith, below)) from within)
              (put_at (8 * g) (j - 8 * g) j no_cells s.memory.stack.cells None (omega (arith, from)) (omega (arith, from, within)) (omega (arith, below, member.tagged.memory.count)) ∙ no_cells_none (j - 8 * g))
          | inr after ↦
              cell_same (unmarked_after 8 (8 * g) j a.marks after) (put_after (8 * g) j no_cells s.memory.stack.cells None (omega (arith, after))) (member.cells j lt)
        ]
  ]

  register_beside : (g : ℕ) (k : AbstractValue D) (r : Reg) → abstract_at (slice_set a.values (group_index g) k) r ≡ abstract_at a.values r
  register_beside g k r = get_or-set_other a.values (group_index g) (number_of r) k known.Nothing (λ e. omega (arith, in_eleven r, e))

  group_with : (g : ℕ) (k : AbstractValue D) (v : Value) → g < GROUPS → IsValue Member mode places s.memory.length k v → (h : ℕ) → h < GROUPS → IsValue Member mode places s.memory.length (group_at (slice_set a.values (group_index g) k) h) (pointer_in (slice_set s.memory.stack.groups g v) h)
  group_with g k v lt is h below = elim (cases_eq h g) [
    | inl same ↦
        let known_is : group_at (slice_set a.values (group_index g) k) h ≡ k = get_or-set_at a.values (group_index g) (group_index h) k known.Nothing (ap group_index same) (omega (arith, lt, member.known_count)) in
        let value_is : pointer_in (slice_set s.memory.stack.groups g v) h ≡ v = get_or-set_at s.memory.stack.groups g h v value.Nothing same (omega (arith, lt, member.tagged.memory.groups_count)) in
        both_are known_is value_is is
    | inr other ↦
        both_are (get_or-set_other a.values (group_index g) (group_index h) k known.Nothing (λ e. other (omega (arith, e)))) (get_or-set_other s.memory.stack.groups g h v value.Nothing other) (member.groups h below)
  ]

  pub member_with_pointer : (g : ℕ) (k : AbstractValue D) (v : Value) (to : ℕ) → g < GROUPS → IsHeld Member places s.memory.length k v → IsKept v → IsMemberAt Member mode places (abstract_with_pointer a g k) (record s { slot = to; memory = memory_with_pointer s.memory g v })
  member_with_pointer g k v to lt held kept =
      with_new_memory (slice_set a.values (group_index g) k) (unmarked_from a.marks (8 * g) 8) (memory_with_pointer s.memory g v) to s.plan (length-set a.values (group_index g) k ∙ member.known_count) (register_beside g k) (length-unmarked 8 (8 * g) a.marks ∙ member.marks_count) refl
      (stored_is_memory s.memory g v member.tagged.memory lt kept) (unset_cell g lt) (group_with g k v lt (held_value Member mode places s.memory.length k v held))

-- ---- a call

module _ {D : Type 0} (Member : D → ℕ → Type 0) (words : (x : D) (n : ℕ) → Member x n → n < 2 ^ 64) (mode : Mode) (places : Places) where
  forget : (r : Reg) (a : AbsState D) (s : State) → IsMemberAt Member mode places a s → IsMemberAt Member mode places (with_value a r known.Nothing) (record s { registers = registers_with s r value.Nothing })
  forget r a s member = member_forgotten Member mode places a s member r s.slot

  -- a call answers: r0 holds the number, and r1 to r5 nothing
  pub member_called : (a : AbsState D) (s : State) (x : D) (n to : ℕ) → IsMemberAt Member mode places a s → Member x n → IsMemberAt Member mode places (with_answer a x) (record s { slot = to; registers = registers_after_call s.registers n })
  member_called a s x n to member is =
      forget reg.R5 _ _ (forget reg.R4 _ _ (forget reg.R3 _ _ (forget reg.R2 _ _ (forget reg.R1 _ _
      (member_written Member mode places a s member reg.R0 (known.Scalar x) (value.Scalar n) to (n, is, refl) (words x n is))))))

  -- the record of an answer is written, if it is asked for
  pub member_answered : (a : AbsState D) (s : State) (x : D) (to : ℕ) (out : Option Room) (answer : ℕ × AddressRecord) → IsMemberAt Member mode places a s → Member x answer.0 → IfSome out (λ room. (room.index + record_bytes room.form ≤ 512) × AreBytes 20 answer.1)
      → IsMemberAt Member mode places (with_out (with_answer a x) out) (state_after_answer s to out answer)
  member_answered a s x to None answer member is room = member_called a s x answer.0 to member is
  member_answered a s x to (Some at) answer member is room =
      let are : AreBytes (record_bytes at.form) (as_form at.form answer.1) = as_form_bytes at.form answer.1 room.1 in
      let after : State = record s { slot = to; registers = registers_after_call s.registers answer.0 } in
      member_stored Member mode places (with_answer a x) after (member_called a s x answer.0 to member is) (record_bytes at.form) (regions.InStack at.index) (InStack at.index) (as_form at.form answer.1) to (refl, room.0) (few_bytes at.form) are.count are.fit

-- ---- the first state

abbrev pub at_first : Places
at_first id = pos 0

no_marks_count : length no_marks.cells ≡ STACK_BYTES
unfolding no_marks
no_marks_count = length-replicate STACK_BYTES false

unmarked : (i : ℕ) → is_marked no_marks i ≡ false
unfolding no_marks
unmarked i = elim (cases_lt i STACK_BYTES) [
  | inl lt ↦ get_or-replicate STACK_BYTES i false false lt
  | inr le ↦ get_or_past no_marks.cells i false (omega (arith, no_marks_count, le))
]

first_registers_are : {D : Type 0} (Member : D → ℕ → Type 0) (mode : Mode) (d : List ℕ) (r : Reg) → IsValue Member mode at_first (length d) (abstract_at first_abstract_state.values r) (value_at (start d).registers r)
first_registers_are Member mode d reg.R0 = λ e. refl
first_registers_are Member mode d reg.R1 = (0, tt, refl)
first_registers_are Member mode d reg.R2 = λ e. refl
first_registers_are Member mode d reg.R3 = λ e. refl
first_registers_are Member mode d reg.R4 = λ e. refl
first_registers_are Member mode d reg.R5 = λ e. refl
first_registers_are Member mode d reg.R6 = λ e. refl
first_registers_are Member mode d reg.R7 = λ e. refl
first_registers_are Member mode d reg.R8 = λ e. refl
first_registers_are Member mode d reg.R9 = λ e. refl
first_registers_are Member mode d reg.R10 = (0, tt, refl)

-- no group is known to hold a pointer
pub no_group : (D : Type 0) (g : ℕ) → slice_index_or (no_groups {D = D}) g known.Nothing ≡ known.Nothing
unfolding no_groups
no_group D g = let none : AbstractValue D = known.Nothing in elim (cases_lt g GROUPS) [
  | inl lt ↦ get_or-replicate GROUPS g none none lt
  | inr le ↦ get_or_past (replicate GROUPS none) g none (omega (arith, length-replicate GROUPS none, le))
]

first_count : (D : Type 0) → length (first_abstract_state {D = D}).values ≡ 75
unfolding no_groups
first_count D = let none : AbstractValue D = known.Nothing in omega (arith, length-replicate GROUPS none)

first_group_is : {D : Type 0} (Member : D → ℕ → Type 0) (mode : Mode) (d : List ℕ) (g : ℕ) → IsValue Member mode at_first (length d) (group_at first_abstract_state.values g) (pointer_in no_pointers g)
first_group_is {D} Member mode d g =
    let at : 11 + g ≡ suc (suc (suc (suc (suc (suc (suc (suc (suc (suc (suc g)))))))))) = omega arith in
    subst (λ (k : AbstractValue D). IsValue Member mode at_first (length d) k (pointer_in no_pointers g)) (sym (ap (λ (n : ℕ). slice_index_or (first_abstract_state {D = D}).values n known.Nothing) at ∙ no_group D g)) (λ e. no_pointer_at g)

none_proved : (n : ℕ) → pos 0 ≤ℤ pos n
none_proved n = omega (arith, ints)

marked_is_not : (marked : Bool) (cell : Bool) → marked ≡ false → marked ≡ true → cell ≡ true
marked_is_not marked cell e f = let bad : false ≡ true = sym e ∙ f in absurd cc

-- every start is a member of the first abstract state
pub first_member : {D : Type 0} (Member : D → ℕ → Type 0) (mode : Mode) (d : List ℕ) → All (λ b. b < 256) d → IsMemberAt Member mode at_first first_abstract_state (start d)
first_member Member mode d fit = record {
  reaches = none_proved (length d);
  known_count = first_count _;
  marks_count = no_marks_count;
  registers = first_registers_are Member mode d;
  groups = λ g lt. first_group_is Member mode d g;
  cells = λ i lt. record {
    held = marked_is_not (is_marked no_marks i) (is_some (get_or empty_cells i None)) (unmarked i);
    no_other = λ e. nothing_set i lt ∙ sym (unmarked i);
  };
  tagged = start_is_tagged d fit;
}

-- ---- members and loosenings

reg_at : (n : ℕ) → n < 11 → (r : Reg) × (number_of r ≡ n)
reg_at zero lt = (reg.R0, refl)
reg_at (suc zero) lt = (reg.R1, refl)
reg_at (suc (suc zero)) lt = (reg.R2, refl)
reg_at (suc (suc (suc zero))) lt = (reg.R3, refl)
reg_at (suc (suc (suc (suc zero)))) lt = (reg.R4, refl)
reg_at (suc (suc (suc (suc (suc zero))))) lt = (reg.R5, refl)
reg_at (suc (suc (suc (suc (suc (suc zero)))))) lt = (reg.R6, refl)
reg_at (suc (suc (suc (suc (suc (suc (suc zero))))))) lt = (reg.R7, refl)
reg_at (suc (suc (suc (suc (suc (suc (suc (suc zero)))))))) lt = (reg.R8, refl)
reg_at (suc (suc (suc (suc (suc (suc (suc (suc (suc zero))))))))) lt = (reg.R9, refl)
reg_at (suc (suc (suc (suc (suc (suc (suc (suc (suc (suc zero)))))))))) lt = (reg.R10, refl)
reg_at (suc (suc (suc (suc (suc (suc (suc (suc (suc (suc (suc n))))))))))) lt = absurd (omega (arith, lt))

kind_of : {D : Type 0} (Member : D → ℕ → Type 0) → ((x : D) (n : ℕ) → Member x n → n < 2 ^ 64) → (places : Places) (size size' : ℕ) (k : AbstractValue D) (m n : ℕ) → IsNumberOf Member places size k m → IsNumberOf Member places size' k n → SameKind (concrete_value places k m) (concrete_value places k n)
kind_of Member words places size size' known.Nothing m n g h = refl
kind_of Member words places size size' (known.Scalar x) m n g h = (n, words x n h, refl)
kind_of Member words places size size' known.Ctx m n g h = refl
kind_of Member words places size size' (known.Stack k) m n g h = refl
kind_of Member words places size size' (known.Data anchor k) m n g h = refl
kind_of Member words places size size' known.End m n g h = refl

module _ {D : Type 0} (Member : D → ℕ → Type 0) (words : (x : D) (n : ℕ) → Member x n → n < 2 ^ 64) (places : Places) where
  pub held_kind : (size size' : ℕ) (k : AbstractValue D) (u v : Value) → IsHeld Member places size k u → IsHeld Member places size' k v → SameKind u v
  held_kind size size' k u v g h =
      subst (λ (u' : Value). SameKind u' v) (sym g.2) (subst (SameKind (concrete_value places k g.0)) (sym h.2) (kind_of Member words places size size' k g.0 h.0 g.1 h.1))

  same_kind : (size size' : ℕ) (k : AbstractValue D) (u v : Value) → IsValue Member Strict places size k u → IsValue Member Strict places size' k v → SameKind u v
  same_kind size size' known.Nothing u v g h = subst (λ (u' : Value). SameKind u' v) (sym (g refl)) (h refl)
  same_kind size size' (known.Scalar n) u v g h = held_kind size size' (known.Scalar n) u v g h
  same_kind size size' known.Ctx u v g h = held_kind size size' known.Ctx u v g h
  same_kind size size' (known.Stack n) u v g h = held_kind size size' (known.Stack n) u v g h
  same_kind size size' (known.Data anchor n) u v g h = held_kind size size' (known.Data anchor n) u v g h
  same_kind size size' known.End u v g h = held_kind size size' known.End u v g h

  -- two strict members of one abstract state, with one memory, are loosenings of each other
  module _ (a : AbsState D) (s t : State) (member_s : IsMemberAt Member Strict places a s) (member_t : IsMemberAt Member Strict places a t) where
    kinds_at : (n : ℕ) → n < length s.registers → SameKind (slice_index_or s.registers n value.Nothing) (slice_index_or t.registers n value.Nothing)
    kinds_at n lt =
        let r = reg_at n (omega (arith, lt, member_s.tagged.count)) in
        subst (λ (j : ℕ). SameKind (slice_index_or s.registers j value.Nothing) (slice_index_or t.registers j value.Nothing)) r.1
        (same_kind s.memory.length t.memory.length (abstract_at a.values r.0) (value_at s.registers r.0) (value_at t.registers r.0) (member_s.registers r.0) (member_t.registers r.0))

    pub members_loosen : t.slot ≡ s.slot → t.memory ≡ s.memory → t.plan ≡ s.plan → Loosens s t
    members_loosen slot memory plan = record {
      slot = slot;
      count = member_t.tagged.count ∙ sym member_s.tagged.count;
      registers = kinds_at;
      cells = ap (λ (mem : Memory). map is_some mem.stack.cells) memory;
      groups = ap (λ (mem : Memory). mem.stack.groups) memory;
      cells_fit = member_t.tagged.memory.cells;
      bytes = ap (λ (mem : Memory). length mem.bytes) memory;
      bytes_fit = member_t.tagged.memory.bytes;
      datagram = ap (λ (mem : Memory). mem.length) memory;
      plan = plan;
    }

  pub loosens_itself : (a : AbsState D) (s : State) → IsMemberAt Member Strict places a s → Loosens s s
  loosens_itself a s member = members_loosen a s s member member refl refl refl

-- ---- loosenings, one after the other

same_kinds : (u v w : Value) → SameKind u v → SameKind v w → SameKind u w
same_kinds value.Nothing v w g h = subst (λ (x : Value). SameKind x w) g h
same_kinds (value.Scalar n) v w g h = subst (λ (x : Value). SameKind x w) g.2 h
same_kinds value.Ctx v w g h = subst (λ (x : Value). SameKind x w) g h
same_kinds (value.Stack k) v w g h = subst (λ (x : Value). SameKind x w) g h
same_kinds (value.Data k) v w g h = subst (λ (x : Value). SameKind x w) g h
same_kinds value.End v w g h = subst (λ (x : Value). SameKind x w) g h

pub loosens_then : (s t next : State) → Loosens s t → Loosens t next → Loosens s next
loosens_then s t next g h = record {
  slot = h.slot ∙ g.slot;
  count = h.count ∙ g.count;
  registers = λ n lt. same_kinds _ _ _ (g.registers n lt) (h.registers n (omega (arith, lt, g.count)));
  cells = h.cells ∙ g.cells;
  groups = h.groups ∙ g.groups;
  cells_fit = h.cells_fit;
  bytes = h.bytes ∙ g.bytes;
  bytes_fit = h.bytes_fit;
  datagram = h.datagram ∙ g.datagram;
  plan = h.plan ∙ g.plan;
}
