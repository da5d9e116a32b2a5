-- Interface. The abstract state at a slot of a path: what the verifier knows of each machine state that can be there.
-- Its numbers are those of a domain D.
use Rattle.std.specs.Prelude.{ℕ, zero, suc, ◌+◌, ◌*◌, ◌==◌, max, Bool, true, false, ◌&&◌, ℤ, pos, int_lt, int_le, map, List, [], ◌∷◌, replicate, Option, Some, None, slice_index_or, slice_set, if◌then◌else◌}
use Rattle.insn.specs.Register.{number_of}
use Rattle.insn.specs.declared.register.Reg.{Reg}
use Rattle.insn.specs.declared.register.Reg.TheVariants.{R0, R1, R2, R3, R4, R5}
use Rattle.semantics.specs.Access.{group_of, second_group, third_group, last_group}
use Rattle.semantics.specs.Calls.{record_bytes}
use Rattle.semantics.specs.declared.helper.Room.{Room}
use Rattle.semantics.specs.declared.limits.TheConstants.{STACK_BYTES, GROUP_BYTES, GROUPS}
use Rattle.absstate.specs.declared.abstract_state.AbstractValue.{AbstractValue}
use Rattle.absstate.specs.declared.abstract_state.AbstractValue.TheVariants.{Nothing, Scalar, Ctx, Stack, Data, End}
use Rattle.absstate.specs.declared.abstract_state.Anchor.{Anchor}
use Rattle.absstate.specs.declared.abstract_state.Anchor.TheVariants.{First, Variable}
use Rattle.absstate.specs.declared.abstract_state.InitialisedBytes.{InitialisedBytes}
use Rattle.absstate.specs.declared.abstract_state.AbsState.{AbsState}

abbrev pub abstract_at : {D : Type 0} → List (AbstractValue D) → Reg → AbstractValue D
abstract_at registers r = slice_index_or registers (number_of r) Nothing

-- the values of the groups of the stack stand after those of the eleven registers
abbrev pub group_index : ℕ → ℕ
group_index g = 11 + g

-- the pointer that a group is known to hold; Nothing where none is known
abbrev pub group_at : {D : Type 0} → List (AbstractValue D) → ℕ → AbstractValue D
group_at registers g = slice_index_or registers (group_index g) Nothing

-- no group is known to hold a pointer
unfoldable pub no_groups : {D : Type 0} → List (AbstractValue D)
no_groups = replicate GROUPS Nothing

-- no stack byte is set
unfoldable pub no_marks : InitialisedBytes
no_marks = record { cells = replicate STACK_BYTES false }

-- whether a stack byte is set, by its index from the first one
abbrev pub is_marked : InitialisedBytes → ℕ → Bool
is_marked m i = slice_index_or m.cells i false

-- whether n bytes from an index on are set
abbrev pub are_marked : InitialisedBytes → ℕ → ℕ → Bool
are_marked m i zero = true
are_marked m i (suc n) = is_marked m i && are_marked m (suc i) n

-- the marks with one byte more set
abbrev pub mark : InitialisedBytes → ℕ → InitialisedBytes
mark m i = record { cells = slice_set m.cells i true }

-- the marks with n bytes from an index on set
abbrev pub marks_from : InitialisedBytes → ℕ → ℕ → InitialisedBytes
marks_from m i zero = m
marks_from m i (suc n) = marks_from (mark m i) (suc i) n

-- the marks with one byte less set
abbrev pub unmark : InitialisedBytes → ℕ → InitialisedBytes
unmark m i = record { cells = slice_set m.cells i false }

-- the marks without n bytes from an index on
abbrev pub unmarked_from : InitialisedBytes → ℕ → ℕ → InitialisedBytes
unmarked_from m i zero = m
unmarked_from m i (suc n) = unmarked_from (unmark m i) (suc i) n

-- before the first instruction r1 holds the context and r10 the end of the stack
abbrev pub first_abstract_state : {D : Type 0} → AbsState D
first_abstract_state = record {
  values = Nothing ∷ Ctx ∷ Nothing ∷ Nothing ∷ Nothing ∷ Nothing ∷ Nothing ∷ Nothing ∷ Nothing ∷ Nothing ∷ Stack (pos 0) ∷ no_groups;
  marks = no_marks;
  proved = pos 0;
}

-- ---- anchors

-- the least and the greatest place of an anchor
abbrev pub low_of : Anchor → ℤ
low_of First = pos 0
low_of (Variable id low high proved) = low

abbrev pub high_of : Anchor → ℤ
high_of First = pos 0
high_of (Variable id low high proved) = high

-- how far from an anchor on a datagram is proved to reach, whose first byte it is proved to have n bytes from on
abbrev pub proved_from : Anchor → ℤ → ℤ
proved_from First n = n
proved_from (Variable id low high proved) n = proved

abbrev pub proved_of : {D : Type 0} → AbsState D → Anchor → ℤ
proved_of a anchor = proved_from anchor a.proved

-- the number of the anchor that a value names; 0 where it names no variable anchor
abbrev pub id_of : {D : Type 0} → AbstractValue D → ℕ
id_of Nothing = 0
id_of (Scalar number) = 0
id_of Ctx = 0
id_of (Stack k) = 0
id_of (Data First k) = 0
id_of (Data (Variable id low high proved) k) = id
id_of End = 0

-- the greatest number of an anchor that a register or a group names
abbrev pub greatest_id : {D : Type 0} → List (AbstractValue D) → ℕ
greatest_id [] = 0
greatest_id (v ∷ vs) = max (id_of v) (greatest_id vs)

-- what is proved of an anchor, raised to n
abbrev pub proved_up_to : ℤ → ℤ → ℤ
proved_up_to proved n = if (int_lt proved n && int_le n (pos 2147483647)) then n else proved

-- more is proved of the anchor with a number
abbrev pub raised_anchor : ℕ → ℤ → Anchor → Anchor
raised_anchor id n First = First
raised_anchor id n (Variable other low high proved) = Variable other low high (if other == id then proved_up_to proved n else proved)

-- more is proved of it in a value that names it
abbrev pub raised_value : {D : Type 0} → ℕ → ℤ → AbstractValue D → AbstractValue D
raised_value id n Nothing = Nothing
raised_value id n (Scalar number) = Scalar number
raised_value id n Ctx = Ctx
raised_value id n (Stack k) = Stack k
raised_value id n (Data anchor k) = Data (raised_anchor id n anchor) k
raised_value id n End = End

-- the state with a register written
abbrev pub with_value : {D : Type 0} → AbsState D → Reg → AbstractValue D → AbsState D
with_value a r k = record a { values = slice_set a.values (number_of r) k }

-- the state in which the datagram has at least n bytes
abbrev pub with_length : {D : Type 0} → AbsState D → ℤ → AbsState D
with_length a n = record a { proved = if int_lt a.proved n then n else a.proved }

-- the state in which the datagram reaches n bytes from an anchor on: every register with that anchor gains by it
abbrev pub with_reach : {D : Type 0} → AbsState D → Anchor → ℤ → AbsState D
with_reach a First n = with_length a n
with_reach a (Variable id low high proved) n = record a { values = map (raised_value id n) a.values }

-- a least reach, where a branch implies one
abbrev pub with_least : {D : Type 0} → AbsState D → Anchor → Option ℤ → AbsState D
with_least a anchor None = a
with_least a anchor (Some n) = with_reach a anchor n

-- no group of which one of the n cells from an index on is a part is known to hold a pointer
abbrev pub without_groups : {D : Type 0} → List (AbstractValue D) → ℕ → ℕ → List (AbstractValue D)
without_groups registers n i =
    slice_set (slice_set (slice_set (slice_set registers (group_index (group_of i)) Nothing) (group_index (second_group n i)) Nothing) (group_index (third_group n i)) Nothing) (group_index (last_group n i)) Nothing

-- the state in which n stack bytes from an index on are set
abbrev pub with_marks : {D : Type 0} → AbsState D → ℕ → ℕ → AbsState D
with_marks a i count = record a { values = without_groups a.values count i; marks = marks_from a.marks i count }

-- the state in which a group holds a pointer
abbrev pub abstract_with_pointer : {D : Type 0} → AbsState D → ℕ → AbstractValue D → AbsState D
abstract_with_pointer a g k = record a { values = slice_set a.values (group_index g) k; marks = unmarked_from a.marks (GROUP_BYTES * g) GROUP_BYTES }

-- the state after a call with an answer: r1 to r5 are uninitialised
abbrev pub with_answer : {D : Type 0} → AbsState D → D → AbsState D
with_answer a answer = with_value (with_value (with_value (with_value (with_value (with_value a R0 (Scalar answer)) R1 Nothing) R2 Nothing) R3 Nothing) R4 Nothing) R5 Nothing

-- the state in which the address record in a room is set, if one is written
abbrev pub with_out : {D : Type 0} → AbsState D → Option Room → AbsState D
with_out a None = a
with_out a (Some room) = with_marks a room.index (record_bytes room.form)
