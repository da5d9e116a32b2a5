-- Interface. Signatures of states, by which most states that a state doesn't cover are ruled out.
use Rattle.std.specs.Prelude.{ℕ, suc, ◌+◌, ◌-◌, ◌*◌, ◌/◌, ◌%◌, ◌^◌, ◌==◌, nat_lt, nat_le, ◌&&◌, ◌||◌, Bool, ℤ, pos, int_le, List, [], ◌∷◌, take, drop, bit_and, bit_or, if◌then◌else◌, zero, Option, None, Some, position, slice_index_or}
use Rattle.std.specs.Int.{w32, w64, rotate_left, cast_unsigned}
use Rattle.interval.specs.Domains.{Operations}
use Rattle.interval.specs.declared.domain.Bounds.{Bounds}
use Rattle.absstate.specs.AbstractStates.{proved_from}
use Rattle.absstate.specs.InitialisedWords.{words_of}
use Rattle.absstate.specs.declared.abstract_state.AbstractValue.{AbstractValue}
use Rattle.absstate.specs.declared.abstract_state.AbstractValue.TheVariants.{Nothing, Scalar, Ctx, Stack, Data, End}
use Rattle.absstate.specs.declared.abstract_state.AbsState.{AbsState}
use Rattle.absstate.specs.declared.abstract_state.TheConstants.{REGISTERS, VALUES}
use Rattle.absstate.specs.Covers.{have_one_anchor}
use Rattle.absstate.specs.declared.links.Links.{Links}
use Rattle.absstate.specs.declared.margins.Margins.{Margins}
use Rattle.absstate.specs.declared.signature.MarkBits.{MarkBits}
use Rattle.absstate.specs.declared.signature.StateSignature.{StateSignature}

-- one bit of 64, by a hash of an index, a kind and a number
abbrev pub hashed_bit : ℕ → ℕ → ℕ → ℕ
hashed_bit index kind number = 2 ^ ((number + (8 * index + kind) * 13787848793156543929 % 2 ^ 64) % 2 ^ 64 * 11400714819323198485 % 2 ^ 64 / 2 ^ 58)

-- the bit of a number that is known exactly
abbrev pub number_bit : ℕ → Bounds → ℕ
number_bit index b = if b.lo == b.hi then hashed_bit index 0 b.lo else 0

-- a bit where the datagram is proved to reach past a place
abbrev pub proved_bit : ℕ → ℤ → ℕ
proved_bit index proved = if int_le proved (pos 0) then 0 else hashed_bit index 5 0

-- The bits of a value; none where the value isn't known exactly. Where one value covers another, their anchors may differ, and of
-- the other one more may be proved.
abbrev pub value_bit : {D : Type 0} → Operations D → ℕ → ℤ → AbstractValue D → ℕ
value_bit ops index proved Nothing = 0
value_bit ops index proved (Scalar x) = number_bit index (ops.bounds x)
value_bit ops index proved Ctx = hashed_bit index 1 0
value_bit ops index proved (Stack k) = hashed_bit index 2 (cast_unsigned w32 k)
value_bit ops index proved (Data anchor k) = bit_or (hashed_bit index 3 (cast_unsigned w32 k)) (proved_bit index (proved_from anchor proved))
value_bit ops index proved End = hashed_bit index 4 0

-- the bits of values from an index on, of a state whose datagram is proved to reach so far
abbrev pub value_bits : {D : Type 0} → Operations D → ℕ → ℤ → List (AbstractValue D) → ℕ
value_bits ops index proved [] = 0
value_bits ops index proved (v ∷ values) = bit_or (value_bit ops index proved v) (value_bits ops (suc index) proved values)

-- bits for the marks of one more word: where one is, and where two or more are
abbrev pub marked_with : ℕ → MarkBits → MarkBits
marked_with word bits = record { any = bit_or word bits.any; two = bit_or (bit_and word bits.any) bits.two }

-- the bits of words of marks, of which each is rotated by 9 bits more than the one before it
abbrev pub mark_bits : ℕ → List ℕ → MarkBits
mark_bits index [] = record { any = 0; two = 0 }
mark_bits index (word ∷ words) = marked_with (rotate_left w64 word (9 * index)) (mark_bits (suc index) words)

-- how many words a value leaves out below it, and in all: none where nothing is known of it, all on both sides where it is known and
-- no number
abbrev pub value_margins : {D : Type 0} → Operations D → AbstractValue D → Margins
value_margins ops Nothing = record { below = 0; total = 0 }
value_margins ops (Scalar x) = record { below = (ops.bounds x).lo; total = (ops.bounds x).lo + (2 ^ 64 - 1 - (ops.bounds x).hi) }
value_margins ops Ctx = record { below = 2 ^ 64; total = 2 * 2 ^ 64 }
value_margins ops (Stack k) = record { below = 2 ^ 64; total = 2 * 2 ^ 64 }
value_margins ops (Data anchor k) = record { below = 2 ^ 64; total = 2 * 2 ^ 64 }
value_margins ops End = record { below = 2 ^ 64; total = 2 * 2 ^ 64 }

abbrev pub added_margins : Margins → Margins → Margins
added_margins m n = record { below = m.below + n.below; total = m.total + n.total }

-- and values, together
abbrev pub margins_of : {D : Type 0} → Operations D → List (AbstractValue D) → Margins
margins_of ops [] = record { below = 0; total = 0 }
margins_of ops (v ∷ values) = added_margins (value_margins ops v) (margins_of ops values)

-- two numbers, hashed
abbrev pub hashed_pair : ℕ → ℕ → ℕ
hashed_pair first second = (first + second * 13787848793156543929 % 2 ^ 64) % 2 ^ 64

-- A value, hashed: what a number leaves out on either side, or what a pointer is and its offset. Where one value covers another that
-- leaves out as much, their anchors alone may differ.
abbrev pub value_hash : {D : Type 0} → Operations D → AbstractValue D → ℕ
value_hash ops Nothing = 0
value_hash ops (Scalar x) = hashed_pair (ops.bounds x).lo (2 ^ 64 - 1 - (ops.bounds x).hi)
value_hash ops Ctx = hashed_pair 1 0
value_hash ops (Stack k) = hashed_pair 2 (cast_unsigned w32 k)
value_hash ops (Data anchor k) = hashed_pair 3 (cast_unsigned w32 k)
value_hash ops End = hashed_pair 4 0

-- all of some values, hashed
abbrev pub values_hash : {D : Type 0} → Operations D → List (AbstractValue D) → ℕ
values_hash ops [] = 0
values_hash ops (v ∷ values) = (value_hash ops v + values_hash ops values * 11400714819323198485 % 2 ^ 64) % 2 ^ 64

-- the first of the values before one that is at its anchor
abbrev pub first_linked : {D : Type 0} → List (AbstractValue D) → ℕ → Option ℕ
first_linked values index = position (λ v. have_one_anchor v (slice_index_or values index Nothing)) (take index values)

-- links with that of a place at an index, the first place at whose anchor is known
abbrev pub linked_with : ℕ → ℕ → Links → Links
linked_with index first links = record {
  count = links.count + 1;
  firsts = (links.firsts + (VALUES * index + first + 1)) % 2 ^ 64 * 11400714819323198485 % 2 ^ 64;
}

abbrev pub linked_if : ℕ → Option ℕ → Links → Links
linked_if index None links = links
linked_if index (Some first) links = linked_with index first links

-- how many of the first values are at the anchor of one before them, and which is the first one there of each, hashed
abbrev pub links_among : {D : Type 0} → List (AbstractValue D) → ℕ → Links
links_among values zero = record { count = 0; firsts = 0 }
links_among values (suc index) = linked_if index (first_linked values index) (links_among values index)

-- the links of all values of a state
unfoldable pub state_links : {D : Type 0} → List (AbstractValue D) → Links
state_links values = links_among values VALUES

-- fewer links, or the same by their hash
abbrev pub lie_within : Links → Links → Bool
lie_within links others = nat_lt links.count others.count || (links.firsts == others.firsts)

abbrev pub state_signature : {D : Type 0} → Operations D → AbsState D → StateSignature
state_signature ops a = record {
  registers = value_bits ops 0 a.proved (take REGISTERS a.values);
  groups = value_bits ops REGISTERS a.proved (drop REGISTERS a.values);
  marks = mark_bits 0 (words_of a.marks.cells);
  margins = margins_of ops a.values;
  values = values_hash ops a.values;
  links = state_links a.values;
}

-- all bits of a word are bits of another one
abbrev pub word_within : ℕ → ℕ → Bool
word_within w v = bit_and w v == w

abbrev pub marks_within : MarkBits → MarkBits → Bool
marks_within m n = word_within m.any n.any && word_within m.two n.two

-- how many words are left out above
abbrev pub above_of : Margins → ℕ
above_of m = m.total - m.below

-- as many words or more are left out by others, on either side
abbrev pub margins_within : Margins → Margins → Bool
margins_within m n = nat_le m.below n.below && nat_le (above_of m) (above_of n)

-- All bits of a signature are bits of another one, of a state whose values leave out as many words or more and have the same hash where
-- it is as many, and that has more links or the same.
abbrev pub lies_within : StateSignature → StateSignature → Bool
lies_within s t = word_within s.registers t.registers && (word_within s.groups t.groups && (margins_within s.margins t.margins
    && (((s.values == t.values) || nat_lt s.margins.total t.margins.total) && (marks_within s.marks t.marks && lie_within s.links t.links))))
