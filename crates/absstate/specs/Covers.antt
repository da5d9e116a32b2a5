-- Interface. One abstract state covers another: what it says of a machine state the other says too.
use Rattle.std.specs.Prelude.{◌==◌, Bool, true, false, not, ◌&&◌, ◌||◌, ℤ, int_le, List, [], ◌∷◌}
use Rattle.interval.specs.Domains.{Operations}
use Rattle.absstate.specs.AbstractStates.{low_of, high_of, proved_of}
use Rattle.absstate.specs.declared.abstract_state.Anchor.{Anchor}
use Rattle.absstate.specs.declared.abstract_state.Anchor.TheVariants.{First, Variable}
use Rattle.absstate.specs.declared.abstract_state.AbstractValue.{AbstractValue}
use Rattle.absstate.specs.declared.abstract_state.AbstractValue.TheVariants.{Nothing, Scalar, Ctx, Stack, Data, End}
use Rattle.absstate.specs.declared.abstract_state.AbsState.{AbsState}

abbrev pub same_int : ℤ → ℤ → Bool
same_int i j = int_le i j && int_le j i

-- the same place, wherever it is
abbrev pub same_anchor : Anchor → Anchor → Bool
same_anchor First First = true
same_anchor (Variable id low high proved) (Variable other low' high' proved') = id == other
same_anchor First (Variable other low' high' proved') = false
same_anchor (Variable id low high proved) First = false

-- an anchor with more places and no more that is proved
abbrev pub covers_places : Anchor → Anchor → Bool
covers_places x y = int_le (low_of x) (low_of y) && int_le (high_of y) (high_of x)

abbrev pub proves_less : {D : Type 0} → AbsState D → AbsState D → Anchor → Anchor → Bool
proves_less a b x y = int_le (proved_of a x) (proved_of b y)

abbrev pub covers_anchor : {D : Type 0} → AbsState D → AbsState D → Anchor → Anchor → Bool
covers_anchor a b x y = covers_places x y && proves_less a b x y

-- a value of which less is known
abbrev pub covers_value : {D : Type 0} → Operations D → AbsState D → AbsState D → AbstractValue D → AbstractValue D → Bool
covers_value ops a b Nothing v = true
covers_value ops a b (Scalar x) (Scalar y) = ops.covers x y
covers_value ops a b Ctx Ctx = true
covers_value ops a b (Stack k) (Stack l) = same_int k l
covers_value ops a b (Data x k) (Data y l) = same_int k l && covers_anchor a b x y
covers_value ops a b End End = true
covers_value ops a b _ _ = false

abbrev pub covers_values : {D : Type 0} → Operations D → AbsState D → AbsState D → List (AbstractValue D) → List (AbstractValue D) → Bool
covers_values ops a b [] others = true
covers_values ops a b (v ∷ vs) [] = false
covers_values ops a b (v ∷ vs) (u ∷ us) = covers_value ops a b v u && covers_values ops a b vs us

-- two registers of the one state with one anchor have one in the other state too
abbrev pub have_one_anchor : {D : Type 0} → AbstractValue D → AbstractValue D → Bool
have_one_anchor (Data x k) (Data y l) = same_anchor x y
have_one_anchor _ _ = false

-- a place of the datagram
abbrev pub is_place : {D : Type 0} → AbstractValue D → Bool
is_place (Data x k) = true
is_place _ = false

abbrev pub stands_for : {D : Type 0} → AbstractValue D → AbstractValue D → List (AbstractValue D) → List (AbstractValue D) → Bool
stands_for v u (w ∷ ws) (x ∷ xs) = (not (have_one_anchor v w) || have_one_anchor u x) && stands_for v u ws xs
stands_for v u _ _ = true

abbrev pub share_alike : {D : Type 0} → List (AbstractValue D) → List (AbstractValue D) → Bool
share_alike (v ∷ vs) (u ∷ us) = stands_for v u vs us && share_alike vs us
share_alike _ _ = true

-- marks that are all set in the other
abbrev pub covers_marks : List Bool → List Bool → Bool
covers_marks [] others = true
covers_marks (m ∷ ms) [] = not m && covers_marks ms []
covers_marks (m ∷ ms) (o ∷ os) = (not m || o) && covers_marks ms os

-- no more is proved of the datagram, and no more bytes of the stack are set
abbrev pub covers_memory : {D : Type 0} → AbsState D → AbsState D → Bool
covers_memory a b = int_le a.proved b.proved && covers_marks a.marks.cells b.marks.cells

abbrev pub covers : {D : Type 0} → Operations D → AbsState D → AbsState D → Bool
covers ops a b = (covers_values ops a b a.values b.values && share_alike a.values b.values) && covers_memory a b
