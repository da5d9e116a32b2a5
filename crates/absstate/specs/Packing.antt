-- Interface. States as they are kept, and the parts that distinguish them.
use Rattle.std.specs.Prelude.{◌≡◌, ℕ, ◌+◌, ◌<◌, ◌≤◌, ◌++◌, Bool, true, false, ℤ, List, [], ◌∷◌, take, drop, length, slice_index_or}
use Rattle.semantics.specs.declared.limits.TheConstants.{GROUPS}
use Rattle.std.specs.List.{flat_map}
use Rattle.interval.specs.Domains.{Operations}
use Rattle.absstate.specs.AbstractStates.{no_groups}
use Rattle.absstate.specs.Covers.{covers, have_one_anchor}
use Rattle.absstate.specs.InitialisedWords.{words_of, marks_of}
use Rattle.absstate.specs.declared.abstract_state.AbstractValue.{AbstractValue}
use Rattle.absstate.specs.declared.abstract_state.AbstractValue.TheVariants.{Nothing}
use Rattle.absstate.specs.declared.abstract_state.AbsState.{AbsState}
use Rattle.absstate.specs.declared.part.Part.{Part}
use Rattle.absstate.specs.declared.part.Part.TheVariants as part

-- no value is known
abbrev pub are_unknown : {D : Type 0} → List (AbstractValue D) → Bool
are_unknown [] = true
are_unknown (Nothing ∷ values) = are_unknown values
are_unknown (v ∷ values) = false

-- the groups of chunks, one chunk after the other
abbrev pub joined : {D : Type 0} → List (List (AbstractValue D)) → List (AbstractValue D)
joined chunks = flat_map (λ values. values) chunks

-- values with others written over them from an index on
abbrev pub written_over : {D : Type 0} → ℕ → List (AbstractValue D) → List (AbstractValue D) → List (AbstractValue D)
written_over at part values = take at values ++ part ++ drop (at + length part) values

-- the groups, where those after the ones that are listed hold no pointer
abbrev pub all_groups : {D : Type 0} → List (AbstractValue D) → List (AbstractValue D)
all_groups groups = groups ++ drop (length groups) no_groups

-- chunks hold the groups of a state
abbrev pub HoldGroups : {D : Type 0} → List (AbstractValue D) → List (List (AbstractValue D)) → Type 0
HoldGroups values chunks = (all_groups (joined chunks) ≡ values) × (length (joined chunks) ≤ GROUPS)

-- the state that is kept in these parts
abbrev pub unpacked : {D : Type 0} → List (AbstractValue D) → List (AbstractValue D) → List ℕ → ℤ → AbsState D
unpacked registers groups words proved = record { values = registers ++ all_groups groups; marks = record { cells = marks_of words }; proved = proved }

-- a part of a state
abbrev pub IsPartOf : {D : Type 0} → AbsState D → Part D → Type 0
IsPartOf a part.Unknown = Unit {0}
IsPartOf a (part.Proved proved) = a.proved ≡ proved
IsPartOf a (part.Value index value proved) = (slice_index_or a.values index Nothing ≡ value) × (a.proved ≡ proved)
IsPartOf a (part.Linked first second) = (first < second) × (have_one_anchor (slice_index_or a.values first Nothing) (slice_index_or a.values second Nothing) ≡ true)
IsPartOf a (part.Word index word) = slice_index_or (words_of a.marks.cells) index 0 ≡ word

-- a state does not cover another one, from which this part of it may tell it apart
pub record Differs {D : Type 0} (ops : Operations D) (a b : AbsState D) (part : Part D) : Type 0 where
  pub uncovered : covers ops a b ≡ false
  pub is_part : IsPartOf a part
