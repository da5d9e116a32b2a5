-- Internal. A depth-first search: which slots were seen, the path to the current one, and what was placed.
use Rattle.std.specs.Prelude.{◌≡◌, ℕ, ◌+◌, ◌-◌, ◌≤◌, ℤ, pos, ◌⊎◌, List, [], ◌∷◌, length, map, Option, Some, None, Ok, slice_index_or, reverse}
use Rattle.std.specs.List.{sum_by}
use Rattle.insn.specs.Encoding.{slots_of, slot_count}
use Rattle.insn.specs.Jumps.{with_distance}
use Rattle.insn.specs.declared.decoding.TheConstants.{MAX_SLOTS}
use Rattle.insn.specs.declared.instruction.Insn.{Insn}
use Rattle.insn.specs.declared.instruction.Insn.TheVariants as insn
use Rattle.semantics.specs.Slots.{fetch, slots}
use Rattle.semantics.specs.Flow.{branches}
use Rattle.semantics.specs.declared.fetching.Fetched.{Fetched}
use Rattle.semantics.specs.declared.fetching.Fetched.TheVariants.{Begins, Inside, Past}
use Rattle.semantics.specs.declared.fetching.Branch.{Branch}
use Rattle.semantics.specs.declared.fetching.Branch.TheVariants.{NotTaken, Taken}
use Rattle.semantics.specs.declared.fetching.Visit.{Visit}
use Rattle.ordering.specs.Orders.{IsOneOf, LeadsBy, Leads}
use Rattle.ordering.specs.BranchTargets.{IsVisit}
use Rattle.ordering.specs.Tails.{tail_list, fetch_back, IsTail}
use Rattle.ordering.specs.declared.places.Places.{Places}
use Rattle.ordering.specs.declared.places.Places.TheVariants.{Kept, Moved}
use Rattle.ordering.specs.declared.search.Mark.{Mark}
use Rattle.ordering.specs.declared.search.Mark.TheVariants.{Unseen, Open, Placed}
use Rattle.ordering.specs.declared.search.Look.{Look}
use Rattle.ordering.specs.declared.search.Look.TheVariants.{New, Known}
use Rattle.ordering.specs.declared.search.Search.{Search}
use Rattle.ordering.specs.declared.tail.Tail.{Tail}

-- ---- what was placed

abbrev pub mark_at : List Mark → ℕ → Mark
mark_at marks slot = slice_index_or marks slot Unseen

-- the slot of an instruction that has a place, in a program of so many slots
abbrev pub slot_of_mark : ℕ → Mark → Option ℕ
slot_of_mark slots Unseen = None
slot_of_mark slots Open = None
slot_of_mark slots (Placed place) = Some (slots - place)

-- a branch of the instruction at a slot leads to a slot that has a place
pub record LeadsToPlace (code : List Insn) (marks : List Mark) (slot : ℕ) (i : Insn) (branch : Branch) (place : ℕ) : Type 0 where
  pub to : ℕ
  pub leads : LeadsBy code slot i branch (Ok to)
  pub mark : mark_at marks to ≡ Placed place

-- n slots before the end is a jump to a place
pub record JumpsTo (rest : List Insn) (n place : ℕ) : Type 0 where
  pub inside : n ≤ slot_count rest
  pub ahead : ℕ
  pub here : fetch_back rest n ≡ Begins (insn.Jump (pos ahead))
  pub at : n ≡ place + 1 + ahead

-- n slots before the end is a place, or a jump to it
abbrev pub ArrivesAt : List Insn → ℕ → ℕ → Type 0
ArrivesAt rest n place = (n ≡ place) ⊎ JumpsTo rest n place

-- the taken branch of an instruction leads to the place of the slot that it leads to in the old program
pub record TakesTo (code : List Insn) (marks : List Mark) (slot : ℕ) (i : Insn) (n : ℕ) (distance : ℤ) : Type 0 where
  pub place : ℕ
  pub leads : LeadsToPlace code marks slot i Taken place
  pub ahead : ℕ
  pub is : distance ≡ pos ahead
  pub at : n ≡ place + 1 + ahead

-- and so does its fall-through, maybe over a jump
pub record FallsOnTo (code : List Insn) (marks : List Mark) (rest : List Insn) (slot : ℕ) (i : Insn) (n : ℕ) : Type 0 where
  pub place : ℕ
  pub leads : LeadsToPlace code marks slot i NotTaken place
  pub next : ℕ
  pub at : n ≡ next + slots_of i
  pub comes : ArrivesAt rest next place

-- the instruction at a slot has a place, n slots before the end: there it is, with another distance if it is a jump
pub record IsPlaced (code : List Insn) (marks : List Mark) (rest : List Insn) (slot n : ℕ) : Type 0 where
  pub insn : Insn
  pub here : fetch code slot ≡ Begins insn
  pub inside : n ≤ slot_count rest
  pub distance : ℤ
  pub there : fetch_back rest n ≡ Begins (with_distance insn distance)
  pub taken : IsOneOf (branches insn) Taken → TakesTo code marks slot insn n distance
  pub next : IsOneOf (branches insn) NotTaken → FallsOnTo code marks rest slot insn n

abbrev pub ArePlaced : List Insn → List Mark → List Insn → Type 0
ArePlaced code marks rest = (slot n : ℕ) → mark_at marks slot ≡ Placed n → IsPlaced code marks rest slot n

-- slot 0 was placed first, and every slot that branches lead to from there has a place
pub record IsOrdered (code : List Insn) (marks : List Mark) (rest : List Insn) : Type 0 where
  pub start : mark_at marks 0 ≡ Placed (slot_count rest)
  pub placed : ArePlaced code marks rest

-- the slots of the instructions that have a place, and one more for each
abbrev pub used : List Mark → List Fetched → ℕ
used [] all = 0
used (m ∷ marks) [] = 0
used (Placed place ∷ marks) (Begins i ∷ all) = slots_of i + 1 + used marks all
used (Placed place ∷ marks) (Inside ∷ all) = used marks all
used (Placed place ∷ marks) (Past ∷ all) = used marks all
used (Unseen ∷ marks) (f ∷ all) = used marks all
used (Open ∷ marks) (f ∷ all) = used marks all

-- ---- the path to the current slot, which is the first one

abbrev pub IsPathLink : List Insn → Visit → List Visit → Type 0
IsPathLink code v [] = v.slot ≡ 0
IsPathLink code v (from ∷ path) = Leads code from.slot v.slot

abbrev pub IsChain : List Insn → List Visit → Type 0
IsChain code [] = Unit {0}
IsChain code (v ∷ path) = IsVisit code v × IsPathLink code v path × IsChain code path

abbrev pub IsOn : List Visit → ℕ → Type 0
IsOn [] slot = ⊥
IsOn (v ∷ path) slot = (v.slot ≡ slot) ⊎ IsOn path slot

-- no slot is on it twice
abbrev pub IsSimple : List Visit → Type 0
IsSimple [] = Unit {0}
IsSimple (v ∷ path) = (IsOn path v.slot → ⊥) × IsSimple path

abbrev pub StartsPlaced : List Mark → List Insn → List Visit → Type 0
StartsPlaced marks rest [] = mark_at marks 0 ≡ Placed (slot_count rest)
StartsPlaced marks rest (v ∷ path) = Unit {0}

-- ---- the search

pub record IsSearch (code : List Insn) (marks : List Mark) (path : List Visit) (rest : List Insn) : Type 0 where
  pub count : length marks ≡ MAX_SLOTS
  pub chain : IsChain code path
  pub simple : IsSimple path
  pub are_open : (slot : ℕ) → IsOn path slot → mark_at marks slot ≡ Open
  pub on_path : (slot : ℕ) → mark_at marks slot ≡ Open → IsOn path slot
  pub placed : ArePlaced code marks rest
  pub start : StartsPlaced marks rest path
  pub room : slot_count rest ≤ used marks (slots code)

abbrev pub path_of : Search → List Visit
path_of s = reverse s.stack.items

-- before a slot is taken from the path, and while it is visited
pub record Searches (code : List Insn) (s : Search) : Type 0 where
  pub tail : IsTail s.tail
  pub search : IsSearch code s.marks.items (path_of s) (tail_list s.tail)

pub record Visits (code : List Insn) (at : Visit) (s : Search) : Type 0 where
  pub tail : IsTail s.tail
  pub search : IsSearch code s.marks.items (at ∷ path_of s) (tail_list s.tail)

abbrev pub weight : Mark → ℕ
weight Unseen = 2
weight Open = 0
weight (Placed place) = 0

-- the slots that are not seen yet count twice, and those on the path once
abbrev pub work_of : Search → ℕ
work_of s = sum_by weight s.marks.items + length s.stack.items

-- ---- what a branch leads to

-- a branch leads to an instruction
abbrev pub LeadsToVisit : List Insn → Visit → Visit → Type 0
LeadsToVisit code at to = IsVisit code to × Leads code at.slot to.slot

abbrev pub LooksAt : List Insn → List Mark → Visit → Branch → Look → Type 0
LooksAt code marks at branch (New to) = LeadsBy code at.slot at.insn branch (Ok to.slot) × IsVisit code to × (mark_at marks to.slot ≡ Unseen)
LooksAt code marks at branch (Known None) = IsOneOf (branches at.insn) branch → ⊥
LooksAt code marks at branch (Known (Some place)) = LeadsToPlace code marks at.slot at.insn branch place

-- the instructions of a program in order are placed, from its end
abbrev pub IsOrderedSearch : List Insn → Search → Type 0
IsOrderedSearch code s = IsTail s.tail × IsOrdered code s.marks.items (tail_list s.tail)

-- these are their places
abbrev pub ArePlaces : ℕ → List Mark → Places → Type 0
ArePlaces n marks Kept = ⊥
ArePlaces n marks (Moved found) = found.items ≡ map (slot_of_mark n) marks
