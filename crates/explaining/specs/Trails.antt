-- Internal. What the search keeps: the current path, and for each state that waits how much of the path leads to it.
use Rattle.std.specs.Prelude.{◌≡◌, ℕ, ◌≤◌, List, [], ◌∷◌, ◌++◌, length, reverse, take, All}
use Rattle.insn.specs.declared.instruction.Insn.{Insn}
use Rattle.interval.specs.Intervals.{interval_ops}
use Rattle.interval.specs.declared.interval.Interval.{Interval}
use Rattle.verifier.specs.declared.walk.Pending.{Pending}
use Rattle.explaining.specs.Paths.{IsStatePath, EndsStatePath}
use Rattle.explaining.specs.declared.searching.Trail.{Trail}

-- The states that wait, the next one first, each with a depth: so many states of the path lead to it. The depths do not rise,
-- and the first one is at most `most`.
abbrev pub BranchOff : List Insn → List (Pending Interval) → ℕ → List ℕ → List (Pending Interval) → Type 0
BranchOff code path most [] [] = Unit {0}
BranchOff code path most [] (w ∷ waits) = ⊥
BranchOff code path most (d ∷ depths) [] = ⊥
BranchOff code path most (d ∷ depths) (w ∷ waits) = (d ≤ most) × IsStatePath interval_ops code (take d path ++ w ∷ []) × BranchOff code path d depths waits

-- between two units of work: each state that waits branches off the path
pub record IsTrail (code : List Insn) (waits : List (Pending Interval)) (t : Trail) : Type 0 where
  pub path : IsStatePath interval_ops code t.path.items
  pub branches : BranchOff code t.path.items (length t.path.items) (reverse t.depths.items) (reverse waits)
  pub firsts : All (EndsStatePath interval_ops code) t.firsts.items

-- the path leads to a state, and the other ones that wait branch off it
pub record LeadsUp (code : List Insn) (rest : List (Pending Interval)) (here : Pending Interval) (t : Trail) : Type 0 where
  pub before : List (Pending Interval)
  pub path_is : t.path.items ≡ before ++ here ∷ []
  pub branches : BranchOff code t.path.items (length t.path.items) (reverse t.depths.items) (reverse rest)

-- before a unit of work: the path leads to the state to follow next
pub record IsHeaded (code : List Insn) (waits : List (Pending Interval)) (t : Trail) : Type 0 where
  pub path : IsStatePath interval_ops code t.path.items
  pub leads : (rest : List (Pending Interval)) (here : Pending Interval) → waits ≡ rest ++ here ∷ [] → LeadsUp code rest here t
  pub firsts : All (EndsStatePath interval_ops code) t.firsts.items
