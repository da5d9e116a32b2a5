-- Meaning. The search among kept states for one that covers another state, which continues by so much work at a time.
use Rattle.std.specs.Prelude.{◌≡◌, ℕ, ◌+◌, ◌*◌, ◌≤◌, ◌<◌, true, false, List, length, take}
use Rattle.std.specs.List.{list_any}
use Rattle.interval.specs.Domains.{Operations}
use Rattle.absstate.specs.Covers.{covers}
use Rattle.absstate.specs.declared.abstract_state.AbsState.{AbsState}
use Rattle.verifier.specs.Keeping.{HasCover}
use Rattle.verifier.specs.declared.kept.SearchProgress.{SearchProgress}
use Rattle.verifier.specs.declared.kept.SearchProgress.TheVariants.{Covered, Uncovered, Open}
use Rattle.verifier.specs.declared.weights.TheConstants.{KEPT_STATE, SEARCH}

-- none of the first ones of some states covers a state
pub record HasPassed {D : Type 0} (ops : Operations D) (states : List (AbsState D)) (passed : ℕ) (a : AbsState D) : Type 0 where
  pub inside : passed ≤ length states
  pub none : list_any (λ kept. covers ops kept a) (take passed states) ≡ false

-- some more of them don't cover it, and there are others
pub record IsOpen {D : Type 0} (ops : Operations D) (states : List (AbsState D)) (before passed : ℕ) (a : AbsState D) : Type 0 where
  pub more : before < passed
  pub others : passed < length states
  pub has_passed : HasPassed ops states passed a

-- what a search that had passed the first ones finds
abbrev pub Finds : {D : Type 0} → Operations D → (D → ℕ → Type 0) → List (AbsState D) → ℕ → AbsState D → SearchProgress → Type 0
Finds ops Member states before a Covered = (list_any (λ kept. covers ops kept a) states ≡ true) × HasCover Member states a
Finds ops Member states before a Uncovered = list_any (λ kept. covers ops kept a) states ≡ false
Finds ops Member states before a (Open passed) = IsOpen ops states before passed a

-- the states that are passed after a search
abbrev pub passed_after : SearchProgress → ℕ → ℕ
passed_after Covered count = count
passed_after Uncovered count = count
passed_after (Open passed) count = passed

-- at least 1 for each state that was passed
abbrev pub IsCounted : SearchProgress → ℕ → ℕ → ℕ → Type 0
IsCounted Covered count before weight = Unit {0}
IsCounted Uncovered count before weight = count ≤ before + weight
IsCounted (Open passed) count before weight = passed ≤ before + weight

-- what a search weighs among so many states, of which it had passed the first ones
pub record Weighs (found : SearchProgress) (count before weight : ℕ) : Type 0 where
  pub counted : IsCounted found count before weight
  pub each : weight + KEPT_STATE * before ≤ KEPT_STATE * passed_after found count
  pub most : weight ≤ SEARCH + KEPT_STATE
