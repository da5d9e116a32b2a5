-- Internal. What a comparison of a place with the end implies of the datagram's length.
use Rattle.std.proofs.Common.{◌≡◌, ℕ, Bool, true, false, ℤ, pos, ◌+ℤ◌, ◌≤ℤ◌, ◌<ℤ◌, refl, sym, arith}
use Rattle.std.specs.Prelude.{int_le, int_lt, Option, Some, None}
use Rattle.std.proofs.lemmas.Int.{ints}
use Rattle.insn.specs.declared.condition.Condition.{Condition}
use Rattle.insn.specs.declared.condition.Condition.TheVariants as condition
use Rattle.semantics.specs.Effects.{comparison_of_places}
use Rattle.semantics.specs.LooseRuns.{Bound, AtMost, Below, HoldsOf, data_bound, converse}
use Rattle.semantics.specs.declared.fetching.Branch.{Branch}
use Rattle.semantics.specs.declared.fetching.Branch.TheVariants.{NotTaken, Taken}
use Rattle.semantics.specs.declared.reason.Reason.{Reason}
use Rattle.absstate.specs.AbstractSteps.{least_of, implied_by, order_implication}
use Rattle.absstate.specs.declared.branching.Implied.{Implied}
use Rattle.absstate.specs.laws.Step.Agreement.{Agree}

pub le_of : (a b : ℤ) → int_le a b ≡ true → a ≤ℤ b
le_of a b e = grind (arith, ints)

pub lt_of : (a b : ℤ) → int_lt a b ≡ true → a <ℤ b
lt_of a b e = grind (arith, ints)

pub not_le : (a b : ℤ) → int_le a b ≡ false → b <ℤ a
not_le a b e = grind (arith, ints)

pub not_lt : (a b : ℤ) → int_lt a b ≡ false → b ≤ℤ a
not_lt a b e = grind (arith, ints)

pub le_is_true : (a b : ℤ) → a ≤ℤ b → int_le a b ≡ true
le_is_true a b h = grind (arith, ints)

pub same_bool : (x y : Bool) → (x ≡ true → y ≡ true) → (y ≡ true → x ≡ true) → x ≡ y
same_bool true y f g = sym (f refl)
same_bool false true f g = g refl
same_bool false false f g = refl

-- two orders that are the same
pub same_order : (a b k d : ℤ) → (a ≤ℤ b → k ≤ℤ d) → (k ≤ℤ d → a ≤ℤ b) → int_le a b ≡ int_le k d
same_order a b k d f g = same_bool (int_le a b) (int_le k d) (λ e. le_is_true k d (f (le_of a b e))) (λ e. le_is_true a b (g (le_of k d e)))

-- the branch that the machine takes, by the outcome of its test
abbrev pub branch_if : Bool → Branch
branch_if true = Taken
branch_if false = NotTaken

unless_greater : (x : Bool) (k : ℤ) (n : ℕ) → int_lt (pos n) k ≡ x → HoldsOf (data_bound condition.Gt k (branch_if x)) n
unless_greater true k n e = tt
unless_greater false k n e = not_lt (pos n) k e

unless_at_least : (x : Bool) (k : ℤ) (n : ℕ) → int_le (pos n) k ≡ x → HoldsOf (data_bound condition.Ge k (branch_if x)) n
unless_at_least true k n e = tt
unless_at_least false k n e = not_le (pos n) k e

where_less : (x : Bool) (k : ℤ) (n : ℕ) → int_lt k (pos n) ≡ x → HoldsOf (data_bound condition.Lt k (branch_if x)) n
where_less true k n e = lt_of k (pos n) e
where_less false k n e = tt

where_at_most : (x : Bool) (k : ℤ) (n : ℕ) → int_le k (pos n) ≡ x → HoldsOf (data_bound condition.Le k (branch_if x)) n
where_at_most true k n e = le_of k (pos n) e
where_at_most false k n e = tt

-- what the branches imply, and that the bound of the branch taken holds
abbrev pub Implies : (Branch → Option Bound) → (Branch → Option Bound) → ℕ → Implied → Bool → Type 0
Implies known bound n implied taken = (implied ≡ implied_by known) × HoldsOf (bound (branch_if taken)) n

module _ (claimed : Reason → Type 0) (k place : ℤ) (n : ℕ) where
  pub first_agree : (c : Condition) → Agree claimed (Implies (data_bound c k) (data_bound c place) n) (order_implication c (data_bound c k)) (comparison_of_places c place (pos n))
  first_agree condition.Gt = (refl, unless_greater (int_lt (pos n) place) place n refl)
  first_agree condition.Ge = (refl, unless_at_least (int_le (pos n) place) place n refl)
  first_agree condition.Lt = (refl, where_less (int_lt place (pos n)) place n refl)
  first_agree condition.Le = (refl, where_at_most (int_le place (pos n)) place n refl)
  first_agree c = λ claim. refl

  pub second_agree : (c : Condition) → Agree claimed (Implies (data_bound (converse c) k) (data_bound (converse c) place) n) (order_implication c (data_bound (converse c) k)) (comparison_of_places c (pos n) place)
  second_agree condition.Gt = (refl, where_less (int_lt place (pos n)) place n refl)
  second_agree condition.Ge = (refl, where_at_most (int_le place (pos n)) place n refl)
  second_agree condition.Lt = (refl, unless_greater (int_lt (pos n) place) place n refl)
  second_agree condition.Le = (refl, unless_at_least (int_le (pos n) place) place n refl)
  second_agree c = λ claim. refl

-- a least reach from a place, where there is one, is within a length
abbrev pub IsLeast : ℤ → Option ℤ → ℕ → Type 0
IsLeast place None n = Unit {0}
IsLeast place (Some least) n = (place +ℤ least) ≤ℤ pos n

-- a bound on an offset from a place, as one on places
abbrev pub bound_on_places : ℤ → Option Bound → Option Bound
bound_on_places place None = None
bound_on_places place (Some (AtMost k)) = Some (AtMost (place +ℤ k))
bound_on_places place (Some (Below k)) = Some (Below (place +ℤ k))

pub data_shifts : (place k : ℤ) (c : Condition) (way : Branch) → data_bound c (place +ℤ k) way ≡ bound_on_places place (data_bound c k way)
data_shifts place k condition.Gt NotTaken = refl
data_shifts place k condition.Gt Taken = refl
data_shifts place k condition.Ge NotTaken = refl
data_shifts place k condition.Ge Taken = refl
data_shifts place k condition.Lt NotTaken = refl
data_shifts place k condition.Lt Taken = refl
data_shifts place k condition.Le NotTaken = refl
data_shifts place k condition.Le Taken = refl
data_shifts place k c way = refl

-- a bound holds of a length exactly where the least reach that it implies is within it
pub least_from_bound : (place : ℤ) (o : Option Bound) (n : ℕ) → HoldsOf (bound_on_places place o) n → IsLeast place (least_of o) n
least_from_bound place None n h = tt
least_from_bound place (Some (AtMost k)) n h = h
least_from_bound place (Some (Below k)) n h = omega (arith, ints)

pub bound_from_least : (place : ℤ) (o : Option Bound) (n : ℕ) → IsLeast place (least_of o) n → HoldsOf (bound_on_places place o) n
bound_from_least place None n h = tt
bound_from_least place (Some (AtMost k)) n h = h
bound_from_least place (Some (Below k)) n h = omega (arith, ints)

-- a bound of an offset is one on that offset
abbrev pub IsNearBound : ℤ → Option Bound → Type 0
IsNearBound k None = Unit {0}
IsNearBound k (Some (AtMost j)) = j ≡ k
IsNearBound k (Some (Below j)) = j ≡ k

pub near_bound : (k : ℤ) (c : Condition) (way : Branch) → IsNearBound k (data_bound c k way)
near_bound k condition.Gt NotTaken = refl
near_bound k condition.Gt Taken = tt
near_bound k condition.Ge NotTaken = refl
near_bound k condition.Ge Taken = tt
near_bound k condition.Lt NotTaken = tt
near_bound k condition.Lt Taken = refl
near_bound k condition.Le NotTaken = tt
near_bound k condition.Le Taken = refl
near_bound k c way = tt
