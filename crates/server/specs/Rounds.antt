-- Meaning. Rounds of a server, by the calls of its schedule.
use Rattle.std.specs.Prelude.{◌≡◌, ℕ, ◌+◌, ◌<◌, ◌≤◌, nat_lt, ◌==◌, ◌⊎◌, Bool, true, false, not, ◌&&◌, ◌||◌, List, [], ◌∷◌, length, Option, None, if◌then◌else◌}
use Rattle.std.specs.List.{position, position_or_len, list_any, count_by}
use Rattle.server.specs.Calls.{HasReported}
use Rattle.server.specs.Schedules.{status_at, is_new, is_due, put, reported, handed_out, begun}
use Rattle.server.specs.declared.schedule.Status.{Status}

-- A step of a round: a wait has reported an endpoint, or the next ready endpoint is asked for. Where that gives an endpoint a turn, it is
-- served at once, and `more` says whether it may have more then.
pub data Step : Type 0 where
  Report : (token : ℕ) (more : Bool) → Step
  Next : (more : Bool) → Step

-- whether a step gives an endpoint its turn
abbrev pub has_turn : List Status → Step → ℕ → Bool
has_turn endpoints (Report token more) t = is_new (status_at endpoints token) && (token == t)
has_turn endpoints (Next more) t = nat_lt t (length endpoints) && (position_or_len is_due endpoints == t)

-- what is known of the endpoints after a step
abbrev pub after : List Status → Step → List Status
after endpoints (Report token more) = if is_new (status_at endpoints token) then put (reported endpoints token) token more else reported endpoints token
after endpoints (Next more) = put (handed_out endpoints) (position_or_len is_due endpoints) more

abbrev pub after_all : List Status → List Step → List Status
after_all endpoints [] = endpoints
after_all endpoints (step ∷ steps) = after_all (after endpoints step) steps

-- how many turns an endpoint has
abbrev pub turns_of : ℕ → List Status → List Step → ℕ
turns_of t endpoints [] = 0
turns_of t endpoints (step ∷ steps) = (if has_turn endpoints step t then 1 else 0) + turns_of t (after endpoints step) steps

abbrev pub IsReportedIn : ℕ → List Step → Type 0
IsReportedIn t [] = ⊥
IsReportedIn t (Report token more ∷ steps) = (token ≡ t) ⊎ IsReportedIn t steps
IsReportedIn t (Next more ∷ steps) = IsReportedIn t steps

-- the next ready endpoint is none
abbrev pub IsOver : List Status → Type 0
IsOver endpoints = position is_due endpoints ≡ None

-- Whatever is reported and asked for in a round, and in which order, no endpoint has more than one turn. Once none is next, each
-- endpoint that was ready before the round, or was reported in it, has had exactly one; any other endpoint has none. From any moment
-- of a round to any moment of the next one, no endpoint has more than two.
pub record IsFair (endpoints : List Status) : Type 0 where
  pub once : (steps : List Step) (t : ℕ) → turns_of t endpoints steps ≤ 1
  pub served : (steps : List Step) (t : ℕ) → t < length endpoints → IsOver (after_all (begun endpoints) steps)
      → (((status_at endpoints t).is_ready ≡ true) ⊎ IsReportedIn t steps) → turns_of t (begun endpoints) steps ≡ 1
  pub others : (steps : List Step) (t : ℕ) → (status_at endpoints t).is_ready ≡ false → ¬ (IsReportedIn t steps) → turns_of t (begun endpoints) steps ≡ 0
  pub twice : (rest steps : List Step) (t : ℕ) → turns_of t endpoints rest + turns_of t (begun (after_all endpoints rest)) steps ≤ 2

-- ---- a round, by the turns that endpoints had

-- a turn of the endpoint with a token, and whether it says that the endpoint may have more
pub record EndpointTurn : Type 0 where
  pub token : ℕ
  pub more : Bool

-- how many turns an endpoint had among these
abbrev pub turn_count : ℕ → List EndpointTurn → ℕ
turn_count t turns = count_by (λ turn. turn.token == t) turns

-- whether a turn of the endpoint among these says that it may have more
abbrev pub may_have_more : ℕ → List EndpointTurn → Bool
may_have_more t turns = list_any (λ turn. (turn.token == t) && turn.more) turns

-- an endpoint that was ready before the round, or that is reported in it
abbrev pub is_awaited : List Status → List ℕ → ℕ → Bool
is_awaited endpoints reports t = nat_lt t (length endpoints) && ((status_at endpoints t).is_ready || list_any (λ u. u == t) reports)

-- an endpoint whose first report gives it its turn, and that is reported again
abbrev pub is_reported_again : List Status → List ℕ → ℕ → Bool
is_reported_again endpoints reports t = not (status_at endpoints t).is_ready && nat_lt 1 (count_by (λ u. u == t) reports)

-- each of these has exactly one turn, and nothing else has any
abbrev pub IsRound : List Status → List ℕ → List EndpointTurn → Type 0
IsRound endpoints reports turns = (t : ℕ) → turn_count t turns ≡ (if is_awaited endpoints reports t then 1 else 0)

-- What is known of an endpoint after the round: it is ready where its turn says that it may have more, or where it was reported after
-- its turn.
abbrev pub status_after : List Status → List ℕ → List EndpointTurn → ℕ → Status
status_after endpoints reports turns t = record {
  is_ready = may_have_more t turns || is_reported_again endpoints reports t;
  is_served = is_awaited endpoints reports t;
}

-- from some endpoints to others by a round, as the server reports its turns
pub record HasServedRound (old new : List Status) (reports : List ℕ) (former latter : Option (List EndpointTurn)) : Type 0 where
  pub turns : List EndpointTurn
  pub reported : HasReported former latter turns
  pub round : IsRound old reports turns
  pub count : length new ≡ length old
  pub known : (t : ℕ) → t < length old → status_at new t ≡ status_after old reports turns t
