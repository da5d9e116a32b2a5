-- Internal. The steps of a round, one after the other.
use Rattle.std.specs.Prelude.{◌≡◌, ℕ, nat_lt, Bool, true, false, List, [], ◌∷◌, ◌++◌, length, Option, if◌then◌else◌}
use Rattle.std.specs.List.{position_or_len}
use Rattle.server.specs.Calls.{HasReported}
use Rattle.server.specs.Rounds.{Step, Report, Next, EndpointTurn, after, after_all}
use Rattle.server.specs.Schedules.{is_due, is_new, status_at}
use Rattle.server.specs.declared.schedule.Status.{Status}

-- the turn that a step gives, if it gives one
abbrev pub turn_of : List Status → Step → List EndpointTurn
turn_of endpoints (Report token more) = if is_new (status_at endpoints token) then record { token = token; more = more } ∷ [] else []
turn_of endpoints (Next more) =
    if nat_lt (position_or_len is_due endpoints) (length endpoints) then record { token = position_or_len is_due endpoints; more = more } ∷ []
    else []

abbrev pub turns_in : List Status → List Step → List EndpointTurn
turns_in endpoints [] = []
turns_in endpoints (step ∷ steps) = turn_of endpoints step ++ turns_in (after endpoints step) steps

-- what a wait reports in steps
abbrev pub reports_in : List Step → List ℕ
reports_in [] = []
reports_in (Report token more ∷ steps) = token ∷ reports_in steps
reports_in (Next more ∷ steps) = reports_in steps

-- whether the next ready endpoint is asked for in steps
abbrev pub asks_in : List Step → Bool
asks_in [] = false
asks_in (Report token more ∷ steps) = asks_in steps
asks_in (Next more ∷ steps) = true

-- from some endpoints to others by steps in which these are reported, and, where it may be, the next ready endpoint is asked for
pub record HasGone (may_ask : Bool) (old new : List Status) (reports : List ℕ) (former latter : Option (List EndpointTurn)) : Type 0 where
  pub steps : List Step
  pub arrives : new ≡ after_all old steps
  pub reports_are : reports_in steps ≡ reports
  pub asks : may_ask ≡ false → asks_in steps ≡ false
  pub reported : HasReported former latter (turns_in old steps)
