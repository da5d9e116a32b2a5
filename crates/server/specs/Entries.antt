-- Internal. What a schedule stores of its endpoints.
use Rattle.std.specs.Prelude.{◌≡◌, ℕ, ◌≤◌, ◌<◌, eqb, List, [], ◌∷◌, map, false}
use Rattle.std.specs.List.{count_by}
use Rattle.server.specs.Schedules.{status_at, is_due}
use Rattle.server.specs.declared.schedule.Entry.{Entry}
use Rattle.server.specs.declared.schedule.Status.{Status}

abbrev pub status_in : ℕ → Entry → Status
status_in round e = record { is_ready = e.is_ready; is_served = eqb e.round round }

abbrev pub statuses_in : ℕ → List Entry → List Status
statuses_in round entries = map (status_in round) entries

abbrev pub unstamped : Entry → Entry
unstamped e = record e { round = 0 }

-- no round is later than the current one
abbrev pub AreStamped : ℕ → List Entry → Type 0
AreStamped round [] = Unit {0}
AreStamped round (e ∷ es) = (e.round ≤ round) × AreStamped round es

-- no endpoint before a token is due
abbrev pub ArePassed : ℕ → List Status → Type 0
ArePassed next endpoints = (k : ℕ) → k < next → is_due (status_at endpoints k) ≡ false

abbrev pub ready_count : List Status → ℕ
ready_count endpoints = count_by (λ s. s.is_ready) endpoints

pub record IsSchedule (round : ℕ) (entries : List Entry) (ready next : ℕ) : Type 0 where
  pub stamps : AreStamped round entries
  pub count : ready ≡ ready_count (statuses_in round entries)
  pub passed : ArePassed next (statuses_in round entries)
