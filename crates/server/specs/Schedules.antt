-- Meaning. Which endpoints are served in a round, and what is known of them after each call of a schedule.
use Rattle.std.specs.Prelude.{ℕ, Bool, true, false, not, ◌&&◌, List, map, slice_set, if◌then◌else◌}
use Rattle.std.specs.List.{list_any, slice_index_or, position_or_len, count_by}
use Rattle.server.specs.declared.schedule.Status.{Status}

abbrev pub ready_at_first : Status
ready_at_first = record { is_ready = true; is_served = false }

-- a token that no endpoint has
abbrev pub no_endpoint : Status
no_endpoint = record { is_ready = false; is_served = true }

abbrev pub status_at : List Status → ℕ → Status
status_at endpoints token = slice_index_or endpoints token no_endpoint

-- a report of the endpoint asks for a turn: it isn't known to be ready, and has had none
abbrev pub is_new : Status → Bool
is_new s = not s.is_ready && not s.is_served

-- it was ready before, and has had no turn
abbrev pub is_due : Status → Bool
is_due s = s.is_ready && not s.is_served

-- in a new round no endpoint has had a turn
abbrev pub unserved : Status → Status
unserved s = record { is_ready = s.is_ready; is_served = false }

abbrev pub begun : List Status → List Status
begun endpoints = map unserved endpoints

-- an endpoint has its turn, or had it, and is ready or not; nothing changes where no endpoint has the token
abbrev pub put : List Status → ℕ → Bool → List Status
put endpoints token is_ready = slice_set endpoints token (record { is_ready = is_ready; is_served = true })

-- An endpoint that is ready stays so. Another one has its turn; where it has had it, it is ready for the next round.
abbrev pub reported : List Status → ℕ → List Status
reported endpoints token =
    if (status_at endpoints token).is_ready then endpoints else put endpoints token (status_at endpoints token).is_served

-- the first endpoint that is due has its turn
abbrev pub handed_out : List Status → List Status
handed_out endpoints = put endpoints (position_or_len is_due endpoints) true

abbrev pub has_ready : List Status → Bool
has_ready endpoints = list_any (λ s. s.is_ready) endpoints

-- how many endpoints are due
abbrev pub due_count : List Status → ℕ
due_count endpoints = count_by is_due endpoints
