-- Meaning. Moments, in seconds.
use Rattle.std.specs.Prelude.{ℕ, Bool, false, Option, None, Some, nat_lt, max, min}
use Rattle.tables.specs.declared.moment.TheConstants.{LATEST}

-- The moment that counts where t is handed in and the greatest moment so far is given: a clock that goes back counts as that
-- greatest moment, and none counts as later than the latest.
abbrev pub moment_of : ℕ → ℕ → ℕ
moment_of greatest t = max greatest (min t LATEST)

-- whether what has this end, if there is one, is live at a moment
abbrev pub is_live_at : ℕ → Option ℕ → Bool
is_live_at t None = false
is_live_at t (Some end) = nat_lt t end
