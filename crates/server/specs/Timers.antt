-- Meaning. The moments at which something is due, and those of datagrams.
use Rattle.std.specs.Prelude.{◌≡◌, ℕ, ◌+◌, ◌-◌, ◌/◌, ◌^◌, ◌<◌, min, nat_lt, Bool, true, false, ℤ, pos, ◌+ℤ◌, ◌-ℤ◌, unsigned_abs, if◌then◌else◌}
use Rattle.std.specs.Duration.{as_nanos, max_nanos}
use Rattle.std.specs.declared.time.Duration.{Duration}
use Rattle.server.specs.declared.clock.ServerClock.{ServerClock}
use Rattle.server.specs.declared.timer.Timer.{Timer}

-- one period after a moment, in nanoseconds, or the last moment that there is
abbrev pub first_moment : Duration → Duration → ℕ
first_moment now every = min (as_nanos now + as_nanos every) max_nanos

-- a timer that was due is set for one period after the moment, and another one is as before
abbrev pub IsTimerAfter : Timer → Duration → Bool → Timer → Type 0
IsTimerAfter old now true new = (new.every ≡ old.every) × (as_nanos new.next ≡ first_moment now old.every)
IsTimerAfter old now false new = new ≡ old

-- the second since 1970: that of the start, and what has passed since then by a clock that isn't set
abbrev pub second_at : ServerClock → Duration → ℕ
second_at clock elapsed = min (as_nanos clock.start + (as_nanos elapsed - as_nanos clock.elapsed)) max_nanos / 1_000_000_000

-- the whole seconds of a time
abbrev pub seconds_of : Duration → ℕ
seconds_of time = as_nanos time / 1_000_000_000

-- how many seconds a time is ahead of another one, where both are below 2^63
abbrev pub IsSecondsAhead : ℕ → ℕ → ℤ → Type 0
IsSecondsAhead time other ahead = time < 2 ^ 63 → other < 2 ^ 63 → pos other +ℤ ahead ≡ pos time

-- the system's clock was set: it is ahead by another number of seconds, which differs by more than one
abbrev pub is_set : ℤ → ℤ → Bool
is_set old new = nat_lt 1 (unsigned_abs (new -ℤ old))

abbrev pub offset_after : ℤ → ℤ → ℤ
offset_after old new = if is_set old new then new else old
