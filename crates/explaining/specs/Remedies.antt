-- Meaning. What would have helped a refused access to the datagram.
use Rattle.std.specs.Prelude.{ℕ, ℤ, pos, ◌+ℤ◌, ◌≤ℤ◌, Some, IsOk}
use Rattle.insn.specs.declared.register.Reg.{Reg}
use Rattle.semantics.specs.declared.limits.TheConstants.{MAX_DATAGRAM, MAX_OFFSET}
use Rattle.interval.specs.declared.interval.Interval.{Interval}
use Rattle.absstate.specs.AbstractStates.{abstract_at, low_of, high_of, with_least}
use Rattle.absstate.specs.AbstractSteps.{access_region}
use Rattle.absstate.specs.declared.abstract_state.AbsState.{AbsState}
use Rattle.explaining.specs.declared.text.DatagramPlace.{DatagramPlace}

-- the state in which a place is proved not to lie after the end, as by a comparison with it
abbrev pub state_compared : AbsState Interval → DatagramPlace → AbsState Interval
state_compared a place = with_least a place.anchor (Some place.offset)

-- In that state the n bytes that a register reaches by a displacement may be accessed. A pointer may lie at the place, and some
-- datagram reaches it.
pub record IsRemedy (a : AbsState Interval) (base : Reg) (displacement : ℤ) (n : ℕ) (place : DatagramPlace) : Type 0 where
  pub helps : IsOk (access_region (state_compared a place) (abstract_at (state_compared a place).values base) displacement n)
  pub near : (high_of place.anchor +ℤ place.offset) ≤ℤ MAX_OFFSET
  pub short : (low_of place.anchor +ℤ place.offset) ≤ℤ pos MAX_DATAGRAM
