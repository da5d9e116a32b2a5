-- Internal. A relay that does the same with a datagram where its programs are not confined.
use Rattle.std.specs.Prelude.{◌≡◌, ℕ, Bool, None}
use Rattle.events.specs.declared.meta.Meta.{Meta}
use Rattle.relay.specs.Choices.{chosen_of}
use Rattle.relay.specs.Forwarding.{asked}
use Rattle.relay.specs.Relays.{RelayContents, datagram_at}
use Rattle.relay.specs.Steps.{disposition_of_step, outcome_of}

-- the relay, with programs that are not confined
abbrev pub unconfined : RelayContents → RelayContents
unconfined r = record r { programs = record r.programs { confinement = None } }

-- the relay as a step takes it that asks what confines its programs, or that doesn't
abbrev pub asking : Bool → RelayContents → RelayContents
asking asks r = record r { programs = record r.programs { confinement = asked asks r.programs.confinement } }

-- it does the same with a datagram
pub record IsSameUnconfined (r : RelayContents) (given : Meta) (n : ℕ) : Type 0 where
  pub outcome : outcome_of r given n ≡ outcome_of (unconfined r) given n
  pub disposition : disposition_of_step r given n ≡ disposition_of_step (unconfined r) given n
  pub choice : chosen_of r given (datagram_at r n) ≡ chosen_of (unconfined r) given (datagram_at r n)
