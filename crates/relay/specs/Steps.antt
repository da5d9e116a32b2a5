-- Interface. A relay after a step, once the borrow of what it sends has ended.
use Rattle.std.specs.Prelude.{◌≡◌, ℕ, ⊤, List}
use Rattle.std.specs.Borrow.{Fml, MutBor, follows_so, Lends, Array, u8}
use mathlib.Core.Option.{none}
use Rattle.machine.specs.Contents.{with_room}
use Rattle.events.specs.Events.{Datagram}
use Rattle.events.specs.declared.meta.Meta.{Meta}
use Rattle.relay.specs.ByPrograms.{by_programs, disposition_of_datagram}
use Rattle.rules.specs.ByRules.{by_rules}
use Rattle.relay.specs.Relays.{RelayContents, state_of, datagram_at}
use Rattle.rules.specs.Systems.{SystemOutcome, system_step}
use Rattle.rules.specs.declared.disposition.Disposition.{Disposition}
use Rattle.tables.specs.Moments.{moment_of}
use Rattle.relay.specs.contracts.relay.Relay.{the_row}

-- the outcome of a datagram by the relay's programs
abbrev pub outcome_of : RelayContents → Meta → ℕ → SystemOutcome
outcome_of r given n = system_step (by_programs r.programs) r.config (state_of r) (Datagram given (datagram_at r n))

-- the outcome of the same datagram by the rules
abbrev pub ruled_outcome_of : RelayContents → Meta → ℕ → SystemOutcome
ruled_outcome_of r given n = system_step by_rules r.config (state_of r) (Datagram given (datagram_at r n))

-- what a relay does with it at a moment, and at the moment of the step
abbrev pub disposition_for : RelayContents → Meta → ℕ → ℕ → Disposition
disposition_for r given n moment =
    disposition_of_datagram r.programs r.config moment given.tx given.from r.rows (datagram_at r n)

abbrev pub disposition_of_step : RelayContents → Meta → ℕ → Disposition
disposition_of_step r given n = disposition_for r given n (moment_of r.greatest given.now)

-- the state is the system's, and configuration and programs are as before
pub record HasStepped (old new : RelayContents) (outcome : SystemOutcome) : Type 0 where
  pub state : state_of new ≡ outcome.state
  pub config : new.config ≡ old.config
  pub programs : new.programs ≡ old.programs

abbrev pub after_step : MutBor RelayContents → Meta → ℕ → Fml
after_step relay given n = follows_so the_row the_row relay.ghost_name none (λ _ _. ⊤) (λ new. HasStepped relay.now new (outcome_of relay.now given n))

-- the relay with the bytes that were written over its room
abbrev pub lends_relay_room : MutBor RelayContents → MutBor (List ℕ) → Fml
lends_relay_room relay bytes = Lends the_row (Array u8 0) relay bytes (λ w. record relay.now { frame = with_room relay.now.frame w })
