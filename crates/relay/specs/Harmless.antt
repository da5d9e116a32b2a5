-- Meaning. What no datagram does, whatever programs are loaded: none makes the relay send where no client has permitted it, none
-- makes it send much more than it is sent, and none changes the rows of others, or any without accepted credentials.
use Rattle.std.specs.Prelude.{◌≡◌, ◌⊎◌, List, ℕ, Option, IfSome}
use Rattle.control.specs.declared.config.Config.{Config}
use Rattle.events.specs.Events.{Datagram, Sending}
use Rattle.events.specs.declared.meta.Meta.{Meta}
use Rattle.relay.specs.Amplification.{IsBoundedFor}
use Rattle.relay.specs.ByPrograms.{Programs, by_programs}
use Rattle.relay.specs.Confinement.{IsPermittedFor}
use Rattle.relay.specs.Requests.{IsRequestEvent}
use Rattle.rules.specs.Isolation.{KeepsOthers}
use Rattle.rules.specs.Systems.{SystemState, system_step}
use Rattle.tables.specs.Moments.{moment_of}
use Rattle.tables.specs.Rows.{Rows, rows_at}

-- the rows that a datagram leaves
abbrev pub rows_left : Programs → Config → SystemState → Meta → List ℕ → Rows
rows_left programs config s given bytes = (system_step (by_programs programs) config s (Datagram given bytes)).state.rows

-- the rows that are live at its moment
abbrev pub live_at : SystemState → Meta → Rows → Rows
live_at s given rows = rows_at (moment_of s.greatest given.now) rows

-- where programs are confined, what is sent is permitted; it is of a bounded length; and the rows change only by a request whose
-- credentials are accepted, and then only those of its client
pub record IsHarmless (programs : Programs) (config : Config) (s : SystemState) (given : Meta) (bytes : List ℕ) (sent : Option Sending) : Type 0 where
  pub permitted : IfSome programs.confinement (λ confinement. IsPermittedFor confinement.aliases.items s (Datagram given bytes) sent)
  pub bounded : IsBoundedFor programs config s (Datagram given bytes) sent
  pub requests : (rows_left programs config s given bytes ≡ s.rows) ⊎ IsRequestEvent programs config s (Datagram given bytes)
  pub others : KeepsOthers given.from (live_at s given s.rows) (live_at s given (rows_left programs config s given bytes))
