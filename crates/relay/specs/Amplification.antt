-- Meaning. That a relay with any programs is no amplifier: each datagram draws at most one, of a bounded length.
use Rattle.std.specs.Prelude.{◌≡◌, ◌⊎◌, ℕ, List, length, Option, None, IfSome}
use Rattle.control.specs.declared.config.Config.{Config}
use Rattle.events.specs.Events.{Event, Datagram, Nonce, Sending}
use Rattle.events.specs.declared.meta.Source.{Source}
use Rattle.events.specs.declared.meta.Source.TheVariants.{Client, Peer}
use Rattle.relay.specs.ByPrograms.{Programs, by_programs}
use Rattle.relay.specs.Requests.{passed_on}
use Rattle.rules.specs.Amplification.{IsRelayed, RespondsTo}
use Rattle.rules.specs.Systems.{SystemState, system_step, state_after_events, with_nonce}
use Rattle.tables.specs.Moments.{moment_of}
use Rattle.tables.specs.Rows.{Rows}

-- a response to a datagram as the program leaves it; a peer's draws none
abbrev pub RespondsAfterRun : Programs → Config → ℕ → List ℕ → Source → Rows → List ℕ → Sending → Type 0
RespondsAfterRun programs config now tx (Client client) rows bytes sending =
    RespondsTo config now client rows (passed_on programs now tx client rows bytes) sending
RespondsAfterRun programs config now tx (Peer slot peer) rows bytes sending = ⊥

-- what a datagram draws is relayed, and at most 67 bytes longer, or a response
abbrev pub IsBoundedFor : Programs → Config → SystemState → Event → Option Sending → Type 0
IsBoundedFor programs config s (Datagram given bytes) sent = IfSome sent (λ sending.
    IsRelayed (length bytes) sending
    ⊎ RespondsAfterRun programs (with_nonce config s.nonce) (moment_of s.greatest given.now) given.tx given.from s.rows bytes sending)
IsBoundedFor programs config s (Nonce text) sent = sent ≡ None

-- from a state on, after any events, whatever event comes next
abbrev pub IsNoAmplifier : Programs → Config → SystemState → Type 0
IsNoAmplifier programs config s = (events : List Event) (next : Event)
    → IsBoundedFor programs config (state_after_events (by_programs programs) config s events) next
    (system_step (by_programs programs) config (state_after_events (by_programs programs) config s events) next).answer
