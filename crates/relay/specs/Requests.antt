-- Meaning. Which events are requests with accepted credentials (RFC 8489, section 9.2.4): with any programs, rows change by them alone.
use Rattle.std.specs.Prelude.{◌⊎◌, ℕ, List, [], ◌∷◌, length}
use Rattle.addresses.specs.declared.address.Addr.{Addr}
use Rattle.control.specs.declared.config.Config.{Config}
use Rattle.events.specs.Events.{Event, Datagram, Nonce}
use Rattle.events.specs.declared.meta.Source.{Source}
use Rattle.events.specs.declared.meta.Source.TheVariants.{Client, Peer}
use Rattle.programs.specs.Runs.{run_for, datagram_in}
use Rattle.relay.specs.ByPrograms.{Programs, by_programs}
use Rattle.rules.specs.Authentication.{IsAuthenticated}
use Rattle.rules.specs.Systems.{SystemState, system_step, with_nonce}
use Rattle.tables.specs.Moments.{moment_of}
use Rattle.tables.specs.Rows.{Rows, rows_at}

-- a client's datagram as its program leaves it
abbrev pub passed_on : Programs → ℕ → List ℕ → Addr → Rows → List ℕ → List ℕ
passed_on programs now tx client rows bytes =
    datagram_in (length bytes) (run_for programs.client tx (Client client) (rows_at now rows) bytes).state

-- a datagram that is, as the program leaves it, a request whose credentials are accepted
abbrev pub IsRequestFrom : Programs → Config → ℕ → List ℕ → Source → Rows → List ℕ → Type 0
IsRequestFrom programs config now tx (Client client) rows bytes =
    IsAuthenticated config now client rows (passed_on programs now tx client rows bytes)
IsRequestFrom programs config now tx (Peer slot peer) rows bytes = ⊥

-- an event in the state in which it comes
abbrev pub IsRequestEvent : Programs → Config → SystemState → Event → Type 0
IsRequestEvent programs config s (Datagram given bytes) =
    IsRequestFrom programs (with_nonce config s.nonce) (moment_of s.greatest given.now) given.tx given.from s.rows bytes
IsRequestEvent programs config s (Nonce text) = ⊥

-- some event of a list
abbrev pub SomeRequest : Programs → Config → SystemState → List Event → Type 0
SomeRequest programs config s [] = ⊥
SomeRequest programs config s (e ∷ events) =
    IsRequestEvent programs config s e ⊎ SomeRequest programs config (system_step (by_programs programs) config s e).state events
