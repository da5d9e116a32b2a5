-- Meaning. What it says that programs are confined: whatever events come, each sending is permitted at its moment.
use Rattle.std.specs.Prelude.{◌≡◌, List, Option, None, IfSome}
use Rattle.control.specs.declared.config.Config.{Config}
use Rattle.tables.specs.Moments.{moment_of}
use Rattle.tables.specs.Rows.{rows_at}
use Rattle.events.specs.Events.{Event, Datagram, Nonce, Sending}
use Rattle.rules.specs.Permitted.{IsPermitted}
use Rattle.rules.specs.declared.confinement.Alias.{Alias}
use Rattle.rules.specs.Systems.{SystemState, System, system_step, state_after_events}

-- what is sent for an event is permitted, over the rows that are live at the moment of the event
abbrev pub IsPermittedFor : List Alias → SystemState → Event → Option Sending → Type 0
IsPermittedFor aliases s (Datagram given bytes) sent = IfSome sent (IsPermitted aliases given.from (rows_at (moment_of s.greatest given.now) s.rows))
IsPermittedFor aliases s (Nonce text) sent = sent ≡ None

-- from a state on, after any events, whatever event comes next
abbrev pub SendsWhatIsPermitted : List Alias → System → Config → SystemState → Type 0
SendsWhatIsPermitted aliases system config s = (events : List Event) (next : Event)
    → IsPermittedFor aliases (state_after_events system config s events) next
    (system_step system config (state_after_events system config s events) next).answer
