-- Meaning. A turn of a server: what comes at an endpoint is recorded, decided by one step of the relay, answered where that is
-- allowed, and counted.
use Rattle.std.specs.Prelude.{◌≡◌, ℕ, ◌<◌, ◌≤◌, ◌⊎◌, Bool, true, false, List, [], ◌∷◌, length, take, Option, None, Some, Result, Ok, Err, IsErr}
use Rattle.addresses.specs.declared.address.Addr.{Addr}
use Rattle.events.specs.Events.{Event, Datagram, Sending, ToPeer, ToClient}
use Rattle.events.specs.declared.meta.Meta.{Meta}
use Rattle.events.specs.declared.meta.Source.{Source}
use Rattle.events.specs.declared.meta.Source.TheVariants as source
use Rattle.peer_filter.specs.Filters.{Filter, allows, allows_client}
use Rattle.relay.specs.ByPrograms.{disposition_of_datagram}
use Rattle.relay.specs.EventRuns.{side_of, verdict_of_datagram}
use Rattle.relay.specs.Harmless.{IsHarmless}
use Rattle.relay.specs.Relays.{RelayContents, state_of}
use Rattle.relay.specs.Replays.{system_of}
use Rattle.relay.specs.Shipped.{AreShipped}
use Rattle.relay.specs.Steps.{HasStepped}
use Rattle.rules.specs.ByRules.{by_rules}
use Rattle.rules.specs.Systems.{SystemOutcome, system_step}
use Rattle.rules.specs.declared.disposition.Disposition.{Disposition}
use Rattle.semantics.specs.declared.limits.TheConstants.{MAX_DATAGRAM}
use Rattle.server.specs.Calls.{Call, Received, Sent, HasReported}
use Rattle.machine.specs.declared.context.Side.{Side}
use Rattle.server.specs.Counters.{datagram_kind, HasRaised, HasCounted, HasCountedVerdict}
use Rattle.server.specs.declared.counters.Counter.{Counter}
use Rattle.server.specs.declared.counters.Counter.TheVariants as counter
use Rattle.server.specs.declared.counters.TurnOutcome.{TurnOutcome}
use Rattle.server.specs.declared.counters.TurnOutcome.TheVariants as outcome
use Rattle.server.specs.declared.link.Place.{Place}
use Rattle.server.specs.declared.link.Place.TheVariants as endpoint
use Rattle.server.specs.declared.link.LinkFault.{LinkFault}
use Rattle.server.specs.declared.turning.Arrival.{Arrival}
use Rattle.server.specs.declared.turning.Arrived.{Arrived}
use Rattle.server.specs.declared.turning.Served.{Served}
use Rattle.tables.specs.Moments.{moment_of}

-- ---- what comes

-- what comes at the clients' socket is a client's, and what comes at a slot's is a peer's
abbrev pub source_at : Place → Addr → Source
source_at endpoint.Client address = source.Client address
source_at (endpoint.Slot slot) address = source.Peer slot address

abbrev pub meta_at : Arrival → Addr → Meta
meta_at arrival from =
    record { now = arrival.now; tx = arrival.tx; from = source_at arrival.endpoint from }

-- a datagram of n bytes, the first ones of the buffer
abbrev pub arrived : Arrival → List ℕ → ℕ → Addr → Arrived
arrived arrival buffer n from =
    record { meta = meta_at arrival from; n = n; kind = datagram_kind arrival.endpoint (take n buffer) }

-- A fault, nothing, or a datagram, which is recorded; one longer than a datagram may be is a fault.
abbrev pub HasArrived : Arrival → List ℕ → Result (Option (ℕ × Addr)) LinkFault → List Event → Result (Option Arrived) LinkFault → Type 0
HasArrived arrival buffer (Err fault) recorded result = (recorded ≡ []) × (result ≡ Err fault)
HasArrived arrival buffer (Ok None) recorded result = (recorded ≡ []) × (result ≡ Ok None)
HasArrived arrival buffer (Ok (Some (n, from))) recorded result =
    ((n ≤ MAX_DATAGRAM) × (recorded ≡ Datagram (meta_at arrival from) (take n buffer) ∷ []) × (result ≡ Ok (Some (arrived arrival buffer n from))))
    ⊎ ((MAX_DATAGRAM < n) × (recorded ≡ []) × IsErr result)

-- one receive at the endpoint, which leaves these bytes in the buffer, and what is recorded of it
pub record IsReceived (arrival : Arrival) (buffer : List ℕ) (before after : Option (List Call)) (former latter : Option (List Event)) (result : Result (Option Arrived) LinkFault) : Type 0 where
  pub received : Result (Option (ℕ × Addr)) LinkFault
  pub recorded : List Event
  pub reported : HasReported before after (Received arrival.endpoint buffer received ∷ [])
  pub records : HasReported former latter recorded
  pub arrived : HasArrived arrival buffer received recorded result

-- ---- what is sent

-- to a peer from the socket of its slot, and to a client from the clients'
abbrev pub send_of : Sending → Result (Unit {0}) LinkFault → Call
send_of (ToPeer slot peer bytes) answer = Sent (endpoint.Slot slot) peer bytes answer
send_of (ToClient client bytes) answer = Sent endpoint.Client client bytes answer

-- each peer without a filter
abbrev pub may_reach : Option Filter → Addr → Bool
may_reach None peer = true
may_reach (Some filter) peer = allows filter peer

-- each client without a filter
abbrev pub may_answer : Option Filter → Addr → Bool
may_answer None client = true
may_answer (Some filter) client = allows_client filter client

-- to the peers that may be reached, and to the clients that may be answered
abbrev pub may_send : Option Filter → Sending → Bool
may_send filter (ToPeer slot peer bytes) = may_reach filter peer
may_send filter (ToClient client bytes) = may_answer filter client

-- what becomes of a datagram with which this was done, and whose answer was sent or wasn't
abbrev pub outcome_of_send : Disposition → Result (Unit {0}) LinkFault → TurnOutcome
outcome_of_send done (Ok sent) = outcome.Done done
outcome_of_send done (Err fault) = outcome.SendFailed

-- an answer is sent once, unless its peer may not be reached, or its client not be answered; without an answer nothing is sent
abbrev pub HasAnswered : Option Filter → Option Sending → Disposition → List Call → TurnOutcome → Type 0
HasAnswered filter None done sends became = (sends ≡ []) × (became ≡ outcome.Done done)
HasAnswered filter (Some sending) done sends became =
    ((may_send filter sending ≡ true)
    × (answer : Result (Unit {0}) LinkFault) × (sends ≡ send_of sending answer ∷ []) × (became ≡ outcome_of_send done answer))
    ⊎ ((may_send filter sending ≡ false) × (sends ≡ []) × (became ≡ outcome.Denied))

-- the same, as the link reports it
pub record IsAnswered (filter : Option Filter) (answer : Option Sending) (done : Disposition) (before after : Option (List Call)) (became : TurnOutcome) : Type 0 where
  pub sends : List Call
  pub reported : HasReported before after sends
  pub answered : HasAnswered filter answer done sends became

-- ---- what is decided

-- rows, greatest moment, nonce, configuration and programs are as before, and nothing is sent
pub record IsUntouched (old new : RelayContents) (sends : List Call) : Type 0 where
  pub state : state_of new ≡ state_of old
  pub config : new.config ≡ old.config
  pub programs : new.programs ≡ old.programs
  pub unsent : sends ≡ []

-- what the relay's system makes of a datagram
abbrev pub outcome_of_bytes : RelayContents → Meta → List ℕ → SystemOutcome
outcome_of_bytes r given bytes = system_step (system_of r) r.config (state_of r) (Datagram given bytes)

-- what the rules make of it
abbrev pub ruled_outcome_of_bytes : RelayContents → Meta → List ℕ → SystemOutcome
ruled_outcome_of_bytes r given bytes = system_step by_rules r.config (state_of r) (Datagram given bytes)

-- what is done with it
abbrev pub disposition_of_bytes : RelayContents → Meta → List ℕ → Disposition
disposition_of_bytes r given bytes =
    disposition_of_datagram r.programs r.config (moment_of r.greatest given.now) given.tx given.from r.rows bytes

-- the relay has stepped; with the shipped programs the step is the rules', and with any programs it harms nobody
pub record HasDecided (old new : RelayContents) (given : Meta) (bytes : List ℕ) : Type 0 where
  pub stepped : HasStepped old new (outcome_of_bytes old given bytes)
  pub rules : AreShipped old.programs → outcome_of_bytes old given bytes ≡ ruled_outcome_of_bytes old given bytes
  pub harmless : IsHarmless old.programs old.config (state_of old) given bytes (outcome_of_bytes old given bytes).answer

-- ---- a turn

-- a datagram was decided and answered
pub record HasHandled (filter : Option Filter) (old new : RelayContents) (a : Arrived) (bytes : List ℕ) (sends : List Call) (result : Result (Option Served) LinkFault) : Type 0 where
  pub decided : HasDecided old new a.meta bytes
  pub became : TurnOutcome
  pub answered : HasAnswered filter (outcome_of_bytes old a.meta bytes).answer (disposition_of_bytes old a.meta bytes) sends became
  pub served : result ≡ Ok (Some (record { from = a.meta.from; kind = a.kind; outcome = became; verdict = verdict_of_datagram old a.meta bytes }))

-- a fault, nothing, or a datagram
abbrev pub HasTurned : Option Filter → RelayContents → RelayContents → List ℕ → Result (Option Arrived) LinkFault → List Call → Result (Option Served) LinkFault → Type 0
HasTurned filter old new buffer (Err fault) sends result = IsUntouched old new sends × (result ≡ Err fault)
HasTurned filter old new buffer (Ok None) sends result = IsUntouched old new sends × (result ≡ Ok None)
HasTurned filter old new buffer (Ok (Some a)) sends result = HasHandled filter old new a (take a.n buffer) sends result

-- One receive at the endpoint, into the whole room of the relay; a record of what came; and what follows from it.
pub record IsTurn (filter : Option Filter) (arrival : Arrival) (old new : RelayContents) (before after : Option (List Call)) (former latter : Option (List Event)) (result : Result (Option Served) LinkFault) : Type 0 where
  pub received : Result (Option (ℕ × Addr)) LinkFault
  pub buffer : List ℕ
  pub room : length buffer ≡ MAX_DATAGRAM
  pub sends : List Call
  pub reported : HasReported before after (Received arrival.endpoint buffer received ∷ sends)
  pub recorded : List Event
  pub records : HasReported former latter recorded
  pub came : Result (Option Arrived) LinkFault
  pub arrived : HasArrived arrival buffer received recorded came
  pub taken : HasTurned filter old new buffer came sends result

-- a datagram is counted as one of its kind that came, with what became of it, and a receive that failed as that
abbrev pub HasCountedTurn : Result (Option Served) LinkFault → (Counter → ℕ) → (Counter → ℕ) → Type 0
HasCountedTurn (Err fault) old new = HasRaised counter.ReceiveFaults old new
HasCountedTurn (Ok None) old new = (c : Counter) → new c ≡ old c
HasCountedTurn (Ok (Some served)) old new = HasCounted served.kind served.outcome old new

-- and so is the verdict of the program that ran
abbrev pub HasCountedTurnVerdict : Result (Option Served) LinkFault → (Side × ℕ → ℕ) → (Side × ℕ → ℕ) → Type 0
HasCountedTurnVerdict (Err fault) old new = (v : Side × ℕ) → new v ≡ old v
HasCountedTurnVerdict (Ok None) old new = (v : Side × ℕ) → new v ≡ old v
HasCountedTurnVerdict (Ok (Some served)) old new = HasCountedVerdict (side_of served.from) served.verdict old new
