-- Meaning. Systems: a state, the events that come, and the answers to a list of them.
use Rattle.std.specs.Prelude.{ℕ, Bool, true, List, [], ◌∷◌, Option, None, if◌then◌else◌}
use Rattle.addresses.specs.declared.address.Addr.{Addr}
use Rattle.control.specs.declared.config.Config.{Config}
use Rattle.events.specs.Events.{Event, Datagram, Nonce, Sending}
use Rattle.events.specs.declared.meta.Source.{Source}
use Rattle.events.specs.declared.meta.Source.TheVariants.{Client, Peer}
use Rattle.tables.specs.Addresses.{is_ipv4}
use Rattle.tables.specs.Moments.{moment_of}
use Rattle.tables.specs.Rows.{Rows, no_rows}

-- the rows of the tables, the greatest moment that was seen, and the nonce
pub record SystemState : Type 0 where
  pub rows : Rows
  pub greatest : ℕ
  pub nonce : List ℕ

-- no rows, no moment seen, and the configuration's nonce
abbrev pub first : Config → SystemState
first config = record { rows = no_rows config.slots; greatest = 0; nonce = config.nonce.bytes }

-- ---- one event

-- what is sent, if anything, and the rows afterwards
pub record SystemReply : Type 0 where
  pub answer : Option Sending
  pub rows : Rows

-- nothing is sent, and nothing changes
abbrev pub no_answer : Rows → SystemReply
no_answer rows = record { answer = None; rows = rows }

-- relaying changes no rows
abbrev pub reply_of_relaying : Rows → Option Sending → SystemReply
reply_of_relaying rows answer = record { answer = answer; rows = rows }

-- A system: the reply to a datagram of a client over IPv4 or of a peer, under a configuration, at a moment, with a transaction id.
abbrev pub System : Type 0
System = Config → ℕ → List ℕ → Source → Rows → List ℕ → SystemReply

abbrev pub address_of_source : Source → Addr
address_of_source (Client client) = client
address_of_source (Peer slot peer) = peer

-- clients are served over IPv4, and peers over both
abbrev pub is_served : Source → Bool
is_served (Client client) = is_ipv4 client
is_served (Peer slot peer) = true

abbrev pub if_served : System → System
if_served system config now tx from rows bytes =
    if is_served from then system config now tx from rows bytes else no_answer rows

-- the configuration with the current nonce
abbrev pub with_nonce : Config → List ℕ → Config
with_nonce config nonce = record config { nonce = record { bytes = nonce; spare = [] } }

-- an answer, and the state afterwards
pub record SystemOutcome : Type 0 where
  pub answer : Option Sending
  pub state : SystemState

-- every datagram's moment counts as seen, whatever is answered
abbrev pub outcome_at : ℕ → SystemState → SystemReply → SystemOutcome
outcome_at moment s reply = record { answer = reply.answer; state = record s { rows = reply.rows; greatest = moment } }

abbrev pub system_step : System → Config → SystemState → Event → SystemOutcome
system_step system config s (Datagram given bytes) = outcome_at (moment_of s.greatest given.now) s
    (if_served system (with_nonce config s.nonce) (moment_of s.greatest given.now) given.tx given.from s.rows bytes)
system_step system config s (Nonce text) = record { answer = None; state = record s { nonce = text } }

-- ---- lists of events

abbrev pub answers : System → Config → SystemState → List Event → List (Option Sending)
answers system config s [] = []
answers system config s (e ∷ events) =
    (system_step system config s e).answer ∷ answers system config (system_step system config s e).state events

abbrev pub state_after_events : System → Config → SystemState → List Event → SystemState
state_after_events system config s [] = s
state_after_events system config s (e ∷ events) = state_after_events system config (system_step system config s e).state events
