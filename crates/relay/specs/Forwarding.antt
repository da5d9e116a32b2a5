-- Internal. What is to be sent for what was found.
use Rattle.std.specs.Prelude.{◌≡◌, ℕ, List, Bool, true, false, ◌||◌, is_some, Option, None, Some, option_map, if◌then◌else◌}
use Rattle.addresses.specs.declared.address.Addr.{Addr}
use Rattle.machine.specs.Contents as machine
use Rattle.machine.specs.Contents.{datagram_of, window_of}
use Rattle.machine.specs.Tracing.{IsOutcome}
use Rattle.machine.specs.declared.outcome.Outcome.{Outcome}
use Rattle.helpers.specs.LookUps.{held_answer}
use Rattle.helpers.specs.declared.tables_lookup.Lookup.{Lookup}
use Rattle.machine.specs.Contexts.{HelperAnswers}
use Rattle.tables.specs.Rows.{Rows, rows_at}
use Rattle.events.specs.Events.{Sending, ToPeer, ToClient}
use Rattle.programs.specs.Runs.{run_for, datagram_in, window_in}
use Rattle.events.specs.declared.meta.Meta.{Meta}
use Rattle.events.specs.declared.meta.Source.{Source}
use Rattle.events.specs.declared.meta.Source.TheVariants.{Client, Peer}
use Rattle.tables.specs.LookUps.{bound_channel, held_by, held_in, permission_of}
use Rattle.tables.specs.declared.held.Held.{Held}
use Rattle.semantics.specs.Runs.{Run}
use Rattle.relay.specs.ByPrograms.{program_for, relayed_where_sent}
use Rattle.relay.specs.Choices.{Chosen, Passing, Relaying}
use Rattle.rules.specs.Answers.{sending_of_answer, LiesInRoom}
use Rattle.rules.specs.ByRules.{from_client}
use Rattle.rules.specs.Dispositions.{client_disposition, disposition_of}
use Rattle.rules.specs.Permitted.{holds_as}
use Rattle.rules.specs.declared.confinement.Confinement.{Confinement}
use Rattle.rules.specs.declared.disposition.Discard.TheVariants.{ByProgram, Confined}
use Rattle.rules.specs.declared.disposition.Disposition.{Disposition}
use Rattle.rules.specs.declared.disposition.Disposition.TheVariants.{Discarded}
use Rattle.rules.specs.Systems.{SystemReply}
use Rattle.relay.specs.Relays.{RelayContents, datagram_at}
use Rattle.relay.specs.declared.forwarding.Forwarding.{Forwarding}
use Rattle.relay.specs.declared.forwarding.Forwarding.TheVariants as forwarding

-- the answers of look-ups
abbrev pub answers_of_look_up : Lookup → HelperAnswers
answers_of_look_up l = held_answer l.live

-- what a frame shows of its window
abbrev pub window_shown : machine.Contents → Option (List ℕ)
window_shown f = option_map (λ w. window_of f w) f.window

-- the outcome, and what the frame shows, of a run over a datagram of a length
pub record HasRun (size : ℕ) (o : Outcome) (f : machine.Contents) (run : Run) : Type 0 where
  pub outcome : IsOutcome o run
  pub datagram : datagram_of f ≡ datagram_in size run.state
  pub window : window_shown f ≡ window_in run.state

-- the run of a step
abbrev pub run_at : RelayContents → Meta → ℕ → Run
run_at r given n = run_for (program_for r.programs given.from) given.tx given.from (rows_at r.greatest r.rows) (datagram_at r n)

-- the reply to a client's datagram that is passed on
abbrev pub reply_of_passing : RelayContents → Addr → SystemReply
reply_of_passing r client = from_client r.config r.greatest client r.rows (datagram_of r.frame)

-- and what is done with it
abbrev pub disposition_of_passing : RelayContents → Addr → Disposition
disposition_of_passing r client = client_disposition r.config r.greatest client r.rows (datagram_of r.frame)

-- what the slot holds in which helpers look up
abbrev pub held_for : Source → Rows → Option Held
held_for (Client client) rows = held_by client rows
held_for (Peer slot peer) rows = held_in rows slot

-- for a datagram of a source
abbrev pub sending_of_forwarding : RelayContents → Source → Forwarding → Option Sending
sending_of_forwarding r from (forwarding.Nothing reason) = None
sending_of_forwarding r from forwarding.Stopped = None
sending_of_forwarding r from (forwarding.WindowToPeer slot peer) = option_map (ToPeer slot peer) (window_shown r.frame)
sending_of_forwarding r from (forwarding.WindowToClient client) = option_map (ToClient client) (window_shown r.frame)
sending_of_forwarding r (Client client) (forwarding.Answer answer) = sending_of_answer client (datagram_of r.frame) r.reply answer
sending_of_forwarding r (Peer slot peer) (forwarding.Answer answer) = None

-- what the program did with the datagram
abbrev pub chosen_of_forwarding : RelayContents → Source → Forwarding → Chosen
chosen_of_forwarding r from (forwarding.Nothing reason) = Relaying (sending_of_forwarding r from (forwarding.Nothing reason))
chosen_of_forwarding r from forwarding.Stopped = Relaying (sending_of_forwarding r from forwarding.Stopped)
chosen_of_forwarding r from (forwarding.WindowToPeer slot peer) = Relaying (sending_of_forwarding r from (forwarding.WindowToPeer slot peer))
chosen_of_forwarding r from (forwarding.WindowToClient client) = Relaying (sending_of_forwarding r from (forwarding.WindowToClient client))
chosen_of_forwarding r (Client client) (forwarding.Answer answer) = Passing (datagram_of r.frame)
chosen_of_forwarding r (Peer slot peer) (forwarding.Answer answer) = Relaying None

-- whether it is of the window, rather than an answer of the rules
abbrev pub is_of_window : Forwarding → Bool
is_of_window (forwarding.Nothing reason) = true
is_of_window forwarding.Stopped = true
is_of_window (forwarding.WindowToPeer slot peer) = true
is_of_window (forwarding.WindowToClient client) = true
is_of_window (forwarding.Answer answer) = false

-- what confines programs, where it is asked
abbrev pub asked : Bool → Option Confinement → Option Confinement
asked asks confinement = if asks then confinement else None

-- whether data may go to a peer, and come from one, by what is live in the slot
abbrev pub may_go : Option Confinement → Held → Addr → Bool
may_go None held peer = true
may_go (Some confinement) held peer =
    holds_as confinement.aliases.items (λ name. is_some (permission_of name held) || is_some (bound_channel name held)) peer

abbrev pub may_come : Option Confinement → Held → Addr → Bool
may_come None held peer = true
may_come (Some confinement) held peer = holds_as confinement.aliases.items (λ name. is_some (permission_of name held)) peer

-- what is done where a confined program would send a window that isn't permitted, if there is one
abbrev pub stopped_where_shown : Option (List ℕ) → Disposition
stopped_where_shown None = Discarded ByProgram
stopped_where_shown (Some window) = Discarded Confined

-- what is done with the datagram
abbrev pub disposition_of_forwarding : RelayContents → Source → Forwarding → Disposition
disposition_of_forwarding r from (forwarding.Nothing reason) = Discarded reason
disposition_of_forwarding r from forwarding.Stopped = stopped_where_shown (window_shown r.frame)
disposition_of_forwarding r from (forwarding.WindowToPeer slot peer) = relayed_where_sent (sending_of_forwarding r from (forwarding.WindowToPeer slot peer))
disposition_of_forwarding r from (forwarding.WindowToClient client) = relayed_where_sent (sending_of_forwarding r from (forwarding.WindowToClient client))
disposition_of_forwarding r (Client client) (forwarding.Answer answer) = disposition_of answer
disposition_of_forwarding r (Peer slot peer) (forwarding.Answer answer) = Discarded ByProgram

-- the room for replies has that of the rules
abbrev pub HasRoomFor : Forwarding → List ℕ → Type 0
HasRoomFor (forwarding.Nothing reason) reply = Unit {0}
HasRoomFor forwarding.Stopped reply = Unit {0}
HasRoomFor (forwarding.WindowToPeer slot peer) reply = Unit {0}
HasRoomFor (forwarding.WindowToClient client) reply = Unit {0}
HasRoomFor (forwarding.Answer answer) reply = LiesInRoom answer reply
