-- Meaning. What the shipped programs promise: the fast part is relayed by them alone, as the rules say.
use Rattle.std.specs.Prelude.{◌≡◌, ◌≢◌, ℕ, true, false, List, length, None, Some, Option}
use Rattle.insn.specs.declared.instruction.Insn.{Insn}
use Rattle.semantics.specs.Machine.{AreBytes}
use Rattle.semantics.specs.Runs.{Exited, IsDatagram}
use Rattle.stun.specs.Datagrams.{message_in}
use Rattle.stun.specs.Messages.{Parts}
use Rattle.addresses.specs.Addresses.{IsAddress}
use Rattle.addresses.specs.declared.address.Addr.{Addr}
use Rattle.tables.specs.Rows.{Rows}
use Rattle.tables.specs.WellFormed.{AreWellFormed}
use Rattle.events.specs.Events.{Sending}
use Rattle.events.specs.declared.meta.Source.{Source}
use Rattle.events.specs.declared.meta.Source.TheVariants.{Client, Peer}
use Rattle.rules.specs.FastPart.{begins_as_stun, begins_as_channel_data, is_plain_send}
use Rattle.rules.specs.Rules.{channel_data_from, send_from, peer_data_to}
use Rattle.programs.specs.Runs.{run_for, datagram_in, sent_by}
use Rattle.programs.specs.declared.verdict.TheConstants.{PASSES}

-- A start that a relay makes: rows of its tables, a source, a transaction id, and a datagram.
pub record IsRelayStart (address : Addr) (tx : List ℕ) (rows : Rows) (datagram : List ℕ) : Type 0 where
  pub well_formed : AreWellFormed rows
  pub is_address : IsAddress address
  pub id_bytes : AreBytes 12 tx
  pub is_datagram : IsDatagram datagram

-- a program relays a datagram by itself, with this result: its run exits, doesn't pass it on, and sends just that
pub record Relays (code : List Insn) (tx : List ℕ) (from : Source) (rows : Rows) (datagram : List ℕ) (sends : Option Sending) : Type 0 where
  pub verdict : ℕ
  pub exits : (run_for code tx from rows datagram).ending ≡ Exited verdict
  pub alone : verdict ≢ PASSES
  pub sent : sent_by from rows verdict (run_for code tx from rows datagram).state ≡ sends

-- a program passes a datagram on as it came
pub record PassesOn (code : List Insn) (tx : List ℕ) (from : Source) (rows : Rows) (datagram : List ℕ) : Type 0 where
  pub exits : (run_for code tx from rows datagram).ending ≡ Exited PASSES
  pub unchanged : datagram_in (length datagram) (run_for code tx from rows datagram).state ≡ datagram

-- The program of the client's side: it relays ChannelData and plain Send indications, passes on what else begins as STUN
-- does, and sends nothing for any other datagram.
pub record ServesClient (code : List Insn) (tx : List ℕ) (client : Addr) (rows : Rows) (datagram : List ℕ) : Type 0 where
  pub channel_data : begins_as_channel_data datagram ≡ true → Relays code tx (Client client) rows datagram (channel_data_from client rows datagram)
  pub send : (p : Parts) → message_in datagram ≡ Some p → is_plain_send p ≡ true → Relays code tx (Client client) rows datagram (send_from client rows p)
  pub stun : begins_as_stun datagram ≡ true → ((p : Parts) → message_in datagram ≡ Some p → is_plain_send p ≡ false) → PassesOn code tx (Client client) rows datagram
  pub other : begins_as_channel_data datagram ≡ false → begins_as_stun datagram ≡ false → Relays code tx (Client client) rows datagram None

-- The program of the peers' side relays every datagram.
abbrev pub ServesPeer : List Insn → List ℕ → ℕ → Addr → Rows → List ℕ → Type 0
ServesPeer code tx slot peer rows datagram = Relays code tx (Peer slot peer) rows datagram (peer_data_to slot peer tx rows datagram)
