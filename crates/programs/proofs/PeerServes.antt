-- The program of the peers' side relays as the rules say.
use Rattle.std.proofs.Common.{◌≡◌, ℕ, ◌≤◌, List, Bool, true, false, Option, Some, None, refl, ap, sym, ◌∙◌, arith}
use Rattle.std.specs.Prelude.{IfSome, if◌then◌else◌, ◌==◌}
use Rattle.std.specs.Option.{option_map}
use Rattle.addresses.specs.Addresses.{IsAddress}
use Rattle.addresses.specs.declared.address.Addr.{Addr}
use Rattle.addresses.specs.declared.address.Addr.TheVariants.{V4, V6}
use Rattle.insn.specs.declared.instruction.Insn.{Insn}
use Rattle.tables.specs.LookUps.{has_permission, channel_of}
use Rattle.tables.specs.Rows.{Rows}
use Rattle.tables.specs.WellFormed.{AreWellFormed}
use Rattle.tables.specs.laws.WellFormed.{channel_of-number}
use Rattle.semantics.specs.laws.Records.{record_bytes, wide_record_bytes}
use Rattle.helpers.specs.laws.Lawful.{look_up_is_lawful}
use Rattle.helpers.specs.LookUps.{look_up_answer, number_answer, test_answer}
use Rattle.semantics.specs.Records.{address_of}
use Rattle.semantics.specs.Machine.{Environment, start}
use Rattle.semantics.specs.Runs.{IsPossible, IsSafe}
use Rattle.events.specs.Events.{ToClient}
use Rattle.events.specs.declared.meta.Source.TheVariants.{Peer}
use Rattle.basics.specs.Options.{◌>>=◌}
use Rattle.programs.specs.Peer.{peer_program}
use Rattle.programs.specs.Relaying.{IsRelayStart, ServesPeer}
use Rattle.rules.specs.Rules.{client_at}
use Rattle.programs.specs.Runs.{environment_for}
use Rattle.programs.proofs.ChannelMessages.{wide_back}
use Rattle.programs.proofs.LoadedValues.{port_back}
use Rattle.programs.proofs.PeerEnds.{AnswersPeer, IsPeerEnd, record_for, test_number, channel_number}
use Rattle.programs.proofs.PeerRun.{is_cut, peer_exits_meet_4, peer_exits_meet_6}
use Rattle.programs.proofs.Preconditions.{ExitsMeet, safe_run_exits}

-- ---- look-ups

pub if_some : {X : Type 0} (P : X → Type 0) (o : Option X) → ((x : X) → o ≡ Some x → P x) → IfSome o P
if_some P None each = tt
if_some P (Some x) each = each x refl

-- the address of the record that PEER asks with
asked_back : (source : Addr) → IsAddress source → address_of (record_for source) ≡ source
asked_back (V4 ip port) fits = wide_back ip port fits
asked_back (V6 ip port) fits = ap (λ (n : ℕ). V6 ip n) (port_back port fits.small)

pub test_is : (b : Bool) → (test_answer b).0 ≡ test_number b
test_is true = refl
test_is false = refl

channel_is : (o : Option ℕ) → (number_answer o).0 ≡ channel_number o
channel_is None = refl
channel_is (Some n) = refl

answers_peer : (slot : ℕ) (source : Addr) (rows : Rows) → IsAddress source → AreWellFormed rows
    → AnswersPeer (look_up_answer (Some slot) rows) source (has_permission slot source rows) (channel_of slot source rows)
answers_peer slot (V4 ip port) rows fits formed = record {
  permits = ap (λ (a : Addr). (test_answer (has_permission slot a rows)).0) (asked_back (V4 ip port) fits) ∙ test_is (has_permission slot (V4 ip port) rows);
  numbers = ap (λ (a : Addr). (number_answer (channel_of slot a rows)).0) (asked_back (V4 ip port) fits) ∙ channel_is (channel_of slot (V4 ip port) rows);
  range = if_some (λ n. (0x4000 ≤ n) × (n ≤ 0x4fff)) (channel_of slot (V4 ip port) rows) (λ n bound. channel_of-number slot (V4 ip port) rows n formed bound);
}
answers_peer slot (V6 ip port) rows fits formed = record {
  permits = ap (λ (a : Addr). (test_answer (has_permission slot a rows)).0) (asked_back (V6 ip port) fits) ∙ test_is (has_permission slot (V6 ip port) rows);
  numbers = ap (λ (a : Addr). (number_answer (channel_of slot a rows)).0) (asked_back (V6 ip port) fits) ∙ channel_is (channel_of slot (V6 ip port) rows);
  range = if_some (λ n. (0x4000 ≤ n) × (n ≤ 0x4fff)) (channel_of slot (V6 ip port) rows) (λ n bound. channel_of-number slot (V6 ip port) rows n formed bound);
}

-- ---- the start and the end

is_possible : (slot : ℕ) (peer : Addr) (tx : List ℕ) (rows : Rows) (datagram : List ℕ) → IsRelayStart peer tx rows datagram → IsPossible (environment_for tx (Peer slot peer) rows)
is_possible slot peer tx rows datagram start = record {
  context = record { side = omega arith; source = record_bytes peer start.is_address; wide_source = wide_record_bytes peer start.is_address; tx = start.id_bytes };
  helpers = look_up_is_lawful rows start.well_formed (Some slot);
}

-- the window goes to the client of the slot's allocation, if both are there
to_the_client : (sends : Bool) (window : Option (List ℕ)) (client : Option Addr) →
    (if sends then (window >>= λ bytes. client >>= λ to. Some (ToClient to bytes)) else None) ≡ (client >>= λ to. option_map (ToClient to) (if sends then window else None))
to_the_client true None None = refl
to_the_client true None (Some to) = refl
to_the_client true (Some bytes) None = refl
to_the_client true (Some bytes) (Some to) = refl
to_the_client false window None = refl
to_the_client false window (Some to) = refl

-- where code is safe, it serves the peers' side
abbrev pub ServesIfSafe : List Insn → Type 0
ServesIfSafe code = IsSafe code → (slot : ℕ) (peer : Addr) (tx : List ℕ) (rows : Rows) (datagram : List ℕ) → IsRelayStart peer tx rows datagram → ServesPeer code tx slot peer rows datagram

module _ (safe : IsSafe peer_program) (slot : ℕ) (peer : Addr) (tx : List ℕ) (rows : Rows) (datagram : List ℕ) (starts : IsRelayStart peer tx rows datagram) where
  abbrev w : Environment
  w = environment_for tx (Peer slot peer) rows

  abbrev allowed : Bool
  allowed = has_permission slot peer rows

  abbrev number : Option ℕ
  number = channel_of slot peer rows

  serves_where : ExitsMeet w peer_program is_cut (λ v s. IsPeerEnd allowed number peer tx datagram v s) (start datagram) → ServesPeer peer_program tx slot peer rows datagram
  serves_where keeps =
      let end = safe_run_exits w peer_program is_cut (λ v s. IsPeerEnd allowed number peer tx datagram v s) datagram safe (is_possible slot peer tx rows datagram starts) starts.is_datagram keeps in
      record {
        verdict = end.verdict;
        exits = end.exits;
        alone = end.holds.alone;
        sent = to_the_client (end.verdict == 2) _ (client_at slot rows) ∙ ap (λ (bytes : Option (List ℕ)). client_at slot rows >>= λ to. option_map (ToClient to) bytes) end.holds.sends;
      }

pub peer_program_serves : ServesIfSafe peer_program
peer_program_serves safe slot (V4 ip port) tx rows datagram starts =
    serves_where safe slot (V4 ip port) tx rows datagram starts
    (peer_exits_meet_4 (environment_for tx (Peer slot (V4 ip port)) rows) datagram ip port starts.is_address (has_permission slot (V4 ip port) rows) (channel_of slot (V4 ip port) rows) refl
    (answers_peer slot (V4 ip port) rows starts.is_address starts.well_formed) (is_possible slot (V4 ip port) tx rows datagram starts).context starts.is_datagram)
peer_program_serves safe slot (V6 ip port) tx rows datagram starts =
    serves_where safe slot (V6 ip port) tx rows datagram starts
    (peer_exits_meet_6 (environment_for tx (Peer slot (V6 ip port)) rows) datagram ip port starts.is_address (has_permission slot (V6 ip port) rows) (channel_of slot (V6 ip port) rows) refl refl
    (answers_peer slot (V6 ip port) rows starts.is_address starts.well_formed) (is_possible slot (V6 ip port) tx rows datagram starts).context starts.is_datagram)
