-- The program of the client's side relays as the rules say.
use Rattle.std.proofs.Common.{◌≡◌, ◌≢◌, ℕ, ◌+◌, ◌≤◌, ◌<◌, ◌⊎◌, inl, inr, List, [], ◌∷◌, length, drop, Bool, true, false, true≢false, ◌&&◌, Option, Some, None, refl, ap, sym, ◌∙◌, arith}
use Rattle.std.specs.Prelude.{IfSome, slice_index, nat_le, nat_lt, if◌then◌else◌, ◌==◌}
use Rattle.std.specs.Option.{option_map}
use Rattle.std.proofs.lemmas.Bool.Decides.{nat_tests}
use Rattle.insn.specs.declared.instruction.Insn.{Insn}
use Rattle.insn.specs.Endian.{big_number}
use Rattle.stun.specs.Datagrams.{message_in}
use Rattle.stun.specs.Messages.{Parts, AreParts, parts_bytes, padding_count}
use Rattle.semantics.specs.Access.{part}
use Rattle.addresses.specs.Addresses.{IsAddress, HasWidth}
use Rattle.addresses.specs.declared.address.Addr.{Addr}
use Rattle.addresses.specs.declared.address.Addr.TheVariants.{V4, V6}
use Rattle.tables.specs.LookUps.{allocation_of, peer_of, has_permission}
use Rattle.tables.specs.declared.allocation.Allocation.{Allocation}
use Rattle.tables.specs.Rows.{Rows}
use Rattle.tables.specs.WellFormed.{AreWellFormed}
use Rattle.tables.specs.laws.WellFormed.{peer_of-address}
use Rattle.semantics.specs.laws.Records.{record_bytes, wide_record_bytes}
use Rattle.helpers.specs.laws.Lawful.{look_up_is_lawful}
use Rattle.helpers.specs.LookUps.{look_up_answer, peer_answer, test_answer}
use Rattle.semantics.specs.declared.helper.RecordForm.TheVariants.{Narrow, Wide}
use Rattle.semantics.specs.Machine.{Environment, State}
use Rattle.semantics.specs.Runs.{Exited, IsPossible, IsSafe}
use Rattle.events.specs.Events.{ToPeer}
use Rattle.events.specs.declared.meta.Source.TheVariants.{Client}
use Rattle.programs.specs.Client.{client_program}
use Rattle.rules.specs.FastPart.{begins_as_stun, begins_as_channel_data, is_plain_send}
use Rattle.basics.specs.Options.{◌>>=◌}
use Rattle.programs.specs.PlainSends.{padded_length, PassesTests}
use Rattle.programs.specs.Relaying.{IsRelayStart, Relays, ServesClient}
use Rattle.rules.specs.Rules.{client_slot, channel_data, send, send_from, to_peer}
use Rattle.programs.proofs.PeerServes.{test_is}
use Rattle.programs.specs.declared.verdict.TheConstants.{PASSES}
use Rattle.programs.specs.Runs.{environment_for, run_for, window_in, destination_in}
use Rattle.programs.proofs.ChannelMessages.{wide_back}
use Rattle.programs.proofs.ClientEnds.{AnswersClient, IsClientEnd, narrow_answer, wide_answer, of_send, sent_to}
use Rattle.programs.proofs.ClientRun.{is_cut, client_exits_meet}
use Rattle.programs.proofs.PeerEnds.{test_number}
use Rattle.programs.proofs.PlainSendLaws.{passes_tests, is_plain, address_first_sends, data_first_sends}
use Rattle.programs.proofs.Preconditions.{ExitsWith, safe_run_exits}
use Rattle.programs.proofs.PeerServes.{if_some}

-- ---- the first two bits

at_least : (low b : ℕ) (rest : Bool) → (nat_le low b && rest) ≡ true → low ≤ b
at_least low b true e = grind (arith, nat_tests)
at_least low b false e = grind (arith, nat_tests)

at_most : (high b : ℕ) (first : Bool) → (first && nat_le b high) ≡ true → b ≤ high
at_most high b true e = grind (arith, nat_tests)
at_most high b false e = absurd cc

outside : (b : ℕ) → (nat_le 64 b && nat_le b 127) ≡ false → nat_lt b 64 ≡ false → 128 ≤ b
outside b e f = grind (arith, nat_tests)

less_than : (b n : ℕ) → nat_lt b n ≡ true → b < n
less_than b n e = grind (arith, nat_tests)

pub record BeginsBetween (d : List ℕ) (low high : ℕ) : Type 0 where
  pub some : 1 ≤ length d
  pub low_bound : low ≤ slice_index d 0
  pub high_bound : slice_index d 0 < high

channel_data_begins : (d : List ℕ) → begins_as_channel_data d ≡ true → BeginsBetween d 64 128
channel_data_begins [] e = absurd cc
channel_data_begins (b ∷ d) e = record { some = omega arith; low_bound = at_least 64 b (nat_le b 127) e; high_bound = let high = at_most 127 b (nat_le 64 b) e in omega (arith, high) }

stun_begins : (d : List ℕ) → begins_as_stun d ≡ true → BeginsBetween d 0 64
stun_begins [] e = absurd cc
stun_begins (b ∷ d) e = record { some = omega arith; low_bound = omega arith; high_bound = less_than b 64 e }

other_begins : (d : List ℕ) → begins_as_channel_data d ≡ false → begins_as_stun d ≡ false → (length d ≡ 0) ⊎ (128 ≤ slice_index d 0)
other_begins [] e f = inl refl
other_begins (b ∷ d) e f = inr (outside b e f)

-- ---- look-ups

-- the peers of the channels of a slot, if there is one
abbrev peers_of : Option ℕ → Rows → ℕ → Option Addr
peers_of None rows number = None
peers_of (Some slot) rows number = peer_of slot number rows

peers_are_addresses : (slot : Option ℕ) (rows : Rows) → AreWellFormed rows → (number : ℕ) → IfSome (peers_of slot rows number) IsAddress
peers_are_addresses None rows formed number = tt
peers_are_addresses (Some slot) rows formed number = if_some IsAddress (peer_of slot number rows) (λ peer bound. peer_of-address slot number rows peer formed bound)

-- the permissions of a slot, if there is one
abbrev permitted_in : Option ℕ → Rows → Addr → Bool
permitted_in None rows address = false
permitted_in (Some slot) rows address = has_permission slot address rows

narrow_is : (o : Option Addr) → peer_answer Narrow o ≡ narrow_answer o
narrow_is None = refl
narrow_is (Some (V4 ip port)) = refl
narrow_is (Some (V6 ip port)) = refl

wide_is : (o : Option Addr) → peer_answer Wide o ≡ wide_answer o
wide_is None = refl
wide_is (Some peer) = refl

answers_client : (slot : Option ℕ) (rows : Rows) → AreWellFormed rows → AnswersClient (look_up_answer slot rows) (peers_of slot rows) (permitted_in slot rows)
answers_client None rows formed = record {
  narrow_peers = λ n. refl;
  wide_peers = λ n. refl;
  permissions = λ ip port fits. refl;
  addresses = peers_are_addresses None rows formed;
}
answers_client (Some slot) rows formed = record {
  narrow_peers = λ n. narrow_is (peer_of slot n rows);
  wide_peers = λ n. wide_is (peer_of slot n rows);
  permissions = λ ip port fits. ap (λ (a : Addr). (test_answer (has_permission slot a rows)).0) (wide_back ip port fits) ∙ test_is (has_permission slot (V4 ip port) rows);
  addresses = peers_are_addresses (Some slot) rows formed;
}

-- ---- the start and the end

is_possible : (client : Addr) (tx : List ℕ) (rows : Rows) (datagram : List ℕ) → IsRelayStart client tx rows datagram → IsPossible (environment_for tx (Client client) rows)
is_possible client tx rows datagram start = record {
  context = record { side = omega arith; source = record_bytes client start.is_address; wide_source = wide_record_bytes client start.is_address; tx = start.id_bytes };
  helpers = look_up_is_lawful rows start.well_formed (client_slot client rows);
}

-- the slot of an allocation, if there is one
abbrev slot_of : Option Allocation → Option ℕ
slot_of a = option_map (λ a. a.slot) a

-- the window goes to the destination from the allocation's relayed address, if all are there
from_the_slot : (sends : Bool) (window : Option (List ℕ)) (a : Option Allocation) (destination : Option Addr) →
    (if sends then (window >>= λ bytes. a >>= λ at. destination >>= λ to. to_peer at (to, bytes)) else None)
    ≡ (a >>= λ at. (if sends then (window >>= λ bytes. destination >>= λ to. Some (to, bytes)) else None) >>= λ pair. to_peer at pair)
from_the_slot true None None destination = refl
from_the_slot true None (Some at) destination = refl
from_the_slot true (Some bytes) None destination = refl
from_the_slot true (Some bytes) (Some at) None = refl
from_the_slot true (Some bytes) (Some at) (Some to) = refl
from_the_slot false window None destination = refl
from_the_slot false window (Some at) destination = refl

by_the_rules : (a : Option Allocation) (rows : Rows) (datagram : List ℕ) (sent : Option (Addr × List ℕ)) → sent ≡ channel_data (peers_of (slot_of a) rows) datagram
    → (a >>= λ at. sent >>= λ pair. to_peer at pair) ≡ (a >>= λ at. channel_data (λ number. peer_of at.slot number rows) datagram >>= λ pair. to_peer at pair)
by_the_rules None rows datagram sent e = refl
by_the_rules (Some at) rows datagram sent e = ap (λ (o : Option (Addr × List ℕ)). o >>= λ pair. to_peer at pair) e

by_the_rules_of_send : (a : Option Allocation) (rows : Rows) (p : Parts) (sent : Option (Addr × List ℕ)) → sent ≡ send (permitted_in (slot_of a) rows) p
    → (a >>= λ at. sent >>= λ pair. to_peer at pair) ≡ (a >>= λ at. send (λ to. has_permission at.slot to rows) p >>= λ pair. to_peer at pair)
by_the_rules_of_send None rows p sent e = refl
by_the_rules_of_send (Some at) rows p sent e = ap (λ (o : Option (Addr × List ℕ)). o >>= λ pair. to_peer at pair) e

-- where code is safe, it serves the client's side
abbrev pub ServesIfSafe : List Insn → Type 0
ServesIfSafe code = IsSafe code → (client : Addr) (tx : List ℕ) (rows : Rows) (datagram : List ℕ) → IsRelayStart client tx rows datagram → ServesClient code tx client rows datagram

module _ (found : (p : Parts) (bytes : List ℕ) → message_in bytes ≡ Some p → AreParts p × (bytes ≡ parts_bytes p)) (every : (p : Parts) (bytes : List ℕ) → AreParts p → bytes ≡ parts_bytes p → message_in bytes ≡ Some p)
    (safe : IsSafe client_program) (client : Addr) (tx : List ℕ) (rows : Rows) (datagram : List ℕ) (start : IsRelayStart client tx rows datagram) where
  abbrev w : Environment
  w = environment_for tx (Client client) rows

  abbrev own : Option Allocation
  own = allocation_of client rows

  abbrev slot : Option ℕ
  slot = slot_of own

  abbrev final : State
  final = (run_for client_program tx (Client client) rows datagram).state

  -- the end of the run, where a value of XOR-PEER-ADDRESS is read under a transaction id
  ends : (id : List ℕ) → ExitsWith w client_program datagram (λ v s. IsClientEnd (peers_of slot rows) (permitted_in slot rows) id datagram v s)
  ends id =
      let keeps = client_exits_meet w datagram (peers_of slot rows) (permitted_in slot rows) (answers_client slot rows start.well_formed) id refl start.is_datagram in
      safe_run_exits w client_program is_cut (λ v s. IsClientEnd (peers_of slot rows) (permitted_in slot rows) id datagram v s) datagram safe (is_possible client tx rows datagram start) start.is_datagram keeps

  -- what the run sends for a Send indication is what the rules send
  relays_send : (p : Parts) (verdict : ℕ) → (run_for client_program tx (Client client) rows datagram).ending ≡ Exited verdict → verdict ≢ PASSES → sent_to verdict final ≡ send (permitted_in slot rows) p
      → Relays client_program tx (Client client) rows datagram (send_from client rows p)
  relays_send p verdict exits alone same = record {
    verdict = verdict;
    exits = exits;
    alone = alone;
    sent = from_the_slot (verdict == 2) (window_in final) own (destination_in final) ∙ by_the_rules_of_send own rows p _ same;
  }

  by_its_order : (p : Parts) → message_in datagram ≡ Some p → PassesTests datagram → Relays client_program tx (Client client) rows datagram (send_from client rows p)
  by_its_order p message (inl is) =
      let end = ends p.tx in
      let owed = end.holds.address_first is in
      relays_send p end.verdict end.exits owed.0 (owed.1 ∙ sym (address_first_sends found every datagram start.is_datagram is (permitted_in slot rows) p message))
  by_its_order p message (inr is) =
      let end = ends p.tx in
      let owed = end.holds.data_first is in
      let n : ℕ = big_number 2 (drop 22 datagram) in
      let place : padded_length n + 28 ≡ 28 + n + padding_count n = omega arith in
      relays_send p end.verdict end.exits owed.0
      (owed.1 ∙ ap (λ (k : ℕ). of_send (permitted_in slot rows) p.tx (part 8 k datagram) (part n 24 datagram)) place ∙ sym (data_first_sends found every datagram start.is_datagram is (permitted_in slot rows) p message))

  no_plain_send : ((p : Parts) → message_in datagram ≡ Some p → is_plain_send p ≡ false) → PassesTests datagram → ⊥
  no_plain_send none tests =
      let plain = is_plain found every datagram start.is_datagram tests in
      true≢false (sym plain.2 ∙ none plain.0 plain.1)

  pub serves_client : ServesClient client_program tx client rows datagram
  serves_client =
      let end = ends tx in
      record {
        channel_data = λ begins.
            let first = channel_data_begins datagram begins in
            let is = end.holds.channel first.some first.low_bound first.high_bound in
            record {
              verdict = end.verdict;
              exits = end.exits;
              alone = is.0;
              sent = from_the_slot (end.verdict == 2) (window_in final) own (destination_in final) ∙ by_the_rules own rows datagram _ is.1;
            };
        send = λ p message plain. by_its_order p message (passes_tests found every datagram start.is_datagram p message plain);
        stun = λ begins none.
            let first = stun_begins datagram begins in
            let is = end.holds.passed first.some first.high_bound (λ tests. no_plain_send none (inl tests)) (λ tests. no_plain_send none (inr tests)) in
            record { exits = end.exits ∙ ap Exited is.0; unchanged = is.1 };
        other = λ no_channel_data no_stun.
            let none : end.verdict ≡ 0 = end.holds.other (other_begins datagram no_channel_data no_stun) in
            record { verdict = 0; exits = end.exits ∙ ap Exited none; alone = λ same. omega (arith, same); sent = refl };
      }
