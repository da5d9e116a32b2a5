-- With the shipped programs, the reason of a datagram is what the rules do with it.
use Rattle.std.proofs.Common.{◌≡◌, ℕ, List, [], length, true, false, inl, inr, refl, sym, ap, subst, ◌∙◌}
use Rattle.std.specs.Prelude.{◌==◌, Option, None, Some, IfSome, Result, Ok, Err}
use Rattle.std.proofs.lemmas.Bool.{cases_Bool, cond-true, cond-false, and_parts}
use Rattle.std.proofs.lemmas.Option.{none-some, same_Some}
use Rattle.stun.specs.Datagrams.{message_in}
use Rattle.stun.specs.Messages.{Parts}
use Rattle.addresses.specs.declared.address.Addr.{Addr}
use Rattle.control.specs.declared.config.Config.{Config}
use Rattle.tables.specs.Rows.{Rows, rows_at}
use Rattle.tables.specs.laws.WellFormed.{rows_at-well_formed}
use Rattle.events.specs.Events.{Sending}
use Rattle.events.specs.declared.meta.Source.{Source}
use Rattle.events.specs.declared.meta.Source.TheVariants.{Client, Peer}
use Rattle.programs.specs.Relaying.{IsRelayStart, PassesOn, Relays, ServesClient, ServesPeer}
use Rattle.rules.specs.ByRules.{request_of}
use Rattle.rules.specs.Discards.{discard_in, peer_test, ruled_disposition}
use Rattle.rules.specs.Dispositions.{channel_data_test, client_disposition, disposition_of_message, disposition_of_request, relayed_if, send_test}
use Rattle.rules.specs.FastPart.{begins_as_stun, begins_as_channel_data, is_plain_send, are_address_and_content}
use Rattle.rules.specs.Rules.{send_indication, channel_data_from}
use Rattle.rules.specs.Systems.{address_of_source, is_served}
use Rattle.rules.specs.Permitted.{IsPermitted}
use Rattle.rules.specs.laws.Permitted.{channel_data_permitted, peer_data_permitted, send_permitted}
use Rattle.rules.specs.laws.Discards.{Agree, channel_data_agrees, peer_agrees, send_agrees}
use Rattle.rules.specs.declared.disposition.Discard.{Discard}
use Rattle.rules.specs.declared.disposition.Discard.TheVariants.{ByProgram, NotServed}
use Rattle.rules.specs.declared.disposition.Disposition.{Disposition}
use Rattle.rules.specs.declared.disposition.Disposition.TheVariants.{Discarded}
use Rattle.relay.specs.ByPrograms.{Programs, program_for, disposition_by_run, disposition_of_sent, is_there, relayed_where_sent}
use Rattle.programs.specs.Runs.{run_for}
use Rattle.relay.specs.Reasons.{exit_slot, exit_unsent, reason_of, reason_of_datagram}
use Rattle.relay.specs.Shipped.{AreShipped}
use Rattle.relay.specs.declared.reason.StepReason.TheVariants.{Done}
use Rattle.relay.specs.declared.reason.Unsent.{Unsent}
use Rattle.relay.proofs.Confined.{all_relayed}
use Rattle.relay.proofs.ShippedRules.{ClientServes, PeerServes, ends_relayed, ends_passed, no_channel_data, not_relayed}

-- ---- the reason, by what was done and by what the rules do

-- what the rules do was done
itself : (done : Disposition) (slot : ℕ) (unsent : Unsent) → reason_of done (discard_in done) slot unsent ≡ Done done
itself (Discarded ByProgram) slot unsent = refl
itself done slot unsent = refl

alike : (done ruled : Disposition) (slot : ℕ) (unsent : Unsent) → done ≡ ruled → reason_of done (discard_in ruled) slot unsent ≡ Done ruled
alike done ruled slot unsent same = ap (λ (d : Disposition). reason_of d (discard_in ruled) slot unsent) same ∙ itself ruled slot unsent

-- a program sends just what the tests let through
relaying : (sent : Option Sending) (test : Result (Unit {0}) Discard) (slot : ℕ) (unsent : Unsent) → Agree sent (relayed_if test)
    → reason_of (relayed_where_sent sent) (discard_in (relayed_if test)) slot unsent ≡ Done (relayed_if test)
relaying None (Ok passed) slot unsent agree = absurd cc
relaying None (Err reason) slot unsent agree = refl
relaying (Some s) (Ok passed) slot unsent agree = refl
relaying (Some s) (Err reason) slot unsent agree = absurd cc

by_tests : (done ruled : Disposition) (sent : Option Sending) (test : Result (Unit {0}) Discard) (slot : ℕ) (unsent : Unsent)
    → done ≡ relayed_where_sent sent → ruled ≡ relayed_if test → Agree sent (relayed_if test)
    → reason_of done (discard_in ruled) slot unsent ≡ Done ruled
by_tests done ruled sent test slot unsent done_is ruled_is agree =
    (λ i. reason_of (done_is i) (discard_in (ruled_is i)) slot unsent) ∙ relaying sent test slot unsent agree ∙ ap Done (sym ruled_is)

-- ---- a datagram of each side

module _ (config : Config) (now : ℕ) (tx : List ℕ) (rows : Rows) (datagram : List ℕ) (programs : Programs) where
  abbrev live : Rows
  live = rows_at now rows

  abbrev passes : Addr → List ℕ → Disposition
  passes client bytes = client_disposition config now client rows bytes

  -- what the run of a side's program does
  abbrev done : Source → Disposition
  done from = disposition_by_run programs.confinement config now from rows (length datagram)
      (run_for (program_for programs from) tx from live datagram)

  abbrev slot_of : Source → ℕ
  slot_of from = exit_slot programs tx from live datagram

  abbrev unsent_of : Source → Unsent
  unsent_of from = exit_unsent programs tx from live datagram

  abbrev IsRuled : Source → Type 0
  IsRuled from =
      reason_of (done from) (discard_in (ruled_disposition config now tx from rows datagram)) (slot_of from) (unsent_of from)
      ≡ Done (ruled_disposition config now tx from rows datagram)

  client_ruled : (client : Addr) → IsRelayStart client tx live datagram
      → ServesClient programs.client tx client live datagram → IsRuled (Client client)
  client_ruled client start serves = elim (cases_Bool (begins_as_stun datagram)) [
    | inl stun ↦ by_message stun (message_in datagram) refl
    | inr other ↦ elim (cases_Bool (begins_as_channel_data datagram)) [
      | inl channel ↦ channelled other _ (relayed (channel_data_from client live datagram) (channel_data_permitted client live datagram) (serves.channel_data channel))
          (channel_data_agrees client live datagram)
      | inr neither ↦
          let none = not_relayed programs.confinement config now tx rows datagram programs.client client
          (no_channel_data programs.confinement config now tx rows datagram programs.client datagram start.is_datagram.bytes_fit
          neither) in
          channelled other _ (relayed None tt (serves.other neither other) ∙ ap relayed_where_sent (sym none))
          (channel_data_agrees client live datagram)
    ]
  ] where
    relayed : (sends : Option Sending) → IfSome sends (IsPermitted [] (Client client) live)
        → Relays programs.client tx (Client client) live datagram sends
        → done (Client client) ≡ relayed_where_sent sends
    relayed sends permitted is =
        ends_relayed passes (disposition_of_sent programs.confinement (Client client) live) tx live datagram programs.client (Client client) sends is
        ∙ all_relayed (Client client) live programs.confinement sends permitted

    channelled : begins_as_stun datagram ≡ false → (sent : Option Sending) → done (Client client) ≡ relayed_where_sent sent
        → Agree sent (relayed_if (channel_data_test client live datagram)) → IsRuled (Client client)
    channelled other sent done_is agree =
        by_tests (done (Client client)) (passes client datagram) sent (channel_data_test client live datagram)
        (slot_of (Client client)) (unsent_of (Client client)) done_is
        (cond-false (begins_as_stun datagram) (disposition_of_message config now client rows (message_in datagram))
        (relayed_if (channel_data_test client live datagram)) other) agree

    passed : PassesOn programs.client tx (Client client) live datagram → IsRuled (Client client)
    passed on = alike (done (Client client)) (passes client datagram) (slot_of (Client client)) (unsent_of (Client client))
        (ends_passed passes (disposition_of_sent programs.confinement (Client client) live) tx live datagram programs.client client on)

    by_message : begins_as_stun datagram ≡ true → (m : Option Parts) → message_in datagram ≡ m → IsRuled (Client client)
    by_message stun None e = passed (serves.stun stun (λ p found. absurd (none-some p (sym e ∙ found))))
    by_message stun (Some p) e = elim (cases_Bool (is_plain_send p)) [
      | inl plain ↦
          by_tests (done (Client client)) (passes client datagram) _ (send_test client live p) (slot_of (Client client)) (unsent_of (Client client))
          (relayed _ (send_permitted client live p) (serves.send p e plain))
          (cond-true (begins_as_stun datagram) (disposition_of_message config now client rows (message_in datagram))
          (relayed_if (channel_data_test client live datagram)) stun
          ∙ ap (disposition_of_message config now client rows) e
          ∙ cond-true (p.kind == send_indication) (relayed_if (send_test client live p))
          (disposition_of_request config now client p rows (request_of p.kind))
          (and_parts (p.kind == send_indication) (are_address_and_content p.attributes) plain).0)
          (send_agrees client live p)
      | inr other ↦ passed (serves.stun stun
          (λ q found. subst (λ (r : Parts). is_plain_send r ≡ false) (same_Some p q (sym e ∙ found)) other))
    ]

  peer_ruled : (slot : ℕ) (peer : Addr) → ServesPeer programs.peer tx slot peer live datagram
      → IsRuled (Peer slot peer)
  peer_ruled slot peer serves =
      by_tests (done (Peer slot peer)) _ _ (peer_test slot peer tx live datagram) (slot_of (Peer slot peer)) (unsent_of (Peer slot peer))
      (ends_relayed passes (disposition_of_sent programs.confinement (Peer slot peer) live) tx live datagram programs.peer (Peer slot peer) _ serves
      ∙ all_relayed (Peer slot peer) live programs.confinement _ (peer_data_permitted slot peer tx live datagram)) refl
      (peer_agrees slot peer tx live datagram)

-- ---- both sides

module _ (serves_client : ClientServes) (serves_peer : PeerServes) (programs : Programs) (are : AreShipped programs)
    (config : Config) (now : ℕ) (tx : List ℕ) (rows : Rows) (datagram : List ℕ) where
  start : (address : Addr) → IsRelayStart address tx rows datagram
      → IsRelayStart address tx (rows_at now rows) datagram
  start address is = record {
    well_formed = rows_at-well_formed now rows is.well_formed;
    is_address = is.is_address;
    id_bytes = is.id_bytes;
    is_datagram = is.is_datagram;
  }

  is_ruled : (from : Source) → IsRelayStart (address_of_source from) tx rows datagram
      → IsRuled config now tx rows datagram programs from
  is_ruled (Client client) is =
      client_ruled config now tx rows datagram programs client (start client is)
      (serves_client programs.client are.client.encoded are.client.safe client tx (rows_at now rows) datagram
      (start client is))
  is_ruled (Peer slot peer) is =
      peer_ruled config now tx rows datagram programs slot peer
      (serves_peer programs.peer are.peer.encoded are.peer.safe slot peer tx (rows_at now rows) datagram
      (start peer is))

  pub reason_is_ruled : (from : Source) → IsRelayStart (address_of_source from) tx rows datagram
      → is_served from ≡ true → is_there from rows ≡ true
      → reason_of_datagram programs config now tx from rows datagram
      ≡ Done (ruled_disposition config now tx from rows datagram)
  reason_is_ruled from is served there =
      ap (λ (d : Disposition). reason_of d (discard_in (ruled_disposition config now tx from rows datagram))
      (exit_slot programs tx from (rows_at now rows) datagram) (exit_unsent programs tx from (rows_at now rows) datagram))
      (cond-true (is_served from) _ (Discarded NotServed) served
      ∙ cond-true (is_there from rows) (done config now tx rows datagram programs from) (Discarded NotServed)
      there)
      ∙ is_ruled from is
