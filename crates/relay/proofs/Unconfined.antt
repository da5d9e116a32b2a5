-- The shipped programs do the same whether they are confined or not: what they send is permitted.
use Rattle.std.proofs.Common.{◌≡◌, ℕ, List, [], length, ◌&&◌, true, false, inl, inr, refl, sym, ap, subst, ◌∙◌}
use Rattle.std.specs.Prelude.{Option, None, Some, IfSome, if◌then◌else◌}
use Rattle.std.proofs.lemmas.Bool.{cases_Bool}
use Rattle.std.proofs.lemmas.Option.{none-some, same_Some}
use Rattle.insn.specs.declared.instruction.Insn.{Insn}
use Rattle.semantics.specs.Machine.{AreBytes}
use Rattle.semantics.specs.Runs.{IsDatagram}
use Rattle.stun.specs.Datagrams.{message_in}
use Rattle.stun.specs.Messages.{Parts}
use Rattle.addresses.specs.Addresses.{IsAddress}
use Rattle.addresses.specs.declared.address.Addr.{Addr}
use Rattle.control.specs.declared.config.Config.{Config}
use Rattle.tables.specs.Rows.{Rows, rows_at}
use Rattle.tables.specs.WellFormed.{AreWellFormed}
use Rattle.tables.specs.laws.WellFormed.{rows_at-well_formed}
use Rattle.events.specs.Events.{Sending}
use Rattle.events.specs.declared.meta.Source.{Source}
use Rattle.events.specs.declared.meta.Source.TheVariants.{Client, Peer}
use Rattle.programs.specs.Runs.{run_for}
use Rattle.programs.specs.Relaying.{IsRelayStart, PassesOn, Relays, ServesClient, ServesPeer}
use Rattle.relay.specs.ByPrograms.{Programs, by_programs, disposition_of_datagram, disposition_of_sent, is_there, let_through, program_for, relayed_where_sent}
use Rattle.relay.specs.Choices.{Chosen, Passing, Relaying, chosen_by_run}
use Rattle.relay.specs.Shipped.{AreShipped}
use Rattle.relay.proofs.Confined.{all_relayed, all_through}
use Rattle.relay.proofs.ShippedRules.{ClientServes, PeerServes, end, ends_passed, ends_relayed}
use Rattle.rules.specs.ByRules.{from_client}
use Rattle.rules.specs.Dispositions.{client_disposition}
use Rattle.rules.specs.FastPart.{begins_as_channel_data, begins_as_stun, is_plain_send}
use Rattle.rules.specs.Permitted.{IsPermitted}
use Rattle.rules.specs.Systems.{SystemReply, address_of_source, if_served, is_served, no_answer, reply_of_relaying}
use Rattle.rules.specs.declared.disposition.Discard.TheVariants.{NotServed}
use Rattle.rules.specs.declared.disposition.Disposition.{Disposition}
use Rattle.rules.specs.declared.disposition.Disposition.TheVariants.{Discarded}
use Rattle.rules.specs.laws.Permitted.{channel_data_permitted, peer_data_permitted, send_permitted}

-- ---- two ways to go on from what is sent, which agree on what is permitted

module _ {X : Type 0} (passes : Addr → List ℕ → X) (one other : Option Sending → X) (tx : List ℕ) (live : Rows) (datagram : List ℕ) (code : List Insn) where
  abbrev Agree : Source → Type 0
  Agree from = (sends : Option Sending) → IfSome sends (IsPermitted [] from live) → one sends ≡ other sends

  abbrev EndAlike : Source → Type 0
  EndAlike from = end passes one tx live datagram code from ≡ end passes other tx live datagram code from

  relayed_alike : (from : Source) → Agree from → (sends : Option Sending) → IfSome sends (IsPermitted [] from live) → Relays code tx from live datagram sends → EndAlike from
  relayed_alike from agree sends permitted is =
      ends_relayed passes one tx live datagram code from sends is
      ∙ agree sends permitted
      ∙ sym (ends_relayed passes other tx live datagram code from sends is)

  passed_alike : (client : Addr) → PassesOn code tx (Client client) live datagram → EndAlike (Client client)
  passed_alike client is =
      ends_passed passes one tx live datagram code client is ∙ sym (ends_passed passes other tx live datagram code client is)

  client_alike : (client : Addr) → Agree (Client client) → ServesClient code tx client live datagram → EndAlike (Client client)
  client_alike client agree serves = elim (cases_Bool (begins_as_stun datagram)) [
    | inl stun ↦ by_message stun (message_in datagram) refl
    | inr no_stun ↦ elim (cases_Bool (begins_as_channel_data datagram)) [
      | inl channel ↦ relayed_alike (Client client) agree _ (channel_data_permitted client live datagram) (serves.channel_data channel)
      | inr neither ↦ relayed_alike (Client client) agree None tt (serves.other neither no_stun)
    ]
  ] where
    by_message : begins_as_stun datagram ≡ true → (m : Option Parts) → message_in datagram ≡ m → EndAlike (Client client)
    by_message stun None e = passed_alike client (serves.stun stun (λ p found. absurd (none-some p (sym e ∙ found))))
    by_message stun (Some p) e = elim (cases_Bool (is_plain_send p)) [
      | inl plain ↦ relayed_alike (Client client) agree _ (send_permitted client live p) (serves.send p e plain)
      | inr no_send ↦ passed_alike client (serves.stun stun (λ q found. subst (λ (r : Parts). is_plain_send r ≡ false) (same_Some p q (sym e ∙ found)) no_send))
    ]

  peer_alike : (slot : ℕ) (peer : Addr) → Agree (Peer slot peer) → ServesPeer code tx slot peer live datagram → EndAlike (Peer slot peer)
  peer_alike slot peer agree serves = relayed_alike (Peer slot peer) agree _ (peer_data_permitted slot peer tx live datagram) serves

-- ---- the shipped programs

module _ (serves_client : ClientServes) (serves_peer : PeerServes) (programs : Programs) (are : AreShipped programs)
    (config : Config) (now : ℕ) (tx : List ℕ) (rows : Rows) (datagram : List ℕ)
    (well_formed : AreWellFormed rows) (is_id : AreBytes 12 tx) (is : IsDatagram datagram) where
  abbrev live : Rows
  live = rows_at now rows

  abbrev free : Programs
  free = record programs { confinement = None }

  -- what some programs do
  abbrev chose : Programs → Source → Chosen
  chose of from =
      if is_served from && is_there from rows
      then chosen_by_run of.confinement from live (length datagram) (run_for (program_for of from) tx from live datagram)
      else Relaying None

  start : (address : Addr) → IsAddress address → IsRelayStart address tx live datagram
  start address fits = record { well_formed = rows_at-well_formed now rows well_formed; is_address = fits; id_bytes = is_id; is_datagram = is }

  both_alike : {X : Type 0} (passes : Addr → List ℕ → X) (one other : Source → Option Sending → X) (from : Source) → IsAddress (address_of_source from)
      → ((sends : Option Sending) → IfSome sends (IsPermitted [] from live) → one from sends ≡ other from sends)
      → end passes (one from) tx live datagram (program_for programs from) from ≡ end passes (other from) tx live datagram (program_for programs from) from
  both_alike passes one other (Client client) fits agree =
      client_alike passes (one (Client client)) (other (Client client)) tx live datagram programs.client client agree
      (serves_client programs.client are.client.encoded are.client.safe client tx live datagram (start client fits))
  both_alike passes one other (Peer slot peer) fits agree =
      peer_alike passes (one (Peer slot peer)) (other (Peer slot peer)) tx live datagram programs.peer slot peer agree
      (serves_peer programs.peer are.peer.encoded are.peer.safe slot peer tx live datagram (start peer fits))

  pub reply_unconfined : (from : Source) → IsAddress (address_of_source from)
      → if_served (by_programs programs) config now tx from rows datagram ≡ if_served (by_programs free) config now tx from rows datagram
  reply_unconfined from fits =
      ap (λ (reply : SystemReply). if is_served from then (if is_there from rows then reply else no_answer rows) else no_answer rows)
      (both_alike (λ client bytes. from_client config now client rows bytes) (λ from sent. reply_of_relaying rows (let_through programs.confinement from live sent))
      (λ from sent. reply_of_relaying rows sent) from fits (λ sends permitted. ap (reply_of_relaying rows) (all_through from live programs.confinement sends permitted)))

  pub disposition_unconfined : (from : Source) → IsAddress (address_of_source from)
      → disposition_of_datagram programs config now tx from rows datagram ≡ disposition_of_datagram free config now tx from rows datagram
  disposition_unconfined from fits =
      ap (λ (done : Disposition). if is_served from then (if is_there from rows then done else Discarded NotServed) else Discarded NotServed)
      (both_alike (λ client bytes. client_disposition config now client rows bytes) (λ from. disposition_of_sent programs.confinement from live)
      (λ from. relayed_where_sent) from fits (all_relayed from live programs.confinement))

  pub choice_unconfined : (from : Source) → IsAddress (address_of_source from) → chose programs from ≡ chose free from
  choice_unconfined from fits =
      ap (λ (chosen : Chosen). if is_served from && is_there from rows then chosen else Relaying None)
      (both_alike (λ client bytes. Passing bytes) (λ from sent. Relaying (let_through programs.confinement from live sent))
      (λ from sent. Relaying sent) from fits (λ sends permitted. ap Relaying (all_through from live programs.confinement sends permitted)))
