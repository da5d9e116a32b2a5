-- With the shipped programs, what a datagram gives is what the rules give.
use Rattle.std.proofs.Common.{◌≡◌, ◌≢◌, ℕ, ◌+◌, ◌*◌, ◌<◌, ◌≤◌, All, List, [], ◌∷◌, length, Bool, true, false, inl, inr, refl, sym, ap, subst, ◌∙◌, arith, eqb-true}
use Rattle.std.specs.Prelude.{◌==◌, ◌&&◌, Option, None, Some, IfSome, nat_lt, nat_le, if◌then◌else◌}
use Rattle.std.specs.Option.{option_map, option_and_then, option_flatten}
use Rattle.std.proofs.lemmas.Bool.{cases_Bool, cond-true, cond-false, and_parts}
use Rattle.std.proofs.lemmas.Bool.Decides.{nat_tests}
use Rattle.std.proofs.lemmas.List.{length-map}
use Rattle.std.proofs.lemmas.List.Elements.{All-head, All-tail}
use Rattle.std.proofs.lemmas.Option.{none-some, same_Some, slice_get_past}
use Rattle.insn.specs.Encoding.{Encodes}
use Rattle.insn.specs.declared.instruction.Insn.{Insn}
use Rattle.semantics.specs.Machine.{AreBytes}
use Rattle.semantics.specs.Runs.{Run, Ending, IsDatagram, IsSafe}
use Rattle.stun.specs.Channels.{ChannelMessage}
use Rattle.stun.specs.Datagrams.{message_in, channel_in}
use Rattle.stun.specs.Messages.{Parts}
use Rattle.stun.specs.Ranges.{is_between}
use Rattle.stun.specs.Refusals.{number_at}
use Rattle.addresses.specs.Addresses.{IsAddress}
use Rattle.addresses.specs.declared.address.Addr.{Addr}
use Rattle.control.specs.declared.config.Config.{Config}
use Rattle.tables.specs.LookUps.{allocation_of, peer_of, has_permission, channel_of}
use Rattle.tables.specs.declared.allocation.Allocation.{Allocation}
use Rattle.tables.specs.Moments.{moment_of}
use Rattle.tables.specs.Rows.{Rows, held_at, rows_at}
use Rattle.tables.specs.WellFormed.{AreWellFormed}
use Rattle.tables.specs.laws.WellFormed.{rows_at-well_formed}
use Rattle.tables.specs.declared.held.Held.{Held}
use Rattle.events.specs.Events.{Sending, ToClient}
use Rattle.basics.specs.Options.{◌>>=◌}
use Rattle.events.specs.declared.meta.Source.{Source}
use Rattle.events.specs.declared.meta.Source.TheVariants.{Client, Peer}
use Rattle.rules.specs.declared.confinement.Confinement.{Confinement}
use Rattle.rules.specs.FastPart.{begins_as_stun, begins_as_channel_data, is_plain_send, are_address_and_content}
use Rattle.programs.specs.Relaying.{IsRelayStart, Relays, PassesOn, ServesClient, ServesPeer}
use Rattle.rules.specs.Rules.{send_indication, channel_data, channel_data_from, client_at, peer_data, to_peer}
use Rattle.programs.specs.Runs.{run_for}
use Rattle.programs.specs.declared.client.TheConstants.{CLIENT}
use Rattle.programs.specs.declared.peer.TheConstants.{PEER}
use Rattle.programs.specs.declared.verdict.TheConstants.{PASSES}
use Rattle.relay.specs.ByPrograms.{Programs, by_programs, let_through, of_run, of_ending, is_there}
use Rattle.relay.proofs.Confined.{all_through}
use Rattle.rules.specs.ByRules.{by_rules, from_client}
use Rattle.relay.specs.Shipped.{AreShipped}
use Rattle.rules.specs.Systems.{SystemReply, no_answer, reply_of_relaying, address_of_source, is_served, if_served}
use Rattle.rules.specs.Permitted.{IsPermitted}
use Rattle.rules.specs.laws.Client.{is_relayed, is_sent}
use Rattle.rules.specs.laws.Permitted.{channel_data_permitted, peer_data_permitted, send_permitted}

-- ---- what follows from a run, by what follows from a datagram that is passed on, and from what is sent else

module _ {X : Type 0} (passes : Addr → List ℕ → X) (sending : Option Sending → X) (tx : List ℕ) (live : Rows) (datagram : List ℕ) (code : List Insn) where
  abbrev run_from : Source → Run
  run_from from = run_for code tx from live datagram

  abbrev pub end : Source → X
  end from = of_run passes sending from live (length datagram) (run_from from)

  differs : (verdict : ℕ) → verdict ≢ PASSES → (verdict == PASSES) ≡ false
  differs verdict other = elim (cases_Bool (verdict == PASSES)) [
    | inl same ↦ absurd (other (eqb-true verdict PASSES same))
    | inr f ↦ f
  ]

  -- what is relayed by the program alone
  pub ends_relayed : (from : Source) (sends : Option Sending) → Relays code tx from live datagram sends → end from ≡ sending sends
  ends_relayed from sends is =
      ap (λ (e : Ending). of_ending passes sending from live (length datagram) (run_from from) e) is.exits
      ∙ cond-false (is.verdict == PASSES) _ _ (differs is.verdict is.alone)
      ∙ ap sending is.sent

  -- what is passed on as it came
  pub ends_passed : (client : Addr) → PassesOn code tx (Client client) live datagram → end (Client client) ≡ passes client datagram
  ends_passed client is =
      ap (λ (e : Ending). of_ending passes sending (Client client) live (length datagram) (run_from (Client client)) e) is.exits
      ∙ ap (passes client) is.unchanged

module _ (confinement : Option Confinement) (config : Config) (now : ℕ) (tx : List ℕ) (rows : Rows) (datagram : List ℕ) (code : List Insn) where
  abbrev live : Rows
  live = rows_at now rows

  abbrev passes : Addr → List ℕ → SystemReply
  passes client bytes = from_client config now client rows bytes

  abbrev relays : Source → Option Sending → SystemReply
  relays from sent = reply_of_relaying rows (let_through confinement from live sent)

  -- what the run of the code gives
  abbrev pub given : Source → SystemReply
  given from = end passes (relays from) tx live datagram code from

  -- what the rules send is let through
  gives_relayed : (from : Source) (sends : Option Sending) → IfSome sends (IsPermitted [] from live) → Relays code tx from live datagram sends → given from ≡ reply_of_relaying rows sends
  gives_relayed from sends permitted is =
      ends_relayed passes (relays from) tx live datagram code from sends is
      ∙ ap (reply_of_relaying rows) (all_through from live confinement sends permitted)

  -- what is passed on as it came goes by the rules
  gives_passed : (client : Addr) → PassesOn code tx (Client client) live datagram → given (Client client) ≡ from_client config now client rows datagram
  gives_passed client = ends_passed passes (relays (Client client)) tx live datagram code client

  -- ---- what begins neither as STUN nor as ChannelData does

  no_message : {X : Type 0} (x : X) (a b c : Bool) → b ≡ false → (if a && b && c then Some x else None) ≡ None
  no_message x true false c e = refl
  no_message x false b c e = refl
  no_message x true true c e = absurd cc

  beside : (b c n : ℕ) → n ≡ b * 256 + c → c < 256 → is_between 0x40 0x7f b ≡ false → is_between 0x4000 0x7fff n ≡ false
  beside b c n is small other = grind (arith, nat_tests)

  pub no_channel_data : (d : List ℕ) → All (λ b. b < 256) d → begins_as_channel_data d ≡ false → channel_in d ≡ None
  no_channel_data [] fit other = refl
  no_channel_data (b ∷ []) fit other = refl
  no_channel_data (b ∷ c ∷ rest) fit other =
      let d = b ∷ c ∷ rest in
      no_message _ (nat_le 4 (length d)) (is_between 0x4000 0x7fff (number_at 2 0 d)) _
      (beside b c (number_at 2 0 d) (omega arith) (All-head (λ x. x < 256) c rest (All-tail (λ x. x < 256) b (c ∷ rest) fit)) other)

  pub not_relayed : (client : Addr) → channel_in datagram ≡ None → channel_data_from client live datagram ≡ None
  not_relayed client none = of (allocation_of client live) where
    of : (own : Option Allocation) → (own >>= λ at. channel_data (λ number. peer_of at.slot number live) datagram >>= λ pair. to_peer at pair) ≡ None
    of None = refl
    of (Some at) = ap (λ (m : Option ChannelMessage). (m >>= λ m. peer_of at.slot m.number live >>= λ to. Some (to, m.bytes)) >>= λ pair. to_peer at pair) none

  -- ---- a client's datagram

  client_gives : (client : Addr) → IsDatagram datagram → ServesClient code tx client live datagram → given (Client client) ≡ from_client config now client rows datagram
  client_gives client is serves = elim (cases_Bool (begins_as_stun datagram)) [
    | inl stun ↦ by_message stun (message_in datagram) refl
    | inr other ↦ elim (cases_Bool (begins_as_channel_data datagram)) [
      | inl channel ↦ gives_relayed (Client client) _ (channel_data_permitted client live datagram) (serves.channel_data channel) ∙ sym (is_relayed config now client rows datagram other)
      | inr neither ↦
          gives_relayed (Client client) None tt (serves.other neither other)
          ∙ ap (reply_of_relaying rows) (sym (not_relayed client (no_channel_data datagram is.bytes_fit neither)))
          ∙ sym (is_relayed config now client rows datagram other)
    ]
  ] where
    by_message : begins_as_stun datagram ≡ true → (m : Option Parts) → message_in datagram ≡ m → given (Client client) ≡ from_client config now client rows datagram
    by_message stun None e = gives_passed client (serves.stun stun (λ p found. absurd (none-some p (sym e ∙ found))))
    by_message stun (Some p) e = elim (cases_Bool (is_plain_send p)) [
      | inl plain ↦
          gives_relayed (Client client) _ (send_permitted client live p) (serves.send p e plain)
          ∙ sym (is_sent config now client rows datagram p stun e (and_parts (p.kind == send_indication) (are_address_and_content p.attributes) plain).0)
      | inr other ↦ gives_passed client (serves.stun stun (λ q found. subst (λ (r : Parts). is_plain_send r ≡ false) (same_Some p q (sym e ∙ found)) other))
    ]

  -- ---- a peer's datagram

  beyond : (a b : ℕ) → nat_lt a b ≡ false → b ≤ a
  beyond a b other = grind (arith, nat_tests)

  -- a slot that isn't there has no client
  no_client : (slot : ℕ) → nat_lt slot (length rows.slots) ≡ false → client_at slot live ≡ None
  no_client slot past =
      let t = moment_of rows.moment now in
      let few : length live.slots ≤ slot = omega (arith, length-map rows.slots (option_and_then (held_at t)), beyond slot (length rows.slots) past) in
      ap (λ (o : Option (Option Held)). option_map (λ a. a.client) (option_map (λ held. held.allocation) (option_flatten o))) (slice_get_past live.slots slot few)

  peer_gives : (slot : ℕ) (peer : Addr) → ServesPeer code tx slot peer live datagram
      → (if is_there (Peer slot peer) rows then given (Peer slot peer) else no_answer rows) ≡ by_rules config now tx (Peer slot peer) rows datagram
  peer_gives slot peer serves = elim (cases_Bool (is_there (Peer slot peer) rows)) [
    | inl there ↦ cond-true (is_there (Peer slot peer) rows) (given (Peer slot peer)) (no_answer rows) there ∙ gives_relayed (Peer slot peer) _ (peer_data_permitted slot peer tx live datagram) serves
    | inr past ↦
        cond-false (is_there (Peer slot peer) rows) (given (Peer slot peer)) (no_answer rows) past
        ∙ ap (λ (client : Option Addr). reply_of_relaying rows (client >>= λ c. option_map (ToClient c) (peer_data (has_permission slot peer live) (channel_of slot peer live) peer tx datagram))) (sym (no_client slot past))
  ]

-- ---- both sides

-- what the two laws of the programs state
abbrev pub ClientServes : Type 0
ClientServes = (code : List Insn) → Encodes code CLIENT.now → IsSafe code
    → (client : Addr) (tx : List ℕ) (rows : Rows) (datagram : List ℕ) → IsRelayStart client tx rows datagram → ServesClient code tx client rows datagram

abbrev pub PeerServes : Type 0
PeerServes = (code : List Insn) → Encodes code PEER.now → IsSafe code
    → (slot : ℕ) (peer : Addr) (tx : List ℕ) (rows : Rows) (datagram : List ℕ) → IsRelayStart peer tx rows datagram → ServesPeer code tx slot peer rows datagram

module _ (serves_client : ClientServes) (serves_peer : PeerServes) (programs : Programs) (are : AreShipped programs)
    (config : Config) (now : ℕ) (tx : List ℕ) (rows : Rows) (datagram : List ℕ)
    (well_formed : AreWellFormed rows) (is_id : AreBytes 12 tx) (is : IsDatagram datagram) where
  start : (address : Addr) → IsAddress address → IsRelayStart address tx (rows_at now rows) datagram
  start address fits = record { well_formed = rows_at-well_formed now rows well_formed; is_address = fits; id_bytes = is_id; is_datagram = is }

  -- any source
  served : (from : Source) → IsAddress (address_of_source from) → by_programs programs config now tx from rows datagram ≡ by_rules config now tx from rows datagram
  served (Client client) fits =
      client_gives programs.confinement config now tx rows datagram programs.client client is
      (serves_client programs.client are.client.encoded are.client.safe client tx (rows_at now rows) datagram (start client fits))
  served (Peer slot peer) fits =
      peer_gives programs.confinement config now tx rows datagram programs.peer slot peer
      (serves_peer programs.peer are.peer.encoded are.peer.safe slot peer tx (rows_at now rows) datagram (start peer fits))

  -- to a client over IPv6 both systems are silent
  pub same_reply : (from : Source) → IsAddress (address_of_source from)
      → if_served (by_programs programs) config now tx from rows datagram ≡ if_served by_rules config now tx from rows datagram
  same_reply from address = of (is_served from) where
    of : (b : Bool) → (if b then by_programs programs config now tx from rows datagram else no_answer rows) ≡ (if b then by_rules config now tx from rows datagram else no_answer rows)
    of true = served from address
    of false = refl
