-- Interface. The rules send nothing for a datagram exactly where they discard it.
use Rattle.std.proofs.Common.{◌≡◌, ℕ, List, Bool, true, false, refl}
use Rattle.std.specs.Prelude.{◌==◌, Option, None, Some, Result, is_some, option_map, if◌then◌else◌, length, nat_le}
use Rattle.std.specs.Option.{is_none, ok_or}
use Rattle.stun.specs.Channels.{ChannelMessage}
use Rattle.stun.specs.Datagrams.{message_in, channel_in}
use Rattle.stun.specs.Messages.{Parts}
use Rattle.stun.specs.declared.registry.attribute.TheConstants.{XOR_PEER_ADDRESS, DATA}
use Rattle.attributes.specs.Addresses.{address_in}
use Rattle.addresses.specs.Addresses.{is_of_family}
use Rattle.addresses.specs.declared.address.Addr.{Addr}
use Rattle.credentials.specs.Checks.{first_value}
use Rattle.control.specs.Control.{all_understood}
use Rattle.control.specs.declared.config.Config.{Config}
use Rattle.control.specs.declared.request.Request.{Request}
use Rattle.tables.specs.LookUps.{allocation_at, allocation_of, channel_of, has_permission, peer_of}
use Rattle.tables.specs.Rows.{Rows, rows_at}
use Rattle.tables.specs.declared.allocation.Allocation.{Allocation}
use Rattle.semantics.specs.declared.limits.TheConstants.{MAX_DATAGRAM}
use Rattle.events.specs.Events.{Sending, ToPeer, ToClient}
use Rattle.events.specs.declared.meta.Source.{Source}
use Rattle.events.specs.declared.meta.Source.TheVariants.{Client, Peer}
use Rattle.basics.specs.Fallible as fallible
use Rattle.basics.specs.Fallible.{check}
use Rattle.basics.specs.Options.{◌>>=◌, guard}
use Rattle.rules.specs.ByRules.{by_rules, message, reply_to_request, request_of}
use Rattle.rules.specs.Discards.{discard_in, peer_test, ruled_disposition}
use Rattle.rules.specs.Dispositions.{channel_data_test, disposition_of_message, disposition_of_request, relayed_if, send_test}
use Rattle.rules.specs.FastPart.{begins_as_stun}
use Rattle.rules.specs.Rules.{send_indication, channel_data_from, message_to_client, peer_data_to, send_from, to_peer}
use Rattle.rules.specs.Systems.{reply_of_relaying}
use Rattle.rules.specs.declared.disposition.Discard.{Discard}
use Rattle.rules.specs.declared.disposition.Discard.TheVariants.{Malformed, NoAllocation, NoChannel, UnknownAttribute, Incomplete, NoPermission, OtherFamily, TooLong}
use Rattle.rules.specs.declared.disposition.Disposition.{Disposition}

-- nothing is sent exactly where this is a discard
abbrev pub Agree : Option Sending → Disposition → Type 0
Agree sent done = is_none sent ≡ is_some (discard_in done)

-- ---- relaying

module _ (rows : Rows) (a : Allocation) where
  abbrev family_test : Addr → Result (Unit {0}) Discard
  family_test peer = check (is_of_family a.family peer) OtherFamily

  of_family : (b : Bool) (peer : Addr) (bytes : List ℕ)
      → Agree (guard b >>= λ _. Some (ToPeer a.slot peer bytes)) (relayed_if (check b OtherFamily))
  of_family true peer bytes = refl
  of_family false peer bytes = refl

  -- ChannelData
  of_channel : (m : ChannelMessage) (o : Option Addr)
      → Agree ((o >>= λ to. Some (to, m.bytes)) >>= λ pair. to_peer a pair)
      (relayed_if (fallible.◌>>=◌ (ok_or o NoChannel) family_test))
  of_channel m None = refl
  of_channel m (Some to) = of_family (is_of_family a.family to) to m.bytes

  of_channel_message : (o : Option ChannelMessage)
      → Agree ((o >>= λ m. peer_of a.slot m.number rows >>= λ to. Some (to, m.bytes)) >>= λ pair. to_peer a pair)
      (relayed_if (fallible.◌>>=◌ (ok_or o Malformed)
      (λ m. fallible.◌>>=◌ (ok_or (peer_of a.slot m.number rows) NoChannel) family_test)))
  of_channel_message None = refl
  of_channel_message (Some m) = of_channel m (peer_of a.slot m.number rows)

  -- a Send indication
  of_permission : (b : Bool) (to : Addr) (content : List ℕ)
      → Agree ((guard b >>= λ _. Some (to, content)) >>= λ pair. to_peer a pair)
      (relayed_if (fallible.◌>>=◌ (check b NoPermission) (λ _. family_test to)))
  of_permission true to content = of_family (is_of_family a.family to) to content
  of_permission false to content = refl

  abbrev permission_test : Addr → Result (Unit {0}) Discard
  permission_test to = fallible.◌>>=◌ (check (has_permission a.slot to rows) NoPermission) (λ _. family_test to)

  of_address : (o : Option Addr) (content : List ℕ)
      → Agree ((o >>= λ to. guard (has_permission a.slot to rows) >>= λ _. Some (to, content)) >>= λ pair. to_peer a pair)
      (relayed_if (fallible.◌>>=◌ (ok_or o Incomplete) permission_test))
  of_address None content = refl
  of_address (Some to) content = of_permission (has_permission a.slot to rows) to content

  module _ (p : Parts) where
    abbrev address_test : List ℕ → Result (Unit {0}) Discard
    address_test value = fallible.◌>>=◌ (ok_or (address_in p.tx value) Incomplete) permission_test

    abbrev sent_to : List ℕ → List ℕ → Option (Addr × List ℕ)
    sent_to value content = address_in p.tx value >>= λ to. guard (has_permission a.slot to rows)
        >>= λ _. Some (to, content)

    of_content : (value : List ℕ) (o : Option (List ℕ))
        → Agree ((o >>= λ content. sent_to value content) >>= λ pair. to_peer a pair)
        (relayed_if (fallible.◌>>=◌ (ok_or o Incomplete) (λ _. address_test value)))
    of_content value None = refl
    of_content value (Some content) = of_address (address_in p.tx value) content

    abbrev content_test : List ℕ → Result (Unit {0}) Discard
    content_test value = fallible.◌>>=◌ (ok_or (first_value p DATA) Incomplete) (λ _. address_test value)

    of_value : (o : Option (List ℕ))
        → Agree ((o >>= λ value. first_value p DATA >>= λ content. sent_to value content) >>= λ pair. to_peer a pair)
        (relayed_if (fallible.◌>>=◌ (ok_or o Incomplete) content_test))
    of_value None = refl
    of_value (Some value) = of_content value (first_value p DATA)

    abbrev value_test : Result (Unit {0}) Discard
    value_test = fallible.◌>>=◌ (ok_or (first_value p XOR_PEER_ADDRESS) Incomplete) content_test

    abbrev sent_of : Option (Addr × List ℕ)
    sent_of = first_value p XOR_PEER_ADDRESS >>= λ value. first_value p DATA >>= λ content. sent_to value content

    of_understood : (b : Bool)
        → Agree ((guard b >>= λ _. sent_of) >>= λ pair. to_peer a pair)
        (relayed_if (fallible.◌>>=◌ (check b UnknownAttribute) (λ _. value_test)))
    of_understood true = of_value (first_value p XOR_PEER_ADDRESS)
    of_understood false = refl

module _ (client : Addr) (rows : Rows) where
  pub channel_data_agrees : (datagram : List ℕ)
      → Agree (channel_data_from client rows datagram) (relayed_if (channel_data_test client rows datagram))
  channel_data_agrees datagram = of (allocation_of client rows) where
    of : (o : Option Allocation)
        → Agree (o >>= λ a. (channel_in datagram >>= λ m. peer_of a.slot m.number rows >>= λ to. Some (to, m.bytes))
        >>= λ pair. to_peer a pair)
        (relayed_if (fallible.◌>>=◌ (ok_or o NoAllocation)
        (λ a. fallible.◌>>=◌ (ok_or (channel_in datagram) Malformed)
        (λ m. fallible.◌>>=◌ (ok_or (peer_of a.slot m.number rows) NoChannel) (family_test rows a)))))
    of None = refl
    of (Some a) = of_channel_message rows a (channel_in datagram)

  pub send_agrees : (p : Parts) → Agree (send_from client rows p) (relayed_if (send_test client rows p))
  send_agrees p = of (allocation_of client rows) where
    of : (o : Option Allocation)
        → Agree (o >>= λ a. (guard (all_understood p) >>= λ _. sent_of rows a p) >>= λ pair. to_peer a pair)
        (relayed_if (fallible.◌>>=◌ (ok_or o NoAllocation)
        (λ a. fallible.◌>>=◌ (check (all_understood p) UnknownAttribute) (λ _. value_test rows a p))))
    of None = refl
    of (Some a) = of_understood rows a p (all_understood p)

module _ (slot : ℕ) (peer : Addr) (tx : List ℕ) (rows : Rows) (content : List ℕ) where
  abbrev carried : List ℕ
  carried = message_to_client (channel_of slot peer rows) peer tx content

  of_tests : (o : Option Allocation) (permits fits : Bool)
      → Agree (option_map (λ a. a.client) o
      >>= λ client. option_map (ToClient client) (guard permits >>= λ _. guard fits >>= λ _. Some carried))
      (relayed_if (fallible.◌>>=◌ (ok_or o NoAllocation)
      (λ _. fallible.◌>>=◌ (check permits NoPermission) (λ _. check fits TooLong))))
  of_tests None permits fits = refl
  of_tests (Some a) false fits = refl
  of_tests (Some a) true false = refl
  of_tests (Some a) true true = refl

  pub peer_agrees : Agree (peer_data_to slot peer tx rows content)
      (relayed_if (peer_test slot peer tx rows content))
  peer_agrees = of_tests (allocation_at slot rows) (has_permission slot peer rows) (nat_le (length carried) MAX_DATAGRAM)

-- ---- clients

module _ (config : Config) (now : ℕ) (client : Addr) (rows : Rows) where
  of_request : (p : Parts) (o : Option Request)
      → Agree (reply_to_request config now client p rows o).answer (disposition_of_request config now client p rows o)
  of_request p None = refl
  of_request p (Some r) = refl

  of_kind : (p : Parts) (b : Bool)
      → Agree (if b then reply_of_relaying rows (send_from client (rows_at now rows) p) else reply_to_request config now client
      p rows (request_of p.kind)).answer
      (if b then relayed_if (send_test client (rows_at now rows) p) else disposition_of_request config now client p rows
      (request_of p.kind))
  of_kind p true = send_agrees client (rows_at now rows) p
  of_kind p false = of_request p (request_of p.kind)

  of_message : (o : Option Parts)
      → Agree (message config now client rows o).answer (disposition_of_message config now client rows o)
  of_message None = refl
  of_message (Some p) = of_kind p (p.kind == send_indication)

  of_datagram : (bytes : List ℕ) (b : Bool)
      → Agree (if b then message config now client rows (message_in bytes) else reply_of_relaying rows
      (channel_data_from client (rows_at now rows) bytes)).answer
      (if b then disposition_of_message config now client rows (message_in bytes) else relayed_if
      (channel_data_test client (rows_at now rows) bytes))
  of_datagram bytes true = of_message (message_in bytes)
  of_datagram bytes false = channel_data_agrees client (rows_at now rows) bytes

-- nothing is sent for a datagram of either side exactly where it is discarded
pub discards_agree : (config : Config) (now : ℕ) (tx : List ℕ) (from : Source) (rows : Rows) (bytes : List ℕ)
    → Agree (by_rules config now tx from rows bytes).answer
    (ruled_disposition config now tx from rows bytes)
discards_agree config now tx (Client client) rows bytes = of_datagram config now client rows bytes
    (begins_as_stun bytes)
discards_agree config now tx (Peer slot peer) rows bytes = peer_agrees slot peer tx (rows_at now rows)
    bytes
