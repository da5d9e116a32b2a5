-- Interface. What the rules send is permitted, and passes the look-ups that decide it.
use Rattle.std.proofs.Common.{◌≡◌, ℕ, List, [], Bool, true, false, refl, ap}
use Rattle.std.specs.Prelude.{◌==◌, ◌||◌, ◌&&◌, Option, None, Some, IfSome, option_map, if◌then◌else◌, length, nat_le}
use Rattle.std.specs.List.{list_any}
use Rattle.stun.specs.Channels.{ChannelMessage}
use Rattle.stun.specs.Datagrams.{message_in, channel_in}
use Rattle.stun.specs.Messages.{Parts}
use Rattle.stun.specs.declared.registry.attribute.TheConstants.{XOR_PEER_ADDRESS, DATA}
use Rattle.attributes.specs.Addresses.{address_in}
use Rattle.addresses.specs.Addresses.{is_of_family}
use Rattle.addresses.specs.declared.address.Addr.{Addr}
use Rattle.credentials.specs.Checks.{first_value}
use Rattle.control.specs.Control.{all_understood}
use Rattle.control.specs.declared.config.Config.{Config}
use Rattle.control.specs.declared.request.Request.{Request}
use Rattle.tables.specs.LookUps.{allocation_at, allocation_of, channel_of, has_permission, peer_of}
use Rattle.tables.specs.Rows.{Rows, rows_at}
use Rattle.tables.specs.laws.Channel.{peer_of-channel_of}
use Rattle.tables.specs.declared.allocation.Allocation.{Allocation}
use Rattle.semantics.specs.declared.limits.TheConstants.{MAX_DATAGRAM}
use Rattle.events.specs.Events.{Sending, ToPeer, ToClient}
use Rattle.events.specs.declared.meta.Source.{Source}
use Rattle.events.specs.declared.meta.Source.TheVariants.{Client, Peer}
use Rattle.basics.specs.Options.{◌>>=◌, guard}
use Rattle.rules.specs.ByRules.{by_rules, control, from_client, message, reply_to_request, request_of}
use Rattle.rules.specs.FastPart.{begins_as_stun}
use Rattle.rules.specs.Permitted.{counted_as, holds_as, is_alias_of, is_permitted, is_permitted_peer, IsPermitted}
use Rattle.rules.specs.Rules.{send_indication, channel_data_from, message_to_client, peer_data_to, send_from, to_peer}
use Rattle.rules.specs.Systems.{reply_of_relaying}
use Rattle.rules.specs.declared.confinement.Alias.{Alias}

-- ---- relaying

or_first : (a b : Bool) → a ≡ true → (a || b) ≡ true
or_first true b t = refl
or_first false b t = absurd cc

or_second : (a b : Bool) → b ≡ true → (a || b) ≡ true
or_second true b t = refl
or_second false b t = t

module _ (client : Addr) (rows : Rows) where
  abbrev MayGo : Option Sending → Type 0
  MayGo sent = IfSome sent (IsPermitted [] (Client client) rows)

  -- to a permitted peer, if it is of the family
  to_permitted : (a : Allocation) → allocation_of client rows ≡ Some a → (peer : Addr) (bytes : List ℕ)
      → is_permitted_peer a.slot rows peer ≡ true → MayGo (to_peer a (peer, bytes))
  to_permitted a own peer bytes permitted = of (is_of_family a.family peer) refl where
    of : (b : Bool) → is_of_family a.family peer ≡ b → MayGo (guard b >>= λ _. Some (ToPeer a.slot peer bytes))
    of true family = record {
      allocation = a;
      of_client = own;
      from_slot = refl;
      family = family;
      permitted = or_first (is_permitted_peer a.slot rows peer) false permitted;
    }
    of false family = tt

  pub channel_data_permitted : (datagram : List ℕ) → MayGo (channel_data_from client rows datagram)
  channel_data_permitted datagram = of (allocation_of client rows) refl where
    of_peer : (a : Allocation) → allocation_of client rows ≡ Some a → (m : ChannelMessage) (o : Option Addr) → peer_of a.slot m.number rows ≡ o
        → MayGo ((o >>= λ to. Some (to, m.bytes)) >>= λ pair. to_peer a pair)
    of_peer a own m None bound = tt
    of_peer a own m (Some peer) bound =
        to_permitted a own peer m.bytes (or_second (has_permission a.slot peer rows) _ (peer_of-channel_of a.slot m.number peer rows bound))

    of_message : (a : Allocation) → allocation_of client rows ≡ Some a → (o : Option ChannelMessage)
        → MayGo ((o >>= λ m. peer_of a.slot m.number rows >>= λ to. Some (to, m.bytes)) >>= λ pair. to_peer a pair)
    of_message a own None = tt
    of_message a own (Some m) = of_peer a own m (peer_of a.slot m.number rows) refl

    of : (o : Option Allocation) → allocation_of client rows ≡ o
        → MayGo (o >>= λ a. (channel_in datagram >>= λ m. peer_of a.slot m.number rows >>= λ to. Some (to, m.bytes)) >>= λ pair. to_peer a pair)
    of None own = tt
    of (Some a) own = of_message a own (channel_in datagram)

  abbrev sent_of_parts : Parts → ℕ → Option (Addr × List ℕ)
  sent_of_parts p slot = first_value p XOR_PEER_ADDRESS >>= λ value. first_value p DATA >>= λ content.
      address_in p.tx value >>= λ to. guard (has_permission slot to rows) >>= λ _. Some (to, content)

  module _ (p : Parts) (a : Allocation) (own : allocation_of client rows ≡ Some a) where
    abbrev sent_to : List ℕ → List ℕ → Option (Addr × List ℕ)
    sent_to value content = address_in p.tx value >>= λ to. guard (has_permission a.slot to rows) >>= λ _. Some (to, content)

    of_permission : (peer : Addr) (content : List ℕ) (b : Bool) → has_permission a.slot peer rows ≡ b
        → MayGo ((guard b >>= λ _. Some (peer, content)) >>= λ pair. to_peer a pair)
    of_permission peer content true permitted = to_permitted a own peer content (or_first (has_permission a.slot peer rows) _ permitted)
    of_permission peer content false permitted = tt

    of_address : (o : Option Addr) (content : List ℕ)
        → MayGo ((o >>= λ to. guard (has_permission a.slot to rows) >>= λ _. Some (to, content)) >>= λ pair. to_peer a pair)
    of_address None content = tt
    of_address (Some peer) content = of_permission peer content (has_permission a.slot peer rows) refl

    of_content : (value : List ℕ) (o : Option (List ℕ)) → MayGo ((o >>= λ content. sent_to value content) >>= λ pair. to_peer a pair)
    of_content value None = tt
    of_content value (Some content) = of_address (address_in p.tx value) content

    of_value : (o : Option (List ℕ)) → MayGo ((o >>= λ value. first_value p DATA >>= λ content. sent_to value content) >>= λ pair. to_peer a pair)
    of_value None = tt
    of_value (Some value) = of_content value (first_value p DATA)

    of_understood : (b : Bool) → MayGo ((guard b >>= λ _. sent_of_parts p a.slot) >>= λ pair. to_peer a pair)
    of_understood true = of_value (first_value p XOR_PEER_ADDRESS)
    of_understood false = tt

  pub send_permitted : (p : Parts) → MayGo (send_from client rows p)
  send_permitted p = of (allocation_of client rows) refl where
    of : (o : Option Allocation) → allocation_of client rows ≡ o
        → MayGo (o >>= λ a. (guard (all_understood p) >>= λ _. sent_of_parts p a.slot) >>= λ pair. to_peer a pair)
    of None own = tt
    of (Some a) own = of_understood p a own (all_understood p)

module _ (slot : ℕ) (peer : Addr) (tx : List ℕ) (rows : Rows) (content : List ℕ) where
  abbrev MayCome : Option Sending → Type 0
  MayCome sent = IfSome sent (IsPermitted [] (Peer slot peer) rows)

  abbrev carried : List ℕ
  carried = message_to_client (channel_of slot peer rows) peer tx content

  of_tests : (o : Option Allocation) → allocation_at slot rows ≡ o → (permits fits : Bool) → has_permission slot peer rows ≡ permits
      → MayCome (option_map (λ a. a.client) o
      >>= λ client. option_map (ToClient client) (guard permits >>= λ _. guard fits >>= λ _. Some carried))
  of_tests None at permits fits permitted = tt
  of_tests (Some a) at false fits permitted = tt
  of_tests (Some a) at true false permitted = tt
  of_tests (Some a) at true true permitted = record {
    at_slot = ap (option_map (λ (a : Allocation). a.client)) at;
    permitted = or_first (has_permission slot peer rows) false permitted;
  }

  pub peer_data_permitted : MayCome (peer_data_to slot peer tx rows content)
  peer_data_permitted =
      of_tests (allocation_at slot rows) refl (has_permission slot peer rows) (nat_le (length carried) MAX_DATAGRAM) refl

-- ---- the rules

module _ (config : Config) (now : ℕ) (client : Addr) (rows : Rows) where
  of_request : (p : Parts) (o : Option Request) → MayGo client (rows_at now rows) (reply_to_request config now client p rows o).answer
  of_request p None = tt
  of_request p (Some r) = refl

  of_kind : (p : Parts) (b : Bool)
      → MayGo client (rows_at now rows) (if b then reply_of_relaying rows (send_from client (rows_at now rows) p) else control config now client p rows).answer
  of_kind p true = send_permitted client (rows_at now rows) p
  of_kind p false = of_request p (request_of p.kind)

  of_message : (o : Option Parts) → MayGo client (rows_at now rows) (message config now client rows o).answer
  of_message None = tt
  of_message (Some p) = of_kind p (p.kind == send_indication)

  pub from_client_permitted : (bytes : List ℕ) → MayGo client (rows_at now rows) (from_client config now client rows bytes).answer
  from_client_permitted bytes = of (begins_as_stun bytes) where
    of : (b : Bool) → MayGo client (rows_at now rows) (if b then message config now client rows (message_in bytes) else reply_of_relaying rows
        (channel_data_from client (rows_at now rows) bytes)).answer
    of true = of_message (message_in bytes)
    of false = channel_data_permitted client (rows_at now rows) bytes

-- each sending by the rules is permitted
pub rules_permitted : (config : Config) (now : ℕ) (tx : List ℕ) (from : Source) (rows : Rows) (bytes : List ℕ)
    → IfSome (by_rules config now tx from rows bytes).answer (IsPermitted [] from (rows_at now rows))
rules_permitted config now tx (Client client) rows bytes = from_client_permitted config now client rows bytes
rules_permitted config now tx (Peer slot peer) rows bytes = peer_data_permitted slot peer tx (rows_at now rows) bytes

-- ---- with addresses that count as others

-- what holds of a peer itself
holds_itself : (aliases : List Alias) (test : Addr → Bool) (peer : Addr) → holds_as [] test peer ≡ true → holds_as aliases test peer ≡ true
holds_itself aliases test peer is = of (test peer) is where
  of : (b : Bool) → (b || false) ≡ true → (b || list_any (λ alias. is_alias_of peer alias && test (counted_as peer alias)) aliases) ≡ true
  of true is = refl
  of false is = absurd cc

-- what is permitted without such addresses is permitted with them
pub permitted_more : (aliases : List Alias) (from : Source) (rows : Rows) (sending : Sending) → IsPermitted [] from rows sending → IsPermitted aliases from rows sending
permitted_more aliases (Client client) rows (ToPeer slot peer bytes) is = record {
  allocation = is.allocation;
  of_client = is.of_client;
  from_slot = is.from_slot;
  family = is.family;
  permitted = holds_itself aliases (is_permitted_peer slot rows) peer is.permitted;
}
permitted_more aliases (Client client) rows (ToClient to bytes) is = is
permitted_more aliases (Peer slot peer) rows (ToPeer from to bytes) is = absurd is
permitted_more aliases (Peer slot peer) rows (ToClient client bytes) is = record {
  at_slot = is.at_slot;
  permitted = holds_itself aliases (λ name. has_permission slot name rows) peer is.permitted;
}

-- ---- the look-ups that decide

pub permitted_passes : (aliases : List Alias) (from : Source) (rows : Rows) (sending : Sending) → IsPermitted [] from rows sending → is_permitted aliases from rows sending ≡ true
permitted_passes aliases (Client client) rows (ToPeer slot peer bytes) is = holds_itself aliases (is_permitted_peer slot rows) peer is.permitted
permitted_passes aliases (Client client) rows (ToClient to bytes) is = refl
permitted_passes aliases (Peer slot peer) rows (ToPeer from to bytes) is = absurd is
permitted_passes aliases (Peer slot peer) rows (ToClient client bytes) is = holds_itself aliases (λ name. has_permission slot name rows) peer is.permitted
