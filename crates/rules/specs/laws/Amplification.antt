-- Interface. What the rules send for a datagram of a client is not much longer, or a response of a bounded length.
use Rattle.std.proofs.Common.{◌≡◌, ◌≤◌, ◌⊎◌, ℕ, ◌+◌, ◌*◌, List, [], ◌∷◌, length, take, Bool, true, false, inl, inr, refl, arith}
use Rattle.std.specs.Prelude.{◌==◌, Option, None, Some, IfSome, Result, Ok, Err, cond, if◌then◌else◌, drop}
use Rattle.std.proofs.Math.Nat.{le-max_left, le-max_right, le_trans}
use Rattle.std.proofs.lemmas.List.{length-take, length-drop}
use Rattle.stun.specs.Channels.{ChannelMessage}
use Rattle.stun.specs.Datagrams.{channel_in, is_channel_data, message_in}
use Rattle.stun.specs.Messages.{padding_count, attribute_length, Parts, parts_bytes}
use Rattle.stun.specs.Refusals.{number_at}
use Rattle.stun.specs.declared.registry.attribute.TheConstants.{DATA, XOR_PEER_ADDRESS}
use Rattle.stun.specs.declared.registry.Class.TheVariants as class
use Rattle.stun.specs.declared.registry.ErrorCode.{ErrorCode}
use Rattle.stun.specs.declared.registry.ErrorCode.TheVariants.{BadRequest, Unauthenticated, UnknownAttribute, AllocationMismatch, StaleNonce, AddressFamilyNotSupported, WrongCredentials, UnsupportedTransport, PeerAddressFamilyMismatch, InsufficientCapacity}
use Rattle.attributes.specs.Addresses.{address_in, address_value, xor_bytes}
use Rattle.addresses.specs.Addresses.{is_of_family}
use Rattle.attributes.specs.Errors.{unknown_value}
use Rattle.addresses.specs.declared.address.Addr.{Addr}
use Rattle.addresses.specs.declared.address.Addr.TheVariants.{V4, V6}
use Rattle.credentials.specs.Checks.{first_value, user_in}
use Rattle.credentials.specs.TimeLimited.{Account}
use Rattle.credentials.specs.declared.checking.AuthError.{AuthError}
use Rattle.control.specs.Control.{Decision, all_understood, binding, decision, grant_of, refused_credentials}
use Rattle.control.specs.Replies.{error_attributes, grant_attributes, relayed_address, reply_to}
use Rattle.control.specs.Responding.{check_of, key_for}
use Rattle.control.specs.Unknown.{unknown_types}
use Rattle.control.specs.declared.config.Config.{Config}
use Rattle.control.specs.declared.reply.Grant.{Grant}
use Rattle.control.specs.declared.reply.Grant.TheVariants as grant
use Rattle.control.specs.declared.request.Request.{Request}
use Rattle.control.specs.declared.request.Request.TheVariants as request
use Rattle.control.specs.declared.request.TurnRequest.{TurnRequest}
use Rattle.tables.specs.LookUps.{allocation_of, has_permission, peer_of}
use Rattle.tables.specs.Rows.{Rows, rows_at}
use Rattle.tables.specs.declared.allocation.Allocation.{Allocation}
use Rattle.events.specs.Events.{Sending}
use Rattle.basics.specs.Options.{◌>>=◌, guard}
use Rattle.rules.specs.Amplification.{IsRelayed, RespondsTo, bytes_sent, challenge_length, longest_unauthenticated}
use Rattle.rules.specs.Authentication.{IsAuthenticated}
use Rattle.rules.specs.ByRules.{control, from_client, message, reply_to_request, reply_with, request_of}
use Rattle.rules.specs.FastPart.{begins_as_stun}
use Rattle.rules.specs.Rules.{send_indication, channel_data, channel_data_from, send, send_from, to_peer}
use Rattle.rules.specs.Systems.{reply_of_relaying}
use Rattle.rules.specs.laws.Challenges.{GivesNoChallenge, IsNoChallenge, no_challenge}
use Rattle.rules.specs.laws.Lengths.{IsSpelled, first_value-short, length-reply, length_of_all, message_in-spelled}

-- ---- responses

address_short : (address : Addr) (tx : List ℕ) → attribute_length (address_value address tx) ≤ 24
unfolding address_value xor_bytes
address_short (V4 ip port) tx = omega arith
address_short (V6 ip port) tx = omega arith

grant_short : (config : Config) (client : Addr) (tx : List ℕ) (g : Grant) → length_of_all (grant_attributes config client tx g) ≤ 56
grant_short config client tx grant.Mapped = omega (arith, address_short client tx)
grant_short config client tx (grant.Allocated family slot lifetime) =
    omega (arith, address_short (relayed_address config family slot) tx, address_short client tx)
grant_short config client tx (grant.Refreshed lifetime) = omega arith
grant_short config client tx grant.Done = omega arith

length-unknown_value : (kinds : List ℕ) → length (unknown_value kinds) ≡ 2 * length kinds
length-unknown_value [] = refl
length-unknown_value (kind ∷ kinds) = omega (arith, length-unknown_value kinds)

unknown_length : (n k : ℕ) → n ≡ 2 * k → k ≤ 16 → 4 + n + padding_count n ≤ 36
unknown_length n k twice few = omega arith

unknown_short : (p : Parts) → attribute_length (unknown_value (unknown_types p)) ≤ 36
unknown_short p = unknown_length _ _ (length-unknown_value (unknown_types p)) (omega (arith, length-take {A = ℕ}))

-- an error that is no challenge
error_short : (config : Config) (p : Parts) (error : ErrorCode) → IsNoChallenge error → length_of_all (error_attributes config p error) ≤ 64
error_short config p Unauthenticated none = absurd none
error_short config p StaleNonce none = absurd none
error_short config p UnknownAttribute none = omega (arith, unknown_short p)
error_short config p BadRequest none = omega arith
error_short config p AllocationMismatch none = omega arith
error_short config p AddressFamilyNotSupported none = omega arith
error_short config p WrongCredentials none = omega arith
error_short config p UnsupportedTransport none = omega arith
error_short config p PeerAddressFamilyMismatch none = omega arith
error_short config p InsufficientCapacity none = omega arith

-- any error, where the response is not signed
error_bounded : (config : Config) (p : Parts) (error : ErrorCode) → 20 + length_of_all (error_attributes config p error) ≤ longest_unauthenticated config
error_bounded config p error = of error where
  others : (error : ErrorCode) → IsNoChallenge error → 20 + length_of_all (error_attributes config p error) ≤ longest_unauthenticated config
  others error none = le_trans (omega (arith, error_short config p error none)) (le-max_left 84 (challenge_length config))

  of : (error : ErrorCode) → 20 + length_of_all (error_attributes config p error) ≤ longest_unauthenticated config
  of Unauthenticated = le_trans (omega arith) (le-max_right 84 (challenge_length config))
  of StaleNonce = le_trans (omega arith) (le-max_right 84 (challenge_length config))
  of BadRequest = others BadRequest tt
  of UnknownAttribute = others UnknownAttribute tt
  of AllocationMismatch = others AllocationMismatch tt
  of AddressFamilyNotSupported = others AddressFamilyNotSupported tt
  of WrongCredentials = others WrongCredentials tt
  of UnsupportedTransport = others UnsupportedTransport tt
  of PeerAddressFamilyMismatch = others PeerAddressFamilyMismatch tt
  of InsufficientCapacity = others InsufficientCapacity tt

module _ (config : Config) (r : Request) (client : Addr) (p : Parts) (long : length p.tx ≡ 12) where
  -- a response that is not signed
  unsigned_bounded : (result : Result Grant ErrorCode) → length (parts_bytes (reply_to config r client p None result)) ≤ longest_unauthenticated config
  unsigned_bounded (Ok given) =
      let attributes = grant_attributes config client p.tx given in
      le_trans (omega (arith, length-reply r class.Success p.tx attributes None long, grant_short config client p.tx given))
      (le-max_left 84 (challenge_length config))
  unsigned_bounded (Err error) =
      le_trans (omega (arith, length-reply r class.Error p.tx (error_attributes config p error) None long)) (error_bounded config p error)

  -- and one that is
  signed_bounded : (key : List ℕ) (d : Decision) → GivesNoChallenge d → length (parts_bytes (reply_to config r client p (Some key) (grant_of d))) ≤ 108
  signed_bounded key (Ok given) none =
      let attributes = grant_attributes config client p.tx given.0 in
      omega (arith, length-reply r class.Success p.tx attributes (Some key) long, grant_short config client p.tx given.0)
  signed_bounded key (Err error) none =
      omega (arith, length-reply r class.Error p.tx (error_attributes config p error) (Some key) long, error_short config p error none)

-- ---- relaying

-- what holds of each result of the second of two steps holds of that of both
pub each : {A B : Type 0} (P : B → Type 0) (o : Option A) (f : A → Option B) → ((x : A) → IfSome (f x) P) → IfSome (o >>= f) P
each P None f of = tt
each P (Some x) f of = of x

-- also where something holds of that of the first
pub each_with : {A B : Type 0} (Q : A → Type 0) (P : B → Type 0) (o : Option A) (f : A → Option B) → IfSome o Q → ((x : A) → Q x → IfSome (f x) P)
    → IfSome (o >>= f) P
each_with Q P None f holds of = tt
each_with Q P (Some x) f holds of = of x holds

pub each_more : {A : Type 0} (Q P : A → Type 0) (o : Option A) → IfSome o Q → ((x : A) → Q x → P x) → IfSome o P
each_more Q P None holds of = tt
each_more Q P (Some x) holds of = of x holds

-- of at most so many bytes
module _ (most : ℕ) where
  abbrev pub IsShort : List ℕ → Type 0
  IsShort bytes = length bytes ≤ most

  abbrev pub SendsShort : Sending → Type 0
  SendsShort sending = IsShort (bytes_sent sending)

  pub to_peer_short : (a : Allocation) (pair : Addr × List ℕ) → IsShort pair.1 → IfSome (to_peer a pair) SendsShort
  to_peer_short a pair short = each SendsShort (guard (is_of_family a.family pair.0)) _ (λ _. short)

module _ (client : Addr) (live : Rows) (datagram : List ℕ) where
  abbrev IsPart : List ℕ → Type 0
  IsPart bytes = IsShort (length datagram) bytes

  abbrev HasPart : Addr × List ℕ → Type 0
  HasPart pair = IsPart pair.1

  abbrev SendsPart : Sending → Type 0
  SendsPart sending = SendsShort (length datagram) sending

  channel_in_part : IfSome (channel_in datagram) (λ m. IsPart m.bytes)
  channel_in_part = of (is_channel_data datagram) where
    of : (b : Bool) → IfSome (cond b (Some (record { number = number_at 2 0 datagram; bytes = take (number_at 2 2 datagram) (drop 4 datagram) })) None)
        (λ (m : ChannelMessage). IsPart m.bytes)
    of true = omega (arith, length-take (number_at 2 2 datagram) (drop 4 datagram), length-drop 4 datagram)
    of false = tt

  channel_data_part : (peer : ℕ → Option Addr) → IfSome (channel_data peer datagram) HasPart
  channel_data_part peer =
      each_with (λ (m : ChannelMessage). IsPart m.bytes) HasPart (channel_in datagram) _ channel_in_part (λ m part.
      each HasPart (peer m.number) _ (λ to. part))

  channel_data_from_part : IfSome (channel_data_from client live datagram) SendsPart
  channel_data_from_part =
      each SendsPart (allocation_of client live) _ (λ a.
      each_with HasPart SendsPart (channel_data (λ number. peer_of a.slot number live) datagram) _ (channel_data_part (λ number. peer_of a.slot number live))
      (to_peer_short (length datagram) a))

  module _ (p : Parts) (is : IsSpelled datagram p) where
    send_part : (permits : Addr → Bool) → IfSome (send permits p) HasPart
    send_part permits =
        each HasPart (guard (all_understood p)) _ (λ _.
        each HasPart (first_value p XOR_PEER_ADDRESS) _ (λ value.
        each_with IsPart HasPart (first_value p DATA) _ (first_value-short datagram p DATA is) (λ content part.
        each HasPart (address_in p.tx value) _ (λ to.
        each HasPart (guard (permits to)) _ (λ _. part)))))

    send_from_part : IfSome (send_from client live p) SendsPart
    send_from_part =
        each SendsPart (allocation_of client live) _ (λ a.
        each_with HasPart SendsPart (send (λ to. has_permission a.slot to live) p) _ (send_part (λ to. has_permission a.slot to live))
        (to_peer_short (length datagram) a))

-- ---- the rules

module _ (config : Config) (now : ℕ) (client : Addr) (rows : Rows) (bytes : List ℕ) where
  abbrev IsBounded : Option Sending → Type 0
  IsBounded sent = IfSome sent (λ sending. IsRelayed (length bytes) sending ⊎ RespondsTo config now client rows bytes sending)

  relayed : (sent : Option Sending) → IfSome sent (SendsShort (length bytes)) → IsBounded sent
  relayed sent short =
      each_more (SendsShort (length bytes)) (λ sending. IsRelayed (length bytes) sending ⊎ RespondsTo config now client rows bytes sending) sent short
      (λ sending few. inl (omega (arith, few)))

  module _ (p : Parts) (parsed : message_in bytes ≡ Some p) where
    is : IsSpelled bytes p
    is = message_in-spelled bytes p parsed

    of_check : (r : TurnRequest) → request_of p.kind ≡ Some (request.Turn r)
        → (checked : Result Account AuthError) → check_of config now client p rows ≡ checked
        → IsBounded (reply_with config (request.Turn r) client p rows (decision r (user_in checked) config client p (rows_at now rows), key_for checked)).answer
    of_check r kind (Ok account) accepted =
        let authenticated : IsAuthenticated config now client rows bytes = record { message = p; parsed = parsed; asked = r; kind = kind; account = account; accepted = accepted } in
        let made = decision r (Ok account.user) config client p (rows_at now rows) in
        let short = signed_bounded config (request.Turn r) client p is.id account.key made (no_challenge config client account.user p (rows_at now rows) r) in
        inr (inr (authenticated, (refl, short)))
    of_check r kind (Err error) refused = inr (inl (refl, unsigned_bounded config (request.Turn r) client p is.id (Err (refused_credentials error))))

    of_request : (o : Option Request) → request_of p.kind ≡ o → IsBounded (reply_to_request config now client p rows o).answer
    of_request None kind = tt
    of_request (Some request.Binding) kind = inr (inl (refl, unsigned_bounded config request.Binding client p is.id (grant_of (binding p))))
    of_request (Some (request.Turn r)) kind = of_check r kind (check_of config now client p rows) refl

    of_kind : (b : Bool) → IsBounded (if b then reply_of_relaying rows (send_from client (rows_at now rows) p) else control config now client p rows).answer
    of_kind true = relayed (send_from client (rows_at now rows) p) (send_from_part client (rows_at now rows) bytes p is)
    of_kind false = of_request (request_of p.kind) refl

  of_message : (o : Option Parts) → message_in bytes ≡ o → IsBounded (message config now client rows o).answer
  of_message None parsed = tt
  of_message (Some p) parsed = of_kind p parsed (p.kind == send_indication)

  pub answer_bounded : IsBounded (from_client config now client rows bytes).answer
  answer_bounded = of (begins_as_stun bytes) where
    of : (b : Bool) → IsBounded (if b then message config now client rows (message_in bytes) else reply_of_relaying rows
        (channel_data_from client (rows_at now rows) bytes)).answer
    of true = of_message (message_in bytes) refl
    of false = relayed (channel_data_from client (rows_at now rows) bytes) (channel_data_from_part client (rows_at now rows) bytes)
