-- The system by the rules keeps rows well formed.
use Rattle.std.proofs.Common.{◌≡◌, ℕ, zero, suc, ◌^◌, ◌<◌, All, List, [], ◌∷◌, length, drop, map, Bool, true, false, inl, inr, refl, sym, ap, subst, ◌∙◌, arith}
use Rattle.std.specs.Prelude.{◌==◌, Option, None, Some, Result, Ok, Err, IfOk, IfSome, ok_or, slice_get, slice_index, nat_le, bit_xor, if◌then◌else◌}
use Rattle.std.specs.Int.{bytes_high_first}
use Rattle.std.specs.List.{AllByRecursion}
use Rattle.std.proofs.lemmas.Bool.{cases_Bool, cases_lt, cond-true, cond-false, and_parts, leb-true}
use Rattle.std.proofs.lemmas.List.Elements.{All-take, All-drop, All-get_or}
use Rattle.std.proofs.lemmas.List.{get_or_past}
use Rattle.std.proofs.lemmas.Nat.{xor_lt}
use Rattle.std.proofs.lemmas.Option.{none-some, same_Some}
use Rattle.semantics.specs.Runs.{IsDatagram}
use Rattle.stun.specs.Attributes.{value_of, attributes_left}
use Rattle.stun.specs.Datagrams.{message_in, is_message}
use Rattle.stun.specs.Endian.{big_number}
use Rattle.stun.specs.Messages.{Attribute, PaddedAttribute, Parts, up_to_integrity, attribute_of}
use Rattle.stun.specs.Numbers.{big_from-lt, length-bytes_high_first}
use Rattle.stun.specs.Ranges.{is_between}
use Rattle.stun.specs.Reading.{first_attributes, after_first, parts_in}
use Rattle.stun.specs.Registry.{magic_cookie, message_integrity}
use Rattle.stun.specs.declared.registry.ErrorCode.{ErrorCode}
use Rattle.stun.specs.declared.registry.ErrorCode.TheVariants.{BadRequest}
use Rattle.stun.specs.declared.registry.attribute.TheConstants.{XOR_PEER_ADDRESS, CHANNEL_NUMBER}
use Rattle.addresses.specs.Addresses.{IsAddress, IsIpv4Address, HasWidth}
use Rattle.attributes.specs.Addresses.{address_in, xor_bytes, port_in, ipv6_mask, has_family, cookie_half}
use Rattle.addresses.specs.declared.address.Addr.{Addr}
use Rattle.addresses.specs.declared.address.Addr.TheVariants.{V4, V6}
use Rattle.attributes.specs.Values.{number_of_value}
use Rattle.credentials.specs.Checks.{first_value, user_in}
use Rattle.credentials.specs.declared.checking.AuthError.{AuthError}
use Rattle.basics.specs.Fallible.{◌>>=◌, check}
use Rattle.control.specs.Responding.{check_of}
use Rattle.control.specs.Control.{Decision, rows_of, result_of_change, acceptable, allocate_beside, allocate_decision, own_allocation, refresh_decision, refresh_for, requested_family, requested_lifetime, create_permission, peers_in, channel_bind, is_repeated, owner_in, user_or_error, attribute_test, decision_for_user, decision, binding}
use Rattle.control.specs.Values.{required_value}
use Rattle.control.specs.declared.config.Config.{Config}
use Rattle.control.specs.declared.reply.Grant.{Grant}
use Rattle.control.specs.declared.reply.Grant.TheVariants.{Allocated, Refreshed, Done}
use Rattle.control.specs.declared.request.Request.{Request}
use Rattle.control.specs.declared.request.Request.TheVariants as request
use Rattle.control.specs.declared.request.TurnRequest.{TurnRequest}
use Rattle.control.specs.declared.request.TurnRequest.TheVariants as turn
use Rattle.tables.specs.Changes.{Change}
use Rattle.tables.specs.Changes as tables
use Rattle.tables.specs.Channels.{IsChannelNumber}
use Rattle.tables.specs.LookUps.{allocation_of}
use Rattle.tables.specs.Rows.{Rows, rows_at}
use Rattle.tables.specs.WellFormed.{AreWellFormed}
use Rattle.tables.specs.laws.WellFormed.{of_ipv4, rows_at-well_formed, allocate-well_formed, refresh-well_formed, permit-well_formed, bind-well_formed}
use Rattle.tables.specs.declared.allocation.Allocation.{Allocation}
use Rattle.tables.specs.declared.channels.TheConstants.{FIRST_CHANNEL, LAST_CHANNEL}
use Rattle.events.specs.declared.meta.Source.{Source}
use Rattle.events.specs.declared.meta.Source.TheVariants.{Client, Peer}
use Rattle.rules.specs.FastPart.{begins_as_stun}
use Rattle.rules.specs.Rules.{send_indication, send_from, channel_data_from}
use Rattle.rules.specs.ByRules.{by_rules, from_client, message, control, reply_to_request, request_of}
use Rattle.rules.specs.Systems.{reply_of_relaying, address_of_source, is_served}

-- ---- the bytes of values

abbrev AreFit : List ℕ → Type 0
AreFit bytes = All (λ b. b < 256) bytes

fit_at : (bytes : List ℕ) → AreFit bytes → (i : ℕ) → slice_index bytes i < 256
fit_at bytes fit i = elim (cases_lt i (length bytes)) [
  | inl inside ↦ All-get_or (λ b. b < 256) bytes i 0 inside fit
  | inr past ↦ let none : slice_index bytes i ≡ 0 = get_or_past bytes i 0 past in omega (arith, none)
]

abbrev HasFitValue : PaddedAttribute → Type 0
HasFitValue a = AreFit a.value

attributes_fit : (n : ℕ) (bytes : List ℕ) → AreFit bytes → AllByRecursion HasFitValue (first_attributes n bytes)
attributes_fit zero bytes fit = tt
attributes_fit (suc n) [] fit = tt
attributes_fit (suc n) (b ∷ bytes) fit = (
  All-take (λ b. b < 256) _ (drop 4 (b ∷ bytes)) (All-drop (λ b. b < 256) 4 (b ∷ bytes) fit),
  attributes_fit n (after_first (b ∷ bytes)) (All-drop (λ b. b < 256) _ (drop 4 (b ∷ bytes)) (All-drop (λ b. b < 256) 4 (b ∷ bytes) fit)),
)

abbrev first_among : ℕ → List Attribute → Option (List ℕ)
first_among kind attributes = slice_get (map (λ (a : Attribute). a.value) attributes) 0

-- the first value of a type is one of the attributes'
value_fits : (kind : ℕ) (attributes : List PaddedAttribute) (value : List ℕ) → AllByRecursion HasFitValue attributes → value_of kind (attributes_left attributes) ≡ Some value → AreFit value
value_fits kind [] value fit found = absurd (none-some value found)
value_fits kind (a ∷ rest) value fit found = elim (cases_Bool (a.kind == kind)) [
  | inl same ↦ subst AreFit (same_Some a.value value (sym (ap (first_among kind) (cond-true (a.kind == kind) _ _ same)) ∙ found)) fit.0
  | inr other ↦
      let later = sym (ap (first_among kind) (cond-false (a.kind == kind) _ _ other)) ∙ found in
      elim (cases_Bool (a.kind == message_integrity)) [
        | inl last ↦ absurd (none-some value (sym (ap (λ (l : List PaddedAttribute). value_of kind (map attribute_of l)) (cond-true (a.kind == message_integrity) [] (up_to_integrity rest) last)) ∙ later))
        | inr more ↦ value_fits kind rest value fit.1 (sym (ap (λ (l : List PaddedAttribute). value_of kind (map attribute_of l)) (cond-false (a.kind == message_integrity) [] (up_to_integrity rest) more)) ∙ later)
      ]
]

in_message : (p : Parts) (kind : ℕ) (datagram value : List ℕ) → AreFit datagram → message_in datagram ≡ Some p → first_value p kind ≡ Some value → AreFit value
in_message p kind datagram value fit is found =
    let same : parts_in datagram ≡ p = elim (cases_Bool (is_message datagram)) [
      | inl t ↦ same_Some (parts_in datagram) p (sym (cond-true (is_message datagram) (Some (parts_in datagram)) None t) ∙ is)
      | inr f ↦ absurd (none-some p (sym (cond-false (is_message datagram) (Some (parts_in datagram)) None f) ∙ is))
    ] in
    value_fits kind p.attributes value
    (subst (λ (q : Parts). AllByRecursion HasFitValue q.attributes) same (attributes_fit _ (drop 20 datagram) (All-drop (λ b. b < 256) 20 datagram fit)))
    found

-- ---- addresses

byte_fits : (n x i : ℕ) → slice_index (bytes_high_first n x) i < 256
byte_fits zero x i = omega arith
byte_fits (suc zero) x zero = omega arith
byte_fits (suc (suc n)) x zero = omega arith
byte_fits (suc n) x (suc i) = byte_fits n x i

masked_width : (n : ℕ) (bytes : List ℕ) (mask port : ℕ) → port < 0x10000 → HasWidth n (xor_bytes n bytes mask) port
unfolding xor_bytes
masked_width n bytes mask port small = record {
  long = length-bytes_high_first n (bit_xor (big_number n bytes) mask);
  bytes = byte_fits n (bit_xor (big_number n bytes) mask);
  small = small;
}

port_small : (value : List ℕ) → AreFit value → port_in value < 0x10000
port_small value fit =
    let low : big_number 2 (drop 2 value) < 2 ^ 16 = omega (arith, big_from-lt 0 2 (drop 2 value) (fit_at (drop 2 value) (All-drop (λ b. b < 256) 2 value fit))) in
    omega (arith, xor_lt 16 (big_number 2 (drop 2 value)) cookie_half low (omega arith))

address_fits : (tx value : List ℕ) (a : Addr) → AreFit value → address_in tx value ≡ Some a → IsAddress a
address_fits tx value a fit = of (has_family 8 1 value) (has_family 20 2 value) where
  of : (short long : Bool) → (if short then Some (V4 (xor_bytes 4 (drop 4 value) magic_cookie) (port_in value)) else if long then Some (V6 (xor_bytes 16 (drop 4 value) (ipv6_mask tx)) (port_in value)) else None) ≡ Some a → IsAddress a
  of true long e = subst IsAddress (same_Some _ a e) (masked_width 4 (drop 4 value) magic_cookie (port_in value) (port_small value fit))
  of false true e = subst IsAddress (same_Some _ a e) (masked_width 16 (drop 4 value) (ipv6_mask tx) (port_in value) (port_small value fit))
  of false false e = absurd (none-some a e)

-- ---- decisions

-- new rows are well formed
abbrev Keeps : Decision → Type 0
Keeps d = IfOk d (λ given. IfSome given.1 AreWellFormed)

module _ {A : Type 0} where
  after : (r : Result A ErrorCode) (f : A → Decision) → ((x : A) → r ≡ Ok x → Keeps (f x)) → Keeps (r >>= f)
  after (Ok x) f each = each x refl
  after (Err e) f each = tt

  change : (c : Change A) (f : A → Grant) → IfOk c (λ made. AreWellFormed made.1) → Keeps (result_of_change c >>= λ made. Ok (f made.0, made.1))
  change (Ok made) f are = are
  change (Err refused) f are = tt

  value_there : (parse : List ℕ → Option A) (o : Option (List ℕ)) (x : A) → required_value parse o ≡ Ok x → (value : List ℕ) × (o ≡ Some value) × (parse value ≡ Some x)
  value_there parse None x e = absurd cc
  value_there parse (Some value) x e = (value, refl, parsed (parse value) e) where
    parsed : (o : Option A) → ok_or o BadRequest ≡ Ok x → o ≡ Some x
    parsed None e = cc
    parsed (Some y) e = cc

passed : (b : Bool) (error : ErrorCode) (x : Unit {0}) → check b error ≡ Ok x → b ≡ true
passed true error x e = refl
passed false error x e = absurd cc

module _ (client : Addr) (user : ℕ) (p : Parts) (rows : Rows) (are : AreWellFormed rows) where
  keeps_allocate : (config : Config) → IsIpv4Address client → Keeps (allocate_decision config client user p rows)
  keeps_allocate config ipv4 = beside (allocation_of client rows) where
    beside : (o : Option Allocation) → Keeps (allocate_beside config o client user p rows)
    beside None = after (acceptable config p) _ (λ given _.
        after (check _ _) _ (λ _ _.
        change (tables.allocation_change client user (owner_in p) p.tx given.0 given.1 rows) (λ slot. Allocated given.0 slot given.1)
        (allocate-well_formed client user (owner_in p) p.tx given.0 given.1 rows are ipv4)))
    beside (Some a) = after (check (is_repeated a user p) _) _ (λ _ _. tt)

  keeps_refresh : Keeps (refresh_decision client user p rows)
  keeps_refresh =
      after (own_allocation client user rows) _ (λ a _.
      after (requested_family p) _ (λ family _.
      after (check _ _) _ (λ _ _.
      after (requested_lifetime p) _ (λ requested _.
      change (tables.refresh_change a.slot (refresh_for requested) rows) (λ _. Refreshed (refresh_for requested)) (refresh-well_formed a.slot (refresh_for requested) rows are)))))

  keeps_permissions : Keeps (create_permission client user p rows)
  keeps_permissions =
      after (own_allocation client user rows) _ (λ a _.
      after (peers_in p) _ (λ peers _.
      change (tables.permit_change a.slot peers rows) (λ _. Done) (permit-well_formed a.slot peers rows are)))

  keeps_bind : ((value : List ℕ) → first_value p XOR_PEER_ADDRESS ≡ Some value → AreFit value) → Keeps (channel_bind client user p rows)
  keeps_bind fit =
      after (own_allocation client user rows) _ (λ a _.
      after (required_value (number_of_value 2) (first_value p CHANNEL_NUMBER)) _ (λ number _.
      after (required_value (address_in p.tx) (first_value p XOR_PEER_ADDRESS)) _ (λ peer found.
      after (check (is_between FIRST_CHANNEL LAST_CHANNEL number) _) _ (λ u between.
      change (tables.bind_change a.slot number peer rows) (λ _. Done) (bind-well_formed a.slot number peer rows are (in_range number (passed _ _ u between)) (is_peer peer found))))))
    where
      in_range : (number : ℕ) → is_between FIRST_CHANNEL LAST_CHANNEL number ≡ true → IsChannelNumber number
      in_range number between =
          let both = and_parts (nat_le FIRST_CHANNEL number) (nat_le number LAST_CHANNEL) between in
          (leb-true _ _ both.0, leb-true _ _ both.1)

      is_peer : (peer : Addr) → required_value (address_in p.tx) (first_value p XOR_PEER_ADDRESS) ≡ Ok peer → IsAddress peer
      is_peer peer found =
          let (value, there, is) = value_there (address_in p.tx) (first_value p XOR_PEER_ADDRESS) peer found in
          address_fits p.tx value peer (fit value there) is

  keeps_served : IsIpv4Address client → ((value : List ℕ) → first_value p XOR_PEER_ADDRESS ≡ Some value → AreFit value) → (r : TurnRequest) (config : Config) → Keeps (decision_for_user r config client user p rows)
  keeps_served ipv4 fit turn.Allocate config = keeps_allocate config ipv4
  keeps_served ipv4 fit turn.Refresh config = keeps_refresh
  keeps_served ipv4 fit turn.CreatePermission config = keeps_permissions
  keeps_served ipv4 fit turn.ChannelBind config = keeps_bind fit

-- ---- systems

kept : (old : Rows) (d : Decision) → AreWellFormed old → Keeps d → AreWellFormed (rows_of old d)
kept old (Ok (given, None)) are keeps = are
kept old (Ok (given, Some new)) are keeps = keeps
kept old (Err e) are keeps = are

module _ (config : Config) (now : ℕ) (client : Addr) (rows : Rows) (datagram : List ℕ)
    (are : AreWellFormed rows) (ipv4 : IsIpv4Address client) (is : IsDatagram datagram) where
  keeps_decision : (p : Parts) → message_in datagram ≡ Some p → (r : TurnRequest) (checked : Result ℕ AuthError) → Keeps (decision r checked config client p (rows_at now rows))
  keeps_decision p there r checked =
      after (user_or_error checked) _ (λ user _.
      after (attribute_test p) _ (λ _ _.
      keeps_served client user p (rows_at now rows) (rows_at-well_formed now rows are) ipv4 (λ value found. in_message p XOR_PEER_ADDRESS datagram value is.bytes_fit there found) r config))

  keeps_control : (p : Parts) → message_in datagram ≡ Some p → (o : Option Request) → AreWellFormed (reply_to_request config now client p rows o).rows
  keeps_control p there None = are
  keeps_control p there (Some request.Binding) = kept rows (binding p) are (after (attribute_test p) _ (λ _ _. tt))
  keeps_control p there (Some (request.Turn r)) = kept rows (decision r (user_in (check_of config now client p rows)) config client p (rows_at now rows)) are (keeps_decision p there r (user_in (check_of config now client p rows)))

  keeps_message : (o : Option Parts) → message_in datagram ≡ o → AreWellFormed (message config now client rows o).rows
  keeps_message None there = are
  keeps_message (Some p) there = of (p.kind == send_indication) where
    of : (b : Bool) → AreWellFormed (if b then reply_of_relaying rows (send_from client (rows_at now rows) p) else control config now client p rows).rows
    of true = are
    of false = keeps_control p there (request_of p.kind)

  keeps_client : AreWellFormed (from_client config now client rows datagram).rows
  keeps_client = of (begins_as_stun datagram) where
    of : (b : Bool) → AreWellFormed (if b then message config now client rows (message_in datagram) else reply_of_relaying rows (channel_data_from client (rows_at now rows) datagram)).rows
    of true = keeps_message (message_in datagram) refl
    of false = are

-- a client that is served has an IPv4 address
abbrev pub IsServed : Source → Type 0
IsServed (Client client) = IsIpv4Address client
IsServed (Peer slot peer) = Unit {0}

pub is_served-is : (from : Source) → IsAddress (address_of_source from) → is_served from ≡ true → IsServed from
is_served-is (Client client) address e = of_ipv4 client address e
is_served-is (Peer slot peer) address e = tt

pub keeps : (config : Config) (now : ℕ) (tx : List ℕ) (from : Source) (rows : Rows) (datagram : List ℕ)
    → AreWellFormed rows → IsServed from → IsDatagram datagram → AreWellFormed (by_rules config now tx from rows datagram).rows
keeps config now tx (Client client) rows datagram are ipv4 is = keeps_client config now client rows datagram are ipv4 is
keeps config now tx (Peer slot peer) rows datagram are ipv4 is = are
