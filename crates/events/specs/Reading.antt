-- Interface. The reader of a line, as functions on its bytes, which the code mirrors. Its laws say that it reads just the
-- lines of events.
use Rattle.std.specs.Prelude.{ℕ, ◌/◌, ◌^◌, ◌==◌, ◌&&◌, Bool, false, List, [], ◌∷◌, length, codes, bytes_eq, Option, None, Some, option_map, if◌then◌else◌}
use Rattle.std.specs.List.{list_any}
use Rattle.std.specs.Result.{result_ok}
use Rattle.hex.specs.Hex.{decode_sized}
use Rattle.stun.specs.Ranges.{is_between}
use Rattle.addresses.specs.declared.address.Addr.{Addr}
use Rattle.addresses.specs.declared.address.Addr.TheVariants.{V4, V6}
use Rattle.credentials.specs.Texts.{is_nonce}
use Rattle.semantics.specs.declared.limits.TheConstants.{MAX_DATAGRAM}
use Rattle.basics.specs.Decimals.{decimal_in}
use Rattle.events.specs.Events.{Event, Datagram, Nonce}
use Rattle.basics.specs.Options.{◌>>=◌, guard}
use Rattle.events.specs.declared.meta.Source.{Source}
use Rattle.events.specs.declared.meta.Source.TheVariants.{Client, Peer}

-- what precedes and what follows the first of a separator
abbrev pub parts_around : ℕ → List ℕ → Option (List ℕ × List ℕ)
parts_around separator [] = None
parts_around separator (b ∷ bytes) =
    if b == separator then Some ([], bytes) else option_map (λ p. (b ∷ p.0, p.1)) (parts_around separator bytes)

-- ---- fields

abbrev pub ipv4_in : List ℕ → Option (List ℕ)
ipv4_in text = do
  a ← parts_around 0x2e text
  b ← parts_around 0x2e a.1
  c ← parts_around 0x2e b.1
  first ← decimal_in 256 a.0
  second ← decimal_in 256 b.0
  third ← decimal_in 256 c.0
  fourth ← decimal_in 256 c.1
  Some (first ∷ second ∷ third ∷ fourth ∷ [])

-- whether a text has a letter in upper case
abbrev pub has_upper : List ℕ → Bool
has_upper text = list_any (is_between 0x41 0x5a) text

-- n bytes, as digits in lower case
abbrev pub digits_in : ℕ → List ℕ → Option (List ℕ)
digits_in n text = if has_upper text then None else result_ok (decode_sized text n)

-- an opening bracket is first
abbrev pub is_bracketed : List ℕ → Bool
is_bracketed [] = false
is_bracketed (b ∷ bytes) = b == 0x5b

-- an IPv6 address, 32 digits in brackets
abbrev pub ipv6_in : List ℕ → Option (List ℕ)
ipv6_in text = do
  opened ← parts_around 0x5b text
  closed ← parts_around 0x5d opened.1
  _ ← guard (bytes_eq opened.0 [] && bytes_eq closed.1 [])
  digits_in 16 closed.0

-- the address that has a port
abbrev pub host_in : List ℕ → ℕ → Option Addr
host_in text port = if is_bracketed text then option_map (λ ip. V6 ip port) (ipv6_in text) else option_map (λ ip. V4 ip port) (ipv4_in text)

abbrev pub address_in_text : List ℕ → Option Addr
address_in_text text = do
  parts ← parts_around 0x3a text
  port ← decimal_in 0x10000 parts.1
  host_in parts.0 port

-- the bytes of a datagram
abbrev pub content_in : List ℕ → Option (List ℕ)
content_in text =
    if bytes_eq text (codes "-") then Some []
    else (if is_between 1 MAX_DATAGRAM (length text / 2) then digits_in (length text / 2) text else None)

-- ---- lines

abbrev pub client_in_text : List ℕ → Option (Source × List ℕ)
client_in_text text = do
  parts ← parts_around 0x20 text
  client ← address_in_text parts.0
  Some (Client client, parts.1)

abbrev pub peer_in : ℕ → List ℕ → Option (Source × List ℕ)
peer_in slots text = do
  first ← parts_around 0x20 text
  second ← parts_around 0x20 first.1
  slot ← decimal_in slots first.0
  peer ← address_in_text second.0
  Some (Peer slot peer, second.1)

-- what follows the side: the source as its side has it
abbrev pub datagram_in_text : (List ℕ → Option (Source × List ℕ)) → List ℕ → Option Event
datagram_in_text source text = do
  first ← parts_around 0x20 text
  second ← parts_around 0x20 first.1
  now ← decimal_in (2 ^ 64) first.0
  tx ← digits_in 12 second.0
  from ← source second.1
  bytes ← content_in from.1
  Some (Datagram (record { now = now; tx = tx; from = from.0 }) bytes)

abbrev pub nonce_in : List ℕ → Option Event
nonce_in text = if is_nonce text then Some (Nonce text) else None

abbrev pub event_by : ℕ → List ℕ → List ℕ → Option Event
event_by slots kind text =
    if bytes_eq kind (codes "c") then datagram_in_text client_in_text text
    else (if bytes_eq kind (codes "p") then datagram_in_text (peer_in slots) text
    else (if bytes_eq kind (codes "n") then nonce_in text else None))

-- the event of a line, if it has one
abbrev pub event_in : ℕ → List ℕ → Option Event
event_in slots line = do
  parts ← parts_around 0x20 line
  event_by slots parts.0 parts.1
