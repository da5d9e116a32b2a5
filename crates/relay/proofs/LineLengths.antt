-- No event's line is longer than a line may be.
use Rattle.std.proofs.Common.{◌≡◌, ℕ, ◌+◌, ◌^◌, ◌<◌, ◌≤◌, List, [], ◌∷◌, ◌++◌, length, length-append, refl, arith}
use Rattle.std.specs.Prelude.{◌*◌, codes, decimal, flat_map, slice_index, nat_le}
use Rattle.std.specs.List.{list_all}
use Rattle.std.proofs.lemmas.Bool.{and_parts, leb-true}
use Rattle.std.proofs.lemmas.Fmt.{length-decimal-le}
use Rattle.hex.specs.Hex.{encode_lower, lower_digits}
use Rattle.hex.proofs.HexLemmas.{length-encode_with}
use Rattle.stun.specs.Ranges.{is_between}
use Rattle.addresses.specs.Addresses.{IsAddress}
use Rattle.addresses.specs.AddressTexts.{dotted_decimal, hex_digits, address_text}
use Rattle.addresses.specs.declared.address.Addr.{Addr}
use Rattle.addresses.specs.declared.address.Addr.TheVariants.{V4, V6}
use Rattle.semantics.specs.declared.limits.TheConstants.{MAX_DATAGRAM}
use Rattle.events.specs.Events.{Event, Datagram, Nonce}
use Rattle.events.specs.Lines.{line_of, datagram_text, source_text, bytes_text, side_text, IsEvent, IsSource}
use Rattle.events.specs.declared.meta.Source.{Source}
use Rattle.events.specs.declared.meta.Source.TheVariants.{Client, Peer}
use Rattle.relay.specs.declared.lines.TheConstants.{MAX_LINE}

number_short : (n : ℕ) → n < 2 ^ 64 → length (decimal n) ≤ 20
number_short n small = length-decimal-le 20 n (omega arith) (omega (arith, small)) small

byte_short : (n : ℕ) → n < 256 → length (decimal n) ≤ 3
byte_short n small = length-decimal-le 3 n (omega arith) (omega (arith, small)) (omega (arith, small))

port_short : (n : ℕ) → n < 0x10000 → length (decimal n) ≤ 5
port_short n small = length-decimal-le 5 n (omega arith) (omega (arith, small)) (omega (arith, small))

-- with a point or a colon between
pointed : (front back : List ℕ) → length (front ++ codes "." ++ back) ≡ length front + 1 + length back
pointed front back = omega (arith, length-append (front ++ codes ".") back, length-append front (codes "."))

colon : (front back : List ℕ) → length (front ++ codes ":" ++ back) ≡ length front + 1 + length back
colon front back = omega (arith, length-append (front ++ codes ":") back, length-append front (codes ":"))

dotted_short : (ip : List ℕ) → length ip ≡ 4 → ((i : ℕ) → slice_index ip i < 256) → length (dotted_decimal ip) ≤ 15
dotted_short (a ∷ b ∷ c ∷ d ∷ []) long fit =
    let first : length (decimal a) ≤ 3 = byte_short a (fit 0) in
    let second : length (decimal b) ≤ 3 = byte_short b (fit 1) in
    let third : length (decimal c) ≤ 3 = byte_short c (fit 2) in
    let fourth : length (decimal d) ≤ 3 = byte_short d (fit 3) in
    omega (
      arith,
      first,
      second,
      third,
      fourth,
      pointed (decimal c) (decimal d),
      pointed (decimal b) (decimal c ++ codes "." ++ decimal d),
      pointed (decimal a) (decimal b ++ codes "." ++ (decimal c ++ codes "." ++ decimal d)),
    )
dotted_short [] long fit = absurd (omega (arith, long))
dotted_short (a ∷ []) long fit = absurd (omega (arith, long))
dotted_short (a ∷ b ∷ []) long fit = absurd (omega (arith, long))
dotted_short (a ∷ b ∷ c ∷ []) long fit = absurd (omega (arith, long))
dotted_short (a ∷ b ∷ c ∷ d ∷ e ∷ rest) long fit = absurd (omega (arith, long))

digits_twice : (bytes : List ℕ) → length (flat_map hex_digits bytes) ≡ 2 * length bytes
digits_twice [] = refl
digits_twice (b ∷ bytes) = omega (arith, digits_twice bytes)

address_short : (a : Addr) → IsAddress a → length (address_text a) ≤ 40
address_short (V4 ip port) is = omega (arith, colon (dotted_decimal ip) (decimal port), dotted_short ip is.long is.bytes, port_short port is.small)
address_short (V6 ip port) is =
    omega (
      arith,
      is.long,
      digits_twice ip,
      port_short port is.small,
      length-append (codes "[" ++ flat_map hex_digits ip ++ codes "]:") (decimal port),
      length-append (codes "[" ++ flat_map hex_digits ip) (codes "]:"),
      length-append (codes "[") (flat_map hex_digits ip),
    )

source_short : (slots : ℕ) (from : Source) → slots < 2 ^ 64 → IsSource slots from → length (source_text from) ≤ 61
source_short slots (Client client) few is = omega (arith, address_short client is)
source_short slots (Peer slot peer) few is =
    omega (arith, length-append (decimal slot) (0x20 ∷ address_text peer), address_short peer is.1, number_short slot (omega (arith, few, is.0)))

side_short : (from : Source) → length (side_text from) ≡ 1
side_short (Client client) = refl
side_short (Peer slot peer) = refl

content_short : (bytes : List ℕ) → length bytes ≤ MAX_DATAGRAM → length (bytes_text bytes) ≤ 131014
content_short [] short = omega arith
content_short (b ∷ bytes) short = omega (arith, short, length-encode_with lower_digits (b ∷ bytes))

pub line_short : (slots : ℕ) (e : Event) → slots < 2 ^ 64 → IsEvent slots e → length (line_of e) ≤ MAX_LINE
line_short slots (Datagram given bytes) few (now, long, fit, from, short, are) =
    let content = source_text given.from ++ 0x20 ∷ bytes_text bytes in
    let marked = encode_lower given.tx ++ 0x20 ∷ content in
    omega (
      arith,
      long,
      side_short given.from,
      number_short given.now now,
      source_short slots given.from few from,
      content_short bytes short,
      length-encode_with lower_digits given.tx,
      length-append (source_text given.from) (0x20 ∷ bytes_text bytes),
      length-append (encode_lower given.tx) (0x20 ∷ content),
      length-append (decimal given.now) (0x20 ∷ marked),
      length-append (side_text given.from) (0x20 ∷ datagram_text given bytes),
    )
line_short slots (Nonce text) few is =
    let short = (and_parts (nat_le 1 (length text)) (nat_le (length text) 64) (and_parts (is_between 1 64 (length text)) (list_all (is_between 0x21 0x7e) text) is).0).1 in
    omega (arith, leb-true (length text) 64 short, length-append (codes "n") (0x20 ∷ text))
