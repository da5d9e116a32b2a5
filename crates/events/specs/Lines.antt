-- Meaning. Events and answers as lines of text: each has one line, here without its line feed.
use Rattle.std.specs.Prelude.{◌≡◌, ℕ, ◌^◌, ◌<◌, ◌≤◌, true, List, [], ◌∷◌, ◌++◌, length, codes, decimal, Option, None, Some}
use Rattle.hex.specs.Hex.{encode_lower, IsBytes}
use Rattle.addresses.specs.Addresses.{IsAddress}
use Rattle.addresses.specs.AddressTexts.{address_text}
use Rattle.credentials.specs.Texts.{is_nonce}
use Rattle.semantics.specs.declared.limits.TheConstants.{MAX_DATAGRAM}
use Rattle.events.specs.Events.{Event, Datagram, Nonce, Sending, ToPeer, ToClient}
use Rattle.events.specs.declared.meta.Meta.{Meta}
use Rattle.events.specs.declared.meta.Source.{Source}
use Rattle.events.specs.declared.meta.Source.TheVariants.{Client, Peer}

-- bytes as hexadecimal digits, and no bytes as a hyphen
abbrev pub bytes_text : List ℕ → List ℕ
bytes_text [] = codes "-"
bytes_text (b ∷ bytes) = encode_lower (b ∷ bytes)

-- ---- events

-- fields have a blank between them

-- a client by its address, a peer by slot and address
abbrev pub source_text : Source → List ℕ
source_text (Client client) = address_text client
source_text (Peer slot peer) = decimal slot ++ 0x20 ∷ address_text peer

abbrev pub side_text : Source → List ℕ
side_text (Client client) = codes "c"
side_text (Peer slot peer) = codes "p"

-- moment, transaction id, source, datagram
abbrev pub datagram_text : Meta → List ℕ → List ℕ
datagram_text given bytes = decimal given.now ++ 0x20 ∷ (encode_lower given.tx ++ 0x20 ∷ (source_text given.from ++ 0x20 ∷ bytes_text bytes))

-- a datagram with its side, or a nonce
abbrev pub line_of : Event → List ℕ
line_of (Datagram given bytes) = side_text given.from ++ 0x20 ∷ datagram_text given bytes
line_of (Nonce text) = codes "n" ++ 0x20 ∷ text

-- a source, and a peer's at a slot that is there
abbrev pub IsSource : ℕ → Source → Type 0
IsSource slots (Client client) = IsAddress client
IsSource slots (Peer slot peer) = (slot < slots) × IsAddress peer

-- A datagram has a moment of 64 bits, a transaction id of 12 bytes and at most 65,507 bytes. A nonce has 1 to 64 bytes of
-- 0x21 to 0x7E.
abbrev pub IsEvent : ℕ → Event → Type 0
IsEvent slots (Datagram given bytes) =
    (given.now < 2 ^ 64) × (length given.tx ≡ 12) × IsBytes given.tx × IsSource slots given.from × (length bytes ≤ MAX_DATAGRAM) × IsBytes bytes
IsEvent slots (Nonce text) = is_nonce text ≡ true

-- ---- answers

-- a hyphen where nothing is sent
abbrev pub answer_line : Option Sending → List ℕ
answer_line None = codes "-"
answer_line (Some (ToPeer slot peer bytes)) = codes "p" ++ 0x20 ∷ (decimal slot ++ 0x20 ∷ (address_text peer ++ 0x20 ∷ bytes_text bytes))
answer_line (Some (ToClient client bytes)) = codes "c" ++ 0x20 ∷ (address_text client ++ 0x20 ∷ bytes_text bytes)
