-- Meaning. The kinds of datagrams of a client by their first two bits (RFC 8656, section 12), and the fast part: what the
-- shipped programs relay by themselves.
use Rattle.std.specs.Prelude.{ℕ, Bool, false, ◌&&◌, ◌||◌, ◌==◌, List, [], ◌∷◌, length, nat_lt}
use Rattle.stun.specs.Messages.{PaddedAttribute, Parts}
use Rattle.stun.specs.Ranges.{is_between}
use Rattle.stun.specs.declared.registry.attribute.TheConstants.{XOR_PEER_ADDRESS, DATA}
use Rattle.rules.specs.Rules.{send_indication}

-- the first two bits are 00
abbrev pub begins_as_stun : List ℕ → Bool
begins_as_stun [] = false
begins_as_stun (b ∷ bytes) = nat_lt b 0x40

-- the first two bits are 01
abbrev pub begins_as_channel_data : List ℕ → Bool
begins_as_channel_data [] = false
begins_as_channel_data (b ∷ bytes) = is_between 0x40 0x7f b

-- an XOR-PEER-ADDRESS of the length of an IPv4 address
abbrev pub is_short_address : PaddedAttribute → Bool
is_short_address a = (a.kind == XOR_PEER_ADDRESS) && (length a.value == 8)

abbrev pub is_content : PaddedAttribute → Bool
is_content a = a.kind == DATA

-- exactly these two attributes, in either order
abbrev pub are_address_and_content : List PaddedAttribute → Bool
are_address_and_content (a ∷ b ∷ []) = (is_short_address a && is_content b) || (is_content a && is_short_address b)
are_address_and_content [] = false
are_address_and_content (a ∷ []) = false
are_address_and_content (a ∷ b ∷ c ∷ rest) = false

-- a Send indication of an IPv4 address and data, and no more
abbrev pub is_plain_send : Parts → Bool
is_plain_send p = (p.kind == send_indication) && are_address_and_content p.attributes
