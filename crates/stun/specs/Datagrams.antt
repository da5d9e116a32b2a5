-- Meaning. The message of a datagram, and its channel message, as functions.
use Rattle.std.specs.Prelude.{ℕ, Bool, ◌&&◌, ◌==◌, List, length, take, drop, bytes_eq, nat_le, nat_lt, Option, None, Some, if◌then◌else◌}
use Rattle.std.specs.List.{list_all}
use Rattle.stun.specs.Messages.{PaddedAttribute, Parts, padding_count, attributes_bytes, parts_bytes}
use Rattle.stun.specs.Ranges.{is_between}
use Rattle.stun.specs.Channels.{ChannelMessage}
use Rattle.stun.specs.Refusals.{number_at}
use Rattle.stun.specs.Reading.{parts_in}
use Rattle.stun.specs.declared.registry.TheConstants.{FIRST_CHANNEL_DATA, LAST_CHANNEL_DATA}

-- ---- STUN

-- type and length have 16 bits, and the padding has its length
abbrev pub is_padded : PaddedAttribute → Bool
is_padded a =
    nat_lt a.kind 0x10000 && nat_lt (length a.value) 0x10000
    && (length a.padding == padding_count (length a.value))

-- a type of 14 bits, an id of 96, and attributes whose length has 16 bits
abbrev pub are_parts : Parts → Bool
are_parts p =
    nat_lt p.kind 0x4000 && (length p.tx == 12) && list_all is_padded p.attributes
    && nat_lt (length (attributes_bytes p.attributes)) 0x10000

-- whether the parts that are found in a datagram are those of a message, whose bytes are the datagram
abbrev pub is_message : List ℕ → Bool
is_message bytes = are_parts (parts_in bytes) && bytes_eq bytes (parts_bytes (parts_in bytes))

-- the parts of the message that a datagram encodes, if it encodes one
abbrev pub message_in : List ℕ → Option Parts
message_in bytes = if is_message bytes then Some (parts_in bytes) else None

-- ---- ChannelData

-- whether a datagram begins with a channel message: a number, a length, and as many bytes of data
abbrev pub is_channel_data : List ℕ → Bool
is_channel_data bytes =
    nat_le 4 (length bytes) && is_between FIRST_CHANNEL_DATA LAST_CHANNEL_DATA (number_at 2 0 bytes)
    && nat_le (number_at 2 2 bytes) (length (drop 4 bytes))

-- that channel message, if there is one
abbrev pub channel_in : List ℕ → Option ChannelMessage
channel_in bytes =
    if is_channel_data bytes then Some (record {
      number = number_at 2 0 bytes;
      bytes = take (number_at 2 2 bytes) (drop 4 bytes);
    })
    else None
