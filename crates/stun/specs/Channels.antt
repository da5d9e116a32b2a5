-- Meaning. ChannelData messages and their datagrams (RFC 8656, section 12.4).
use Rattle.std.specs.Prelude.{◌≡◌, ℕ, ◌<◌, ◌≤◌, List, ◌++◌, length}
use Rattle.byteorder.specs.Endian.{big_bytes}
use Rattle.stun.specs.declared.registry.TheConstants.{FIRST_CHANNEL_DATA, LAST_CHANNEL_DATA}

pub record ChannelMessage : Type 0 where
  pub number : ℕ
  pub bytes : List ℕ

-- number, length, data
abbrev pub channel_bytes : ChannelMessage → List ℕ
channel_bytes m = big_bytes 2 m.number ++ big_bytes 2 (length m.bytes) ++ m.bytes

-- a number of channels, from 0x4000 to 0x7FFF; what follows the data is ignored
pub record IsChannelMessage (m : ChannelMessage) (bytes : List ℕ) : Type 0 where
  pub low : FIRST_CHANNEL_DATA ≤ m.number
  pub high : m.number ≤ LAST_CHANNEL_DATA
  pub short : length m.bytes < 0x10000
  pub rest : List ℕ
  pub spelled : bytes ≡ channel_bytes m ++ rest
