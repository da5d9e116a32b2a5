-- Interface. What the program of the client's side tests of a Send indication: numbers in network byte order, at places of
-- the datagram.
use Rattle.std.specs.Prelude.{◌≡◌, ◌⊎◌, ℕ, ◌+◌, ◌≤◌, List, length, drop}
use Rattle.insn.specs.Endian.{big_number}
use Rattle.stun.specs.Messages.{padding_count}
use Rattle.stun.specs.Registry.{magic_cookie}
use Rattle.rules.specs.Rules.{send_indication}

-- n, filled up to a multiple of four
abbrev pub padded_length : ℕ → ℕ
padded_length n = n + padding_count n

-- the header of a Send indication, of a datagram that has room for two attributes
pub record IsSendHeader (datagram : List ℕ) : Type 0 where
  pub long : 36 ≤ length datagram
  pub kind : big_number 2 datagram ≡ send_indication
  pub cookie : big_number 4 (drop 4 datagram) ≡ magic_cookie
  pub size : big_number 2 (drop 2 datagram) + 20 ≡ length datagram

-- XOR-PEER-ADDRESS of 8 bytes, then DATA, and no more
pub record IsAddressFirst (datagram : List ℕ) : Type 0 where
  pub header : IsSendHeader datagram
  pub address : big_number 4 (drop 20 datagram) ≡ 0x00120008
  pub data_kind : big_number 2 (drop 32 datagram) ≡ 0x0013
  pub whole : padded_length (big_number 2 (drop 34 datagram)) + 36 ≡ length datagram

-- DATA, then XOR-PEER-ADDRESS of 8 bytes, and no more
pub record IsDataFirst (datagram : List ℕ) : Type 0 where
  pub header : IsSendHeader datagram
  pub data_kind : big_number 2 (drop 20 datagram) ≡ 0x0013
  pub whole : padded_length (big_number 2 (drop 22 datagram)) + 36 ≡ length datagram
  pub address : big_number 4 (drop (padded_length (big_number 2 (drop 22 datagram)) + 24) datagram) ≡ 0x00120008

abbrev pub PassesTests : List ℕ → Type 0
PassesTests datagram = IsAddressFirst datagram ⊎ IsDataFirst datagram
