-- Meaning. Why a datagram encodes no message: the first refusal that applies, in their order.
use Rattle.std.specs.Prelude.{◌≡◌, ◌≢◌, ℕ, ◌+◌, ◌%◌, ◌<◌, ◌≤◌, List, length, drop}
use Rattle.std.specs.List.{AllByRecursion}
use Rattle.byteorder.specs.Endian.{big_number}
use Rattle.stun.specs.Registry.{magic_cookie}
use Rattle.stun.specs.Messages.{PaddedAttribute, IsPadded, attributes_bytes}
use Rattle.stun.specs.declared.refusal.StunError.{StunError}
use Rattle.stun.specs.declared.refusal.StunError.TheVariants.{TooShort, NotStun, BadCookie, BadLength, AttributeOverrun}

-- the number in two or four bytes from an index on
abbrev pub number_at : ℕ → ℕ → List ℕ → ℕ
number_at n i bytes = big_number n (drop i bytes)

-- the length is a multiple of four, and that of what follows the header
pub record HasLength (bytes : List ℕ) : Type 0 where
  pub fours : number_at 2 2 bytes % 4 ≡ 0
  pub whole : 20 + number_at 2 2 bytes ≡ length bytes

abbrev pub IsRefusedMessage : List ℕ → StunError → Type 0
IsRefusedMessage bytes TooShort = length bytes < 20
IsRefusedMessage bytes NotStun = (20 ≤ length bytes) × (0x4000 ≤ number_at 2 0 bytes)
IsRefusedMessage bytes BadCookie = (20 ≤ length bytes) × (number_at 2 0 bytes < 0x4000) × (number_at 4 4 bytes ≢ magic_cookie)
IsRefusedMessage bytes BadLength = (20 ≤ length bytes) × (number_at 2 0 bytes < 0x4000) × (number_at 4 4 bytes ≡ magic_cookie) × (HasLength bytes → ⊥)
IsRefusedMessage bytes AttributeOverrun = (20 ≤ length bytes) × (number_at 2 0 bytes < 0x4000) × (number_at 4 4 bytes ≡ magic_cookie) × HasLength bytes
    × ((attributes : List PaddedAttribute) → AllByRecursion IsPadded attributes → drop 20 bytes ≢ attributes_bytes attributes)
