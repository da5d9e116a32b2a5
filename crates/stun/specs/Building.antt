-- Interface. A buffer that begins with a message, of the length that its header has.
use Rattle.std.specs.Prelude.{◌≡◌, ℕ, ◌+◌, ◌≤◌, min, List, ◌++◌, length, take, drop}
use Rattle.stun.specs.Messages.{Parts, parts_bytes, empty_message, with_attribute, attribute_length}
use Rattle.stun.specs.Refusals.{number_at}
use Rattle.stun.specs.Reading.{parts_in, EncodesParts}

-- the bytes of the message that a buffer begins with
abbrev pub message_bytes : List ℕ → List ℕ
message_bytes bytes = take (20 + number_at 2 2 bytes) bytes

pub record IsBuilding (bytes : List ℕ) : Type 0 where
  pub inside : 20 + number_at 2 2 bytes ≤ length bytes
  pub message : EncodesParts (message_bytes bytes)

-- its parts
unfoldable pub building_parts : List ℕ → Parts
building_parts bytes = parts_in (message_bytes bytes)

-- its length
unfoldable pub used_in : List ℕ → ℕ
used_in bytes = length (parts_bytes (building_parts bytes))

-- the most bytes that a message in a buffer may have: a header of 20, and attributes whose length has 16 bits and is
-- a multiple of four
unfoldable pub room_in : List ℕ → ℕ
room_in bytes = min (length bytes) 65552

-- the message of the parts over the first bytes, and the others as they were
abbrev pub bytes_over : Parts → List ℕ → List ℕ
bytes_over p bytes = parts_bytes p ++ drop (length (parts_bytes p)) bytes

-- bytes with others over them from an index on
abbrev pub with_piece : ℕ → List ℕ → List ℕ → List ℕ
with_piece at piece bytes = take at bytes ++ (piece ++ drop (at + length piece) bytes)

-- ---- what is written into a buffer

-- a message with no attributes is over the first bytes, and the others are as they were
pub record IsBegun (kind : ℕ) (tx old new : List ℕ) : Type 0 where
  pub parts : building_parts new ≡ empty_message kind tx
  pub bytes : new ≡ bytes_over (empty_message kind tx) old
  pub used : used_in new ≡ 20
  pub room : room_in new ≡ min (length old) 65552
  pub fits : 20 ≤ length old

-- the message that stood there, with one more attribute, is over the first bytes, and the others are as they were
pub record IsAppended (kind : ℕ) (value old new : List ℕ) : Type 0 where
  pub parts : building_parts new ≡ with_attribute (building_parts old) kind value
  pub bytes : new ≡ bytes_over (building_parts new) old
  pub used : used_in new ≡ used_in old + attribute_length value
  pub room : room_in new ≡ room_in old
  pub fits : used_in new ≤ room_in new
