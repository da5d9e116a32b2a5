-- Interface. The words for a builder in contracts.
use Rattle.std.specs.Prelude.{◌≡◌, ℕ, ◌+◌, ◌<◌, ◌≤◌, List}
use base.Fml.{GName}
use Rattle.stun.specs.Messages.{Parts, with_attribute, attribute_length}
use Rattle.stun.specs.Building.{building_parts, bytes_over, used_in, room_in}
use Rattle.stun.specs.declared.building.Builder.{Builder}

-- the whole buffer
abbrev pub bytes_of : Builder → List ℕ
bytes_of b = b.buffer.now

-- the parts of the message so far
abbrev pub parts_of : Builder → Parts
parts_of b = building_parts (bytes_of b)

-- the length of the message so far
abbrev pub used_of : Builder → ℕ
used_of b = used_in (bytes_of b)

-- the most bytes that a message in this buffer may have: the smaller of the buffer's length and 65,552
abbrev pub capacity_of : Builder → ℕ
capacity_of b = room_in (bytes_of b)

-- the name of the reference to the caller's buffer
abbrev pub buffer_name : Builder → GName
buffer_name b = b.buffer.ghost_name

-- both write into the same buffer of the caller
abbrev pub SameBuffer : Builder → Builder → Type 0
SameBuffer old new = buffer_name new ≡ buffer_name old

-- the message has one more attribute, and is over the first bytes of the buffer; all others are as they were
pub record Appends (kind : ℕ) (value : List ℕ) (old new : Builder) : Type 0 where
  pub parts : parts_of new ≡ with_attribute (parts_of old) kind value
  pub bytes : bytes_of new ≡ bytes_over (parts_of new) (bytes_of old)
  pub used : used_of new ≡ used_of old + attribute_length value
  pub room : capacity_of new ≡ capacity_of old
  pub fits : used_of new ≤ capacity_of new

-- the attribute doesn't fit, and nothing is changed
pub record HasNoRoom (value : List ℕ) (old new : Builder) : Type 0 where
  pub full : capacity_of old < used_of old + attribute_length value
  pub unchanged : bytes_of new ≡ bytes_of old
