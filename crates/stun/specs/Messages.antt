-- Meaning. STUN messages and their datagrams (RFC 8489, sections 5 and 14).
use Rattle.std.specs.Prelude.{◌≡◌, ℕ, ◌+◌, ◌-◌, ◌%◌, ◌<◌, ◌==◌, List, [], ◌∷◌, ◌++◌, length, map, replicate, Option, Some, None, option_map, if◌then◌else◌}
use Rattle.std.specs.List.{flat_map, AllByRecursion}
use Rattle.byteorder.specs.Endian.{big_bytes}
use Rattle.stun.specs.Registry.{magic_cookie, message_integrity}

-- ---- attributes (section 14)

pub record Attribute : Type 0 where
  pub kind : ℕ
  pub value : List ℕ

-- an attribute as it is in a datagram, with the bytes that fill its value up to a multiple of four
pub record PaddedAttribute : Type 0 where
  pub kind : ℕ
  pub value : List ℕ
  pub padding : List ℕ

abbrev pub attribute_of : PaddedAttribute → Attribute
attribute_of a = record { kind = a.kind; value = a.value }

-- how many bytes fill n bytes up to a multiple of four
abbrev pub padding_count : ℕ → ℕ
padding_count n = (4 - n % 4) % 4

-- type and length have 16 bits, and the padding has its length; its bytes may be any
pub record IsPadded (a : PaddedAttribute) : Type 0 where
  pub kind : a.kind < 0x10000
  pub value : length a.value < 0x10000
  pub padding : length a.padding ≡ padding_count (length a.value)

-- type, length, value, padding: the length is the value's alone
abbrev pub attribute_bytes : PaddedAttribute → List ℕ
attribute_bytes a = big_bytes 2 a.kind ++ big_bytes 2 (length a.value) ++ a.value ++ a.padding

abbrev pub attributes_bytes : List PaddedAttribute → List ℕ
attributes_bytes attributes = flat_map attribute_bytes attributes

-- ---- datagrams (section 5)

-- the parts of a datagram
pub record Parts : Type 0 where
  pub kind : ℕ
  pub tx : List ℕ
  pub attributes : List PaddedAttribute

-- a type of 14 bits, an id of 96, and attributes whose length has 16 bits
pub record AreParts (p : Parts) : Type 0 where
  pub kind : p.kind < 0x4000
  pub tx : length p.tx ≡ 12
  pub attributes : AllByRecursion IsPadded p.attributes
  pub short : length (attributes_bytes p.attributes) < 0x10000

-- two zero bits and the type, the length of what follows the header, the cookie, the id
abbrev pub header : ℕ → ℕ → List ℕ → List ℕ
header kind n tx = big_bytes 2 kind ++ big_bytes 2 n ++ big_bytes 4 magic_cookie ++ tx

abbrev pub parts_bytes : Parts → List ℕ
parts_bytes p = header p.kind (length (attributes_bytes p.attributes)) p.tx ++ attributes_bytes p.attributes

-- ---- messages

pub record Message : Type 0 where
  pub kind : ℕ
  pub tx : List ℕ
  pub attributes : List Attribute

-- what follows the first MESSAGE-INTEGRITY is ignored (section 14.5)
abbrev pub up_to_integrity : List PaddedAttribute → List PaddedAttribute
up_to_integrity [] = []
up_to_integrity (a ∷ rest) = a ∷ (if a.kind == message_integrity then [] else up_to_integrity rest)

abbrev pub message_of : Parts → Message
message_of p = record { kind = p.kind; tx = p.tx; attributes = map attribute_of (up_to_integrity p.attributes) }

-- a datagram encodes a message
abbrev pub IsMessage : Message → List ℕ → Type 0
IsMessage m bytes = (p : Parts) × AreParts p × (bytes ≡ parts_bytes p) × (m ≡ message_of p)

-- ---- what comes before MESSAGE-INTEGRITY

-- the attributes before the first MESSAGE-INTEGRITY, if there is one
abbrev pub before_first : List PaddedAttribute → Option (List PaddedAttribute)
before_first [] = None
before_first (a ∷ rest) = if a.kind == message_integrity then Some [] else option_map (λ front. a ∷ front) (before_first rest)

-- the bytes of the datagram before it
abbrev pub before_integrity : Parts → Option (List ℕ)
before_integrity p = option_map (λ front. header p.kind (length (attributes_bytes p.attributes)) p.tx ++ attributes_bytes front) (before_first p.attributes)

-- ---- what is written

-- an attribute whose padding is zero
abbrev pub zero_padded : ℕ → List ℕ → PaddedAttribute
zero_padded kind value = record { kind = kind; value = value; padding = replicate (padding_count (length value)) 0 }

abbrev pub with_attribute : Parts → ℕ → List ℕ → Parts
with_attribute p kind value = record p { attributes = p.attributes ++ zero_padded kind value ∷ [] }

abbrev pub empty_message : ℕ → List ℕ → Parts
empty_message kind tx = record { kind = kind; tx = tx; attributes = [] }

-- how many bytes an attribute with a value takes
abbrev pub attribute_length : List ℕ → ℕ
attribute_length value = 4 + length value + padding_count (length value)
