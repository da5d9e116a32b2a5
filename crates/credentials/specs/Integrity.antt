-- Meaning. MESSAGE-INTEGRITY (RFC 8489, section 14.5): the bytes that it is made over, and its value.
use Rattle.std.specs.Prelude.{ℕ, ◌+◌, List, ◌++◌, length, Option, option_map}
use Rattle.stun.specs.Messages.{PaddedAttribute, Parts, header, attributes_bytes, before_first}
use Rattle.credentials.specs.Hmac.{hmac}

-- a message up to a MESSAGE-INTEGRITY that follows these of its attributes: the header counts the length to the end of
-- that attribute, which has 24 bytes
abbrev pub covered_bytes : Parts → List PaddedAttribute → List ℕ
covered_bytes p front = header p.kind (length (attributes_bytes front) + 24) p.tx ++ attributes_bytes front

-- the right MESSAGE-INTEGRITY of a message that has one: the first
abbrev pub integrity_under : List ℕ → Parts → Option (List ℕ)
integrity_under key p = option_map (λ front. hmac key (covered_bytes p front)) (before_first p.attributes)

-- the MESSAGE-INTEGRITY that a message is signed with, after all its attributes
abbrev pub integrity_of : List ℕ → Parts → List ℕ
integrity_of key p = hmac key (covered_bytes p p.attributes)
