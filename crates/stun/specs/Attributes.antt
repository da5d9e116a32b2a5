-- Meaning. The attributes and values that iterators give, and the types of attributes that are understood.
use Rattle.std.specs.Prelude.{ℕ, ◌==◌, ◌||◌, leb, Bool, List, [], ◌∷◌, map, Option, slice_get}
use Rattle.std.specs.List.{filter, list_any}
use Rattle.stun.specs.Messages.{Attribute, PaddedAttribute, attribute_of, up_to_integrity}
use Rattle.stun.specs.declared.attributes.Attr.{Attr}
use Rattle.stun.specs.declared.registry.attribute.TheConstants.{USERNAME, MESSAGE_INTEGRITY, ERROR_CODE, UNKNOWN_ATTRIBUTES, CHANNEL_NUMBER, LIFETIME, XOR_PEER_ADDRESS, DATA, REALM, NONCE, XOR_RELAYED_ADDRESS, REQUESTED_ADDRESS_FAMILY, REQUESTED_TRANSPORT, XOR_MAPPED_ADDRESS}

-- an attribute that the iterator gives
abbrev pub attribute_of_attr : Attr → Attribute
attribute_of_attr a = record { kind = a.kind; value = a.value.now }

-- what it gives from here on
abbrev pub attributes_left : List PaddedAttribute → List Attribute
attributes_left attributes = map attribute_of (up_to_integrity attributes)

-- the values of all attributes of a type, in their order
abbrev pub values_of : ℕ → List Attribute → List (List ℕ)
values_of kind attributes = map (λ a. a.value) (filter (λ a. a.kind == kind) attributes)

-- the first of them
abbrev pub value_of : ℕ → List Attribute → Option (List ℕ)
value_of kind attributes = slice_get (values_of kind attributes) 0

-- the types that this profile reads or writes
abbrev pub understood_types : List ℕ
understood_types =
    USERNAME ∷ MESSAGE_INTEGRITY ∷ ERROR_CODE ∷ UNKNOWN_ATTRIBUTES ∷ CHANNEL_NUMBER ∷ LIFETIME ∷ XOR_PEER_ADDRESS ∷ DATA ∷ REALM ∷ NONCE
    ∷ XOR_RELAYED_ADDRESS ∷ REQUESTED_ADDRESS_FAMILY ∷ REQUESTED_TRANSPORT ∷ XOR_MAPPED_ADDRESS ∷ []

-- a type in the table; a comprehension-optional type, from 0x8000 up, is ignored and need not be in it (RFC 8489, section 14)
abbrev pub is_understood : ℕ → Bool
is_understood kind = leb 0x8000 kind || list_any (λ k. k == kind) understood_types
