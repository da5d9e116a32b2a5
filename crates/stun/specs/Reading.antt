-- Interface. The attributes and the parts that bytes encode, for bytes that are known to encode some.
use Rattle.std.specs.Prelude.{◌≡◌, ℕ, zero, suc, ◌+◌, ◌<◌, ◌≤◌, List, [], ◌∷◌, ◌++◌, length, take, drop, refl, Option, option_map}
use Rattle.std.specs.List.{AllByRecursion}
use Rattle.std.specs.Coded.{Coded, code_by, coded×, coded_list, coded_ℕ}
use Rattle.stun.specs.Messages.{PaddedAttribute, IsPadded, Parts, AreParts, padding_count, attribute_bytes, attributes_bytes, parts_bytes, before_first}
use Rattle.stun.specs.Registry.{magic_cookie}
use Rattle.stun.specs.Refusals.{number_at, HasLength}

-- an attribute that begins bytes, and what follows it
abbrev pub first_padded : List ℕ → PaddedAttribute
first_padded bytes = record {
  kind = number_at 2 0 bytes;
  value = take (number_at 2 2 bytes) (drop 4 bytes);
  padding = take (padding_count (number_at 2 2 bytes)) (drop (number_at 2 2 bytes) (drop 4 bytes));
}

abbrev pub after_first : List ℕ → List ℕ
after_first bytes = drop (number_at 2 2 bytes + padding_count (number_at 2 2 bytes)) (drop 4 bytes)

-- bytes begin with an attribute of this type and value, and the rest follows
pub record BeginsWith (bytes : List ℕ) (kind : ℕ) (value rest : List ℕ) : Type 0 where
  pub padded : IsPadded (first_padded bytes)
  pub spelled : bytes ≡ attribute_bytes (first_padded bytes) ++ rest
  pub kind_is : kind ≡ (first_padded bytes).kind
  pub value_is : value ≡ (first_padded bytes).value

-- at most n attributes
abbrev pub first_attributes : ℕ → List ℕ → List PaddedAttribute
first_attributes zero bytes = []
first_attributes (suc n) [] = []
first_attributes (suc n) (b ∷ bytes) = first_padded (b ∷ bytes) ∷ first_attributes n (after_first (b ∷ bytes))

abbrev pub attributes_in : List ℕ → List PaddedAttribute
attributes_in bytes = first_attributes (length bytes) bytes

abbrev pub parts_in : List ℕ → Parts
parts_in bytes = record { kind = number_at 2 0 bytes; tx = take 12 (drop 8 bytes); attributes = attributes_in (drop 20 bytes) }

-- bytes that encode attributes, and a datagram that encodes a message
pub record AreAttributes (bytes : List ℕ) : Type 0 where
  pub padded : AllByRecursion IsPadded (attributes_in bytes)
  pub spelled : bytes ≡ attributes_bytes (attributes_in bytes)

pub record EncodesParts (bytes : List ℕ) : Type 0 where
  pub are_parts : AreParts (parts_in bytes)
  pub spelled : bytes ≡ parts_bytes (parts_in bytes)

-- the byte of attributes at which the first MESSAGE-INTEGRITY begins
abbrev pub integrity_at : List ℕ → Option ℕ
integrity_at bytes = option_map (λ front. length (attributes_bytes front)) (before_first (attributes_in bytes))

-- what a message that was read keeps
pub record IsRead (bytes : List ℕ) (integrity : Option ℕ) : Type 0 where
  pub encodes : EncodesParts bytes
  pub integrity_is : integrity ≡ integrity_at (drop 20 bytes)

-- the conditions on the first 20 bytes of a datagram
pub record HasHeader (bytes : List ℕ) : Type 0 where
  pub long : 20 ≤ length bytes
  pub kind : number_at 2 0 bytes < 0x4000
  pub cookie : number_at 4 4 bytes ≡ magic_cookie
  pub has_length : HasLength bytes

-- ---- codes of these records: the tuples of their fields
abbrev pub padded_code : Coded PaddedAttribute
padded_code = code_by (ℕ × (List ℕ × List ℕ)) (coded× coded_ℕ (coded× (coded_list coded_ℕ) (coded_list coded_ℕ)))
    (λ a. (a.kind, (a.value, a.padding))) (λ t. record { kind = t.0; value = t.1.0; padding = t.1.1 }) (λ _. refl)

abbrev pub parts_code : Coded Parts
parts_code = code_by (ℕ × (List ℕ × List PaddedAttribute)) (coded× coded_ℕ (coded× (coded_list coded_ℕ) (coded_list padded_code)))
    (λ p. (p.kind, (p.tx, p.attributes))) (λ t. record { kind = t.0; tx = t.1.0; attributes = t.1.1 }) (λ _. refl)
