-- Interface. How many bytes a message has that is put together, and which values a message has that was read.
use Rattle.std.proofs.Common.{◌≡◌, ℕ, ◌+◌, ◌≤◌, Bool, true, false, List, [], ◌∷◌, length, refl, ap, subst, arith}
use Rattle.std.specs.Prelude.{◌==◌, Option, None, Some, IfSome, cond, map, slice_get}
use Rattle.std.specs.List.{filter}
use Rattle.std.proofs.lemmas.Bool.{and_parts, eqb-true}
use Rattle.std.proofs.lemmas.List.{length-append, length-replicate}
use Rattle.std.proofs.lemmas.List.Concat.{flat_map-append}
use Rattle.std.proofs.lemmas.Option.{none-some, same_Some}
use Rattle.std.proofs.lemmas.Slice.Eq.{bytes_eq-Decides}
use Rattle.stun.specs.Attributes.{value_of}
use Rattle.stun.specs.Datagrams.{are_parts, is_message, message_in}
use Rattle.stun.specs.Messages.{Attribute, PaddedAttribute, Parts, attribute_of, attribute_bytes, attribute_length, attributes_bytes, empty_message, padding_count, parts_bytes, up_to_integrity, with_attribute, zero_padded}
use Rattle.stun.specs.Reading.{parts_in}
use Rattle.stun.specs.Registry.{message_integrity}
use Rattle.stun.specs.declared.registry.Class.{Class}
use Rattle.credentials.specs.Checks.{first_value}
use Rattle.credentials.specs.laws.Hmac.{length-hmac}
use Rattle.credentials.specs.Integrity.{covered_bytes, integrity_of}
use Rattle.credentials.specs.Signs.{with_integrity}
use Rattle.control.specs.Replies.{kind_of, reply, signed_if, with_attributes}
use Rattle.control.specs.declared.request.Request.{Request}

-- ---- parts

-- eight bytes of the header, the id, the attributes
pub length-parts : (p : Parts) → length (parts_bytes p) ≡ 8 + length p.tx + length (attributes_bytes p.attributes)
length-parts p = omega (arith, length-append p.tx (attributes_bytes p.attributes))

length-attribute : (a : PaddedAttribute) → length (attribute_bytes a) ≡ 4 + length a.value + length a.padding
length-attribute a = omega (arith, length-append a.value a.padding)

length-zero_padded : (kind : ℕ) (value : List ℕ) → length (attribute_bytes (zero_padded kind value)) ≡ attribute_length value
length-zero_padded kind value =
    let zero_byte : ℕ = 0 in
    omega (arith, length-attribute (zero_padded kind value), length-replicate (padding_count (length value)) zero_byte)

length-with_attribute : (p : Parts) (kind : ℕ) (value : List ℕ)
    → length (attributes_bytes (with_attribute p kind value).attributes) ≡ length (attributes_bytes p.attributes) + attribute_length value
length-with_attribute p kind value =
    let last : List PaddedAttribute = zero_padded kind value ∷ [] in
    omega (
      arith,
      ap length (flat_map-append attribute_bytes p.attributes last),
      length-append (attributes_bytes p.attributes) (attributes_bytes last),
      length-append (attribute_bytes (zero_padded kind value)) [],
      length-zero_padded kind value,
    )

-- the bytes of attributes that are put after others
abbrev pub length_of_all : List Attribute → ℕ
length_of_all [] = 0
length_of_all (a ∷ rest) = attribute_length a.value + length_of_all rest

length-with_attributes : (p : Parts) (attributes : List Attribute)
    → length (attributes_bytes (with_attributes p attributes).attributes) ≡ length (attributes_bytes p.attributes) + length_of_all attributes
length-with_attributes p [] = omega arith
length-with_attributes p (a ∷ rest) =
    omega (arith, length-with_attributes (with_attribute p a.kind a.value) rest, length-with_attribute p a.kind a.value)

id-with_attributes : (p : Parts) (attributes : List Attribute) → (with_attributes p attributes).tx ≡ p.tx
id-with_attributes p [] = refl
id-with_attributes p (a ∷ rest) = id-with_attributes (with_attribute p a.kind a.value) rest

-- ---- signatures

-- the bytes of the signature under a key, if there is one
abbrev pub length_of_signature : Option (List ℕ) → ℕ
length_of_signature None = 0
length_of_signature (Some key) = 24

length-with_integrity : (key : List ℕ) (p : Parts) → length (parts_bytes (with_integrity key p)) ≡ length (parts_bytes p) + 24
length-with_integrity key p =
    omega (
      arith,
      length-parts (with_integrity key p),
      length-parts p,
      length-with_attribute p message_integrity (integrity_of key p),
      ap (λ n. 4 + n + padding_count n) (length-hmac key (covered_bytes p p.attributes)),
    )

-- ---- replies

module _ (kind : ℕ) (tx : List ℕ) (attributes : List Attribute) where
  abbrev unsigned : Parts
  unsigned = with_attributes (empty_message kind tx) attributes

  length-unsigned : length (parts_bytes unsigned) ≡ 8 + length tx + length_of_all attributes
  length-unsigned =
      omega (
        arith,
        length-parts unsigned,
        ap length (id-with_attributes (empty_message kind tx) attributes),
        length-with_attributes (empty_message kind tx) attributes,
      )

  length-signed : (key : Option (List ℕ)) → length (parts_bytes (signed_if key unsigned)) ≡ 8 + length tx + length_of_all attributes + length_of_signature key
  length-signed None = omega (arith, length-unsigned)
  length-signed (Some key) = omega (arith, length-with_integrity key unsigned, length-unsigned)

pub length-reply : (r : Request) (class : Class) (tx : List ℕ) (attributes : List Attribute) (key : Option (List ℕ))
    → length tx ≡ 12 → length (parts_bytes (reply r class tx attributes key)) ≡ 20 + length_of_all attributes + length_of_signature key
length-reply r class tx attributes key long = omega (arith, length-signed (kind_of r class) tx attributes key, long)

-- ---- messages that are read

-- the parts of a datagram: an id of 96 bits, and its bytes
pub record IsSpelled (bytes : List ℕ) (p : Parts) : Type 0 where
  pub id : length p.tx ≡ 12
  pub spelled : bytes ≡ parts_bytes p

pub message_in-spelled : (bytes : List ℕ) (p : Parts) → message_in bytes ≡ Some p → IsSpelled bytes p
message_in-spelled bytes p = of (is_message bytes) refl where
  of : (b : Bool) → is_message bytes ≡ b → cond b (Some (parts_in bytes)) None ≡ Some p → IsSpelled bytes p
  of true is same =
      let both = and_parts (are_parts (parts_in bytes)) _ is in
      let id = (and_parts _ _ (and_parts _ _ (and_parts _ _ both.0).0).0).1 in
      subst (λ (q : Parts). IsSpelled bytes q) (same_Some (parts_in bytes) p same) (record {
        id = eqb-true (length (parts_in bytes).tx) 12 id;
        spelled = (bytes_eq-Decides bytes (parts_bytes (parts_in bytes))).0 both.1;
      })
  of false is same = absurd (none-some p same)

-- the first value of a type is no longer than the attributes
module _ (kind : ℕ) where
  abbrev IsNoLonger : List PaddedAttribute → Option (List ℕ) → Type 0
  IsNoLonger attributes value = IfSome value (λ v. length v ≤ length (attributes_bytes attributes))

  longer_yet : (a : PaddedAttribute) (rest : List PaddedAttribute) (value : Option (List ℕ)) → IsNoLonger rest value → IsNoLonger (a ∷ rest) value
  longer_yet a rest None short = tt
  longer_yet a rest (Some v) short = omega (arith, short, length-append (attribute_bytes a) (attributes_bytes rest))

  -- the first of them, if it is of the type, or one of the rest, if that is looked at
  first_or_next : (a : PaddedAttribute) (rest : List PaddedAttribute) → IsNoLonger rest (value_of kind (map attribute_of (up_to_integrity rest))) → (b last : Bool)
      → IsNoLonger (a ∷ rest) (slice_get (map (λ c. c.value) (cond b
      (attribute_of a ∷ filter (λ c. c.kind == kind) (map attribute_of (cond last [] (up_to_integrity rest))))
      (filter (λ c. c.kind == kind) (map attribute_of (cond last [] (up_to_integrity rest)))))) 0)
  first_or_next a rest short true last = omega (arith, length-append (attribute_bytes a) (attributes_bytes rest), length-attribute a)
  first_or_next a rest short false true = tt
  first_or_next a rest short false false = longer_yet a rest (value_of kind (map attribute_of (up_to_integrity rest))) short

  value_of-short : (attributes : List PaddedAttribute) → IsNoLonger attributes (value_of kind (map attribute_of (up_to_integrity attributes)))
  value_of-short [] = tt
  value_of-short (a ∷ rest) = first_or_next a rest (value_of-short rest) (a.kind == kind) (a.kind == message_integrity)

pub first_value-short : (bytes : List ℕ) (p : Parts) (kind : ℕ) → IsSpelled bytes p → IfSome (first_value p kind) (λ v. length v ≤ length bytes)
first_value-short bytes p kind is = of (first_value p kind) (value_of-short kind p.attributes) where
  of : (value : Option (List ℕ)) → IfSome value (λ v. length v ≤ length (attributes_bytes p.attributes)) → IfSome value (λ v. length v ≤ length bytes)
  of None short = tt
  of (Some v) short = omega (arith, short, ap length is.spelled, length-parts p)
