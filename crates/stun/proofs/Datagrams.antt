-- Datagrams: their parts, and why a datagram has none.
use Rattle.std.proofs.Common.{◌≡◌, ℕ, ◌+◌, ◌%◌, ◌<◌, ◌≤◌, List, [], ◌∷◌, ◌++◌, length, take, drop, slice_index, subst, refl, sym, ap, ◌∙◌, arith}
use Rattle.std.specs.List.{AllByRecursion}
use Rattle.std.proofs.lemmas.List.{length-append, length-drop, length-take-le, take-append-drop}
use Rattle.byteorder.specs.Endian.{big_bytes, big_number}
use Rattle.byteorder.specs.Numbers.{big_number-reads_back}
use Rattle.stun.specs.Registry.{magic_cookie}
use Rattle.stun.specs.Messages.{PaddedAttribute, IsPadded, Parts, AreParts, padding_count, attributes_bytes, header, parts_bytes}
use Rattle.stun.specs.Refusals.{number_at, HasLength, IsRefusedMessage}
use Rattle.stun.specs.Reading.{attributes_in, parts_in, AreAttributes, HasHeader, EncodesParts}
use Rattle.stun.specs.declared.refusal.StunError.{StunError}
use Rattle.stun.specs.declared.refusal.StunError.TheVariants.{TooShort, NotStun, BadCookie, BadLength, AttributeOverrun}
use Rattle.stun.proofs.Grammar.{piece_take, piece_drop, bytes_of_2, bytes_of_4, small_2, attributes_are, are_attributes_of, length_of_attribute}

-- what the reader tests
pub record IsAccepted (bytes : List ℕ) : Type 0 where
  pub header_is : HasHeader bytes
  pub attributes : AreAttributes (drop 20 bytes)

-- ---- a datagram that is accepted has parts

length_of_rest : (bytes : List ℕ) (n : ℕ) → n ≤ length bytes → length (drop n bytes) + n ≡ length bytes
length_of_rest bytes n some = omega (arith, length-drop n bytes)

header_here : (b0 b1 b2 b3 b4 b5 b6 b7 : ℕ) (t : List ℕ) (k n c : ℕ) → big_bytes 2 k ≡ b0 ∷ b1 ∷ [] → big_bytes 2 n ≡ b2 ∷ b3 ∷ [] → big_bytes 4 c ≡ b4 ∷ b5 ∷ b6 ∷ b7 ∷ []
    → b0 ∷ b1 ∷ b2 ∷ b3 ∷ b4 ∷ b5 ∷ b6 ∷ b7 ∷ t ≡ big_bytes 2 k ++ (big_bytes 2 n ++ (big_bytes 4 c ++ (take 12 t ++ drop 12 t)))
header_here b0 b1 b2 b3 b4 b5 b6 b7 t k n c ek en ec =
    let split = sym (take-append-drop 12 t) in
    λ i. sym ek i ++ (sym en i ++ (sym ec i ++ split i))

-- the bytes of a header, its number for the cookie whatever it is
header_is : (bytes : List ℕ) → 8 ≤ length bytes → ((k : ℕ) → slice_index bytes k < 256)
    → bytes ≡ big_bytes 2 (number_at 2 0 bytes) ++ (big_bytes 2 (number_at 2 2 bytes) ++ (big_bytes 4 (number_at 4 4 bytes) ++ (take 12 (drop 8 bytes) ++ drop 20 bytes)))
header_is [] long small = absurd (omega arith)
header_is (b0 ∷ []) long small = absurd (omega arith)
header_is (b0 ∷ b1 ∷ []) long small = absurd (omega arith)
header_is (b0 ∷ b1 ∷ b2 ∷ []) long small = absurd (omega arith)
header_is (b0 ∷ b1 ∷ b2 ∷ b3 ∷ []) long small = absurd (omega arith)
header_is (b0 ∷ b1 ∷ b2 ∷ b3 ∷ b4 ∷ []) long small = absurd (omega arith)
header_is (b0 ∷ b1 ∷ b2 ∷ b3 ∷ b4 ∷ b5 ∷ []) long small = absurd (omega arith)
header_is (b0 ∷ b1 ∷ b2 ∷ b3 ∷ b4 ∷ b5 ∷ b6 ∷ []) long small = absurd (omega arith)
header_is (b0 ∷ b1 ∷ b2 ∷ b3 ∷ b4 ∷ b5 ∷ b6 ∷ b7 ∷ t) long small =
    header_here b0 b1 b2 b3 b4 b5 b6 b7 t (big_number 2 (b0 ∷ b1 ∷ b2 ∷ b3 ∷ b4 ∷ b5 ∷ b6 ∷ b7 ∷ t)) (big_number 2 (b2 ∷ b3 ∷ b4 ∷ b5 ∷ b6 ∷ b7 ∷ t)) (big_number 4 (b4 ∷ b5 ∷ b6 ∷ b7 ∷ t))
    (bytes_of_2 b0 b1 (b2 ∷ b3 ∷ b4 ∷ b5 ∷ b6 ∷ b7 ∷ t) (small 0) (small 1)) (bytes_of_2 b2 b3 (b4 ∷ b5 ∷ b6 ∷ b7 ∷ t) (small 2) (small 3)) (bytes_of_4 b4 b5 b6 b7 t (small 4) (small 5) (small 6) (small 7))

number_small : (bytes : List ℕ) → 4 ≤ length bytes → ((k : ℕ) → slice_index bytes k < 256) → number_at 2 2 bytes < 0x10000
number_small [] long small = absurd (omega arith)
number_small (b0 ∷ []) long small = absurd (omega arith)
number_small (b0 ∷ b1 ∷ []) long small = absurd (omega arith)
number_small (b0 ∷ b1 ∷ b2 ∷ []) long small = absurd (omega arith)
number_small (b0 ∷ b1 ∷ b2 ∷ b3 ∷ t) long small = small_2 b2 b3 t (small 2) (small 3)

pub accepted_has_parts : (bytes : List ℕ) → ((k : ℕ) → slice_index bytes k < 256) → IsAccepted bytes → EncodesParts bytes
accepted_has_parts bytes small is =
    let body = drop 20 bytes in
    let body_length : length (attributes_bytes (attributes_in body)) ≡ number_at 2 2 bytes =
    omega (arith, ap length is.attributes.spelled, length_of_rest bytes 20 is.header_is.long, is.header_is.has_length.whole) in
    let whole = header_is bytes (omega (arith, is.header_is.long)) small in
    let numbers : bytes ≡ header (number_at 2 0 bytes) (length (attributes_bytes (attributes_in body))) (take 12 (drop 8 bytes)) ++ attributes_bytes (attributes_in body) =
    whole ∙ (λ i. big_bytes 2 (number_at 2 0 bytes) ++ (big_bytes 2 (sym body_length i) ++ (big_bytes 4 (is.header_is.cookie i) ++ (take 12 (drop 8 bytes) ++ is.attributes.spelled i)))) in
    record {
      are_parts = record {
        kind = is.header_is.kind;
        tx = length-take-le 12 (drop 8 bytes) (omega (arith, is.header_is.long, length-drop 8 bytes));
        attributes = is.attributes.padded;
        short = omega (arith, body_length, number_small bytes (omega (arith, is.header_is.long)) small);
      };
      spelled = numbers;
    }

-- ---- a datagram that has parts has those that the reader finds, and is accepted

pub body_is : (p : Parts) → AreParts p → drop 20 (parts_bytes p) ≡ attributes_bytes p.attributes
body_is p are = piece_drop p.tx (attributes_bytes p.attributes) 12 (sym are.tx)

pub parts_are : (bytes : List ℕ) (p : Parts) → AreParts p → bytes ≡ parts_bytes p → parts_in bytes ≡ p
parts_are bytes p are spelled =
    let x = attributes_bytes p.attributes in
    let kind_is : number_at 2 0 (parts_bytes p) ≡ p.kind = big_number-reads_back 2 p.kind (big_bytes 2 (length x) ++ (big_bytes 4 magic_cookie ++ (p.tx ++ x))) (omega (arith, are.kind)) in
    let id_is : take 12 (drop 8 (parts_bytes p)) ≡ p.tx = piece_take p.tx x 12 (sym are.tx) in
    let attributes_is : attributes_in (drop 20 (parts_bytes p)) ≡ p.attributes = attributes_are (drop 20 (parts_bytes p)) p.attributes are.attributes (body_is p are) in
    ap parts_in spelled ∙ (λ i. record { kind = kind_is i; tx = id_is i; attributes = attributes_is i })

fours_more : (n k m : ℕ) → m % 4 ≡ 0 → k ≡ 4 + n + padding_count n + m → k % 4 ≡ 0
fours_more n k m e is = omega arith

pub fours : (list : List PaddedAttribute) → AllByRecursion IsPadded list → length (attributes_bytes list) % 4 ≡ 0
fours [] all = refl
fours (a ∷ list) all =
    fours_more (length a.value) (length (attributes_bytes (a ∷ list))) (length (attributes_bytes list)) (fours list all.1) (length_of_attribute a (attributes_bytes list) all.0)

pub length_of_parts : (p : Parts) → AreParts p → length (parts_bytes p) ≡ 20 + length (attributes_bytes p.attributes)
length_of_parts p are = omega (arith, length-append p.tx (attributes_bytes p.attributes), are.tx)

pub parts_are_accepted : (p : Parts) → AreParts p → IsAccepted (parts_bytes p)
parts_are_accepted p are =
    let x = attributes_bytes p.attributes in
    let kind_is : number_at 2 0 (parts_bytes p) ≡ p.kind = big_number-reads_back 2 p.kind (big_bytes 2 (length x) ++ (big_bytes 4 magic_cookie ++ (p.tx ++ x))) (omega (arith, are.kind)) in
    let length_is : number_at 2 2 (parts_bytes p) ≡ length x = big_number-reads_back 2 (length x) (big_bytes 4 magic_cookie ++ (p.tx ++ x)) are.short in
    record {
      header_is = record {
        long = omega (arith, length_of_parts p are);
        kind = omega (arith, kind_is, are.kind);
        cookie = refl;
        has_length = record {
          fours = ap (λ n. n % 4) length_is ∙ fours p.attributes are.attributes;
          whole = omega (arith, length_is, length_of_parts p are);
        };
      };
      attributes = are_attributes_of (drop 20 (parts_bytes p)) p.attributes are.attributes (body_is p are);
    }

pub accepted : (bytes body : List ℕ) → HasHeader bytes → body ≡ drop 20 bytes → AreAttributes body → IsAccepted bytes
accepted bytes body has there are = record { header_is = has; attributes = subst AreAttributes there are }

-- ---- refusals

refused_is_not_accepted : (bytes : List ℕ) (e : StunError) → IsRefusedMessage bytes e → IsAccepted bytes → ⊥
refused_is_not_accepted bytes TooShort refused is = omega (arith, refused, is.header_is.long)
refused_is_not_accepted bytes NotStun refused is = omega (arith, refused.1, is.header_is.kind)
refused_is_not_accepted bytes BadCookie refused is = refused.2 is.header_is.cookie
refused_is_not_accepted bytes BadLength refused is = refused.3 is.header_is.has_length
refused_is_not_accepted bytes AttributeOverrun refused is = refused.4 (attributes_in (drop 20 bytes)) is.attributes.padded is.attributes.spelled

pub refused_is_no_message : (bytes : List ℕ) (e : StunError) (p : Parts) → IsRefusedMessage bytes e → AreParts p → bytes ≡ parts_bytes p → ⊥
refused_is_no_message bytes e p refused are spelled =
    refused_is_not_accepted bytes e refused (subst IsAccepted (sym spelled) (parts_are_accepted p are))

pub parts_unique : (p q : Parts) → AreParts p → AreParts q → parts_bytes p ≡ parts_bytes q → p ≡ q
parts_unique p q are other e = sym (parts_are (parts_bytes p) p are refl) ∙ parts_are (parts_bytes p) q other e

pub overrun_is_refused : (bytes : List ℕ) → 20 ≤ length bytes → number_at 2 0 bytes < 0x4000 → number_at 4 4 bytes ≡ magic_cookie → HasLength bytes → (AreAttributes (drop 20 bytes) → ⊥) → IsRefusedMessage bytes AttributeOverrun
overrun_is_refused bytes long kind cookie has none =
    (long, kind, cookie, has, λ list all spelled. none (are_attributes_of (drop 20 bytes) list all spelled))

pub refusal_unique : (bytes : List ℕ) (d e : StunError) → IsRefusedMessage bytes d → IsRefusedMessage bytes e → d ≡ e
refusal_unique bytes TooShort TooShort p q = refl
refusal_unique bytes TooShort NotStun p q = absurd (omega (arith, p, q.0))
refusal_unique bytes TooShort BadCookie p q = absurd (omega (arith, p, q.0))
refusal_unique bytes TooShort BadLength p q = absurd (omega (arith, p, q.0))
refusal_unique bytes TooShort AttributeOverrun p q = absurd (omega (arith, p, q.0))
refusal_unique bytes NotStun TooShort p q = absurd (omega (arith, q, p.0))
refusal_unique bytes NotStun NotStun p q = refl
refusal_unique bytes NotStun BadCookie p q = absurd (omega (arith, p.1, q.1))
refusal_unique bytes NotStun BadLength p q = absurd (omega (arith, p.1, q.1))
refusal_unique bytes NotStun AttributeOverrun p q = absurd (omega (arith, p.1, q.1))
refusal_unique bytes BadCookie TooShort p q = absurd (omega (arith, q, p.0))
refusal_unique bytes BadCookie NotStun p q = absurd (omega (arith, q.1, p.1))
refusal_unique bytes BadCookie BadCookie p q = refl
refusal_unique bytes BadCookie BadLength p q = absurd (p.2 q.2)
refusal_unique bytes BadCookie AttributeOverrun p q = absurd (p.2 q.2)
refusal_unique bytes BadLength TooShort p q = absurd (omega (arith, q, p.0))
refusal_unique bytes BadLength NotStun p q = absurd (omega (arith, q.1, p.1))
refusal_unique bytes BadLength BadCookie p q = absurd (q.2 p.2)
refusal_unique bytes BadLength BadLength p q = refl
refusal_unique bytes BadLength AttributeOverrun p q = absurd (p.3 q.3)
refusal_unique bytes AttributeOverrun TooShort p q = absurd (omega (arith, q, p.0))
refusal_unique bytes AttributeOverrun NotStun p q = absurd (omega (arith, q.1, p.1))
refusal_unique bytes AttributeOverrun BadCookie p q = absurd (q.2 p.2)
refusal_unique bytes AttributeOverrun BadLength p q = absurd (q.3 p.3)
refusal_unique bytes AttributeOverrun AttributeOverrun p q = refl

pub overrun : (bytes body : List ℕ) → HasHeader bytes → body ≡ drop 20 bytes → (AreAttributes body → ⊥) → IsRefusedMessage bytes AttributeOverrun
overrun bytes body has there none =
    overrun_is_refused bytes has.long has.kind has.cookie has.has_length (λ are. none (subst AreAttributes (sym there) are))
