-- The bytes that a MESSAGE-INTEGRITY is made over, from those before it.
use Rattle.std.proofs.Common.{◌≡◌, ℕ, ◌+◌, ◌/◌, ◌%◌, List, [], ◌∷◌, ◌++◌, length, take, drop, Option, Some, None, sym, ap, ◌∙◌, arith, length-append}
use Rattle.std.specs.Prelude.{option_map}
use Rattle.stun.specs.Endian.{big_bytes}
use Rattle.stun.specs.Messages.{PaddedAttribute, Parts, header, attributes_bytes, before_first, before_integrity}
use Rattle.credentials.specs.Hmac.{hmac}
use Rattle.credentials.specs.Integrity.{covered_bytes, integrity_under}

same_length : (n : ℕ) → big_bytes 2 ((n + 4) % 65536) ≡ big_bytes 2 (n + 4)
same_length n =
    let high : ((n + 4) % 65536) / 256 % 256 ≡ (n + 4) / 256 % 256 = omega arith in
    let low : ((n + 4) % 65536) % 256 ≡ (n + 4) % 256 = omega arith in
    λ i. high i ∷ low i ∷ []

-- the bytes before it, whatever the length in their header, with the length that is covered
pub covered : (front : List ℕ) (p : Parts) (n : ℕ) (attributes : List PaddedAttribute) → length p.tx ≡ 12 → front ≡ header p.kind n p.tx ++ attributes_bytes attributes
    → take 2 front ++ (big_bytes 2 ((length front + 4) % 65536) ++ drop 4 front) ≡ covered_bytes p attributes
covered front p n attributes id e =
    let bytes : List ℕ = attributes_bytes attributes in
    let whole : List ℕ = header p.kind n p.tx ++ bytes in
    let size : length whole + 4 ≡ length bytes + 24 = omega (arith, length-append p.tx bytes, id) in
    let length_is : big_bytes 2 ((length whole + 4) % 65536) ≡ big_bytes 2 (length bytes + 24) = same_length (length whole) ∙ ap (big_bytes 2) size in
    ap (λ (f : List ℕ). take 2 f ++ (big_bytes 2 ((length f + 4) % 65536) ++ drop 4 f)) e ∙ ap (λ (b : List ℕ). take 2 whole ++ (b ++ drop 4 whole)) length_is

integrity_at : (key front integrity : List ℕ) (p : Parts) (o : Option (List PaddedAttribute))
    → ((f : List PaddedAttribute) → front ≡ header p.kind (length (attributes_bytes p.attributes)) p.tx ++ attributes_bytes f → integrity ≡ hmac key (covered_bytes p f))
    → option_map (λ f. header p.kind (length (attributes_bytes p.attributes)) p.tx ++ attributes_bytes f) o ≡ Some front → Some integrity ≡ option_map (λ f. hmac key (covered_bytes p f)) o
integrity_at key front integrity p None is e = absurd cc
integrity_at key front integrity p (Some f) is e =
    let there : header p.kind (length (attributes_bytes p.attributes)) p.tx ++ attributes_bytes f ≡ front = cc in
    ap Some (is f (sym there))

-- an HMAC over the bytes before the first MESSAGE-INTEGRITY is the right one
pub integrity_of_front : (key front integrity : List ℕ) (p : Parts)
    → ((f : List PaddedAttribute) → front ≡ header p.kind (length (attributes_bytes p.attributes)) p.tx ++ attributes_bytes f → integrity ≡ hmac key (covered_bytes p f)) → Some front ≡ before_integrity p → Some integrity ≡ integrity_under key p
integrity_of_front key front integrity p is given = integrity_at key front integrity p (before_first p.attributes) is (sym given)
