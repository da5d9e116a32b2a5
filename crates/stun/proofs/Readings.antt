-- A datagram is a message where the parts in it spell it.
use Rattle.std.proofs.Common.{◌≡◌, ℕ, true, List, [], ◌∷◌, drop, length, refl, sym, ap, subst, ◌∙◌, inl, inr, eqb-true, eq-eqb}
use Rattle.std.specs.Prelude.{◌&&◌, ◌==◌, nat_lt, bytes_eq, None, Some}
use Rattle.std.specs.List.{AllByRecursion, list_all}
use Rattle.std.proofs.lemmas.Bool.{cases_Bool, cond-true, cond-false, and_parts, and_from, lt-ltb, ltb-true}
use Rattle.std.proofs.lemmas.Option.{none-some, same_Some}
use Rattle.std.proofs.lemmas.Slice.Eq.{bytes_eq-Decides}
use Rattle.stun.specs.Messages.{PaddedAttribute, IsPadded, Parts, AreParts, attributes_bytes, parts_bytes, padding_count}
use Rattle.stun.specs.Reading.{parts_in, EncodesParts}
use Rattle.stun.specs.Datagrams.{is_padded, are_parts, is_message, message_in}
use Rattle.stun.proofs.Datagrams.{body_is, parts_are}

is_padded_from : (a : PaddedAttribute) → IsPadded a → is_padded a ≡ true
is_padded_from a h = and_from _ _ (and_from _ _ (lt-ltb a.kind 0x10000 h.kind) (lt-ltb (length a.value) 0x10000 h.value)) (eq-eqb _ _ h.padding)

all_padded_from : (list : List PaddedAttribute) → AllByRecursion IsPadded list → list_all is_padded list ≡ true
all_padded_from [] h = refl
all_padded_from (a ∷ rest) h = and_from _ _ (is_padded_from a h.0) (all_padded_from rest h.1)

padded_if : (a : PaddedAttribute) → is_padded a ≡ true → IsPadded a
padded_if a h =
    let first = and_parts (nat_lt a.kind 0x10000 && nat_lt (length a.value) 0x10000) (length a.padding == padding_count (length a.value)) h in
    let two = and_parts (nat_lt a.kind 0x10000) (nat_lt (length a.value) 0x10000) first.0 in
    record { kind = ltb-true _ _ two.0; value = ltb-true _ _ two.1; padding = eqb-true _ _ first.1 }

all_padded_if : (list : List PaddedAttribute) → list_all is_padded list ≡ true → AllByRecursion IsPadded list
all_padded_if [] h = tt
all_padded_if (a ∷ rest) h = let two = and_parts (is_padded a) (list_all is_padded rest) h in (padded_if a two.0, all_padded_if rest two.1)

are_parts_if : (p : Parts) → are_parts p ≡ true → AreParts p
are_parts_if p h =
    let last = and_parts (nat_lt p.kind 0x4000 && (length p.tx == 12) && list_all is_padded p.attributes) (nat_lt (length (attributes_bytes p.attributes)) 0x10000) h in
    let third = and_parts (nat_lt p.kind 0x4000 && (length p.tx == 12)) (list_all is_padded p.attributes) last.0 in
    let first = and_parts (nat_lt p.kind 0x4000) (length p.tx == 12) third.0 in
    record { kind = ltb-true _ _ first.0; tx = eqb-true _ _ first.1; attributes = all_padded_if p.attributes third.1; short = ltb-true _ _ last.1 }

are_parts_from : (p : Parts) → AreParts p → are_parts p ≡ true
are_parts_from p h =
    and_from _ _ (and_from _ _ (and_from _ _ (lt-ltb p.kind 0x4000 h.kind) (eq-eqb _ _ h.tx)) (all_padded_from p.attributes h.attributes)) (lt-ltb _ _ h.short)

-- a datagram that encodes parts is read as these
pub reads_parts : (bytes : List ℕ) → EncodesParts bytes → Some (parts_in bytes) ≡ message_in bytes
reads_parts bytes is =
    let test : is_message bytes ≡ true = and_from _ _ (are_parts_from (parts_in bytes) is.are_parts) ((bytes_eq-Decides bytes (parts_bytes (parts_in bytes))).1 is.spelled) in
    sym (cond-true (is_message bytes) (Some (parts_in bytes)) None test)

-- one that encodes none is read as none
pub reads_nothing : (bytes : List ℕ) → ((p : Parts) → AreParts p → bytes ≡ parts_bytes p → ⊥) → None ≡ message_in bytes
reads_nothing bytes none = elim (cases_Bool (is_message bytes)) [
  | inl t ↦
      let two = and_parts (are_parts (parts_in bytes)) (bytes_eq bytes (parts_bytes (parts_in bytes))) t in
      absurd (none (parts_in bytes) (are_parts_if (parts_in bytes) two.0) ((bytes_eq-Decides bytes (parts_bytes (parts_in bytes))).0 two.1))
  | inr f ↦ sym (cond-false (is_message bytes) (Some (parts_in bytes)) None f)
]

-- the bytes after the header are those of the attributes
pub attributes_after : (bytes rest : List ℕ) (p : Parts) → EncodesParts bytes → parts_in bytes ≡ p → rest ≡ drop 20 bytes → rest ≡ attributes_bytes p.attributes
attributes_after bytes rest p is same split =
    split ∙ ap (drop 20) is.spelled ∙ body_is (parts_in bytes) is.are_parts ∙ ap (λ (q : Parts). attributes_bytes q.attributes) same

-- what is read as parts is spelled by them
pub spelled_if : (p : Parts) (bytes : List ℕ) → message_in bytes ≡ Some p → AreParts p × (bytes ≡ parts_bytes p)
spelled_if p bytes is = elim (cases_Bool (is_message bytes)) [
  | inl t ↦
      let two = and_parts (are_parts (parts_in bytes)) (bytes_eq bytes (parts_bytes (parts_in bytes))) t in
      let same : parts_in bytes ≡ p = same_Some _ _ (sym (cond-true (is_message bytes) (Some (parts_in bytes)) None t) ∙ is) in
      subst (λ (q : Parts). AreParts q × (bytes ≡ parts_bytes q)) same (are_parts_if (parts_in bytes) two.0, (bytes_eq-Decides bytes (parts_bytes (parts_in bytes))).0 two.1)
  | inr f ↦ absurd (none-some p (sym (cond-false (is_message bytes) (Some (parts_in bytes)) None f) ∙ is))
]

-- and what spells parts is read as them
pub reads_if : (p : Parts) (bytes : List ℕ) → AreParts p → bytes ≡ parts_bytes p → message_in bytes ≡ Some p
reads_if p bytes are spelled =
    let same : parts_in bytes ≡ p = parts_are bytes p are spelled in
    sym (reads_parts bytes (record { are_parts = subst AreParts (sym same) are; spelled = spelled ∙ ap parts_bytes (sym same) })) ∙ ap Some same
