-- The attributes up to the first MESSAGE-INTEGRITY, and the bytes before it.
use Rattle.std.proofs.Common.{◌≡◌, ℕ, ◌+◌, ◌-◌, ◌<◌, ◌≤◌, List, [], ◌∷◌, ◌++◌, map, length, take, Bool, true, false, refl, sym, ap, ◌∙◌, arith, append_assoc, Option, Some, None, option_map}
use Rattle.std.specs.Prelude.{◌==◌, if◌then◌else◌}
use Rattle.std.specs.Bool.{then_some}
use Rattle.std.specs.Option.{option_or}
use Rattle.std.specs.List.{AllByRecursion}
use Rattle.std.proofs.lemmas.Bool.{eq-eqb, ne_eqb}
use Rattle.std.proofs.lemmas.List.{length-append, append-nil, nil_from_length}
use Rattle.stun.specs.Registry.{message_integrity}
use Rattle.stun.specs.Messages.{PaddedAttribute, IsPadded, Parts, AreParts, attribute_of, attribute_bytes, attributes_bytes, header, up_to_integrity, before_first, before_integrity, message_of, parts_bytes, Message, IsMessage}
use Rattle.stun.specs.Attributes.{attributes_left}
use Rattle.stun.specs.Reading.{first_padded, attributes_in, parts_in, integrity_at, BeginsWith, AreAttributes, EncodesParts, IsRead}
use Rattle.stun.proofs.Grammar.{attributes_split, attributes_tail, none_begin, attributes_are, are_attributes_of, bytes_append, push_bytes, push_all, piece_take}
use Rattle.stun.proofs.Datagrams.{parts_unique}

-- ---- the iterator

no_first : (bytes : List ℕ) (list : List PaddedAttribute) → AllByRecursion IsPadded list → bytes ≡ attributes_bytes list → ((a : PaddedAttribute) (r : List ℕ) → IsPadded a → bytes ≡ attribute_bytes a ++ r → ⊥) → list ≡ []
no_first bytes [] all spelled none = refl
no_first bytes (a ∷ list) all spelled none = absurd (none a (attributes_bytes list) all.0 spelled)

pub nothing_left : (bytes : List ℕ) → AreAttributes bytes → ((a : PaddedAttribute) (r : List ℕ) → IsPadded a → bytes ≡ attribute_bytes a ++ r → ⊥) → attributes_in bytes ≡ []
nothing_left bytes are none = no_first bytes (attributes_in bytes) are.padded are.spelled none

split_of : (bytes : List ℕ) (kind : ℕ) (value rest : List ℕ) → BeginsWith bytes kind value rest → AreAttributes bytes → attributes_in bytes ≡ first_padded bytes ∷ attributes_in rest
split_of bytes kind value rest first are = attributes_split bytes kind value rest first (attributes_tail bytes kind value rest first are)

attribute_is : (bytes : List ℕ) (kind : ℕ) (value rest : List ℕ) → BeginsWith bytes kind value rest → attribute_of (first_padded bytes) ≡ record { kind = kind; value = value }
attribute_is bytes kind value rest first = λ i. record { kind = sym first.kind_is i; value = sym first.value_is i }

left_if : (bytes : List ℕ) (kind : ℕ) (value rest : List ℕ) (test : Bool) → BeginsWith bytes kind value rest → AreAttributes bytes → ((first_padded bytes).kind == message_integrity) ≡ test
    → attributes_left (attributes_in bytes) ≡ (record { kind = kind; value = value }) ∷ map attribute_of (if test then [] else up_to_integrity (attributes_in rest))
left_if bytes kind value rest test first are tested =
    ap attributes_left (split_of bytes kind value rest first are)
    ∙ (λ i. attribute_is bytes kind value rest first i ∷ map attribute_of (if tested i then [] else up_to_integrity (attributes_in rest)))

pub last_left : (bytes : List ℕ) (kind : ℕ) (value rest : List ℕ) → BeginsWith bytes kind value rest → AreAttributes bytes → kind ≡ message_integrity
    → attributes_left (attributes_in bytes) ≡ (record { kind = kind; value = value }) ∷ []
last_left bytes kind value rest first are is =
    left_if bytes kind value rest true first are (eq-eqb (first_padded bytes).kind message_integrity (sym first.kind_is ∙ is))

pub more_left : (bytes : List ℕ) (kind : ℕ) (value rest : List ℕ) → BeginsWith bytes kind value rest → AreAttributes bytes → (kind ≡ message_integrity → ⊥)
    → attributes_left (attributes_in bytes) ≡ (record { kind = kind; value = value }) ∷ attributes_left (attributes_in rest)
more_left bytes kind value rest first are other =
    left_if bytes kind value rest false first are (ne_eqb (first_padded bytes).kind message_integrity (λ e. other (first.kind_is ∙ e)))

-- ---- the first MESSAGE-INTEGRITY

abbrev bytes_count : List PaddedAttribute → ℕ
bytes_count front = length (attributes_bytes front)

-- what the scan keeps: the attributes that it has passed
pub record Scanned (bytes rest : List ℕ) (at : Option ℕ) : Type 0 where
  pub front : List PaddedAttribute
  pub padded : AllByRecursion IsPadded front
  pub parts : bytes ≡ attributes_bytes front ++ rest
  pub rest_are : AreAttributes bytes → AreAttributes rest
  pub found : at ≡ option_map (λ f. length (attributes_bytes f)) (before_first front)

pub none_scanned : (bytes : List ℕ) → Scanned bytes bytes None
none_scanned bytes = record { front = []; padded = tt; parts = refl; rest_are = λ are. are; found = refl }

mapped_or : {A B : Type 0} (f : A → B) (o p : Option A) → option_map f (option_or o p) ≡ option_or (option_map f o) (option_map f p)
mapped_or f None p = refl
mapped_or f (Some x) p = refl

test_is : {A : Type 0} (test : Bool) (x : A) → (if test then Some x else None) ≡ then_some test x
test_is true x = refl
test_is false x = refl

mapped_test : {A B : Type 0} (f : A → B) (test : Bool) (x : A) → option_map f (then_some test x) ≡ then_some test (f x)
mapped_test f true x = refl
mapped_test f false x = refl

pushed_after : (test : Bool) (b : PaddedAttribute) (front : List PaddedAttribute) (a : PaddedAttribute) → before_first (front ++ a ∷ []) ≡ option_or (before_first front) (then_some (a.kind == message_integrity) front)
    → (if test then Some [] else option_map (λ f. b ∷ f) (before_first (front ++ a ∷ [])))
    ≡ option_or (if test then Some [] else option_map (λ f. b ∷ f) (before_first front)) (then_some (a.kind == message_integrity) (b ∷ front))
pushed_after true b front a same = refl
pushed_after false b front a same =
    ap (option_map (λ f. b ∷ f)) same
    ∙ mapped_or (λ f. b ∷ f) (before_first front) (then_some (a.kind == message_integrity) front)
    ∙ ap (option_or (option_map (λ f. b ∷ f) (before_first front))) (mapped_test (λ f. b ∷ f) (a.kind == message_integrity) front)

first_pushed : (front : List PaddedAttribute) (a : PaddedAttribute) → before_first (front ++ a ∷ []) ≡ option_or (before_first front) (then_some (a.kind == message_integrity) front)
first_pushed [] a = test_is (a.kind == message_integrity) []
first_pushed (b ∷ front) a = pushed_after (b.kind == message_integrity) b front a (first_pushed front a)

pub scanned_more : (bytes rest : List ℕ) (at : Option ℕ) (kind : ℕ) (value after : List ℕ) → Scanned bytes rest at → BeginsWith rest kind value after
    → Scanned bytes after (option_or at (then_some (kind == message_integrity) (length bytes - length rest)))
scanned_more bytes rest at kind value after scanned first =
    let a = first_padded rest in
    let front = scanned.front in
    let here : length bytes - length rest ≡ bytes_count front = omega (arith, ap length scanned.parts, length-append (attributes_bytes front) rest) in
    let test = a.kind == message_integrity in
    record {
      front = front ++ a ∷ [];
      padded = push_all front a scanned.padded first.padded;
      parts = scanned.parts ∙ ap (λ b. attributes_bytes front ++ b) first.spelled ∙ sym (append_assoc (attributes_bytes front) (attribute_bytes a) after) ∙ ap (λ b. b ++ after) (sym (push_bytes front a));
      rest_are = λ are. attributes_tail rest kind value after first (scanned.rest_are are);
      found =
          (λ i. option_or (scanned.found i) (then_some (first.kind_is i == message_integrity) (here i)))
          ∙ ap (option_or (option_map bytes_count (before_first front))) (sym (mapped_test bytes_count test front))
          ∙ sym (mapped_or bytes_count (before_first front) (then_some test front))
          ∙ ap (option_map bytes_count) (sym (first_pushed front a));
    }

pub scan_overruns : (bytes rest : List ℕ) (at : Option ℕ) → Scanned bytes rest at → 0 < length rest → ((a : PaddedAttribute) (r : List ℕ) → IsPadded a → rest ≡ attribute_bytes a ++ r → ⊥) → AreAttributes bytes → ⊥
scan_overruns bytes rest at scanned some none are =
    let left = scanned.rest_are are in
    none_begin rest some none (attributes_in rest) left.padded left.spelled

pub scanned_all : (bytes rest : List ℕ) (at : Option ℕ) → Scanned bytes rest at → length rest ≤ 0 → AreAttributes bytes × (at ≡ integrity_at bytes)
scanned_all bytes rest at scanned none =
    let spelled = scanned.parts ∙ ap (λ b. attributes_bytes scanned.front ++ b) (nil_from_length rest (omega (arith, none))) ∙ append-nil (attributes_bytes scanned.front) in
    (are_attributes_of bytes scanned.front scanned.padded spelled, scanned.found ∙ ap (λ l. option_map bytes_count (before_first l)) (sym (attributes_are bytes scanned.front scanned.padded spelled)))

-- ---- the bytes before it

-- attributes begin with those before the first MESSAGE-INTEGRITY
front_step : (test : Bool) (a : PaddedAttribute) (list : List PaddedAttribute) (o : Option (List PaddedAttribute)) (f : List PaddedAttribute) → ((g : List PaddedAttribute) → o ≡ Some g → (r : List PaddedAttribute) × (list ≡ g ++ r))
    → (if test then Some [] else option_map (λ g. a ∷ g) o) ≡ Some f → (r : List PaddedAttribute) × (a ∷ list ≡ f ++ r)
front_step true a list o f following e = let none : [] ≡ f = cc in (a ∷ list, ap (λ g. g ++ a ∷ list) none)
front_step false a list None f following e = absurd cc
front_step false a list (Some g) f following e =
    let is : a ∷ g ≡ f = cc in
    let rest = following g refl in
    (rest.0, ap (λ l. a ∷ l) rest.1 ∙ ap (λ l. l ++ rest.0) is)

after_front : (list f : List PaddedAttribute) → before_first list ≡ Some f → (r : List PaddedAttribute) × (list ≡ f ++ r)
after_front [] f e = absurd cc
after_front (a ∷ list) f e = front_step (a.kind == message_integrity) a list (before_first list) f (after_front list) e

abbrev header_of : Parts → List ℕ
header_of p = header p.kind (length (attributes_bytes p.attributes)) p.tx

header_length : (p : Parts) → AreParts p → length (header_of p) ≡ 20
header_length p are = omega (arith, are.tx)

front_is : (p : Parts) (f : List PaddedAttribute) → AreParts p → before_first p.attributes ≡ Some f
    → (take (20 + bytes_count f) (parts_bytes p) ≡ header_of p ++ attributes_bytes f) × (20 + bytes_count f ≤ length (parts_bytes p))
front_is p f are found =
    let rest = after_front p.attributes f found in
    let x = header_of p in
    let front = attributes_bytes f in
    let after = attributes_bytes rest.0 in
    let bytes : attributes_bytes p.attributes ≡ front ++ after = ap attributes_bytes rest.1 ∙ bytes_append f rest.0 in
    let whole : parts_bytes p ≡ (x ++ front) ++ after = ap (λ b. x ++ b) bytes ∙ sym (append_assoc x front after) in
    let size : 20 + bytes_count f ≡ length (x ++ front) = omega (arith, header_length p are, length-append x front) in
    (ap (take (20 + bytes_count f)) whole ∙ piece_take (x ++ front) after (20 + bytes_count f) size, omega (arith, ap length whole, size, length-append (x ++ front) after))

found_in : (bytes front : List ℕ) (n : ℕ) (o : Option (List PaddedAttribute)) → EncodesParts bytes → before_first (parts_in bytes).attributes ≡ o → Some n ≡ option_map bytes_count o
    → (20 + n ≤ length bytes) × (front ≡ take (20 + n) bytes → Some front ≡ option_map (λ f. header_of (parts_in bytes) ++ attributes_bytes f) o)
found_in bytes front n None is same at = absurd cc
found_in bytes front n (Some f) is same at =
    let n_is : n ≡ bytes_count f = cc in
    let there = front_is (parts_in bytes) f is.are_parts same in
    (omega (arith, n_is, there.1, ap length is.spelled), λ e. ap Some (e ∙ (λ i. take (20 + n_is i) (is.spelled i)) ∙ there.0))

pub front_fits : (bytes : List ℕ) (at : Option ℕ) (n : ℕ) → IsRead bytes at → at ≡ Some n → 20 + n ≤ length bytes
front_fits bytes at n is found = (found_in bytes [] n (before_first (parts_in bytes).attributes) is.encodes refl (sym found ∙ is.integrity_is)).0

pub front_found : (bytes front : List ℕ) (at : Option ℕ) (n : ℕ) (p : Parts) → IsRead bytes at → at ≡ Some n → parts_in bytes ≡ p → front ≡ take (20 + n) bytes → Some front ≡ before_integrity p
front_found bytes front at n p is found parts_is there =
    (found_in bytes front n (before_first (parts_in bytes).attributes) is.encodes refl (sym found ∙ is.integrity_is)).1 there ∙ ap before_integrity parts_is

-- ---- of a message

pub same_message : (m n : Message) (bytes : List ℕ) → IsMessage m bytes → IsMessage n bytes → m ≡ n
same_message m n bytes a b = a.3 ∙ ap message_of (parts_unique a.0 b.0 a.1 b.1 (sym a.2 ∙ b.2)) ∙ sym b.3
