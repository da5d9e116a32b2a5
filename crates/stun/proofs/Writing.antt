-- What is written over bytes, and the parts of what is in a buffer.
use Rattle.std.proofs.Common.{◌≡◌, ℕ, zero, suc, ◌+◌, ◌%◌, ◌<◌, ◌≤◌, min, List, ◌++◌, length, take, drop, replicate, subst, refl, sym, ap, ◌∙◌, arith, append_assoc}
use Rattle.std.proofs.lemmas.List.{length-append, length-drop, length-take-le, take-append-drop, drop-drop}
use Rattle.byteorder.specs.Endian.{big_bytes}
use Rattle.byteorder.specs.Numbers.{big_number-reads_back}
use Rattle.stun.specs.Registry.{magic_cookie}
use Rattle.stun.specs.Messages.{Parts, AreParts, padding_count, attribute_bytes, attributes_bytes, header, parts_bytes, zero_padded, with_attribute, empty_message, attribute_length}
use Rattle.stun.specs.Refusals.{number_at}
use Rattle.stun.specs.Building.{IsBuilding, message_bytes, building_parts, used_in, room_in, bytes_over, with_piece, IsBegun, IsAppended}
use Rattle.stun.proofs.Grammar.{piece_take, piece_drop, push_bytes, push_all}
use Rattle.stun.proofs.Datagrams.{parts_are, fours, length_of_parts}

-- ---- pieces written one after the other

pub patched_on : (f r x : List ℕ) (at : ℕ) → at ≡ length f → with_piece at x (f ++ r) ≡ f ++ (x ++ drop (length x) r)
patched_on f r x at e =
    let front = piece_take f r at e in
    let following : drop (at + length x) (f ++ r) ≡ drop (length x) r = sym (drop-drop (length x) at (f ++ r)) ∙ ap (drop (length x)) (piece_drop f r at e) in
    λ i. front i ++ (x ++ following i)

-- a second piece right after the first is one longer piece
pub patched_twice : (b x y : List ℕ) (at next : ℕ) → next ≡ at + length x → next ≤ length b → with_piece next y (with_piece at x b) ≡ with_piece at (x ++ y) b
patched_twice b x y at next is room =
    let f : List ℕ = take at b in
    let r : List ℕ = drop at b in
    let f_length : at ≡ length f = sym (length-take-le at b (omega (arith, is, room))) in
    let whole : b ≡ f ++ r = sym (take-append-drop at b) in
    let one : with_piece at x b ≡ (f ++ x) ++ drop (length x) r = ap (with_piece at x) whole ∙ patched_on f r x at f_length ∙ sym (append_assoc f x (drop (length x) r)) in
    let two : with_piece next y (with_piece at x b) ≡ (f ++ x) ++ (y ++ drop (length y) (drop (length x) r)) =
    ap (with_piece next y) one ∙ patched_on (f ++ x) (drop (length x) r) y next (omega (arith, is, f_length, length-append f x)) in
    let following : drop (length y) (drop (length x) r) ≡ drop (length (x ++ y)) r = drop-drop (length y) (length x) r ∙ ap (λ n. drop n r) (sym (length-append x y)) in
    let both : with_piece at (x ++ y) b ≡ f ++ ((x ++ y) ++ drop (length (x ++ y)) r) = ap (with_piece at (x ++ y)) whole ∙ patched_on f r (x ++ y) at f_length in
    two ∙ append_assoc f x (y ++ drop (length y) (drop (length x) r)) ∙ ap (λ l. f ++ l) (sym (append_assoc x y (drop (length y) (drop (length x) r))) ∙ ap (λ l. (x ++ y) ++ l) following) ∙ sym both

-- four pieces
pub patched_four : (b b1 b2 b3 b4 x y z w : List ℕ) (at at2 at3 at4 : ℕ) → b1 ≡ with_piece at x b → b2 ≡ with_piece at2 y b1 → b3 ≡ with_piece at3 z b2 → b4 ≡ with_piece at4 w b3
    → at2 ≡ at + length x → at3 ≡ at2 + length y → at4 ≡ at3 + length z → at4 + length w ≤ length b
    → b4 ≡ with_piece at (x ++ (y ++ (z ++ w))) b
patched_four b b1 b2 b3 b4 x y z w at at2 at3 at4 e1 e2 e3 e4 n2 n3 n4 room =
    let two : b2 ≡ with_piece at (x ++ y) b = e2 ∙ ap (with_piece at2 y) e1 ∙ patched_twice b x y at at2 n2 (omega (arith, room, n3, n4)) in
    let three : b3 ≡ with_piece at ((x ++ y) ++ z) b = e3 ∙ ap (with_piece at3 z) two ∙ patched_twice b (x ++ y) z at at3 (omega (arith, n2, n3, length-append x y)) (omega (arith, room, n4)) in
    let four : b4 ≡ with_piece at (((x ++ y) ++ z) ++ w) b = e4 ∙ ap (with_piece at4 w) three ∙ patched_twice b ((x ++ y) ++ z) w at at4 (omega (arith, n2, n3, n4, length-append x y, length-append (x ++ y) z)) (omega (arith, room)) in
    four ∙ ap (λ p. with_piece at p b) (append_assoc (x ++ y) z w ∙ append_assoc x y (z ++ w))

-- the pieces of an attribute
pub attribute_written : (b b1 b2 b3 b4 value zeros : List ℕ) (kind n at at2 at3 at4 : ℕ) → b1 ≡ with_piece at (big_bytes 2 kind) b → b2 ≡ with_piece at2 (big_bytes 2 n) b1 → b3 ≡ with_piece at3 value b2 → b4 ≡ with_piece at4 zeros b3
    → n ≡ length value → zeros ≡ replicate (padding_count (length value)) 0 → at2 ≡ at + 2 → at3 ≡ at + 4 → at4 ≡ at3 + length value → at4 + length zeros ≤ length b
    → b4 ≡ with_piece at (attribute_bytes (zero_padded kind value)) b
attribute_written b b1 b2 b3 b4 value zeros kind n at at2 at3 at4 e1 e2 e3 e4 n_is zeros_are n2 n3 n4 room =
    patched_four b b1 b2 b3 b4 (big_bytes 2 kind) (big_bytes 2 n) value zeros at at2 at3 at4 e1 e2 e3 e4 n2 (omega (arith, n2, n3)) n4 room
    ∙ (λ i. with_piece at (big_bytes 2 kind ++ (big_bytes 2 (n_is i) ++ (value ++ zeros_are i))) b)

-- ---- what is in a buffer

pub record Stands (p : Parts) (r b : List ℕ) : Type 0 where
  pub building : IsBuilding b
  pub message : message_bytes b ≡ parts_bytes p
  pub parts : building_parts b ≡ p
  pub following : drop (length (parts_bytes p)) b ≡ r

pub stands : (b : List ℕ) (p : Parts) (r : List ℕ) → AreParts p → b ≡ parts_bytes p ++ r → Stands p r b
unfolding building_parts
stands b p r are spelled =
    let whole = parts_bytes p in
    let x = attributes_bytes p.attributes in
    let length_is : number_at 2 2 (whole ++ r) ≡ length x = big_number-reads_back 2 (length x) ((big_bytes 4 magic_cookie ++ p.tx) ++ x ++ r) are.short in
    let end : 20 + number_at 2 2 (whole ++ r) ≡ length whole = omega (arith, length_is, length_of_parts p are) in
    let front : message_bytes b ≡ whole = ap message_bytes spelled ∙ piece_take whole r (20 + number_at 2 2 (whole ++ r)) end in
    let parts_is : building_parts b ≡ p = parts_are (message_bytes b) p are front in
    record {
      building = record {
        inside = omega (arith, ap length spelled, ap (number_at 2 2) spelled, end, length-append whole r);
        message = record {
          are_parts = subst AreParts (sym parts_is) are;
          spelled = front ∙ ap parts_bytes (sym parts_is);
        };
      };
      message = front;
      parts = parts_is;
      following = ap (drop (length whole)) spelled ∙ piece_drop whole r (length whole) refl;
    }

-- a buffer that is being built has its message, and then the rest
pub split_building : (b : List ℕ) → IsBuilding b → (b ≡ parts_bytes (building_parts b) ++ drop (length (parts_bytes (building_parts b))) b) × (length (parts_bytes (building_parts b)) ≡ 20 + number_at 2 2 b) × (length (attributes_bytes (building_parts b).attributes) ≡ number_at 2 2 b)
unfolding building_parts
split_building b is =
    let p = building_parts b in
    let spelled = is.message.spelled in
    let front : length (message_bytes b) ≡ 20 + number_at 2 2 b = length-take-le (20 + number_at 2 2 b) b is.inside in
    let long : length (parts_bytes p) ≡ 20 + number_at 2 2 b = ap length (sym spelled) ∙ front in
    let whole = sym (take-append-drop (20 + number_at 2 2 b) b) ∙ (λ i. spelled i ++ drop (sym long i) b) in
    (whole, long, omega (arith, long, length_of_parts p is.message.are_parts))

-- ---- one attribute more

pub length_replicate : (n : ℕ) → length {A = ℕ} (replicate n 0) ≡ n
length_replicate zero = refl
length_replicate (suc n) = ap suc (length_replicate n)

length_zero_padded : (kind : ℕ) (value : List ℕ) → length (attribute_bytes (zero_padded kind value)) ≡ 4 + length value + padding_count (length value)
length_zero_padded kind value = omega (arith, length-append value (replicate (padding_count (length value)) 0), length_replicate (padding_count (length value)))

pub length_with : (p : Parts) (kind : ℕ) (value : List ℕ) → length (attributes_bytes (with_attribute p kind value).attributes) ≡ length (attributes_bytes p.attributes) + (4 + length value + padding_count (length value))
length_with p kind value = omega (arith, ap length (push_bytes p.attributes (zero_padded kind value)), length-append (attributes_bytes p.attributes) (attribute_bytes (zero_padded kind value)), length_zero_padded kind value)

pub with_are : (p : Parts) (kind : ℕ) (value : List ℕ) → AreParts p → kind < 0x10000 → length (attributes_bytes (with_attribute p kind value).attributes) < 0x10000 → AreParts (with_attribute p kind value)
with_are p kind value are small short = record {
  kind = are.kind;
  tx = are.tx;
  attributes = push_all p.attributes (zero_padded kind value) are.attributes (record { kind = small; value = omega (arith, length_with p kind value, short); padding = length_replicate (padding_count (length value)) });
  short = short;
}

length_of_with : (p : Parts) (kind : ℕ) (value : List ℕ) → AreParts p → length (parts_bytes (with_attribute p kind value)) ≡ 20 + length (attributes_bytes (with_attribute p kind value).attributes)
length_of_with p kind value are = omega (arith, length-append p.tx (attributes_bytes (with_attribute p kind value).attributes), are.tx)

-- an attribute is written after the message, and the header's length after it
pushed : (b b1 b2 : List ℕ) (kind : ℕ) (value : List ℕ) (at total : ℕ) → IsBuilding b → b1 ≡ with_piece at (attribute_bytes (zero_padded kind value)) b → b2 ≡ with_piece 2 (big_bytes 2 total) b1
    → at ≡ 20 + number_at 2 2 b → total ≡ number_at 2 2 b + (4 + length value + padding_count (length value))
    → b2 ≡ bytes_over (with_attribute (building_parts b) kind value) b
unfolding building_parts
pushed b b1 b2 kind value at total is e1 e2 at_is total_is =
    let p = building_parts b in
    let q = with_attribute p kind value in
    let a = zero_padded kind value in
    let x = attributes_bytes p.attributes in
    let r = drop (length (parts_bytes p)) b in
    let split = split_building b is in
    let one : b1 ≡ parts_bytes p ++ (attribute_bytes a ++ drop (length (attribute_bytes a)) r) =
    e1 ∙ ap (with_piece at (attribute_bytes a)) split.0 ∙ patched_on (parts_bytes p) r (attribute_bytes a) at (omega (arith, at_is, split.1)) in
    let ends : length (parts_bytes p) + length (attribute_bytes a) ≡ length (parts_bytes q) = omega (arith, length_of_with p kind value is.message.are_parts, length_with p kind value, length_zero_padded kind value, split.1, split.2) in
    let rest : drop (length (attribute_bytes a)) r ≡ drop (length (parts_bytes q)) b =
    drop-drop (length (attribute_bytes a)) (length (parts_bytes p)) b ∙ ap (λ n. drop n b) ends in
    let joined : parts_bytes p ++ (attribute_bytes a ++ drop (length (attribute_bytes a)) r) ≡ header p.kind (length x) p.tx ++ (attributes_bytes q.attributes ++ drop (length (parts_bytes q)) b) =
    append_assoc (header p.kind (length x) p.tx) x (attribute_bytes a ++ drop (length (attribute_bytes a)) r)
    ∙ ap (λ l. header p.kind (length x) p.tx ++ l) (sym (append_assoc x (attribute_bytes a) (drop (length (attribute_bytes a)) r)) ∙ (λ i. sym (push_bytes p.attributes a) i ++ rest i)) in
    let total_there : total ≡ length (attributes_bytes q.attributes) = omega (arith, total_is, length_with p kind value, split.2) in
    e2 ∙ ap (with_piece 2 (big_bytes 2 total)) (one ∙ joined)
    ∙ (λ i. header p.kind (total_there i) p.tx ++ (attributes_bytes q.attributes ++ drop (length (parts_bytes q)) b))
    ∙ sym (append_assoc (header p.kind (length (attributes_bytes q.attributes)) p.tx) (attributes_bytes q.attributes) (drop (length (parts_bytes q)) b))

-- the buffer after a push, and its parts
pushed_stands : (b new : List ℕ) (kind : ℕ) (value : List ℕ) → IsBuilding b → new ≡ bytes_over (with_attribute (building_parts b) kind value) b → kind < 0x10000 → number_at 2 2 b + (4 + length value + padding_count (length value)) < 0x10000
    → Stands (with_attribute (building_parts b) kind value) (drop (length (parts_bytes (with_attribute (building_parts b) kind value))) b) new
unfolding building_parts
pushed_stands b new kind value is spelled small short =
    let split = split_building b is in
    let are = with_are (building_parts b) kind value is.message.are_parts small (omega (arith, length_with (building_parts b) kind value, split.2, short)) in
    stands new (with_attribute (building_parts b) kind value) (drop (length (parts_bytes (with_attribute (building_parts b) kind value))) b) are spelled

-- ---- the length so far, and the room

pub used_is : (b : List ℕ) → IsBuilding b → used_in b ≡ 20 + number_at 2 2 b
unfolding used_in
used_is b is = (split_building b is).1

pub take_used : (b : List ℕ) → IsBuilding b → take (used_in b) b ≡ parts_bytes (building_parts b)
unfolding building_parts
take_used b is = ap (λ n. take n b) (used_is b is) ∙ is.message.spelled

pub room_of_length : (b : List ℕ) → room_in b ≡ min (length b) 65552
unfolding room_in
room_of_length b = refl

same_room : (b new : List ℕ) → length new ≡ length b → room_in new ≡ room_in b
unfolding room_in
same_room b new e = ap (λ n. min n 65552) e

pub used_fits : (b : List ℕ) → IsBuilding b → used_in b ≤ room_in b
unfolding building_parts
used_fits b is =
    let split = split_building b is in
    let short : number_at 2 2 b < 0x10000 = omega (arith, split.2, is.message.are_parts.short) in
    let four : number_at 2 2 b % 4 ≡ 0 = omega (arith, fours (building_parts b).attributes is.message.are_parts.attributes, split.2) in
    let inside : 20 + number_at 2 2 b ≤ length b = is.inside in
    omega (arith, used_is b is, room_of_length b)

pub ended : (b message : List ℕ) → IsBuilding b → message ≡ parts_bytes (building_parts b) → (length message ≡ used_in b) × (take (length message) b ≡ parts_bytes (building_parts b)) × (length message ≤ room_in b)
unfolding used_in
ended b message is there =
    let size : length message ≡ used_in b = ap length there in
    (size, ap (λ n. take n b) size ∙ take_used b is, omega (arith, size, used_fits b is))

pub id_of : (p : Parts) (bytes : List ℕ) → AreParts p → bytes ≡ parts_bytes p → take 12 (drop 8 bytes) ≡ p.tx
id_of p bytes are there = ap (λ b. take 12 (drop 8 b)) there ∙ piece_take p.tx (attributes_bytes p.attributes) 12 (sym are.tx)

length_over : (p : Parts) (b : List ℕ) → length (parts_bytes p) ≤ length b → length (bytes_over p b) ≡ length b
length_over p b fits = omega (arith, length-append (parts_bytes p) (drop (length (parts_bytes p)) b), length-drop (length (parts_bytes p)) b)

with_length : (b : List ℕ) (kind : ℕ) (value : List ℕ) → IsBuilding b → length (parts_bytes (with_attribute (building_parts b) kind value)) ≡ used_in b + attribute_length value
unfolding building_parts used_in
with_length b kind value is =
    let split = split_building b is in
    omega (arith, length_of_with (building_parts b) kind value is.message.are_parts, length_with (building_parts b) kind value, split.1, split.2)

-- the attribute that was pushed, in the numbers that the code has: its length, its padding, the length before and after
pub appended : (b b1 new : List ℕ) (kind : ℕ) (value : List ℕ) (n padding before total : ℕ) → IsBuilding b → kind < 0x10000 → n ≡ length value → padding ≡ padding_count n → before ≡ number_at 2 2 b
    → b1 ≡ with_piece (20 + before) (attribute_bytes (zero_padded kind value)) b → new ≡ with_piece 2 (big_bytes 2 total) b1 → total ≡ before + (4 + n + padding) → used_in b + attribute_length value ≤ room_in b
    → IsBuilding new × IsAppended kind value b new
unfolding used_in
appended b b1 new kind value n padding before total is small n_is padding_is before_is e1 e2 total_is room =
    let there : total ≡ number_at 2 2 b + (4 + length value + padding_count (length value)) = omega (arith, total_is, before_is, n_is, padding_is, ap padding_count n_is) in
    let spelled = pushed b b1 new kind value (20 + before) total is e1 e2 (ap (λ (k : ℕ). 20 + k) before_is) there in
    let most : 20 + number_at 2 2 b + attribute_length value ≤ min (length b) 65552 = omega (arith, room, used_is b is, room_of_length b) in
    let stand = pushed_stands b new kind value is spelled small (omega (arith, most)) in
    let q = with_attribute (building_parts b) kind value in
    let long : length (parts_bytes q) ≡ used_in b + attribute_length value = with_length b kind value is in
    let same = same_room b new (ap length spelled ∙ length_over q b (omega (arith, long, used_is b is, most))) in
    let used : used_in new ≡ used_in b + attribute_length value = ap (λ p. length (parts_bytes p)) stand.parts ∙ long in
    (stand.building, record { parts = stand.parts; bytes = spelled ∙ ap (λ p. bytes_over p b) (sym stand.parts); used = used; room = same; fits = omega (arith, used, same, room) })

-- ---- a message with no attributes

pub started_are : (kind : ℕ) (id : List ℕ) → kind < 0x4000 → length id ≡ 12 → AreParts (empty_message kind id)
started_are kind id small long = record { kind = small; tx = long; attributes = tt; short = omega arith }

zero_first : (n : ℕ) → 0 + n ≡ n
zero_first n = omega arith

pub started_over : (b new : List ℕ) (kind : ℕ) (id : List ℕ) → new ≡ with_piece 0 (parts_bytes (empty_message kind id)) b → new ≡ bytes_over (empty_message kind id) b
started_over b new kind id e = e ∙ ap (λ n. parts_bytes (empty_message kind id) ++ drop n b) (zero_first (length (parts_bytes (empty_message kind id))))

pub begun : (b new : List ℕ) (kind : ℕ) (id : List ℕ) → kind < 0x4000 → length id ≡ 12 → 20 ≤ length b → new ≡ with_piece 0 (parts_bytes (empty_message kind id)) b → IsBuilding new × IsBegun kind id b new
unfolding used_in
begun b new kind id small long room e =
    let are = started_are kind id small long in
    let spelled = started_over b new kind id e in
    let stand = stands new (empty_message kind id) _ are spelled in
    let twenty : length (parts_bytes (empty_message kind id)) ≡ 20 = omega (arith, length_of_parts (empty_message kind id) are) in (
      stand.building,
      record {
        parts = stand.parts;
        bytes = spelled;
        used = ap (λ p. length (parts_bytes p)) stand.parts ∙ twenty;
        room = room_of_length new ∙ ap (λ n. min n 65552) (ap length spelled ∙ length_over (empty_message kind id) b (omega (arith, twenty, room)));
        fits = room;
      },
    )
