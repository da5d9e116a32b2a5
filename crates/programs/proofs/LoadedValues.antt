-- What is read of the datagram, and of an address record at the end of the stack.
use Rattle.std.proofs.Common.{◌≡◌, ℕ, zero, suc, ◌++◌, ◌+◌, ◌*◌, ◌<◌, ◌≤◌, List, [], ◌∷◌, length, take, drop, map, get_or, Option, Some, refl, sym, ap, ap₂, ◌∙◌, arith, append_assoc, All, inl, inr}
use Rattle.std.specs.Prelude.{slice_index}
use Rattle.std.proofs.lemmas.Bool.{cases_lt}
use Rattle.std.proofs.lemmas.List.{get_or-drop, get_or-take, get_or_past}
use Rattle.std.proofs.lemmas.List.Elements.{All-nil, All-cons}
use Rattle.insn.specs.Endian.{little_number, big_number, big_bytes}
use Rattle.insn.specs.Words.{unary}
use Rattle.insn.specs.declared.operator.UnaryOp.TheVariants.{Swap}
use Rattle.insn.specs.declared.operator.SwapOp.TheVariants.{ToBig}
use Rattle.insn.specs.declared.size.SwapSize.TheVariants as swap
use Rattle.semantics.specs.Access.{part, overlay, cells_bytes, cells_number}
use Rattle.std.proofs.lemmas.List.{length-append, length-take, length-drop, take_all, take-append-drop, drop-drop}
use Rattle.semantics.specs.laws.Access.{put_after_put}
use Rattle.semantics.specs.laws.Call.{length-cells, cells_read_back, cells_number_inside}
use Rattle.semantics.specs.Machine.{datagram_area, empty_cells}
use Rattle.semantics.specs.Runs.{IsDatagram}
use Rattle.semantics.specs.laws.Start.{length-empty_cells, part_datagram}
use Rattle.semantics.specs.laws.Swap.{swapped_half}

-- ---- bytes

-- each byte of a list, past its end too
pub byte_below : (bytes : List ℕ) → All (λ b. b < 256) bytes → (i : ℕ) → get_or bytes i 0 < 256
byte_below bytes all i = elim (cases_lt i (length bytes)) [
  | inl lt ↦ all i 0 lt
  | inr le ↦ let none : get_or bytes i 0 ≡ 0 = get_or_past bytes i 0 le in omega (arith, none)
]

-- all bytes of a list, from those at each index
pub all_below : (bytes : List ℕ) → ((i : ℕ) → slice_index bytes i < 256) → All (λ b. b < 256) bytes
all_below [] fits = All-nil (λ (b : ℕ). b < 256)
all_below (b ∷ bytes) fits = All-cons (λ (b : ℕ). b < 256) b bytes (fits 0) (all_below bytes (λ i. fits (suc i)))

-- ---- the datagram

part_at : (n k i : ℕ) (d : List ℕ) → i < n → slice_index (part n k d) i ≡ slice_index d (k + i)
part_at n k i d lt = get_or-take n (drop k d) i 0 lt ∙ get_or-drop k d i 0

-- a byte
pub byte_in : (k v : ℕ) (d : List ℕ) → k + 1 ≤ length d → v ≡ little_number 1 (part 1 (64 + k) (datagram_area d)) → v ≡ slice_index d k
byte_in k v d le e =
    let same : little_number 1 (part 1 (64 + k) (datagram_area d)) ≡ little_number 1 (part 1 k d) = ap (little_number 1) (part_datagram 1 k d le) in
    let here : k + 0 ≡ k = omega arith in
    let first : slice_index (part 1 k d) 0 ≡ slice_index d k = part_at 1 k 0 d (omega arith) ∙ ap (slice_index d) here in
    omega (arith, e, same, first)

pub byte_from : (d : List ℕ) → IsDatagram d → (k i : ℕ) → slice_index (drop k d) i < 256
byte_from d fit k i = let below = byte_below d fit.bytes_fit (k + i) in omega (arith, below, get_or-drop k d i 0)

-- two bytes, swapped: a number in network byte order
pub half_in : (k v u : ℕ) (d : List ℕ) → IsDatagram d → k + 2 ≤ length d → v ≡ little_number 2 (part 2 (64 + k) (datagram_area d)) → u ≡ unary (Swap ToBig swap.Half) v → u ≡ big_number 2 (drop k d)
half_in k v u d fit le e is =
    let rest : List ℕ = drop k d in
    let first : slice_index (part 2 k d) 0 ≡ slice_index rest 0 = get_or-take 2 rest 0 0 (omega arith) in
    let second : slice_index (part 2 k d) 1 ≡ slice_index rest 1 = get_or-take 2 rest 1 0 (omega arith) in
    let number : v ≡ slice_index rest 0 + 256 * slice_index rest 1 = omega (arith, e, ap (little_number 2) (part_datagram 2 k d le), first, second) in
    let swapped : u ≡ slice_index rest 0 * 256 + slice_index rest 1 = swapped_half (slice_index rest 0) (slice_index rest 1) v u (byte_from d fit k 0) (byte_from d fit k 1) number is in
    omega (arith, swapped)

pub half_small : (k : ℕ) (d : List ℕ) → IsDatagram d → big_number 2 (drop k d) < 65536
half_small k d fit = let first = byte_from d fit k 0 in let second = byte_from d fit k 1 in omega (arith, first, second)

-- ---- the port of an address record

pub port_back : (port : ℕ) → port < 0x10000 → big_number 2 (big_bytes 2 port) ≡ port
port_back port lt = omega arith

-- ---- the end of the stack

pub some_is : {X : Type 0} (x y : X) → Some x ≡ Some y → x ≡ y
some_is x y e = cc

-- a record that was written there
pub record_is : (bytes found : List ℕ) → length bytes ≡ 8 → cells_bytes (part 8 504 (overlay 504 (map Some bytes) empty_cells)) ≡ Some found → found ≡ bytes
record_is bytes found size e = some_is found bytes (sym e ∙ cells_read_back 8 504 bytes empty_cells size (omega (arith, length-empty_cells)))

-- and the number in some of its bytes
pub stack_number : (k j v : ℕ) (bytes : List ℕ) → length bytes ≡ 8 → j + k ≤ 8 → cells_number (part k (504 + j) (overlay 504 (map Some bytes) empty_cells)) ≡ Some v → v ≡ little_number k (part k j bytes)
stack_number k j v bytes size le e =
    some_is v (little_number k (part k j bytes)) (sym e ∙ cells_number_inside 504 j k bytes empty_cells (omega (arith, size, le)) (omega (arith, size, length-empty_cells)))

-- ---- numbers of the datagram as they are in memory

-- a part of the datagram, at an index of memory
pub part_place : (n j k : ℕ) (d : List ℕ) → j ≡ 64 + k → k + n ≤ length d → part n j (datagram_area d) ≡ part n k d
part_place n j k d e le = ap (λ (i : ℕ). part n i (datagram_area d)) e ∙ part_datagram n k d le

pub record IsHalf (k v : ℕ) (d : List ℕ) : Type 0 where
  pub low : slice_index (drop k d) 0 < 256
  pub high : slice_index (drop k d) 1 < 256
  pub is : v ≡ slice_index (drop k d) 0 + 256 * slice_index (drop k d) 1

pub half_at : (j k v : ℕ) (d : List ℕ) → IsDatagram d → j ≡ 64 + k → k + 2 ≤ length d → v ≡ little_number 2 (part 2 j (datagram_area d)) → IsHalf k v d
half_at j k v d fit at le e =
    let number : v ≡ little_number 2 (take 2 (drop k d)) = e ∙ ap (little_number 2) (part_place 2 j k d at le) in
    let first = get_or-take 2 (drop k d) 0 0 (omega arith) in
    let second = get_or-take 2 (drop k d) 1 0 (omega arith) in
    record { low = byte_from d fit k 0; high = byte_from d fit k 1; is = omega (arith, number, first, second) }

pub record IsWord (k v : ℕ) (d : List ℕ) : Type 0 where
  pub b0 : slice_index (drop k d) 0 < 256
  pub b1 : slice_index (drop k d) 1 < 256
  pub b2 : slice_index (drop k d) 2 < 256
  pub b3 : slice_index (drop k d) 3 < 256
  pub is : v ≡ slice_index (drop k d) 0 + 256 * slice_index (drop k d) 1 + 65536 * slice_index (drop k d) 2 + 16777216 * slice_index (drop k d) 3

pub word_at : (j k v : ℕ) (d : List ℕ) → IsDatagram d → j ≡ 64 + k → k + 4 ≤ length d → v ≡ little_number 4 (part 4 j (datagram_area d)) → IsWord k v d
word_at j k v d fit at le e =
    let number : v ≡ little_number 4 (take 4 (drop k d)) = e ∙ ap (little_number 4) (part_place 4 j k d at le) in
    let at0 = get_or-take 4 (drop k d) 0 0 (omega arith) in
    let at1 = get_or-take 4 (drop k d) 1 0 (omega arith) in
    let at2 = get_or-take 4 (drop k d) 2 0 (omega arith) in
    let at3 = get_or-take 4 (drop k d) 3 0 (omega arith) in
    record {
      b0 = byte_from d fit k 0;
      b1 = byte_from d fit k 1;
      b2 = byte_from d fit k 2;
      b3 = byte_from d fit k 3;
      is = omega (arith, number, at0, at1, at2, at3);
    }

-- a number has one list of digits
digits_2 : (a b x y : ℕ) → a < 256 → x < 256 → a + 256 * b ≡ x + 256 * y → (a ≡ x) × (b ≡ y)
digits_2 a b x y p q e = (omega (arith, p, q, e), omega (arith, p, q, e))

digits_4 : (a b c f x y z t : ℕ) → a < 256 → b < 256 → c < 256 → x < 256 → y < 256 → z < 256 → a + 256 * b + 65536 * c + 16777216 * f ≡ x + 256 * y + 65536 * z + 16777216 * t → (a ≡ x) × (b ≡ y) × (c ≡ z) × (f ≡ t)
digits_4 a b c f x y z t p q r p' q' r' e =
    let one = digits_2 a (b + 256 * c + 65536 * f) x (y + 256 * z + 65536 * t) p p' (omega (arith, e)) in
    let two = digits_2 b (c + 256 * f) y (z + 256 * t) q q' (omega (arith, one.1)) in
    let three = digits_2 c f z t r r' (omega (arith, two.1)) in
    (one.0, two.0, three.0, three.1)

-- a number of two or four bytes as it is read, and in network byte order
pub half_is_big : (k v : ℕ) (d : List ℕ) (x y : ℕ) → IsHalf k v d → x < 256 → y < 256 → v ≡ x + 256 * y → big_number 2 (drop k d) ≡ x * 256 + y
half_is_big k v d x y h p q e =
    let same = digits_2 (slice_index (drop k d) 0) (slice_index (drop k d) 1) x y h.low p (sym h.is ∙ e) in
    omega (arith, same.0, same.1)

pub big_is_half : (k v : ℕ) (d : List ℕ) (x y : ℕ) → IsHalf k v d → x < 256 → y < 256 → big_number 2 (drop k d) ≡ x * 256 + y → v ≡ x + 256 * y
big_is_half k v d x y h p q e =
    let same = digits_2 (slice_index (drop k d) 1) (slice_index (drop k d) 0) y x h.high q (omega (arith, e)) in
    omega (arith, same.0, same.1, h.is)

pub word_is_big : (k v : ℕ) (d : List ℕ) (x y z t : ℕ) → IsWord k v d → x < 256 → y < 256 → z < 256 → v ≡ x + 256 * y + 65536 * z + 16777216 * t → big_number 4 (drop k d) ≡ x * 16777216 + y * 65536 + z * 256 + t
word_is_big k v d x y z t h p q r e =
    let same = digits_4 (slice_index (drop k d) 0) (slice_index (drop k d) 1) (slice_index (drop k d) 2) (slice_index (drop k d) 3) x y z t h.b0 h.b1 h.b2 p q r (sym h.is ∙ e) in
    omega (arith, same.0, same.1, same.2, same.3)

pub big_is_word : (k v : ℕ) (d : List ℕ) (x y z t : ℕ) → IsWord k v d → y < 256 → z < 256 → t < 256 → big_number 4 (drop k d) ≡ x * 16777216 + y * 65536 + z * 256 + t → v ≡ x + 256 * y + 65536 * z + 16777216 * t
big_is_word k v d x y z t h p q r e =
    let same = digits_4 (slice_index (drop k d) 3) (slice_index (drop k d) 2) (slice_index (drop k d) 1) (slice_index (drop k d) 0) t z y x h.b3 h.b2 h.b1 r q p (omega (arith, e)) in
    omega (arith, same.0, same.1, same.2, same.3, h.is)

-- ---- pieces of a record in stack cells

some_append : (a b : List ℕ) → map Some a ++ map Some b ≡ map Some (a ++ b)
some_append [] b = refl
some_append (x ∷ a) b = ap (λ (cells : List (Option ℕ)). Some x ∷ cells) (some_append a b)

-- a record that was written in three pieces
pub pieces_are : (b1 b2 b3 found : List ℕ) → length b1 ≡ 2 → length b2 ≡ 2 → length b3 ≡ 4 → cells_bytes (part 8 504 (overlay 508 (map Some b3) (overlay 506 (map Some b2) (overlay 504 (map Some b1) empty_cells)))) ≡ Some found → found ≡ b1 ++ b2 ++ b3
pieces_are b1 b2 b3 found l1 l2 l3 e =
    let m1 : length (map Some b1) ≡ 2 = length-cells b1 ∙ l1 in
    let l12 : length (b1 ++ b2) ≡ 4 = omega (arith, length-append b1 b2, l1, l2) in
    let m12 : length (map Some (b1 ++ b2)) ≡ 4 = length-cells (b1 ++ b2) ∙ l12 in
    let stack : overlay 508 (map Some b3) (overlay 506 (map Some b2) (overlay 504 (map Some b1) empty_cells)) ≡ overlay 504 (map Some (b1 ++ b2 ++ b3)) empty_cells =
    ap (overlay 508 (map Some b3)) (put_after_put 504 506 (map Some b1) (map Some b2) empty_cells (omega (arith, m1)) ∙ ap (λ (cells : List (Option ℕ)). overlay 504 cells empty_cells) (some_append b1 b2))
    ∙ put_after_put 504 508 (map Some (b1 ++ b2)) (map Some b3) empty_cells (omega (arith, m12)) ∙ ap (λ (cells : List (Option ℕ)). overlay 504 cells empty_cells) (some_append (b1 ++ b2) b3) in
    record_is (b1 ++ b2 ++ b3) found (omega (arith, length-append (b1 ++ b2) b3, l12, l3)) (sym (ap (λ (cells : List (Option ℕ)). cells_bytes (part 8 504 cells)) stack) ∙ e)

-- ---- numbers that are written

pub big_below : (x i : ℕ) → get_or (big_bytes 4 x) i 0 < 256
big_below x zero = omega arith
big_below x (suc zero) = omega arith
big_below x (suc (suc zero)) = omega arith
big_below x (suc (suc (suc zero))) = omega arith
big_below x (suc (suc (suc (suc i)))) = omega arith

-- a wide record that was written in three pieces
pub wide_pieces_are : (wide b1 b2 b3 found : List ℕ) → length wide ≡ 20 → b1 ≡ take 8 wide → b2 ≡ take 8 (drop 8 wide) → b3 ≡ take 4 (drop 16 wide)
    → cells_bytes (part 20 488 (overlay 504 (map Some b3) (overlay 496 (map Some b2) (overlay 488 (map Some b1) empty_cells)))) ≡ Some found → found ≡ wide
wide_pieces_are wide b1 b2 b3 found long is1 is2 is3 e =
    let l1 : length b1 ≡ 8 = ap length is1 ∙ omega (arith, length-take 8 wide, long) in
    let l2 : length b2 ≡ 8 = ap length is2 ∙ omega (arith, length-take 8 (drop 8 wide), length-drop 8 wide, long) in
    let m1 : length (map Some b1) ≡ 8 = length-cells b1 ∙ l1 in
    let l12 : length (b1 ++ b2) ≡ 16 = omega (arith, length-append b1 b2, l1, l2) in
    let m12 : length (map Some (b1 ++ b2)) ≡ 16 = length-cells (b1 ++ b2) ∙ l12 in
    let stack : overlay 504 (map Some b3) (overlay 496 (map Some b2) (overlay 488 (map Some b1) empty_cells)) ≡ overlay 488 (map Some (b1 ++ b2 ++ b3)) empty_cells =
    ap (overlay 504 (map Some b3)) (put_after_put 488 496 (map Some b1) (map Some b2) empty_cells (omega (arith, m1)) ∙ ap (λ (cells : List (Option ℕ)). overlay 488 cells empty_cells) (some_append b1 b2))
    ∙ put_after_put 488 504 (map Some (b1 ++ b2)) (map Some b3) empty_cells (omega (arith, m12)) ∙ ap (λ (cells : List (Option ℕ)). overlay 488 cells empty_cells) (some_append (b1 ++ b2) b3) in
    let tail : take 4 (drop 16 wide) ≡ drop 16 wide = take_all 4 (drop 16 wide) (omega (arith, length-drop 16 wide, long)) in
    let rest : take 8 (drop 8 wide) ++ take 4 (drop 16 wide) ≡ drop 8 wide = ap (λ (m : List ℕ). take 8 (drop 8 wide) ++ m) (tail ∙ sym (drop-drop 8 8 wide)) ∙ take-append-drop 8 (drop 8 wide) in
    let whole : b1 ++ b2 ++ b3 ≡ wide =
    ap₂ (λ (a b : List ℕ). a ++ b) (ap₂ (λ (a b : List ℕ). a ++ b) is1 is2) is3 ∙ append_assoc (take 8 wide) (take 8 (drop 8 wide)) (take 4 (drop 16 wide)) ∙ ap (λ (m : List ℕ). take 8 wide ++ m) rest ∙ take-append-drop 8 wide in
    let long_all : length (b1 ++ b2 ++ b3) ≡ 20 = ap length whole ∙ long in
    some_is found (b1 ++ b2 ++ b3) (sym e ∙ (ap (λ (cells : List (Option ℕ)). cells_bytes (part 20 488 cells)) stack ∙ cells_read_back 20 488 (b1 ++ b2 ++ b3) empty_cells long_all (omega (arith, length-empty_cells))))
    ∙ whole
