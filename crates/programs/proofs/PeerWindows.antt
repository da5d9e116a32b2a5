-- The bytes of the window that the program of the peers' side sends: ChannelData, and a Data indication.
use Rattle.std.proofs.Common.{◌≡◌, ℕ, ◌+◌, ◌*◌, ◌%◌, ◌/◌, ◌^◌, ◌≤◌, ◌<◌, List, [], ◌∷◌, ◌++◌, length, take, drop, refl, ap, ap₂, sym, ◌∙◌, arith, append_assoc}
use Rattle.std.specs.Prelude.{replicate, bit_xor}
use Rattle.std.proofs.lemmas.List.{take_all, length-append, length-replicate, length-take, append-nil, take-append-drop}
use Rattle.std.proofs.lemmas.Nat.{xor_lt}
use Rattle.insn.specs.Numbers.{big_from-lt}
use Rattle.insn.specs.Endian.{big_number, big_bytes, little_number, little_bytes}
use Rattle.insn.specs.Words.{alu, unary}
use Rattle.insn.specs.declared.operator.AluOp.TheVariants.{Add, Rsh, Lsh, Xor}
use Rattle.insn.specs.declared.width.Width.TheVariants.{W64}
use Rattle.insn.specs.declared.operator.UnaryOp.TheVariants.{Swap}
use Rattle.insn.specs.declared.operator.SwapOp.TheVariants.{ToBig}
use Rattle.insn.specs.declared.size.SwapSize.TheVariants as swap
use Rattle.stun.specs.Channels.{channel_bytes}
use Rattle.stun.specs.Messages.{Parts, parts_bytes, attributes_bytes, padding_count, empty_message, with_attribute}
use Rattle.stun.specs.Registry.{magic_cookie}
use Rattle.stun.specs.declared.registry.attribute.TheConstants.{XOR_PEER_ADDRESS, DATA}
use Rattle.attributes.specs.Addresses.{address_value, xor_bytes, cookie_half}
use Rattle.addresses.specs.declared.address.Addr.TheVariants.{V4}
use Rattle.semantics.specs.Records.{address_record}
use Rattle.semantics.specs.Access.{part, overlay}
use Rattle.semantics.specs.laws.Access.{put_after_put}
use Rattle.semantics.specs.Machine.{AreBytes, datagram_area}
use Rattle.semantics.specs.laws.Start.{part_datagram, part_of_header, datagram_and_zeros}
use Rattle.semantics.specs.laws.Swap.{swapped_half, stored_half, swapped_word, stored_word, xor_of_words}
use Rattle.rules.specs.Rules.{data_indication}
use Rattle.programs.proofs.LoadedValues.{byte_below}

-- ---- ChannelData

pub channel_window : (b1 b2 d : List ℕ) (n t : ℕ) → b1 ≡ big_bytes 2 n → b2 ≡ big_bytes 2 (length d) → t ≡ length d + 4
    → part t 60 (overlay 62 b2 (overlay 60 b1 (datagram_area d))) ≡ channel_bytes (record { number = n; bytes = d })
channel_window b1 b2 d n t e f is =
    let long1 : length b1 ≡ 2 = ap length e in
    let long2 : length b2 ≡ 2 = ap length f in
    ap (part t 60) (put_after_put 60 62 b1 b2 (datagram_area d) (omega (arith, long1)))
    ∙ part_of_header 4 t (length d) 60 (b1 ++ b2) d (omega (arith, length-append b1 b2, long1, long2)) (omega arith) (omega (arith, is))
    ∙ ap₂ (λ (a b : List ℕ). a ++ b) (ap₂ (λ (a b : List ℕ). a ++ b) e f) (part_datagram (length d) 0 d (omega arith) ∙ take_all (length d) d (omega arith))

-- ---- a Data indication

abbrev pub indication : List ℕ → ℕ → List ℕ → List ℕ → Parts
indication ip port tx d = with_attribute (with_attribute (empty_message data_indication tx) XOR_PEER_ADDRESS (address_value (V4 ip port) tx)) DATA d

-- the sixteen bytes attributes_front the header, and the data
abbrev pub after_header : List ℕ → ℕ → ℕ → List ℕ
after_header ip port n = 0 ∷ 0x12 ∷ 0 ∷ 8 ∷ 0 ∷ 1 ∷ big_bytes 2 (bit_xor port cookie_half) ++ xor_bytes 4 ip magic_cookie ++ 0 ∷ 0x13 ∷ big_bytes 2 n

pub attributes_are : (ip d tx : List ℕ) (port : ℕ) → attributes_bytes (indication ip port tx d).attributes ≡ after_header ip port (length d) ++ (d ++ replicate (padding_count (length d)) 0)
unfolding address_value xor_bytes
attributes_are ip d tx port = ap (λ (l : List ℕ). after_header ip port (length d) ++ l) (append-nil (d ++ replicate (padding_count (length d)) 0))

-- the parts of a header as they are stored, one attributes_front the other
pub record AreHeader (ip tx : List ℕ) (port n p : ℕ) (b1 b2 b3 b4 b5 b6 b7 b8 b9 b10 b11 : List ℕ) : Type 0 where
  pub kind : b1 ≡ 0 ∷ 0x17 ∷ []
  pub rest : b2 ≡ big_bytes 2 (16 + p)
  pub cookie : b3 ≡ big_bytes 4 magic_cookie
  pub id_head : b4 ≡ take 8 tx
  pub id_tail : b5 ≡ drop 8 tx
  pub address : b6 ≡ 0 ∷ 0x12 ∷ 0 ∷ 8 ∷ []
  pub family : b7 ≡ 0 ∷ 1 ∷ []
  pub port_is : b8 ≡ big_bytes 2 (bit_xor port cookie_half)
  pub ip_is : b9 ≡ xor_bytes 4 ip magic_cookie
  pub data_kind : b10 ≡ 0 ∷ 0x13 ∷ []
  pub size : b11 ≡ big_bytes 2 n

three_puts : (i : ℕ) (a b c s : List ℕ) (j k : ℕ) → j ≡ i + length a → k ≡ j + length b → overlay k c (overlay j b (overlay i a s)) ≡ overlay i (a ++ b ++ c) s
three_puts i a b c s j k e f =
    ap (overlay k c) (put_after_put i j a b s e) ∙ put_after_put i k (a ++ b) c s (omega (arith, e, f, length-append a b))

pub then_put : (i j : ℕ) (a b c s : List ℕ) → a ≡ overlay i b s → j ≡ i + length b → overlay j c a ≡ overlay i (b ++ c) s
then_put i j a b c s e f = ap (overlay j c) e ∙ put_after_put i j b c s f

pub length-masked : (ip : List ℕ) → length (xor_bytes 4 ip magic_cookie) ≡ 4
unfolding xor_bytes
length-masked ip = refl

after_header_is : (ip tx : List ℕ) (port n p : ℕ) (b1 b2 b3 b4 b5 b6 b7 b8 b9 b10 b11 : List ℕ) → AreHeader ip tx port n p b1 b2 b3 b4 b5 b6 b7 b8 b9 b10 b11 → b6 ++ b7 ++ b8 ++ b9 ++ b10 ++ b11 ≡ after_header ip port n
unfolding xor_bytes
after_header_is ip tx port n p b1 b2 b3 b4 b5 b6 b7 b8 b9 b10 b11 are =
    λ i. are.address i ++ are.family i ++ are.port_is i ++ are.ip_is i ++ are.data_kind i ++ are.size i

pub length-after_header : (ip : List ℕ) (port n : ℕ) → length (after_header ip port n) ≡ 16
unfolding xor_bytes
length-after_header ip port n = refl

six_puts : (b6 b7 b8 b9 b10 b11 s : List ℕ) → length b6 ≡ 4 → length b7 ≡ 2 → length b8 ≡ 2 → length b9 ≡ 4 → length b10 ≡ 2
    → overlay 62 b11 (overlay 60 b10 (overlay 56 b9 (overlay 54 b8 (overlay 52 b7 (overlay 48 b6 s))))) ≡ overlay 48 (b6 ++ b7 ++ b8 ++ b9 ++ b10 ++ b11) s
six_puts b6 b7 b8 b9 b10 b11 s l6 l7 l8 l9 l10 =
    let m7 : length (b6 ++ b7) ≡ 6 = omega (arith, length-append b6 b7, l6, l7) in
    let m8 : length (b6 ++ b7 ++ b8) ≡ 8 = omega (arith, length-append (b6 ++ b7) b8, m7, l8) in
    let m9 : length (b6 ++ b7 ++ b8 ++ b9) ≡ 12 = omega (arith, length-append (b6 ++ b7 ++ b8) b9, m8, l9) in
    let m10 : length (b6 ++ b7 ++ b8 ++ b9 ++ b10) ≡ 14 = omega (arith, length-append (b6 ++ b7 ++ b8 ++ b9) b10, m9, l10) in
    then_put 48 62 _ (b6 ++ b7 ++ b8 ++ b9 ++ b10) b11 s
    (then_put 48 60 _ (b6 ++ b7 ++ b8 ++ b9) b10 s
    (then_put 48 56 _ (b6 ++ b7 ++ b8) b9 s (then_put 48 54 _ (b6 ++ b7) b8 s (put_after_put 48 52 b6 b7 s (omega (arith, l6))) (omega (arith, m7))) (omega (arith, m8)))
    (omega (arith, m9)))
    (omega (arith, m10))

pub padding_is_short : (n : ℕ) → padding_count n ≤ 3
padding_is_short n = omega arith

pub indication_window : (ip d tx : List ℕ) (port p t : ℕ) (b1 b2 b3 b4 b5 b6 b7 b8 b9 b10 b11 : List ℕ) → length tx ≡ 12 → AreHeader ip tx port (length d) p b1 b2 b3 b4 b5 b6 b7 b8 b9 b10 b11
    → p ≡ length d + padding_count (length d) → t ≡ 36 + p
    → part t 28 (overlay 62 b11 (overlay 60 b10 (overlay 56 b9 (overlay 54 b8 (overlay 52 b7 (overlay 48 b6 (overlay 44 b5 (overlay 36 b4 (overlay 32 b3 (overlay 30 b2 (overlay 28 b1 (datagram_area d)))))))))))) ≡ parts_bytes (indication ip port tx d)
indication_window ip d tx port p t b1 b2 b3 b4 b5 b6 b7 b8 b9 b10 b11 id are is_p is_t =
    let s : List ℕ = datagram_area d in
    let l1 : length b1 ≡ 2 = ap length are.kind in
    let l2 : length b2 ≡ 2 = ap length are.rest in
    let l3 : length b3 ≡ 4 = ap length are.cookie in
    let l45 : b4 ++ b5 ≡ tx = ap₂ (λ (a b : List ℕ). a ++ b) are.id_head are.id_tail ∙ take-append-drop 8 tx in
    let l4 : length b4 ≡ 8 = omega (arith, ap length are.id_head, length-take 8 tx, id) in
    let front : List ℕ = b1 ++ b2 ++ b3 in
    let attributes_front : List ℕ = b6 ++ b7 ++ b8 ++ b9 ++ b10 ++ b11 in
    let tail : List ℕ = d ++ replicate (padding_count (length d)) 0 in
    let lf : length front ≡ 8 = omega (arith, length-append (b1 ++ b2) b3, length-append b1 b2, l1, l2, l3) in
    let lm : length (front ++ tx) ≡ 20 = omega (arith, length-append front tx, lf, id) in
    let is_after : attributes_front ≡ after_header ip port (length d) = after_header_is ip tx port (length d) p b1 b2 b3 b4 b5 b6 b7 b8 b9 b10 b11 are in
    let la : length ((front ++ tx) ++ attributes_front) ≡ 36 = omega (arith, length-append (front ++ tx) attributes_front, lm, ap length is_after, length-after_header ip port (length d)) in
    let attributes : attributes_bytes (indication ip port tx d).attributes ≡ after_header ip port (length d) ++ tail = attributes_are ip d tx port in
    let count : length (attributes_bytes (indication ip port tx d).attributes) ≡ 16 + p =
    ap length attributes ∙ length-append (after_header ip port (length d)) tail ∙ omega (arith, length-after_header ip port (length d), length-append d (replicate (padding_count (length d)) 0), length-replicate {A = ℕ} (padding_count (length d)) 0, is_p) in
    let stored : overlay 62 b11 (overlay 60 b10 (overlay 56 b9 (overlay 54 b8 (overlay 52 b7 (overlay 48 b6 (overlay 44 b5 (overlay 36 b4 (overlay 32 b3 (overlay 30 b2 (overlay 28 b1 s)))))))))) ≡ overlay 28 ((front ++ tx) ++ attributes_front) s =
    six_puts b6 b7 b8 b9 b10 b11 _ (ap length are.address) (ap length are.family) (ap length are.port_is) (ap length are.ip_is ∙ length-masked ip) (ap length are.data_kind)
    ∙ ap (overlay 48 attributes_front)
    (put_after_put 36 44 b4 b5 _ (omega (arith, l4)) ∙ ap₂ (λ (a l : List ℕ). overlay 36 a l) l45 (three_puts 28 b1 b2 b3 s 30 32 (omega (arith, l1)) (omega (arith, l2))) ∙ put_after_put 28 36 front tx s (omega (arith, lf)))
    ∙ put_after_put 28 48 (front ++ tx) attributes_front s (omega (arith, lm)) in
    ap (part t 28) stored ∙ part_of_header 36 t p 28 ((front ++ tx) ++ attributes_front) d la refl is_t
    ∙ ap (λ (l : List ℕ). ((front ++ tx) ++ attributes_front) ++ l) (datagram_and_zeros p (padding_count (length d)) d is_p (padding_is_short (length d)))
    ∙ append_assoc (front ++ tx) attributes_front tail
    ∙ ap₂ (λ (a b : List ℕ). (a ++ tx) ++ b) (ap₂ (λ (a b : List ℕ). a ++ b) (ap₂ (λ (a b : List ℕ). a ++ b) are.kind (are.rest ∙ ap (big_bytes 2) (sym count))) are.cookie) (ap (λ (l : List ℕ). l ++ tail) is_after ∙ sym attributes)

-- ---- the numbers of a header

pub padded_is : (n a b p : ℕ) → n ≤ 65535 → a ≡ alu Add W64 n 3 → b ≡ alu Rsh W64 a 2 → p ≡ alu Lsh W64 b 2 → p ≡ n + padding_count n
padded_is n a b p le e f g =
    let a_is : a ≡ n + 3 = omega (arith, e, le) in
    let b_is : b ≡ (n + 3) / 4 = omega (arith, f, a_is, le) in
    let p_is : p ≡ (n + 3) / 4 * 4 = omega (arith, g, b_is, le) in
    omega (arith, p_is)

pub rest_is : (p l u : ℕ) (bytes : List ℕ) → p ≤ 65507 → l ≡ alu Add W64 p 16 → u ≡ unary (Swap ToBig swap.Half) l → bytes ≡ little_bytes 2 u → bytes ≡ big_bytes 2 (16 + p)
rest_is p l u bytes le e f g =
    let l_is : l ≡ 16 + p = omega (arith, e, le) in
    g ∙ stored_half l u (omega (arith, l_is, le)) f ∙ ap (big_bytes 2) l_is

pub port_in_record : (ip : List ℕ) (port : ℕ) → port < 65536 → (b0 : List ℕ) → b0 ≡ address_record (V4 ip port) → (v u : ℕ) → v ≡ little_number 2 (part 2 2 b0) → u ≡ unary (Swap ToBig swap.Half) v → u ≡ port
port_in_record ip port small b0 held v u e f =
    let number : v ≡ port / 256 % 256 + 256 * (port % 256) = let held_number = ap (λ (l : List ℕ). little_number 2 (part 2 2 l)) held in omega (arith, e, held_number) in
    let swapped : u ≡ port / 256 % 256 * 256 + port % 256 = swapped_half (port / 256 % 256) (port % 256) v u (omega arith) (omega arith) number f in
    omega (arith, swapped, small)

pub port_bytes : (port v x u : ℕ) (bytes : List ℕ) → port < 65536 → v ≡ port → x ≡ alu Xor W64 v 8466 → u ≡ unary (Swap ToBig swap.Half) x → bytes ≡ little_bytes 2 u → bytes ≡ big_bytes 2 (bit_xor port cookie_half)
port_bytes port v x u bytes small e f g h =
    let x_is : x ≡ bit_xor port 8466 = f ∙ ap (λ (n : ℕ). alu Xor W64 n 8466) e ∙ xor_of_words port 8466 (omega (arith, small)) (omega arith) in
    let x_small : x < 65536 = let lt = xor_lt 16 port 8466 (omega (arith, small)) (omega arith) in omega (arith, lt, x_is) in
    h ∙ stored_half x u x_small g ∙ ap (big_bytes 2) x_is

pub ip_in_record : (ip : List ℕ) (port : ℕ) → AreBytes 4 ip → (b0 : List ℕ) → b0 ≡ address_record (V4 ip port) → (v u : ℕ) → v ≡ little_number 4 (part 4 4 b0) → u ≡ unary (Swap ToBig swap.Word) v → u ≡ big_number 4 ip
ip_in_record ip port are b0 held v u e f =
    let number : v ≡ little_number 4 ip = e ∙ ap (λ (l : List ℕ). little_number 4 (part 4 4 l)) held ∙ ap (little_number 4) (take_all 4 ip (omega (arith, are.count))) in
    swapped_word ip v u are number f

pub ip_bytes_are : (ip : List ℕ) → AreBytes 4 ip → (v x u : ℕ) (bytes : List ℕ) → v ≡ big_number 4 ip → x ≡ alu Xor W64 v 554869826 → u ≡ unary (Swap ToBig swap.Word) x → bytes ≡ little_bytes 4 u → bytes ≡ xor_bytes 4 ip magic_cookie
unfolding xor_bytes
ip_bytes_are ip are v x u bytes e f g h =
    let small : big_number 4 ip < 2 ^ 32 = big_from-lt 0 4 ip (byte_below ip are.fit) in
    let x_is : x ≡ bit_xor (big_number 4 ip) 554869826 = f ∙ ap (λ (n : ℕ). alu Xor W64 n 554869826) e ∙ xor_of_words (big_number 4 ip) 554869826 small (omega arith) in
    let x_small : x < 2 ^ 32 = let lt = xor_lt 32 (big_number 4 ip) 554869826 small (omega arith) in omega (arith, lt, x_is) in
    h ∙ stored_word x u x_small g ∙ ap (big_bytes 4) x_is
