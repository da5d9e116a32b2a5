-- The bytes of the window that the program of the peers' side sends for an IPv6 source: a Data indication.
use Rattle.std.proofs.Common.{◌≡◌, ℕ, ◌+◌, ◌*◌, ◌%◌, ◌/◌, ◌^◌, ◌≤◌, ◌<◌, List, [], ◌∷◌, ◌++◌, length, take, drop, refl, ap, ap₂, sym, ◌∙◌, arith, append_assoc, All}
use Rattle.std.specs.Prelude.{replicate, bit_xor}
use Rattle.std.proofs.lemmas.List.{take_all, length-append, length-replicate, length-take, length-drop, append-nil, take-append-drop, drop-drop}
use Rattle.std.proofs.lemmas.List.Elements.{All-nil, All-cons, All-take, All-drop, All-append}
use Rattle.insn.specs.Endian.{big_number, big_bytes, little_number, little_bytes}
use Rattle.insn.specs.Words.{alu, unary}
use Rattle.insn.specs.declared.operator.AluOp.TheVariants.{Add}
use Rattle.insn.specs.declared.width.Width.TheVariants.{W64}
use Rattle.insn.specs.declared.operator.UnaryOp.TheVariants.{Swap}
use Rattle.insn.specs.declared.operator.SwapOp.TheVariants.{ToBig}
use Rattle.insn.specs.declared.size.SwapSize.TheVariants as swap
use Rattle.stun.specs.Messages.{Parts, parts_bytes, attributes_bytes, padding_count, empty_message, with_attribute}
use Rattle.stun.specs.Registry.{magic_cookie}
use Rattle.stun.specs.declared.registry.attribute.TheConstants.{XOR_PEER_ADDRESS, DATA}
use Rattle.addresses.specs.Addresses.{HasWidth}
use Rattle.attributes.specs.Addresses.{address_value, xor_bytes, ipv6_mask, cookie_half}
use Rattle.addresses.specs.declared.address.Addr.TheVariants.{V6}
use Rattle.semantics.specs.Access.{part, overlay}
use Rattle.semantics.specs.laws.Access.{put_after_put}
use Rattle.semantics.specs.Machine.{AreBytes, datagram_area}
use Rattle.semantics.specs.laws.Start.{part_of_header, datagram_and_zeros}
use Rattle.semantics.specs.laws.Swap.{stored_half}
use Rattle.semantics.specs.Records.{wide_record}
use Rattle.rules.specs.Rules.{data_indication}
use Rattle.attributes.specs.laws.Number.{bytes_back}
use Rattle.programs.proofs.LoadedValues.{all_below}
use Rattle.programs.proofs.PeerWindows.{then_put, padding_is_short}
use Rattle.programs.proofs.XorBytes.{xor_each, xor_each-append, length-xor_each, big_bytes_xor}

abbrev pub indication_6 : List ℕ → ℕ → List ℕ → List ℕ → Parts
indication_6 ip port tx d = with_attribute (with_attribute (empty_message data_indication tx) XOR_PEER_ADDRESS (address_value (V6 ip port) tx)) DATA d

-- the bytes after the header, before the data
abbrev pub value_6 : List ℕ → ℕ → List ℕ → List ℕ
value_6 ip port tx = 0 ∷ 2 ∷ big_bytes 2 (bit_xor port cookie_half) ++ xor_bytes 16 ip (ipv6_mask tx)

abbrev pub after_header_6 : List ℕ → ℕ → List ℕ → ℕ → List ℕ
after_header_6 ip port tx n = 0 ∷ 0x12 ∷ 0 ∷ 0x14 ∷ value_6 ip port tx ++ 0 ∷ 0x13 ∷ big_bytes 2 n

pub attributes_are_6 : (ip d tx : List ℕ) (port : ℕ) → attributes_bytes (indication_6 ip port tx d).attributes ≡ after_header_6 ip port tx (length d) ++ (d ++ replicate (padding_count (length d)) 0)
unfolding address_value xor_bytes
attributes_are_6 ip d tx port = ap (λ (l : List ℕ). after_header_6 ip port tx (length d) ++ l) (append-nil (d ++ replicate (padding_count (length d)) 0))

pub length-after_header_6 : (ip tx : List ℕ) (port n : ℕ) → length (after_header_6 ip port tx n) ≡ 28
unfolding xor_bytes
length-after_header_6 ip tx port n = refl

length-value_6 : (ip tx : List ℕ) (port : ℕ) → length (value_6 ip port tx) ≡ 20
unfolding xor_bytes
length-value_6 ip tx port = refl

-- ---- the value of the address, byte by byte

cookie_bytes : AreBytes 4 (big_bytes 4 magic_cookie)
cookie_bytes = record {
  count = refl;
  fit = All-cons (λ (b : ℕ). b < 256) 0x21 (0x12 ∷ 0xa4 ∷ 0x42 ∷ []) (omega arith) (All-cons (λ (b : ℕ). b < 256) 0x12 (0xa4 ∷ 0x42 ∷ []) (omega arith)
      (All-cons (λ (b : ℕ). b < 256) 0xa4 (0x42 ∷ []) (omega arith) (All-cons (λ (b : ℕ). b < 256) 0x42 [] (omega arith) (All-nil (λ (b : ℕ). b < 256)))));
}

ip_value : (ip tx : List ℕ) → AreBytes 16 ip → AreBytes 12 tx → xor_bytes 16 ip (ipv6_mask tx) ≡ xor_each ip (big_bytes 4 magic_cookie ++ tx)
unfolding xor_bytes ipv6_mask
ip_value ip tx are id =
    big_bytes_xor 16 ip (big_bytes 4 magic_cookie ++ tx) are
    (record { count = length-append (big_bytes 4 magic_cookie) tx ∙ omega (arith, id.count); fit = All-append (λ (b : ℕ). b < 256) (big_bytes 4 magic_cookie) tx cookie_bytes.fit id.fit })

half_bytes : AreBytes 2 (0x21 ∷ 0x12 ∷ [])
half_bytes = record { count = refl; fit = All-cons (λ (b : ℕ). b < 256) 0x21 (0x12 ∷ []) (omega arith) (All-cons (λ (b : ℕ). b < 256) 0x12 [] (omega arith) (All-nil (λ (b : ℕ). b < 256))) }

two_bytes : (port : ℕ) → AreBytes 2 (big_bytes 2 port)
two_bytes port = record {
  count = refl;
  fit = All-cons (λ (b : ℕ). b < 256) (port / 256 % 256) (port % 256 ∷ []) (omega arith) (All-cons (λ (b : ℕ). b < 256) (port % 256) [] (omega arith) (All-nil (λ (b : ℕ). b < 256)));
}

port_value : (port : ℕ) → port < 0x10000 → xor_each (big_bytes 2 port) (0x21 ∷ 0x12 ∷ []) ≡ big_bytes 2 (bit_xor port cookie_half)
port_value port small =
    let number : big_number 2 (big_bytes 2 port) ≡ port = omega (arith, small) in
    sym (big_bytes_xor 2 (big_bytes 2 port) (0x21 ∷ 0x12 ∷ []) (two_bytes port) half_bytes) ∙ ap (λ (n : ℕ). big_bytes 2 (bit_xor n cookie_half)) number

-- what the wide record is xored with
abbrev pub front_mask : List ℕ
front_mask = 0 ∷ 0 ∷ 0x21 ∷ 0x12 ∷ big_bytes 4 magic_cookie

pub front_mask_bytes : AreBytes 8 front_mask
front_mask_bytes = record {
  count = refl;
  fit = All-cons (λ (b : ℕ). b < 256) 0 (0 ∷ 0x21 ∷ 0x12 ∷ big_bytes 4 magic_cookie) (omega arith) (All-cons (λ (b : ℕ). b < 256) 0 (0x21 ∷ 0x12 ∷ big_bytes 4 magic_cookie) (omega arith)
      (All-cons (λ (b : ℕ). b < 256) 0x21 (0x12 ∷ big_bytes 4 magic_cookie) (omega arith) (All-cons (λ (b : ℕ). b < 256) 0x12 (big_bytes 4 magic_cookie) (omega arith) cookie_bytes.fit)));
}

-- the wide record is bytes
pub wide_record_bytes : (ip : List ℕ) (port : ℕ) → HasWidth 16 ip port → AreBytes 20 (wide_record (V6 ip port))
wide_record_bytes ip port fits = record {
  count = omega (arith, fits.long);
  fit = All-cons (λ (b : ℕ). b < 256) 0 (2 ∷ (big_bytes 2 port ++ ip)) (omega arith)
      (All-cons (λ (b : ℕ). b < 256) 2 (big_bytes 2 port ++ ip) (omega arith) (All-append (λ (b : ℕ). b < 256) (big_bytes 2 port) ip (two_bytes port).fit (all_below ip fits.bytes)));
}

value_is : (ip tx : List ℕ) (port : ℕ) → HasWidth 16 ip port → AreBytes 12 tx → xor_each (wide_record (V6 ip port)) (front_mask ++ tx) ≡ value_6 ip port tx
value_is ip tx port fits id =
    let are : AreBytes 16 ip = record { count = fits.long; fit = all_below ip fits.bytes } in
    ap₂ (λ (a b : List ℕ). 0 ∷ 2 ∷ a ++ b) (port_value port fits.small) (sym (ip_value ip tx are id))

-- the record in three parts
record_parts : (l : List ℕ) → length l ≡ 20 → take 8 l ++ part 8 8 l ++ part 4 16 l ≡ l
record_parts l long =
    let tail : part 4 16 l ≡ drop 16 l = take_all 4 (drop 16 l) (omega (arith, length-drop 16 l, long)) in
    let rest : part 8 8 l ++ part 4 16 l ≡ drop 8 l = ap (λ (m : List ℕ). part 8 8 l ++ m) (tail ∙ sym (drop-drop 8 8 l)) ∙ take-append-drop 8 (drop 8 l) in
    append_assoc (take 8 l) (part 8 8 l) (part 4 16 l) ∙ ap (λ (m : List ℕ). take 8 l ++ m) rest ∙ take-append-drop 8 l

length-wide_record : (ip : List ℕ) (port : ℕ) → length ip ≡ 16 → length (wide_record (V6 ip port)) ≡ 20
length-wide_record ip port long = omega (arith, long)

-- the parts of a header as they are stored, one in front of the other
pub record AreWideHeader (ip tx : List ℕ) (port n p : ℕ) (b1 b2 b3 b4 b5 b6 b7 b8 b9 b10 b11 : List ℕ) : Type 0 where
  pub kind : b1 ≡ 0 ∷ 0x17 ∷ []
  pub rest : b2 ≡ big_bytes 2 (28 + p)
  pub cookie : b3 ≡ big_bytes 4 magic_cookie
  pub id_head : b4 ≡ take 8 tx
  pub id_tail : b5 ≡ drop 8 tx
  pub address : b6 ≡ 0 ∷ 0x12 ∷ 0 ∷ 0x14 ∷ []
  pub head : b7 ≡ xor_each (take 8 (wide_record (V6 ip port))) front_mask
  pub middle : b8 ≡ xor_each (part 8 8 (wide_record (V6 ip port))) (take 8 tx)
  pub tail : b9 ≡ xor_each (part 4 16 (wide_record (V6 ip port))) (drop 8 tx)
  pub data_kind : b10 ≡ 0 ∷ 0x13 ∷ []
  pub size : b11 ≡ big_bytes 2 n

module _ (ip d tx : List ℕ) (port p t : ℕ) (b1 b2 b3 b4 b5 b6 b7 b8 b9 b10 b11 : List ℕ) (fits : HasWidth 16 ip port) (id : AreBytes 12 tx) (are : AreWideHeader ip tx port (length d) p b1 b2 b3 b4 b5 b6 b7 b8 b9 b10 b11) where
  abbrev wide : List ℕ
  wide = wide_record (V6 ip port)

  wide_long : length wide ≡ 20
  wide_long = length-wide_record ip port fits.long

  head_long : length (take 8 wide) ≡ 8
  head_long = omega (arith, length-take 8 wide, wide_long)

  middle_long : length (part 8 8 wide) ≡ 8
  middle_long = omega (arith, length-take 8 (drop 8 wide), length-drop 8 wide, wide_long)

  tail_long : length (part 4 16 wide) ≡ 4
  tail_long = omega (arith, length-take 4 (drop 16 wide), length-drop 16 wide, wide_long)

  id_head_long : length (take 8 tx) ≡ 8
  id_head_long = omega (arith, length-take 8 tx, id.count)

  id_tail_long : length (drop 8 tx) ≡ 4
  id_tail_long = omega (arith, length-drop 8 tx, id.count)

  -- the value of the address in its three parts
  value_parts : b7 ++ b8 ++ b9 ≡ value_6 ip port tx
  value_parts =
      ap₂ (λ (a b : List ℕ). a ++ b) (ap₂ (λ (a b : List ℕ). a ++ b) are.head are.middle) are.tail
      ∙ ap (λ (l : List ℕ). l ++ xor_each (part 4 16 wide) (drop 8 tx)) (sym (xor_each-append (take 8 wide) (part 8 8 wide) front_mask (take 8 tx) head_long))
      ∙ sym (xor_each-append (take 8 wide ++ part 8 8 wide) (part 4 16 wide) (front_mask ++ take 8 tx) (drop 8 tx) (omega (arith, length-append (take 8 wide) (part 8 8 wide), length-append front_mask (take 8 tx), head_long, middle_long, id_head_long)))
      ∙ ap₂ xor_each (record_parts wide wide_long) (append_assoc front_mask (take 8 tx) (drop 8 tx) ∙ ap (λ (l : List ℕ). front_mask ++ l) (take-append-drop 8 tx))
      ∙ value_is ip tx port fits id

  id_parts : b4 ++ b5 ≡ tx
  id_parts = ap₂ (λ (a b : List ℕ). a ++ b) are.id_head are.id_tail ∙ take-append-drop 8 tx

  l1 : length b1 ≡ 2
  l1 = ap length are.kind

  l2 : length b2 ≡ 2
  l2 = ap length are.rest

  l3 : length b3 ≡ 4
  l3 = ap length are.cookie

  l4 : length b4 ≡ 8
  l4 = ap length are.id_head ∙ id_head_long

  l5 : length b5 ≡ 4
  l5 = ap length are.id_tail ∙ id_tail_long

  l6 : length b6 ≡ 4
  l6 = ap length are.address

  l7 : length b7 ≡ 8
  l7 = ap length are.head ∙ length-xor_each (take 8 wide) front_mask head_long ∙ head_long

  l8 : length b8 ≡ 8
  l8 = ap length are.middle ∙ length-xor_each (part 8 8 wide) (take 8 tx) (middle_long ∙ sym id_head_long) ∙ middle_long

  l9 : length b9 ≡ 4
  l9 = ap length are.tail ∙ length-xor_each (part 4 16 wide) (drop 8 tx) (tail_long ∙ sym id_tail_long) ∙ tail_long

  l10 : length b10 ≡ 2
  l10 = ap length are.data_kind

  -- the bytes as they were put
  abbrev all : List ℕ
  all = b1 ++ b2 ++ b3 ++ b4 ++ b5 ++ b6 ++ b7 ++ b8 ++ b9 ++ b10 ++ b11

  puts : (s : List ℕ) → overlay 62 b11 (overlay 60 b10 (overlay 56 b9 (overlay 48 b8 (overlay 40 b7 (overlay 36 b6 (overlay 32 b5 (overlay 24 b4 (overlay 20 b3 (overlay 18 b2 (overlay 16 b1 s)))))))))) ≡ overlay 16 all s
  puts s =
      let m2 : length (b1 ++ b2) ≡ 4 = omega (arith, length-append b1 b2, l1, l2) in
      let m3 : length (b1 ++ b2 ++ b3) ≡ 8 = omega (arith, length-append (b1 ++ b2) b3, m2, l3) in
      let m4 : length (b1 ++ b2 ++ b3 ++ b4) ≡ 16 = omega (arith, length-append (b1 ++ b2 ++ b3) b4, m3, l4) in
      let m5 : length (b1 ++ b2 ++ b3 ++ b4 ++ b5) ≡ 20 = omega (arith, length-append (b1 ++ b2 ++ b3 ++ b4) b5, m4, l5) in
      let m6 : length (b1 ++ b2 ++ b3 ++ b4 ++ b5 ++ b6) ≡ 24 = omega (arith, length-append (b1 ++ b2 ++ b3 ++ b4 ++ b5) b6, m5, l6) in
      let m7 : length (b1 ++ b2 ++ b3 ++ b4 ++ b5 ++ b6 ++ b7) ≡ 32 = omega (arith, length-append (b1 ++ b2 ++ b3 ++ b4 ++ b5 ++ b6) b7, m6, l7) in
      let m8 : length (b1 ++ b2 ++ b3 ++ b4 ++ b5 ++ b6 ++ b7 ++ b8) ≡ 40 = omega (arith, length-append (b1 ++ b2 ++ b3 ++ b4 ++ b5 ++ b6 ++ b7) b8, m7, l8) in
      let m9 : length (b1 ++ b2 ++ b3 ++ b4 ++ b5 ++ b6 ++ b7 ++ b8 ++ b9) ≡ 44 = omega (arith, length-append (b1 ++ b2 ++ b3 ++ b4 ++ b5 ++ b6 ++ b7 ++ b8) b9, m8, l9) in
      let m10 : length (b1 ++ b2 ++ b3 ++ b4 ++ b5 ++ b6 ++ b7 ++ b8 ++ b9 ++ b10) ≡ 46 = omega (arith, length-append (b1 ++ b2 ++ b3 ++ b4 ++ b5 ++ b6 ++ b7 ++ b8 ++ b9) b10, m9, l10) in
      let s2 = put_after_put 16 18 b1 b2 s (omega (arith, l1)) in
      let s3 = then_put 16 20 _ (b1 ++ b2) b3 s s2 (omega (arith, m2)) in
      let s4 = then_put 16 24 _ (b1 ++ b2 ++ b3) b4 s s3 (omega (arith, m3)) in
      let s5 = then_put 16 32 _ (b1 ++ b2 ++ b3 ++ b4) b5 s s4 (omega (arith, m4)) in
      let s6 = then_put 16 36 _ (b1 ++ b2 ++ b3 ++ b4 ++ b5) b6 s s5 (omega (arith, m5)) in
      let s7 = then_put 16 40 _ (b1 ++ b2 ++ b3 ++ b4 ++ b5 ++ b6) b7 s s6 (omega (arith, m6)) in
      let s8 = then_put 16 48 _ (b1 ++ b2 ++ b3 ++ b4 ++ b5 ++ b6 ++ b7) b8 s s7 (omega (arith, m7)) in
      let s9 = then_put 16 56 _ (b1 ++ b2 ++ b3 ++ b4 ++ b5 ++ b6 ++ b7 ++ b8) b9 s s8 (omega (arith, m8)) in
      let s10 = then_put 16 60 _ (b1 ++ b2 ++ b3 ++ b4 ++ b5 ++ b6 ++ b7 ++ b8 ++ b9) b10 s s9 (omega (arith, m9)) in
      then_put 16 62 _ (b1 ++ b2 ++ b3 ++ b4 ++ b5 ++ b6 ++ b7 ++ b8 ++ b9 ++ b10) b11 s s10 (omega (arith, m10))

  -- grouped as the message is
  grouped : all ≡ ((b1 ++ b2 ++ b3) ++ (b4 ++ b5)) ++ (b6 ++ (b7 ++ b8 ++ b9) ++ b10 ++ b11)
  grouped =
      let x : List ℕ = b1 ++ b2 ++ b3 in
      let y : List ℕ = x ++ b4 ++ b5 in
      let z : List ℕ = y ++ b6 in
      ap (λ (l : List ℕ). l ++ b10 ++ b11) (append_assoc (z ++ b7) b8 b9 ∙ append_assoc z b7 (b8 ++ b9) ∙ ap (λ (l : List ℕ). z ++ l) (sym (append_assoc b7 b8 b9)))
      ∙ append_assoc (z ++ (b7 ++ b8 ++ b9)) b10 b11
      ∙ ap (λ (l : List ℕ). l ++ (b10 ++ b11)) (append_assoc y b6 (b7 ++ b8 ++ b9))
      ∙ append_assoc y (b6 ++ (b7 ++ b8 ++ b9)) (b10 ++ b11)
      ∙ ap (λ (l : List ℕ). y ++ l) (sym (append_assoc (b6 ++ (b7 ++ b8 ++ b9)) b10 b11))
      ∙ ap (λ (l : List ℕ). l ++ (b6 ++ (b7 ++ b8 ++ b9) ++ b10 ++ b11)) (append_assoc x b4 b5)

  after_header_is : b6 ++ (b7 ++ b8 ++ b9) ++ b10 ++ b11 ≡ after_header_6 ip port tx (length d)
  unfolding xor_bytes
  after_header_is = λ i. are.address i ++ value_parts i ++ are.data_kind i ++ are.size i

  pub indication_window_6 : p ≡ length d + padding_count (length d) → t ≡ 48 + p
      → part t 16 (overlay 62 b11 (overlay 60 b10 (overlay 56 b9 (overlay 48 b8 (overlay 40 b7 (overlay 36 b6 (overlay 32 b5 (overlay 24 b4 (overlay 20 b3 (overlay 18 b2 (overlay 16 b1 (datagram_area d))))))))))))
      ≡ parts_bytes (indication_6 ip port tx d)
  indication_window_6 is_p is_t =
      let front : List ℕ = b1 ++ b2 ++ b3 in
      let after : List ℕ = after_header_6 ip port tx (length d) in
      let padding : List ℕ = d ++ replicate (padding_count (length d)) 0 in
      let header_is : all ≡ (front ++ tx) ++ after = grouped ∙ ap₂ (λ (a b : List ℕ). (front ++ a) ++ b) id_parts after_header_is in
      let lf : length front ≡ 8 = omega (arith, length-append (b1 ++ b2) b3, length-append b1 b2, l1, l2, l3) in
      let la : length ((front ++ tx) ++ after) ≡ 48 = omega (arith, length-append (front ++ tx) after, length-append front tx, lf, id.count, length-after_header_6 ip tx port (length d)) in
      let attributes : attributes_bytes (indication_6 ip port tx d).attributes ≡ after ++ padding = attributes_are_6 ip d tx port in
      let count : length (attributes_bytes (indication_6 ip port tx d).attributes) ≡ 28 + p =
      ap length attributes ∙ length-append after padding ∙ omega (arith, length-after_header_6 ip tx port (length d), length-append d (replicate (padding_count (length d)) 0), length-replicate {A = ℕ} (padding_count (length d)) 0, is_p) in
      ap (part t 16) (puts (datagram_area d) ∙ ap (λ (l : List ℕ). overlay 16 l (datagram_area d)) header_is) ∙ part_of_header 48 t p 16 ((front ++ tx) ++ after) d la refl is_t
      ∙ ap (λ (l : List ℕ). ((front ++ tx) ++ after) ++ l) (datagram_and_zeros p (padding_count (length d)) d is_p (padding_is_short (length d)))
      ∙ append_assoc (front ++ tx) after padding
      ∙ ap₂ (λ (a b : List ℕ). (a ++ tx) ++ b) (ap₂ (λ (a b : List ℕ). a ++ b) (ap₂ (λ (a b : List ℕ). a ++ b) are.kind (are.rest ∙ ap (big_bytes 2) (sym count))) are.cookie) (sym attributes)

-- the length of the attributes
pub rest_is_6 : (p l u : ℕ) (bytes : List ℕ) → p ≤ 65507 → l ≡ alu Add W64 p 28 → u ≡ unary (Swap ToBig swap.Half) l → bytes ≡ little_bytes 2 u → bytes ≡ big_bytes 2 (28 + p)
rest_is_6 p l u bytes le e f g =
    let l_is : l ≡ 28 + p = omega (arith, e, le) in
    g ∙ stored_half l u (omega (arith, l_is, le)) f ∙ ap (big_bytes 2) l_is
