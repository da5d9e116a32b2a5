-- What the program of the client's side tests of a Send indication is the grammar of messages.
use Rattle.std.proofs.Common.{◌≡◌, ℕ, ◌+◌, ◌≤◌, ◌<◌, List, [], ◌∷◌, ◌++◌, length, drop, sym, ap, ap₂, ◌∙◌, arith, append_assoc}
use Rattle.std.specs.Prelude.{slice_index}
use Rattle.std.proofs.lemmas.List.{length-append, length-take, length-drop, take_all, append-nil, drop_at, drop-drop}
use Rattle.std.proofs.lemmas.List.Elements.{All-take, All-drop}
use Rattle.std.proofs.lemmas.Nat.{be_bytes_2, be_bytes_4}
use Rattle.insn.specs.Endian.{big_number, big_bytes}
use Rattle.insn.specs.Numbers.{big_from-take}
use Rattle.stun.specs.Messages.{Parts, PaddedAttribute, AreParts, parts_bytes, attributes_bytes, padding_count, header}
use Rattle.semantics.specs.Access.{part}
use Rattle.semantics.specs.laws.Access.{part_more}
use Rattle.semantics.specs.Runs.{IsDatagram}
use Rattle.programs.specs.PlainSends.{padded_length, IsSendHeader, IsAddressFirst, IsDataFirst}
use Rattle.programs.proofs.LoadedValues.{byte_below}

module _ (d : List ℕ) (fit : IsDatagram d) where
  fits : (n k i : ℕ) → slice_index (part n k d) i < 256
  fits n k i = byte_below (part n k d) (All-take (λ b. b < 256) n (drop k d) (All-drop (λ b. b < 256) k d fit.bytes_fit)) i

  pub long : (n k : ℕ) → k + n ≤ length d → length (part n k d) ≡ n
  long n k le = omega (arith, length-take n (drop k d), length-drop k d, le)

  -- the bytes of the number that they are
  two : (k : ℕ) → k + 2 ≤ length d → part 2 k d ≡ big_bytes 2 (big_number 2 (drop k d))
  two k le = sym (be_bytes_2 (part 2 k d) (big_number 2 (drop k d)) (long 2 k le) (fits 2 k) (sym (big_from-take 0 2 2 (drop k d) (omega arith)) ∙ omega arith))

  four : (k : ℕ) → k + 4 ≤ length d → part 4 k d ≡ big_bytes 4 (big_number 4 (drop k d))
  four k le = sym (be_bytes_4 (part 4 k d) (big_number 4 (drop k d)) (long 4 k le) (fits 4 k) (sym (big_from-take 0 4 4 (drop k d) (omega arith)) ∙ omega arith))

  all_of_it : (n : ℕ) → n ≡ length d → d ≡ part n 0 d
  all_of_it n e = sym (take_all n d (omega (arith, e)))

  -- ---- the header

  header_is : IsSendHeader d → (n : ℕ) → n + 20 ≡ length d → part 20 0 d ≡ header 0x0016 n (part 12 8 d)
  header_is h n size =
      let at2 : part 2 2 d ≡ big_bytes 2 n = two 2 (omega (arith, h.long)) ∙ ap (big_bytes 2) (omega (arith, h.size, size)) in
      part_more 8 12 0 d
      ∙ ap (λ (l : List ℕ). l ++ part 12 8 d) (part_more 4 4 0 d ∙ ap₂ (λ (a b : List ℕ). a ++ b) (part_more 2 2 0 d ∙ ap₂ (λ (a b : List ℕ). a ++ b) (two 0 (omega (arith, h.long)) ∙ ap (big_bytes 2) h.kind) at2) (four 4 (omega (arith, h.long)) ∙ ap (big_bytes 4) h.cookie))

  -- ---- XOR-PEER-ADDRESS, then DATA

  abbrev pub parts_of : ℕ → ℕ → Parts
  parts_of n z = record {
    kind = 0x0016;
    tx = part 12 8 d;
    attributes = record { kind = 0x0012; value = part 8 24 d; padding = [] } ∷ record { kind = 0x0013; value = part n 36 d; padding = part z (36 + n) d } ∷ [];
  }

  module _ (is : IsAddressFirst d) (n : ℕ) (n_is : n ≡ big_number 2 (drop 34 d)) where
    abbrev z : ℕ
    z = padding_count n

    size : length d ≡ 36 + (n + z)
    size = omega (arith, is.whole, n_is, ap padded_length n_is)

    first_attribute : part 12 20 d ≡ big_bytes 2 0x0012 ++ big_bytes 2 (length (part 8 24 d)) ++ part 8 24 d
    first_attribute =
        let types : part 4 20 d ≡ big_bytes 4 0x00120008 = four 20 (omega (arith, size)) ∙ ap (big_bytes 4) is.address in
        part_more 4 8 20 d ∙ ap (λ (l : List ℕ). l ++ part 8 24 d) (types ∙ ap (λ (m : ℕ). big_bytes 2 0x0012 ++ big_bytes 2 m) (sym (long 8 24 (omega (arith, size)))))

    second_attribute : part 4 32 d ≡ big_bytes 2 0x0013 ++ big_bytes 2 (length (part n 36 d))
    second_attribute =
        part_more 2 2 32 d ∙ ap₂ (λ (a b : List ℕ). a ++ b) (two 32 (omega (arith, size)) ∙ ap (big_bytes 2) is.data_kind) (two 34 (omega (arith, size)) ∙ ap (big_bytes 2) (sym n_is ∙ sym (long n 36 (omega (arith, size)))))

    after : part (12 + (4 + (n + z))) 20 d ≡ part 12 20 d ++ (part 4 32 d ++ (part n 36 d ++ part z (36 + n) d))
    after = part_more 12 (4 + (n + z)) 20 d ∙ ap (λ (l : List ℕ). part 12 20 d ++ l) (part_more 4 (n + z) 32 d ∙ ap (λ (l : List ℕ). part 4 32 d ++ l) (part_more n z 36 d))

    attributes : attributes_bytes (parts_of n z).attributes ≡ part (12 + (4 + (n + z))) 20 d
    attributes = sym (
        after
        ∙ ap₂ (λ (a b : List ℕ). a ++ b) (first_attribute ∙ sym (append-nil _))
        (ap (λ (l : List ℕ). l ++ (part n 36 d ++ part z (36 + n) d)) second_attribute ∙ sym (append_assoc (big_bytes 2 0x0013 ++ big_bytes 2 (length (part n 36 d))) (part n 36 d) (part z (36 + n) d)) ∙ sym (append-nil _))
        )

    count : length (attributes_bytes (parts_of n z).attributes) + 20 ≡ length d
    count = omega (arith, ap length attributes, long (12 + (4 + (n + z))) 20 (omega (arith, size)), size)

    -- it is such a message
    pub spelled : d ≡ parts_bytes (parts_of n z)
    spelled =
        all_of_it (20 + (12 + (4 + (n + z)))) (omega (arith, size)) ∙ part_more 20 (12 + (4 + (n + z))) 0 d
        ∙ ap₂ (λ (a b : List ℕ). a ++ b) (header_is is.header (length (attributes_bytes (parts_of n z).attributes)) count) (sym attributes)

    pub are_parts : AreParts (parts_of n z)
    are_parts = record {
      kind = omega arith;
      tx = long 12 8 (omega (arith, size));
      attributes = (
        record { kind = omega arith; value = omega (arith, long 8 24 (omega (arith, size))); padding = omega (arith, long 8 24 (omega (arith, size))) },
        (
          record {
            kind = omega arith;
            value = omega (arith, long n 36 (omega (arith, size)), size, fit.short);
            padding = long z (36 + n) (omega (arith, size)) ∙ ap padding_count (sym (long n 36 (omega (arith, size))));
          },
          tt,
        ),
      );
      short = omega (arith, count, fit.short);
    }

  -- ---- DATA, then XOR-PEER-ADDRESS

  abbrev pub other_parts_of : ℕ → ℕ → Parts
  other_parts_of n z = record {
    kind = 0x0016;
    tx = part 12 8 d;
    attributes = record { kind = 0x0013; value = part n 24 d; padding = part z (24 + n) d } ∷ record { kind = 0x0012; value = part 8 (28 + n + z) d; padding = [] } ∷ [];
  }

  module _ (is : IsDataFirst d) (n : ℕ) (n_is : n ≡ big_number 2 (drop 22 d)) where
    abbrev y : ℕ
    y = padding_count n

    other_size : length d ≡ 36 + (n + y)
    other_size = omega (arith, is.whole, n_is, ap padded_length n_is)

    data_attribute : part 4 20 d ≡ big_bytes 2 0x0013 ++ big_bytes 2 (length (part n 24 d))
    data_attribute =
        part_more 2 2 20 d ∙ ap₂ (λ (a b : List ℕ). a ++ b) (two 20 (omega (arith, other_size)) ∙ ap (big_bytes 2) is.data_kind) (two 22 (omega (arith, other_size)) ∙ ap (big_bytes 2) (sym n_is ∙ sym (long n 24 (omega (arith, other_size)))))

    address_attribute : part 12 (24 + n + y) d ≡ big_bytes 2 0x0012 ++ big_bytes 2 (length (part 8 (28 + n + y) d)) ++ part 8 (28 + n + y) d
    address_attribute =
        let place : 24 + n + y ≡ padded_length (big_number 2 (drop 22 d)) + 24 = omega (arith, n_is, ap padded_length n_is) in
        let value_place : 24 + n + y + 4 ≡ 28 + n + y = omega arith in
        let types : part 4 (24 + n + y) d ≡ big_bytes 4 0x00120008 = four (24 + n + y) (omega (arith, other_size)) ∙ ap (λ (k : ℕ). big_bytes 4 (big_number 4 (drop k d))) place ∙ ap (big_bytes 4) is.address in
        part_more 4 8 (24 + n + y) d
        ∙ ap₂ (λ (a b : List ℕ). a ++ b) (types ∙ ap (λ (m : ℕ). big_bytes 2 0x0012 ++ big_bytes 2 m) (sym (long 8 (28 + n + y) (omega (arith, other_size))))) (ap (λ (k : ℕ). part 8 k d) value_place)

    other_attributes : attributes_bytes (other_parts_of n y).attributes ≡ part (4 + (n + (y + 12))) 20 d
    other_attributes = sym (
        part_more 4 (n + (y + 12)) 20 d
        ∙ ap₂ (λ (a b : List ℕ). a ++ b) data_attribute (part_more n (y + 12) 24 d ∙ ap (λ (l : List ℕ). part n 24 d ++ l) (part_more y 12 (24 + n) d ∙ ap (λ (l : List ℕ). part y (24 + n) d ++ l) (address_attribute ∙ sym (append-nil _) ∙ sym (append-nil _))))
        ∙ sym (append_assoc (big_bytes 2 0x0013 ++ big_bytes 2 (length (part n 24 d))) (part n 24 d) _)
        ∙ sym (append_assoc (big_bytes 2 0x0013 ++ big_bytes 2 (length (part n 24 d)) ++ part n 24 d) (part y (24 + n) d) _)
        )

    other_count : length (attributes_bytes (other_parts_of n y).attributes) + 20 ≡ length d
    other_count = omega (arith, ap length other_attributes, long (4 + (n + (y + 12))) 20 (omega (arith, other_size)), other_size)

    pub other_spelled : d ≡ parts_bytes (other_parts_of n y)
    other_spelled =
        all_of_it (20 + (4 + (n + (y + 12)))) (omega (arith, other_size)) ∙ part_more 20 (4 + (n + (y + 12))) 0 d
        ∙ ap₂ (λ (a b : List ℕ). a ++ b) (header_is is.header (length (attributes_bytes (other_parts_of n y).attributes)) other_count) (sym other_attributes)

    pub other_are_parts : AreParts (other_parts_of n y)
    other_are_parts = record {
      kind = omega arith;
      tx = long 12 8 (omega (arith, other_size));
      attributes = (
        record {
          kind = omega arith;
          value = omega (arith, long n 24 (omega (arith, other_size)), other_size, fit.short);
          padding = long y (24 + n) (omega (arith, other_size)) ∙ ap padding_count (sym (long n 24 (omega (arith, other_size))));
        },
        (record { kind = omega arith; value = omega (arith, long 8 (28 + n + y) (omega (arith, other_size))); padding = omega (arith, long 8 (28 + n + y) (omega (arith, other_size))) }, tt),
      );
      short = omega (arith, other_count, fit.short);
    }

-- ---- and back

module _ (d tx v x pad : List ℕ) (id : length tx ≡ 12) (eight : length v ≡ 8) (padding : length pad ≡ padding_count (length x)) (short : length d ≤ 65507) where
  abbrev pub address_attribute_of : PaddedAttribute
  address_attribute_of = record { kind = 0x0012; value = v; padding = [] }

  abbrev pub data_attribute_of : PaddedAttribute
  data_attribute_of = record { kind = 0x0013; value = x; padding = pad }

  module _ (attributes : List PaddedAttribute) (is : d ≡ parts_bytes (record { kind = 0x0016; tx = tx; attributes = attributes })) where
    abbrev after_the_header : List ℕ
    after_the_header = attributes_bytes attributes

    size_is : length d ≡ 20 + length after_the_header
    size_is = ap length is ∙ omega (arith, length-append tx after_the_header, id)

    header_back : 16 ≤ length after_the_header → IsSendHeader d
    header_back le = record {
      long = omega (arith, size_is, le);
      kind = ap (big_number 2) is;
      cookie = ap (λ (l : List ℕ). big_number 4 (drop 4 l)) is;
      size = let field = ap (λ (l : List ℕ). big_number 2 (drop 2 l)) is in omega (arith, field, size_is, short);
    }

    from_attributes : drop 20 d ≡ after_the_header
    from_attributes = ap (drop 20) is ∙ drop_at tx after_the_header 12 id

  -- what is after the first attribute, and the sizes
  abbrev data_bytes : List ℕ
  data_bytes = attributes_bytes (data_attribute_of ∷ [])

  abbrev address_bytes : List ℕ
  address_bytes = attributes_bytes (address_attribute_of ∷ [])

  data_long : length data_bytes ≡ 4 + (length x + length pad)
  data_long = omega (arith, length-append (x ++ pad) [], length-append x pad)

  address_long : length address_bytes ≡ 12
  address_long = omega (arith, length-append (v ++ []) [], length-append v [], eight)

  pub address_first_back : d ≡ parts_bytes (record { kind = 0x0016; tx = tx; attributes = address_attribute_of ∷ data_attribute_of ∷ [] }) → IsAddressFirst d
  address_first_back is =
      let attributes : List PaddedAttribute = address_attribute_of ∷ data_attribute_of ∷ [] in
      let all : List ℕ = attributes_bytes attributes in
      let value_long : length (v ++ []) ≡ 8 = omega (arith, length-append v [], eight) in
      let size : length all ≡ 16 + (length x + length pad) = omega (arith, length-append (v ++ []) data_bytes, value_long, data_long) in
      let from : drop 20 d ≡ all = from_attributes attributes is in
      let after : drop 32 d ≡ data_bytes = sym (drop-drop 12 20 d) ∙ ap (drop 12) from ∙ drop_at (v ++ []) data_bytes 8 value_long in
      let total : length d ≡ 20 + length all = size_is attributes is in
      let n : big_number 2 (drop 34 d) ≡ length x = ap (big_number 2) (sym (drop-drop 2 32 d) ∙ ap (drop 2) after) ∙ small (length x) (omega (arith, total, size, short)) in
      record {
        header = header_back attributes is (omega (arith, size));
        address = ap (big_number 4) from ∙ omega (arith, eight);
        data_kind = ap (big_number 2) after;
        whole = omega (arith, n, ap padding_count n, total, size, padding);
      }
    where
      small : (n : ℕ) → n < 65536 → big_number 2 (big_bytes 2 n) ≡ n
      small n lt = omega arith

  pub data_first_back : d ≡ parts_bytes (record { kind = 0x0016; tx = tx; attributes = data_attribute_of ∷ address_attribute_of ∷ [] }) → IsDataFirst d
  data_first_back is =
      let attributes : List PaddedAttribute = data_attribute_of ∷ address_attribute_of ∷ [] in
      let all : List ℕ = attributes_bytes attributes in
      let value_long : length (x ++ pad) ≡ length x + length pad = length-append x pad in
      let size : length all ≡ 16 + (length x + length pad) = omega (arith, length-append (x ++ pad) address_bytes, value_long, address_long) in
      let from : drop 20 d ≡ all = from_attributes attributes is in
      let total : length d ≡ 20 + length all = size_is attributes is in
      let n : big_number 2 (drop 22 d) ≡ length x = ap (big_number 2) (sym (drop-drop 2 20 d) ∙ ap (drop 2) from) ∙ small (length x) (omega (arith, total, size, short)) in
      let place : padded_length (big_number 2 (drop 22 d)) + 24 ≡ 24 + (length x + length pad) = omega (arith, n, ap padding_count n, padding) in
      let after : drop (24 + (length x + length pad)) d ≡ address_bytes =
      sym (drop-drop (length x + length pad) 24 d) ∙ ap (drop (length x + length pad)) (sym (drop-drop 4 20 d) ∙ ap (drop 4) from) ∙ drop_at (x ++ pad) address_bytes (length x + length pad) value_long in
      record {
        header = header_back attributes is (omega (arith, size));
        data_kind = ap (big_number 2) from;
        whole = omega (arith, n, ap padding_count n, total, size, padding);
        address = ap (big_number 4) (ap (λ (k : ℕ). drop k d) place ∙ after) ∙ omega (arith, eight);
      }
    where
      small : (n : ℕ) → n < 65536 → big_number 2 (big_bytes 2 n) ≡ n
      small n lt = omega arith
