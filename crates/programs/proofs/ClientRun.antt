-- The run of the program of the client's side, and its end.
use Rattle.std.proofs.Common.{◌≡◌, ◌≢◌, ℕ, ◌+◌, ◌^◌, ◌≤◌, ◌<◌, ◌⊎◌, inl, inr, List, [], ◌∷◌, ◌++◌, map, length, take, drop, Option, Some, None, refl, ap, ap₂, sym, ◌∙◌, arith, Bool, true, false, true≢false}
use Rattle.std.specs.Prelude.{slice_index, IfSome, nat_eq, ◌||◌, ◌&&◌, ◌==◌, pos, if◌then◌else◌, bit_xor}
use Rattle.std.proofs.lemmas.Bool.Decides.{nat_tests}
use Rattle.std.proofs.lemmas.List.{take_all, length-take, length-drop, drop-take, drop-drop, get_or-take, get_or-drop}
use Rattle.std.proofs.lemmas.List.Elements.{All-take, All-drop}
use Rattle.std.proofs.lemmas.Nat.{xor_lt}
use Rattle.insn.specs.Endian.{big_number, big_bytes, little_number, little_bytes}
use Rattle.insn.specs.Numbers.{big_from-take}
use Rattle.insn.specs.Words.{alu, unary}
use Rattle.insn.specs.declared.operator.AluOp.TheVariants.{Add, Rsh, Lsh, Xor}
use Rattle.insn.specs.declared.width.Width.TheVariants.{W64}
use Rattle.insn.specs.declared.operator.UnaryOp.TheVariants.{Swap}
use Rattle.insn.specs.declared.operator.SwapOp.TheVariants.{ToBig}
use Rattle.insn.specs.declared.size.SwapSize.TheVariants as swap
use Rattle.stun.specs.Datagrams.{channel_in}
use Rattle.stun.specs.Registry.{magic_cookie}
use Rattle.addresses.specs.Addresses.{HasWidth, IsIpv4Address}
use Rattle.attributes.specs.Addresses.{address_in, port_in, xor_bytes, cookie_half}
use Rattle.addresses.specs.declared.address.Addr.{Addr}
use Rattle.addresses.specs.declared.address.Addr.TheVariants.{V4}
use Rattle.programs.proofs.ClientEnds.{AnswersClient, IsClientEnd, narrow_answer, wide_answer, sent_to, of_send}
use Rattle.programs.proofs.PeerEnds.{test_number}
use Rattle.semantics.specs.Records.{address_record, wide_record, address_of}
use Rattle.semantics.specs.Access.{part, overlay, cells_bytes, with_bytes}
use Rattle.semantics.specs.Calls.{is_valid, widened}
use Rattle.semantics.specs.laws.Access.{length-put}
use Rattle.semantics.specs.laws.Call.{cells_read_back}
use Rattle.semantics.specs.declared.helper.RecordForm.{RecordForm}
use Rattle.semantics.specs.declared.helper.RecordForm.TheVariants.{Narrow, Wide}
use Rattle.semantics.specs.laws.Context.{length_field}
use Rattle.semantics.specs.declared.stack.StackMemory.{StackMemory}
use Rattle.semantics.specs.Machine.{AreBytes, AddressRecord, State, Environment, start, datagram_area, empty_cells, empty_stack}
use Rattle.semantics.specs.Runs.{IsDatagram}
use Rattle.semantics.specs.laws.Start.{part_datagram, length-empty_cells}
use Rattle.semantics.specs.laws.Swap.{swapped_word}
use Rattle.semantics.specs.declared.value.Value.TheVariants.{Nothing, Scalar, Ctx, Stack, Data, End}
use Rattle.programs.specs.Client.{client_program}
use Rattle.basics.specs.Options.{◌>>=◌, guard}
use Rattle.programs.specs.PlainSends.{padded_length, IsSendHeader, IsAddressFirst, IsDataFirst}
use Rattle.rules.specs.Rules.{channel_data}
use Rattle.programs.proofs.ChannelMessages.{message_of, no_header, no_data, has_message, IsFound, found_narrow, found_wide, not_found, wide_back}
use Rattle.programs.proofs.LoadedValues.{some_is, part_place, byte_in, half_in, half_small, record_is, IsHalf, half_at, IsWord, word_at, half_is_big, big_is_half, word_is_big, big_is_word, pieces_are, big_below, byte_from}
use Rattle.programs.proofs.PeerRun.{is_allowed, not_allowed}
use Rattle.programs.proofs.PeerWindows.{port_bytes, ip_bytes_are, padded_is, length-masked}
use Rattle.programs.proofs.Preconditions.{precondition, ExitsMeet, precondition_is_sound}

-- ---- the answers of helpers, and the end

-- cut where a part of the program starts
abbrev pub is_cut : ℕ → Bool
is_cut slot = nat_eq slot 28 || nat_eq slot 44 || nat_eq slot 70 || nat_eq slot 89 || nat_eq slot 107

-- ---- the value of XOR-PEER-ADDRESS

same_eq : (a b : ℕ) → a ≡ b → nat_eq a b ≡ true
same_eq a b e = grind (arith, nat_tests)

other_eq : (a b : ℕ) → a ≢ b → nat_eq a b ≡ false
other_eq a b e = grind (arith, nat_tests)

first_of : {X : Type 0} (a b : Bool) (x : X) (o : Option X) → a ≡ true → b ≡ true → (if a && b then Some x else o) ≡ Some x
first_of true true x o p q = refl
first_of true false x o p q = absurd cc
first_of false b x o p q = absurd cc

none_of : {X : Type 0} (a b a' b' : Bool) (x y : X) → b ≡ false → a' ≡ false → (if a && b then Some x else if a' && b' then Some y else None) ≡ None
none_of true true a' b' x y p q = absurd cc
none_of true false true b' x y p q = absurd cc
none_of true false false b' x y p q = refl
none_of false b true b' x y p q = absurd cc
none_of false b false b' x y p q = refl

malformed : (tx value : List ℕ) → length value ≡ 8 → slice_index value 1 ≢ 1 → address_in tx value ≡ None
malformed tx value size e = none_of (nat_eq (length value) 8) (nat_eq (slice_index value 1) 1) (nat_eq (length value) 20) (nat_eq (slice_index value 1) 2) _ _ (other_eq _ _ e) (other_eq _ _ (λ bad. omega (arith, size, bad)))

abbrev address_of_value : List ℕ → Addr
address_of_value value = V4 (xor_bytes 4 (drop 4 value) magic_cookie) (port_in value)

wellformed : (tx value : List ℕ) → length value ≡ 8 → slice_index value 1 ≡ 1 → address_in tx value ≡ Some (address_of_value value)
wellformed tx value size e = first_of (nat_eq (length value) 8) (nat_eq (slice_index value 1) 1) _ _ (same_eq _ _ size) (same_eq _ _ e)

masked_fits : (ip : List ℕ) (i : ℕ) → slice_index (xor_bytes 4 ip magic_cookie) i < 256
unfolding xor_bytes
masked_fits ip i = big_below (bit_xor (big_number 4 ip) magic_cookie) i

-- where the value is in a datagram
module _ (d : List ℕ) (fit : IsDatagram d) (k : ℕ) (inside : k + 8 ≤ length d) where
  abbrev value : List ℕ
  value = part 8 k d

  long_value : length value ≡ 8
  long_value = omega (arith, length-take 8 (drop k d), length-drop k d, inside)

  family_at : slice_index value 1 ≡ slice_index d (k + 1)
  family_at = get_or-take 8 (drop k d) 1 0 (omega arith) ∙ get_or-drop k d 1 0

  port_at : big_number 2 (drop 2 value) ≡ big_number 2 (drop (k + 2) d)
  port_at = ap (big_number 2) (drop-take 2 6 (drop k d)) ∙ big_from-take 0 2 6 (drop 2 (drop k d)) (omega arith) ∙ ap (big_number 2) (drop-drop 2 k d)

  ip_at : drop 4 value ≡ part 4 (k + 4) d
  ip_at = drop-take 4 4 (drop k d) ∙ ap (take 4) (drop-drop 4 k d)

  ip_fits : AreBytes 4 (part 4 (k + 4) d)
  ip_fits = record {
    count = omega (arith, length-take 4 (drop (k + 4) d), length-drop (k + 4) d, inside);
    fit = All-take (λ b. b < 256) 4 (drop (k + 4) d) (All-drop (λ b. b < 256) (k + 4) d fit.bytes_fit);
  }

  port_small : big_number 2 (drop (k + 2) d) < 65536
  port_small = half_small (k + 2) d fit

  fits : HasWidth 4 (xor_bytes 4 (drop 4 value) magic_cookie) (port_in value)
  fits = record {
    long = length-masked (drop 4 value);
    bytes = masked_fits (drop 4 value);
    small = xor_lt 16 (big_number 2 (drop 2 value)) cookie_half (omega (arith, port_at, port_small)) (omega arith);
  }

  -- the pieces that are stored are the record of the address
  pieces : (b1 b2 b3 : List ℕ) (v v1 v2 v3 u u1 u2 u3 : ℕ) → b1 ≡ 0 ∷ 1 ∷ []
      → v ≡ little_number 2 (part 2 (k + 2 + 64) (datagram_area d)) → v1 ≡ unary (Swap ToBig swap.Half) v → v2 ≡ alu Xor W64 v1 8466 → v3 ≡ unary (Swap ToBig swap.Half) v2 → b2 ≡ little_bytes 2 v3
      → u ≡ little_number 4 (part 4 (k + 4 + 64) (datagram_area d)) → u1 ≡ unary (Swap ToBig swap.Word) u → u2 ≡ alu Xor W64 u1 554869826 → u3 ≡ unary (Swap ToBig swap.Word) u2 → b3 ≡ little_bytes 4 u3
      → b1 ++ b2 ++ b3 ≡ address_record (address_of_value value)
  pieces b1 b2 b3 v v1 v2 v3 u u1 u2 u3 is1 is_v is_v1 is_v2 is_v3 is2 is_u is_u1 is_u2 is_u3 is3 =
      let turned : k + 2 + 64 ≡ 64 + (k + 2) = omega arith in
      let turned' : k + 4 + 64 ≡ 64 + (k + 4) = omega arith in
      let v1_is : v1 ≡ big_number 2 (drop 2 value) = half_in (k + 2) v v1 d fit (omega (arith, inside)) (is_v ∙ ap (λ (i : ℕ). little_number 2 (part 2 i (datagram_area d))) turned) is_v1 ∙ sym port_at in
      let b2_is : b2 ≡ big_bytes 2 (port_in value) = port_bytes (big_number 2 (drop 2 value)) v1 v2 v3 b2 (omega (arith, port_at, port_small)) v1_is is_v2 is_v3 is2 in
      let u1_is : u1 ≡ big_number 4 (part 4 (k + 4) d) = swapped_word (part 4 (k + 4) d) u u1 ip_fits (is_u ∙ ap (little_number 4) (part_place 4 (k + 4 + 64) (k + 4) d turned' (omega (arith, inside)))) is_u1 in
      let b3_is : b3 ≡ xor_bytes 4 (drop 4 value) magic_cookie = ip_bytes_are (part 4 (k + 4) d) ip_fits u1 u2 u3 b3 u1_is is_u2 is_u3 is3 ∙ ap (λ (l : List ℕ). xor_bytes 4 l magic_cookie) (sym ip_at) in
      λ i. is1 i ++ b2_is i ++ b3_is i

module _ (w : Environment) (d : List ℕ) (peer : ℕ → Option Addr) (permitted : Addr → Bool) (answers : AnswersClient w.answer peer permitted) (tx : List ℕ) (side : w.context.side ≡ 0) (fit : IsDatagram d) where
  abbrev pub IsEnd : ℕ → State → Type 0
  IsEnd v s = IsClientEnd peer permitted tx d v s

  wrong : (v : ℕ) (s : State) → ⊥ → IsEnd v s
  wrong v s bad = absurd bad

  -- ---- sending

  abbrev at_send : StackMemory → ℕ → ℕ → ℕ → ℕ → State
  at_send stack v f n total = record (start d) {
    slot = 107;
    registers = Scalar v ∷ Nothing ∷ Nothing ∷ Nothing ∷ Nothing ∷ Nothing ∷ Ctx ∷ Scalar f ∷ Scalar n ∷ Scalar total ∷ Stack (pos 0) ∷ [];
    memory = record { stack = stack; bytes = datagram_area d; length = length d };
  }

  send_exits_meet : (stack : StackMemory) (v f n total k : ℕ) (bytes : AddressRecord) → ((found : List ℕ) → cells_bytes (part 8 504 stack.cells) ≡ Some found → widened Narrow found ≡ bytes) → is_valid Narrow bytes ≡ true → f ≡ 64 + k → k + n ≤ length d
      → ((s : State) → sent_to 2 s ≡ Some (address_of bytes, part n k d) → IsEnd 2 s) → ExitsMeet w client_program is_cut IsEnd (at_send stack v f n total)
  send_exits_meet stack v f n total k bytes holds valid at inside ends = precondition_is_sound w client_program is_cut IsEnd 12 (at_send stack v f n total) (
    λ room. λ taken is_taken. let same : widened Narrow taken ≡ bytes = holds taken is_taken in (
      λ ok. ends _ (ap₂ (λ (a : AddressRecord) (l : List ℕ). Some (address_of a, l)) same (part_place n f k d at inside)),
      λ bad. wrong 2 _ (not_bad (widened Narrow taken) (ap (is_valid Narrow) same ∙ valid) bad),
    ),
    λ no_room. λ taken is_taken. (λ ok. wrong 2 _ (too_wide no_room), λ bad. wrong 2 _ (too_wide no_room)),
  )
    where
      not_bad : (bytes : AddressRecord) → is_valid Narrow bytes ≡ true → (w.context.side ≢ 0) ⊎ (is_valid Narrow bytes ≡ false) → ⊥
      not_bad bytes e (inl f) = f side
      not_bad bytes e (inr f) = true≢false (sym e ∙ f)

      too_wide : ((64 + length d + 3 < f + n) ⊎ (65507 < n)) → ⊥
      too_wide (inl lt) = omega (arith, at, inside, lt)
      too_wide (inr lt) = omega (arith, inside, lt, fit.short)

  -- ---- an address

  abbrev at_address : ℕ → ℕ → ℕ → ℕ → ℕ → ℕ → State
  at_address k x y f n total = record (start d) {
    slot = 89;
    registers = Scalar 0 ∷ Ctx ∷ Data (pos k) ∷ End ∷ Scalar x ∷ Scalar y ∷ Ctx ∷ Scalar f ∷ Scalar n ∷ Scalar total ∷ Stack (pos 0) ∷ [];
  }

  address_precondition : (k x y f n total at : ℕ) → k + 8 ≤ length d → f ≡ 64 + at → at + n ≤ length d
      → ((v : ℕ) (s : State) → v ≢ 1 → sent_to v s ≡ of_send permitted tx (part 8 k d) (part n at d) → IsEnd v s) → precondition w client_program is_cut IsEnd 20 (at_address k x y f n total)
  address_precondition k x y f n total at inside front whole ends = λ in0 family is_family. (
    λ other. ends 0 _ (λ one. omega (arith, one)) (sym (ap (λ (o : Option Addr). o >>= λ to. guard (permitted to) >>= λ _. Some (to, part n at d)) (malformed tx (part 8 k d) size (λ e. other (omega (arith, family_is family is_family, e, same_family)))))),
    λ ipv4. let is_ipv4 : slice_index (part 8 k d) 1 ≡ 1 = omega (arith, ipv4, family_is family is_family, same_family, family_small) in
        λ b1 is_b1. λ in2 v is_v. λ v1 is_v1. λ v2 is_v2. λ v3 is_v3. λ b2 is_b2. λ in4 u is_u. λ u1 is_u1. λ u2 is_u2. λ u3 is_u3. λ b3 is_b3.
        let whole_record : b1 ++ b2 ++ b3 ≡ address_record (address_of_value (part 8 k d)) = pieces d fit k inside b1 b2 b3 v v1 v2 v3 u u1 u2 u3 is_b1 is_v is_v1 is_v2 is_v3 is_b2 is_u is_u1 is_u2 is_u3 is_b3 in
        let holds : (found : List ℕ) → cells_bytes (part 8 504 (overlay 508 (map Some b3) (overlay 506 (map Some b2) (overlay 504 (map Some b1) empty_cells)))) ≡ Some found → widened Narrow found ≡ widened Narrow (address_record (address_of_value (part 8 k d))) =
        λ found e. ap (widened Narrow) (pieces_are b1 b2 b3 found (ap length is_b1) (ap length is_b2) (ap length is_b3) e ∙ whole_record) in
        λ rec is_rec. λ ok bytes is_ok is_bytes.
        let ok_is : ok ≡ test_number (permitted (address_of_value (part 8 k d))) = is_ok ∙ ap (λ (r : List ℕ). (w.answer 3 0 r).0) (holds rec is_rec) ∙ answers.permissions _ _ (fits d fit k inside) in (
          λ zero. let no = not_allowed (permitted (address_of_value (part 8 k d))) ok ok_is zero in denied_ends ok _ no.1 is_ipv4 no.0,
          λ some. let allows = is_allowed (permitted (address_of_value (part 8 k d))) ok ok_is some in
              send_exits_meet (with_bytes (with_bytes (with_bytes empty_stack 504 b1) 506 b2) 508 b3) ok f n total at (widened Narrow (address_record (address_of_value (part 8 k d)))) holds refl front whole
              (λ s e. ends 2 s (λ one. omega (arith, one)) (e ∙ relayed is_ipv4 allows)),
        ),
  )
    where
      size : length (part 8 k d) ≡ 8
      size = long_value d fit k inside

      same_family : slice_index (part 8 k d) 1 ≡ slice_index d (k + 1)
      same_family = family_at d fit k inside

      family_small : slice_index d (k + 1) < 256
      family_small = fit.bytes_fit (k + 1) 0 (omega (arith, inside))

      family_is : (v : ℕ) → v ≡ little_number 1 (part 1 (k + 1 + 64) (datagram_area d)) → v ≡ slice_index d (k + 1)
      family_is v e = let turned : k + 1 + 64 ≡ 64 + (k + 1) = omega arith in byte_in (k + 1) v d (omega (arith, inside)) (e ∙ ap (λ (i : ℕ). little_number 1 (part 1 i (datagram_area d))) turned)

      refused : (v : ℕ) (s : State) → v ≡ 0 → slice_index (part 8 k d) 1 ≡ 1 → permitted (address_of_value (part 8 k d)) ≡ false → sent_to v s ≡ of_send permitted tx (part 8 k d) (part n at d)
      refused v s e is_ipv4 denied = rw (e, wellformed tx (part 8 k d) size is_ipv4, denied) refl

      denied_ends : (v : ℕ) (s : State) → v ≡ 0 → slice_index (part 8 k d) 1 ≡ 1 → permitted (address_of_value (part 8 k d)) ≡ false → IsEnd v s
      denied_ends v s e is_ipv4 denied = ends v s (λ one. omega (arith, e, one)) (refused v s e is_ipv4 denied)

      relayed : slice_index (part 8 k d) 1 ≡ 1 → permitted (address_of_value (part 8 k d)) ≡ true → Some (address_of (wide_record (address_of_value (part 8 k d))), part n at d) ≡ of_send permitted tx (part 8 k d) (part n at d)
      relayed is_ipv4 allows =
          rw (wellformed tx (part 8 k d) size is_ipv4, allows) (ap (λ (a : Addr). Some (a, part n at d)) (wide_back _ (port_in (part 8 k d)) (fits d fit k inside)))

  -- ---- ends

  first_byte : big_number 2 d ≡ 0x0016 → 2 ≤ length d → slice_index d 0 ≡ 0
  first_byte e le =
      let first : slice_index d 0 < 256 = fit.bytes_fit 0 0 (omega (arith, le)) in
      let second : slice_index d 1 < 256 = fit.bytes_fit 1 0 (omega (arith, le)) in
      omega (arith, e, first, second)

  header_byte : IsSendHeader d → slice_index d 0 ≡ 0
  header_byte h = first_byte h.kind (omega (arith, h.long))

  -- what isn't of the bits 00 is no Send
  no_send : (v : ℕ) (s : State) → (1 ≤ slice_index d 0) ⊎ (length d < 36) → ((1 ≤ length d → 64 ≤ slice_index d 0 → slice_index d 0 < 128 → (v ≢ 1) × (sent_to v s ≡ channel_data peer d))) → (1 ≤ length d → slice_index d 0 < 64 → ⊥) → ((length d ≡ 0) ⊎ (128 ≤ slice_index d 0) → v ≡ 0) → IsEnd v s
  no_send v s unlike channel low other = record {
    channel = channel;
    address_first = λ is. absurd (neither is.header unlike);
    data_first = λ is. absurd (neither is.header unlike);
    passed = λ some zeros first second. absurd (low some zeros);
    other = other;
  }
    where
      neither : IsSendHeader d → (1 ≤ slice_index d 0) ⊎ (length d < 36) → ⊥
      neither h (inl le) = omega (arith, header_byte h, le)
      neither h (inr lt) = omega (arith, h.long, lt)

  unchanged : part (length d) 64 (datagram_area d) ≡ d
  unchanged = part_datagram (length d) 0 d (omega arith) ∙ take_all (length d) d (omega arith)

  pass : (s : State) → 1 ≤ length d → slice_index d 0 < 64 → (IsAddressFirst d → ⊥) → (IsDataFirst d → ⊥) → part (length d) 64 s.memory.bytes ≡ d → IsEnd 1 s
  pass s some low first second same = record {
    channel = λ p from to. absurd (omega (arith, low, from));
    address_first = λ is. absurd (first is);
    data_first = λ is. absurd (second is);
    passed = λ p q r t. (refl, same);
    other = λ o. absurd (neither o);
  }
    where
      neither : (length d ≡ 0) ⊎ (128 ≤ slice_index d 0) → ⊥
      neither (inl e) = omega (arith, e, some)
      neither (inr le) = omega (arith, le, low)

  both_orders : IsAddressFirst d → IsDataFirst d → ⊥
  both_orders a b =
      let long : 36 ≤ length d = a.header.long in
      let b0 : slice_index (drop 20 d) 0 < 256 = byte_from d fit 20 0 in
      let b1 : slice_index (drop 20 d) 1 < 256 = byte_from d fit 20 1 in
      let b2 : slice_index (drop 20 d) 2 < 256 = byte_from d fit 20 2 in
      let b3 : slice_index (drop 20 d) 3 < 256 = byte_from d fit 20 3 in
      omega (arith, a.address, b.data_kind, b0, b1, b2, b3)

  -- an end of a Send of either order
  address_end : IsAddressFirst d → (v : ℕ) (s : State) → v ≢ 1 → sent_to v s ≡ of_send permitted tx (part 8 24 d) (part (big_number 2 (drop 34 d)) 36 d) → IsEnd v s
  address_end is v s alone same = record {
    channel = λ p from to. absurd (omega (arith, header_byte is.header, from));
    address_first = λ x. (alone, same);
    data_first = λ x. absurd (both_orders is x);
    passed = λ p q r t. absurd (r is);
    other = λ o. absurd (neither o);
  }
    where
      neither : (length d ≡ 0) ⊎ (128 ≤ slice_index d 0) → ⊥
      neither (inl e) = omega (arith, e, is.header.long)
      neither (inr le) = omega (arith, le, header_byte is.header)

  data_end : IsDataFirst d → (v : ℕ) (s : State) → v ≢ 1 → sent_to v s ≡ of_send permitted tx (part 8 (padded_length (big_number 2 (drop 22 d)) + 28) d) (part (big_number 2 (drop 22 d)) 24 d) → IsEnd v s
  data_end is v s alone same = record {
    channel = λ p from to. absurd (omega (arith, header_byte is.header, from));
    address_first = λ x. absurd (both_orders x is);
    data_first = λ x. (alone, same);
    passed = λ p q r t. absurd (t is);
    other = λ o. absurd (neither o);
  }
    where
      neither : (length d ≡ 0) ⊎ (128 ≤ slice_index d 0) → ⊥
      neither (inl e) = omega (arith, e, is.header.long)
      neither (inr le) = omega (arith, le, header_byte is.header)

  -- ---- DATA first

  abbrev at_data : ℕ → ℕ → State
  at_data x total = record (start d) {
    slot = 70;
    registers = Scalar 0 ∷ Ctx ∷ Data (pos 0) ∷ End ∷ Data (pos 36) ∷ Scalar x ∷ Ctx ∷ Nothing ∷ Nothing ∷ Scalar total ∷ Stack (pos 0) ∷ [];
  }

  data_precondition : (x total : ℕ) → IsSendHeader d → slice_index d 0 < 64 → (IsAddressFirst d → ⊥) → total ≡ length d → precondition w client_program is_cut IsEnd 20 (at_data x total)
  data_precondition x total header low not_first total_is = λ in0 y is_y.
      let kind_half : IsHalf 20 y d = half_at 84 20 y d fit refl (omega (arith, long)) is_y in (
        λ other. not_data _ refl (λ is. other (omega (arith, big_is_half 20 y d 0 0x13 kind_half (omega arith) (omega arith) is.data_kind))),
        λ kind. λ in1 g is_g. λ n is_n. let n_is : n ≡ big_number 2 (drop 22 d) = half_in 22 g n d fit (omega (arith, long)) is_g is_n in
            let n_small : n < 65536 = omega (arith, n_is, half_small 22 d fit) in
            λ a is_a. λ b is_b. λ p is_p. let p_is : p ≡ padded_length n = padded_so n a b p n_small is_a is_b is_p in
            let p_small : p ≤ 65538 = omega (arith, p_is, n_small) in
            let p_of : p ≡ padded_length (big_number 2 (drop 22 d)) = p_is ∙ ap padded_length n_is in
            λ t is_t. let t_is : t ≡ p + 36 = omega (arith, is_t, p_small) in (
              λ other. not_data _ refl (λ is. other (omega (arith, t_is, total_is, is.whole, p_of))),
              λ fits_so. let all : p + 36 ≡ length d = omega (arith, fits_so, t_is, total_is, p_small, fit.short) in (
                omega (arith, p_small),
                λ q is_q. let q_is : q ≡ p = omega (arith, is_q) in (
                  λ beyond. wrong 1 _ (omega (arith, beyond, q_is, all)),
                  λ within. λ in2 z is_z. let word : IsWord (q + 24) z d = word_at (q + 24 + 64) (q + 24) z d fit (omega arith) (omega (arith, q_is, all)) is_z in
                      let z_small : z < 2 ^ 32 = omega (arith, word.b0, word.b1, word.b2, word.b3, word.is) in
                      let at_value : q + 28 ≡ padded_length (big_number 2 (drop 22 d)) + 28 = omega (arith, q_is, p_of) in
                      let place : q + 24 ≡ padded_length (big_number 2 (drop 22 d)) + 24 = omega (arith, q_is, p_of) in (
                        λ other. not_data _ refl (λ is. other (omega (arith, big_is_word (q + 24) z d 0 0x12 0 8 word (omega arith) (omega arith) (omega arith) (ap (λ (k : ℕ). big_number 4 (drop k d)) place ∙ is.address)))),
                        λ address. let is : IsDataFirst d = record {
                          header = header;
                          data_kind = half_is_big 20 y d 0 0x13 kind_half (omega arith) (omega arith) (omega (arith, kind, kind_half.low, kind_half.high, kind_half.is));
                          whole = omega (arith, all, p_of);
                          address = ap (λ (k : ℕ). big_number 4 (drop k d)) (sym place) ∙ word_is_big (q + 24) z d 0 0x12 0 8 word (omega arith) (omega arith) (omega arith) (omega (arith, address, z_small));
                        } in precondition_is_sound w client_program is_cut IsEnd 20 (at_address (q + 28) p z 88 n total)
                            (address_precondition (q + 28) p z 88 n total 24 (omega (arith, q_is, all)) refl (omega (arith, all, p_is))
                            (λ v s alone same. data_end is v s alone (same ∙ ap₂ (λ (k m : ℕ). of_send permitted tx (part 8 k d) (part m 24 d)) at_value n_is))),
                      ),
                ),
              ),
            ),
      )
    where
      long : 36 ≤ length d
      long = header.long

      not_data : (s : State) → s.memory.bytes ≡ datagram_area d → (IsDataFirst d → ⊥) → IsEnd 1 s
      not_data s same second = pass s (omega (arith, long)) low not_first second (ap (part (length d) 64) same ∙ unchanged)

      padded_so : (n a b p : ℕ) → n < 65536 → a ≡ alu Add W64 n 3 → b ≡ alu Rsh W64 a 2 → p ≡ alu Lsh W64 b 2 → p ≡ padded_length n
      padded_so n a b p lt e f g = padded_is n a b p (omega (arith, lt)) e f g

  -- ---- the bits 00

  abbrev at_stun : ℕ → ℕ → State
  at_stun b total = record (start d) {
    slot = 44;
    registers = Scalar 0 ∷ Ctx ∷ Data (pos 0) ∷ End ∷ Data (pos 1) ∷ Scalar b ∷ Ctx ∷ Nothing ∷ Nothing ∷ Scalar total ∷ Stack (pos 0) ∷ [];
  }

  stun_precondition : (b total : ℕ) → 1 ≤ length d → slice_index d 0 < 64 → total ≡ length d → precondition w client_program is_cut IsEnd 30 (at_stun b total)
  stun_precondition b total some low total_is = (
    λ short. no_header_at _ refl (λ h. omega (arith, short, h.long)),
    λ long. λ in0 a is_a. let kind_half : IsHalf 0 a d = half_at 64 0 a d fit refl (omega (arith, long)) is_a in (
      λ other. no_header_at _ refl (λ h. other (omega (arith, big_is_half 0 a d 0 0x16 kind_half (omega arith) (omega arith) h.kind))),
      λ kind. λ in1 c is_c. let cookie_word : IsWord 4 c d = word_at 68 4 c d fit refl (omega (arith, long)) is_c in
          let c_small : c < 2 ^ 32 = omega (arith, cookie_word.b0, cookie_word.b1, cookie_word.b2, cookie_word.b3, cookie_word.is) in (
            λ other. no_header_at _ refl (λ h. other (omega (arith, big_is_word 4 c d 0x21 0x12 0xa4 0x42 cookie_word (omega arith) (omega arith) (omega arith) h.cookie))),
            λ cookie. λ in2 e is_e. λ f is_f. let f_is : f ≡ big_number 2 (drop 2 d) = half_in 2 e f d fit (omega (arith, long)) is_e is_f in
                let f_small : f < 65536 = omega (arith, f_is, half_small 2 d fit) in
                λ l is_l. let l_is : l ≡ f + 20 = omega (arith, is_l, f_small) in (
                  λ other. no_header_at _ refl (λ h. other (omega (arith, l_is, f_is, total_is, h.size, f_small, fit.short))),
                  λ size.
                      let header : IsSendHeader d = record {
                        long = long;
                        kind = half_is_big 0 a d 0 0x16 kind_half (omega arith) (omega arith) (omega (arith, kind, kind_half.low, kind_half.high, kind_half.is));
                        cookie = word_is_big 4 c d 0x21 0x12 0xa4 0x42 cookie_word (omega arith) (omega arith) (omega arith) (omega (arith, cookie, c_small));
                        size = omega (arith, size, l_is, f_is, total_is, f_small, fit.short);
                      } in
                      λ in3 x is_x. let address_word : IsWord 20 x d = word_at 84 20 x d fit refl (omega (arith, long)) is_x in
                      let x_small : x < 2 ^ 32 = omega (arith, address_word.b0, address_word.b1, address_word.b2, address_word.b3, address_word.is) in (
                        λ other. precondition_is_sound w client_program is_cut IsEnd 20 (at_data x total)
                            (data_precondition x total header low (λ is. other (omega (arith, big_is_word 20 x d 0 0x12 0 8 address_word (omega arith) (omega arith) (omega arith) is.address))) total_is),
                        λ address. let address_is : big_number 4 (drop 20 d) ≡ 0x00120008 = word_is_big 20 x d 0 0x12 0 8 address_word (omega arith) (omega arith) (omega arith) (omega (arith, address, x_small)) in
                            λ in4 y is_y. let data_half : IsHalf 32 y d = half_at 96 32 y d fit refl (omega (arith, long)) is_y in (
                              λ other. not_address _ refl long address_is (λ is. other (omega (arith, big_is_half 32 y d 0 0x13 data_half (omega arith) (omega arith) is.data_kind))),
                              λ data_kind. λ in5 g is_g. λ n is_n. let n_is : n ≡ big_number 2 (drop 34 d) = half_in 34 g n d fit (omega (arith, long)) is_g is_n in
                                  let n_small : n < 65536 = omega (arith, n_is, half_small 34 d fit) in
                                  λ u is_u. λ v is_v. λ p is_p. let p_is : p ≡ padded_length n = padded_is n u v p (omega (arith, n_small)) is_u is_v is_p in
                                  let p_small : p ≤ 65538 = omega (arith, p_is, n_small) in
                                  let p_of : p ≡ padded_length (big_number 2 (drop 34 d)) = p_is ∙ ap padded_length n_is in
                                  λ t is_t. let t_is : t ≡ p + 36 = omega (arith, is_t, p_small) in (
                                    λ other. not_address _ refl long address_is (λ is. other (omega (arith, t_is, total_is, is.whole, p_of))),
                                    λ fits_so. let all : p + 36 ≡ length d = omega (arith, fits_so, t_is, total_is, p_small, fit.short) in
                                        let is : IsAddressFirst d = record {
                                          header = header;
                                          address = address_is;
                                          data_kind = half_is_big 32 y d 0 0x13 data_half (omega arith) (omega arith) (omega (arith, data_kind, data_half.low, data_half.high, data_half.is));
                                          whole = omega (arith, all, p_of);
                                        } in precondition_is_sound w client_program is_cut IsEnd 20 (at_address 24 t y 100 n total)
                                        (address_precondition 24 t y 100 n total 36 (omega (arith, long)) refl (omega (arith, all, p_is))
                                        (λ verdict s alone same. address_end is verdict s alone (same ∙ ap (λ (m : ℕ). of_send permitted tx (part 8 24 d) (part m 36 d)) n_is))),
                                  ),
                            ),
                      ),
                ),
          ),
    ),
  )
    where
      no_header_at : (s : State) → s.memory.bytes ≡ datagram_area d → (IsSendHeader d → ⊥) → IsEnd 1 s
      no_header_at s same none = pass s some low (λ is. none is.header) (λ is. none is.header) (ap (part (length d) 64) same ∙ unchanged)

      not_second : 36 ≤ length d → big_number 4 (drop 20 d) ≡ 0x00120008 → IsDataFirst d → ⊥
      not_second long address is =
          let b0 : slice_index (drop 20 d) 0 < 256 = byte_from d fit 20 0 in
          let b1 : slice_index (drop 20 d) 1 < 256 = byte_from d fit 20 1 in
          let b2 : slice_index (drop 20 d) 2 < 256 = byte_from d fit 20 2 in
          let b3 : slice_index (drop 20 d) 3 < 256 = byte_from d fit 20 3 in
          omega (arith, address, is.data_kind, b0, b1, b2, b3)

      not_address : (s : State) → s.memory.bytes ≡ datagram_area d → 36 ≤ length d → big_number 4 (drop 20 d) ≡ 0x00120008 → (IsAddressFirst d → ⊥) → IsEnd 1 s
      not_address s same long address none = pass s some low none (not_second long address) (ap (part (length d) 64) same ∙ unchanged)

  -- ---- the whole

  empty : (s : State) → length d < 1 → IsEnd 0 s
  empty s lt = no_send 0 s (inr (omega (arith, lt))) (λ some low high. absurd (omega (arith, lt, some))) (λ some low. omega (arith, lt, some)) (λ o. refl)

  unknown : (s : State) → 128 ≤ slice_index d 0 → IsEnd 0 s
  unknown s high = no_send 0 s (inl (omega (arith, high))) (λ some low lt. absurd (omega (arith, high, lt))) (λ some low. omega (arith, high, low)) (λ o. refl)

  discarded : (v : ℕ) (s : State) → v ≡ 0 → 64 ≤ slice_index d 0 → channel_data peer d ≡ None → IsEnd v s
  discarded v s e low none = no_send v s (inl (omega (arith, low))) (λ p q r. (λ one. omega (arith, e, one), rw e (sym none))) (λ some lt. omega (arith, low, lt)) (λ o. e)

  relays : (s : State) → 1 ≤ length d → 64 ≤ slice_index d 0 → slice_index d 0 < 128 → sent_to 2 s ≡ channel_data peer d → IsEnd 2 s
  relays s some low high same = no_send 2 s (inl (omega (arith, low))) (λ p q r. (λ one. omega (arith, one), same)) (λ p lt. omega (arith, low, lt)) (λ o. absurd (neither o))
    where
      neither : (length d ≡ 0) ⊎ (128 ≤ slice_index d 0) → ⊥
      neither (inl e) = omega (arith, e, some)
      neither (inr le) = omega (arith, le, high)

  no_message : channel_in d ≡ None → channel_data peer d ≡ None
  no_message e = rw e refl

  unbound : channel_in d ≡ Some (message_of d) → peer (big_number 2 d) ≡ None → channel_data peer d ≡ None
  unbound e f = rw (e, f) refl

  bound : (form : RecordForm) (m : ℕ) (bytes : AddressRecord) → channel_in d ≡ Some (message_of d) → IsFound form (peer (big_number 2 d)) bytes
      → m ≡ big_number 2 (drop 2 d) → Some (address_of bytes, part m 4 d) ≡ channel_data peer d
  bound form m bytes e f is = rw (e, f.is) (ap₂ (λ (a : Addr) (l : List ℕ). Some (a, l)) f.back (ap (λ (n : ℕ). part n 4 d) is))

  -- ---- ChannelData to an IPv6 peer

  abbrev at_wide : StackMemory → ℕ → ℕ → ℕ → ℕ → State
  at_wide stack v n m total = record (start d) {
    slot = 28;
    registers = Scalar v ∷ Nothing ∷ Nothing ∷ Nothing ∷ Nothing ∷ Nothing ∷ Ctx ∷ Scalar n ∷ Scalar m ∷ Scalar total ∷ Stack (pos 0) ∷ [];
    memory = record { stack = stack; bytes = datagram_area d; length = length d };
  }

  wide_precondition : (stack : StackMemory) (v0 n m total : ℕ) → length stack.cells ≡ 512 → n ≡ big_number 2 d → m ≡ big_number 2 (drop 2 d) → 1 ≤ length d → 64 ≤ slice_index d 0 → slice_index d 0 < 128
      → channel_in d ≡ Some (message_of d) → 4 + m ≤ length d → precondition w client_program is_cut IsEnd 20 (at_wide stack v0 n m total)
  wide_precondition stack v0 n m total long_stack n_is m_is some low high message inside =
      λ v bytes is_v is_bytes.
      let answer = answers.wide_peers n in
      let v_is : v ≡ (wide_answer (peer (big_number 2 d))).0 = is_v ∙ ap (λ a. a.0) answer ∙ ap (λ (x : ℕ). (wide_answer (peer x)).0) n_is in
      let bytes_are : bytes ≡ (wide_answer (peer (big_number 2 d))).1 = is_bytes ∙ ap (λ a. a.1) answer ∙ ap (λ (x : ℕ). (wide_answer (peer x)).1) n_is in (
        λ zero. let none = not_found (peer (big_number 2 d)) v v_is zero in discarded v _ none.1 low (unbound message none.0),
        λ some_peer. let is = found_wide (peer (big_number 2 d)) v bytes (answers.addresses (big_number 2 d)) v_is bytes_are some_peer in (
          λ room. λ taken is_taken. let same : taken ≡ bytes = read_back taken bytes is.count is_taken in (
            λ ok. relays _ some low high (ap₂ (λ (a : AddressRecord) (l : List ℕ). Some (address_of a, l)) same (part_place m 68 4 d refl inside) ∙ bound Wide m bytes message is m_is),
            λ bad. wrong 2 _ (not_bad taken (ap (is_valid Wide) same ∙ is.valid) bad),
          ),
          λ no_room. λ taken is_taken. (λ ok. wrong 2 _ (too_wide no_room), λ bad. wrong 2 _ (too_wide no_room)),
        ),
      )
    where
      read_back : (taken bytes : List ℕ) → length bytes ≡ 20 → cells_bytes (part 20 488 (overlay 488 (map Some bytes) stack.cells)) ≡ Some taken → taken ≡ bytes
      read_back taken bytes count e = some_is taken bytes (sym e ∙ cells_read_back 20 488 bytes stack.cells count (omega (arith, long_stack)))

      not_bad : (bytes : AddressRecord) → is_valid Wide bytes ≡ true → (w.context.side ≢ 0) ⊎ (is_valid Wide bytes ≡ false) → ⊥
      not_bad bytes e (inl f) = f side
      not_bad bytes e (inr f) = true≢false (sym e ∙ f)

      too_wide : ((64 + length d + 3 < 68 + m) ⊎ (65507 < m)) → ⊥
      too_wide (inl lt) = omega (arith, inside, lt)
      too_wide (inr lt) = omega (arith, inside, lt, fit.short)

  client_precondition : precondition w client_program is_cut IsEnd 30 (start d)
  client_precondition = λ total is_total. let total_is : total ≡ length d = is_total ∙ length_field w.context (length d) (omega (arith, fit.short)) in (
    λ none. empty _ none,
    λ some. λ in0 b is_b. let first : b ≡ slice_index d 0 = byte_in 0 b d in0 is_b in
        let small : slice_index d 0 < 256 = fit.bytes_fit 0 0 (omega arith) in (
          λ low. precondition_is_sound w client_program is_cut IsEnd 30 (at_stun b total) (stun_precondition b total some (omega (arith, low, first, small)) total_is),
          λ from. let low : 64 ≤ slice_index d 0 = omega (arith, from, first, small) in (
            λ high. unknown _ (omega (arith, high, first, small)),
            λ to. let high : slice_index d 0 < 128 = omega (arith, to, first, small) in (
              λ brief. discarded 0 _ refl low (no_message (no_header d brief)),
              λ header. λ in1 h is_h n is_n. let n_is : n ≡ big_number 2 d = half_in 0 h n d fit (omega (arith, header)) is_h is_n in
                  λ in2 g is_g m is_m. let m_is : m ≡ big_number 2 (drop 2 d) = half_in 2 g m d fit in2 is_g is_m in
                  let m_small : m < 65536 = omega (arith, m_is, half_small 2 d fit) in
                  λ t is_t. let t_is : t ≡ m + 4 = omega (arith, is_t, m_small) in (
                    λ long. discarded 0 _ refl low (no_message (no_data d (omega (arith, long, t_is, total_is, m_is, m_small, fit.short)) header)),
                    λ whole. let inside : 4 + m ≤ length d = omega (arith, whole, t_is, total_is, m_small, fit.short) in
                        let message = has_message d header (channel_low header low) (channel_high header high) (omega (arith, inside, m_is)) in
                        λ v bytes is_v is_bytes.
                        let answer = answers.narrow_peers n in
                        let v_is : v ≡ (narrow_answer (peer (big_number 2 d))).0 = is_v ∙ ap (λ a. a.0) answer ∙ ap (λ (x : ℕ). (narrow_answer (peer x)).0) n_is in
                        let bytes_are : bytes ≡ (narrow_answer (peer (big_number 2 d))).1 = is_bytes ∙ ap (λ a. a.1) answer ∙ ap (λ (x : ℕ). (narrow_answer (peer x)).1) n_is in (
                          λ zero. precondition_is_sound w client_program is_cut IsEnd 20 (at_wide (with_bytes empty_stack 504 (take 8 bytes)) v n m total)
                              (wide_precondition (with_bytes empty_stack 504 (take 8 bytes)) v n m total (long_stack (map Some (take 8 bytes))) n_is m_is some low high message inside),
                          λ some_peer. let is = found_narrow (peer (big_number 2 d)) v bytes (answers.addresses (big_number 2 d)) v_is bytes_are some_peer in
                              send_exits_meet (with_bytes empty_stack 504 (take 8 bytes)) v 68 m total 4 bytes (λ taken e. ap (widened Narrow) (record_is (take 8 bytes) taken (first_long bytes is.count) e) ∙ is.same) is.valid refl inside
                              (λ s e. relays s some low high (e ∙ bound Narrow m bytes message is m_is)),
                        ),
                  ),
            ),
          ),
        ),
  )
    where
      long_stack : (cells : List (Option ℕ)) → length (overlay 504 cells empty_cells) ≡ 512
      long_stack cells = length-put 504 cells empty_cells ∙ length-empty_cells

      first_long : (bytes : List ℕ) → length bytes ≡ 20 → length (take 8 bytes) ≡ 8
      first_long bytes e = omega (arith, e, length-take 8 bytes)

      channel_low : 4 ≤ length d → 64 ≤ slice_index d 0 → 0x4000 ≤ big_number 2 d
      channel_low header low = omega (arith, low)

      channel_high : 4 ≤ length d → slice_index d 0 < 128 → big_number 2 d ≤ 0x7fff
      channel_high header high = let second : slice_index d 1 < 256 = fit.bytes_fit 1 0 (omega arith) in omega (arith, high, second)

  pub client_exits_meet : ExitsMeet w client_program is_cut IsEnd (start d)
  client_exits_meet = precondition_is_sound w client_program is_cut IsEnd 30 (start d) client_precondition
