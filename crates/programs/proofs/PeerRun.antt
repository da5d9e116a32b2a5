-- The run of the program of the peers' side, and its end, for a source of either family.
use Rattle.std.proofs.Common.{◌≡◌, ◌≢◌, ℕ, ◌+◌, ◌%◌, ◌^◌, ◌≤◌, ◌<◌, ◌⊎◌, inl, inr, List, [], ◌∷◌, ◌++◌, map, length, take, drop, Option, Some, None, refl, ap, sym, ◌∙◌, arith, Bool, true, false}
use Rattle.std.specs.Prelude.{IfSome, nat_le, nat_eq, ◌||◌, pos, if◌then◌else◌, replicate, ◌==◌}
use Rattle.std.proofs.lemmas.Bool.Decides.{nat_tests}
use Rattle.std.proofs.lemmas.List.{length-append, length-replicate, length-take, length-drop}
use Rattle.std.proofs.lemmas.List.Elements.{All-take, All-drop}
use Rattle.insn.specs.Endian.{big_bytes, little_number}
use Rattle.insn.specs.Numbers.{little_from-lt}
use Rattle.stun.specs.Channels.{channel_bytes}
use Rattle.stun.specs.Messages.{parts_bytes, attributes_bytes, padding_count}
use Rattle.stun.specs.Registry.{magic_cookie}
use Rattle.addresses.specs.Addresses.{HasWidth}
use Rattle.addresses.specs.declared.address.Addr.{Addr}
use Rattle.addresses.specs.declared.address.Addr.TheVariants.{V4, V6}
use Rattle.semantics.specs.Records.{address_record, wide_record}
use Rattle.semantics.specs.Access.{overlay, part, with_bytes}
use Rattle.semantics.specs.laws.Context.{length_field, source_part, id_head_part, id_tail_part, wide_part}
use Rattle.semantics.specs.declared.stack.StackMemory.{StackMemory}
use Rattle.semantics.specs.Machine.{AreBytes, context_bytes, IsContext, State, Environment, start, datagram_area, empty_cells, empty_stack}
use Rattle.semantics.specs.declared.value.Value.TheVariants.{Nothing, Scalar, Ctx, Stack, Data}
use Rattle.semantics.specs.declared.limits.TheConstants.{MAX_DATAGRAM}
use Rattle.semantics.specs.Runs.{IsDatagram}
use Rattle.semantics.specs.laws.Swap.{stored_again_8, stored_again_4, stored_half}
use Rattle.basics.specs.Options.{◌>>=◌, guard}
use Rattle.programs.specs.Peer.{peer_program}
use Rattle.rules.specs.Rules.{peer_data}
use Rattle.programs.proofs.PeerEnds.{AnswersPeer, IsPeerEnd, window_sent, test_number, channel_number}
use Rattle.semantics.specs.Calls.{widened}
use Rattle.semantics.specs.declared.helper.RecordForm.TheVariants.{Narrow}
use Rattle.programs.proofs.Preconditions.{precondition, ExitsMeet, precondition_is_sound}
use Rattle.programs.proofs.PeerWindows.{indication, channel_window, attributes_are, after_header, length-after_header, AreHeader, indication_window, padded_is, rest_is, port_in_record, port_bytes, ip_in_record, ip_bytes_are}
use Rattle.programs.proofs.LoadedValues.{record_is, stack_number, all_below, byte_below, wide_pieces_are}
use Rattle.programs.proofs.WideWindows.{indication_6, attributes_are_6, after_header_6, length-after_header_6, AreWideHeader, indication_window_6, rest_is_6, front_mask, front_mask_bytes, wide_record_bytes}
use Rattle.programs.proofs.XorBytes.{stored_xor_8, stored_xor_4}

-- cut where the parts of the two families begin, and those that send ChannelData and an indication
abbrev pub is_cut : ℕ → Bool
is_cut slot = nat_eq slot 3 || nat_eq slot 20 || nat_eq slot 53 || nat_eq slot 65 || nat_eq slot 75

-- ---- the answers of helpers, and the end

-- bytes, if they are no longer than a datagram may be
abbrev limited : List ℕ → Option (List ℕ)
limited bytes = guard (nat_le (length bytes) MAX_DATAGRAM) >>= λ _. Some bytes

limited_none : (bytes : List ℕ) → 65507 < length bytes → limited bytes ≡ None
limited_none bytes lt = let no : nat_le (length bytes) 65507 ≡ false = grind (arith, nat_tests) in ap (λ (b : Bool). guard b >>= λ _. Some bytes) no

limited_some : (bytes : List ℕ) → length bytes ≤ 65507 → limited bytes ≡ Some bytes
limited_some bytes le = let yes : nat_le (length bytes) 65507 ≡ true = grind (arith, nat_tests) in ap (λ (b : Bool). guard b >>= λ _. Some bytes) yes

pub is_allowed : (b : Bool) (v : ℕ) → v ≡ test_number b → v % 2 ^ 64 ≢ 0 → b ≡ true
is_allowed true v e some = refl
is_allowed false v e some = absurd (some (omega (arith, e)))

pub not_allowed : (b : Bool) (v : ℕ) → v ≡ test_number b → v % 2 ^ 64 ≡ 0 → (b ≡ false) × (v ≡ 0)
not_allowed true v e none = absurd (omega (arith, e, none))
not_allowed false v e none = (refl, e)

pub record IsNumber (o : Option ℕ) (v : ℕ) : Type 0 where
  pub is : o ≡ Some v
  pub small : v < 65536

is_number : (o : Option ℕ) (v : ℕ) → IfSome o (λ n. (0x4000 ≤ n) × (n ≤ 0x4fff)) → v ≡ channel_number o → v % 2 ^ 64 ≢ 0 → IsNumber o v
is_number None v range e some = absurd (some (omega (arith, e)))
is_number (Some n) v range e some = record { is = ap Some (sym e); small = omega (arith, e, range.1) }

no_number : (o : Option ℕ) (v : ℕ) → IfSome o (λ n. (0x4000 ≤ n) × (n ≤ 0x4fff)) → v ≡ channel_number o → v % 2 ^ 64 ≡ 0 → o ≡ None
no_number None v range e none = refl
no_number (Some n) v range e none = absurd (omega (arith, e, none, range.0, range.1))

-- ---- the run

module _ (w : Environment) (d : List ℕ) (source : Addr) (allowed : Bool) (number : Option ℕ) (range : IfSome number (λ n. (0x4000 ≤ n) × (n ≤ 0x4fff))) (is : IsContext w.context) (fit : IsDatagram d) where
  abbrev tx : List ℕ
  tx = w.context.tx

  abbrev pub IsEnd : ℕ → State → Type 0
  IsEnd v s = IsPeerEnd allowed number source tx d v s

  wrong : (v : ℕ) (s : State) → ⊥ → IsEnd v s
  wrong v s bad = absurd bad

  refused : (v : ℕ) (s : State) → v ≡ 0 → peer_data allowed number source tx d ≡ None → IsEnd v s
  refused v s e none = record { alone = λ one. omega (arith, e, one); sends = rw e (sym none) }

  sends : (s : State) (bytes : List ℕ) → window_sent 2 s ≡ Some bytes → peer_data allowed number source tx d ≡ Some bytes → IsEnd 2 s
  sends s bytes e f = record { alone = λ one. omega (arith, one); sends = e ∙ sym f }

  without : allowed ≡ false → peer_data allowed number source tx d ≡ None
  without e = rw e refl

  id_head_bytes : AreBytes 8 (take 8 tx)
  id_head_bytes = record { count = omega (arith, length-take 8 tx, is.tx.count); fit = All-take (λ b. b < 256) 8 tx is.tx.fit }

  id_tail_bytes : AreBytes 4 (drop 8 tx)
  id_tail_bytes = record { count = omega (arith, length-drop 8 tx, is.tx.count); fit = All-drop (λ b. b < 256) 8 tx is.tx.fit }

  -- ---- with a channel

  from_channel : (n : ℕ) → allowed ≡ true → number ≡ Some n → peer_data allowed number source tx d ≡ limited (channel_bytes (record { number = n; bytes = d }))
  from_channel n e f = rw (e, f) refl

  long_channel : (n : ℕ) → length (channel_bytes (record { number = n; bytes = d })) ≡ 4 + length d
  long_channel n = omega arith

  no_channel : (n : ℕ) → allowed ≡ true → number ≡ Some n → 65503 < length d → peer_data allowed number source tx d ≡ None
  no_channel n e f lt = from_channel n e f ∙ limited_none (channel_bytes (record { number = n; bytes = d })) (omega (arith, long_channel n, lt))

  channel_so : (n : ℕ) → allowed ≡ true → number ≡ Some n → length d ≤ 65503 → peer_data allowed number source tx d ≡ Some (channel_bytes (record { number = n; bytes = d }))
  channel_so n e f le = from_channel n e f ∙ limited_some (channel_bytes (record { number = n; bytes = d })) (omega (arith, long_channel n, le))

  -- where a part starts that sends: with the channel's number, the source's record or its head, the datagram's length, and
  -- what the stack holds
  abbrev at_part : ℕ → ℕ → ℕ → ℕ → StackMemory → State
  at_part slot num src n stack = record (start d) {
    slot = slot;
    registers = Scalar num ∷ Nothing ∷ Nothing ∷ Nothing ∷ Nothing ∷ Nothing ∷ Ctx ∷ Scalar src ∷ Scalar n ∷ Data (pos 0) ∷ Stack (pos 0) ∷ [];
    memory = record { stack = stack; bytes = datagram_area d; length = length d };
  }

  channel_precondition : (num src n : ℕ) (stack : StackMemory) → allowed ≡ true → IsNumber number num → n ≡ length d → precondition w peer_program is_cut IsEnd 20 (at_part 65 num src n stack)
  channel_precondition num src n stack allows bound n_is = (
    λ long. refused 0 _ refl (no_channel num allows bound.is (omega (arith, long, n_is, fit.short))),
    λ short. λ x is_x. λ b1 is_b1. λ y is_y. λ b2 is_b2. λ t is_t.
        let short_d : length d ≤ 65503 = omega (arith, short, n_is, fit.short) in
        let t_is : t ≡ length d + 4 = omega (arith, is_t, n_is, short_d) in
        let b1_is : b1 ≡ big_bytes 2 num = is_b1 ∙ stored_half num x bound.small is_x in
        let b2_is : b2 ≡ big_bytes 2 (length d) = is_b2 ∙ stored_half n y (omega (arith, n_is, short_d)) is_y ∙ ap (big_bytes 2) n_is in (
          λ room. sends _ (channel_bytes (record { number = num; bytes = d })) (ap Some (channel_window b1 b2 d num t b1_is b2_is t_is)) (channel_so num allows bound.is short_d),
          λ no_room. wrong 2 _ (too_wide t t_is short_d no_room),
        ),
  )
    where
      too_wide : (t : ℕ) → t ≡ length d + 4 → length d ≤ 65503 → ((64 + length d + 3 < 60 + t) ⊎ (65507 < t)) → ⊥
      too_wide t e le (inl lt) = omega (arith, e, lt)
      too_wide t e le (inr lt) = omega (arith, e, lt, le)

  -- where the part of a family starts, with the record of the source
  abbrev at_family : ℕ → ℕ → State
  at_family slot src = record (start d) { slot = slot; registers = Nothing ∷ Ctx ∷ Nothing ∷ Nothing ∷ Nothing ∷ Nothing ∷ Ctx ∷ Scalar src ∷ Nothing ∷ Nothing ∷ Stack (pos 0) ∷ [] }

-- ---- a source of IPv4

module _ (w : Environment) (d ip : List ℕ) (port : ℕ) (fits : HasWidth 4 ip port) (allowed : Bool) (number : Option ℕ) (is_source : w.context.source ≡ address_record (V4 ip port)) (answers : AnswersPeer w.answer (V4 ip port) allowed number) (is : IsContext w.context) (fit : IsDatagram d) where
  abbrev id_4 : List ℕ
  id_4 = w.context.tx

  abbrev IsEnd_4 : ℕ → State → Type 0
  IsEnd_4 v s = IsPeerEnd allowed number (V4 ip port) id_4 d v s

  abbrev data_4 : Option (List ℕ)
  data_4 = peer_data allowed number (V4 ip port) id_4 d

  from_indication : allowed ≡ true → number ≡ None → data_4 ≡ limited (parts_bytes (indication ip port id_4 d))
  from_indication e f = rw (e, f) refl

  long_indication : (p : ℕ) → p ≡ length d + padding_count (length d) → length (parts_bytes (indication ip port id_4 d)) ≡ 36 + p
  long_indication p e =
      let tail : List ℕ = d ++ replicate (padding_count (length d)) 0 in
      let attributes = attributes_bytes (indication ip port id_4 d).attributes in
      let count : length attributes ≡ 16 + p =
      ap length (attributes_are ip d id_4 port) ∙ length-append (after_header ip port (length d)) tail ∙ omega (arith, length-after_header ip port (length d), length-append d (replicate (padding_count (length d)) 0), length-replicate {A = ℕ} (padding_count (length d)) 0, e) in
      let head : List ℕ = big_bytes 2 0x0017 ++ big_bytes 2 (length attributes) ++ big_bytes 4 magic_cookie in
      omega (arith, length-append (head ++ id_4) attributes, length-append head id_4, count, is.tx.count)

  no_indication : allowed ≡ true → number ≡ None → 65468 < length d → data_4 ≡ None
  no_indication e f lt = from_indication e f ∙ limited_none (parts_bytes (indication ip port id_4 d)) (omega (arith, long_indication (length d + padding_count (length d)) refl, lt))

  indication_so : allowed ≡ true → number ≡ None → length d ≤ 65468 → data_4 ≡ Some (parts_bytes (indication ip port id_4 d))
  indication_so e f le = from_indication e f ∙ limited_some (parts_bytes (indication ip port id_4 d)) (omega (arith, long_indication (length d + padding_count (length d)) refl, le))

  ip_bytes : AreBytes 4 ip
  ip_bytes = record { count = fits.long; fit = all_below ip fits.bytes }

  -- the record isn't zero
  not_zero : (src : ℕ) → src ≡ little_number 8 w.context.source → src % 2 ^ 64 ≢ 0
  not_zero src e zero =
      let lt = little_from-lt 0 8 w.context.source (byte_below w.context.source is.source.fit) in
      let number = ap (little_number 8) is_source in
      omega (arith, e, zero, lt, number)

  indication_precondition : (num src n : ℕ) (b0 : List ℕ) → allowed ≡ true → number ≡ None → n ≡ length d → b0 ≡ address_record (V4 ip port) → precondition w peer_program is_cut IsEnd_4 40 (at_part w d (V4 ip port) allowed number answers.range is fit 75 num src n (with_bytes empty_stack 504 b0))
  indication_precondition num src n b0 allows unbound n_is held = (
    λ long. refused w d (V4 ip port) allowed number answers.range is fit 0 _ refl (no_indication allows unbound (omega (arith, long, n_is, fit.short))),
    λ short.
        let short_d : length d ≤ 65468 = omega (arith, short, n_is, fit.short) in
        let size : length b0 ≡ 8 = ap length (held ∙ sym is_source) ∙ is.source.count in
        λ a is_a. λ b is_b. λ p is_p.
        let p_n : p ≡ n + padding_count n = padded_is n a b p (omega (arith, n_is, short_d)) is_a is_b is_p in
        let p_is : p ≡ length d + padding_count (length d) = p_n ∙ ap (λ (x : ℕ). x + padding_count x) n_is in
        let p_small : p ≤ 65471 = omega (arith, p_is, short_d) in
        λ b1 is_b1. λ l is_l. λ l' is_l'. λ b2 is_b2. λ b3 is_b3. λ h is_h. λ b4 is_b4. λ g is_g. λ b5 is_b5. λ b6 is_b6. λ b7 is_b7.
        λ q is_q. λ q1 is_q1. λ q2 is_q2. λ q3 is_q3. λ b8 is_b8. λ r is_r. λ r1 is_r1. λ r2 is_r2. λ r3 is_r3. λ b9 is_b9. λ b10 is_b10. λ y is_y. λ b11 is_b11. λ t is_t.
        let t_is : t ≡ 36 + p = omega (arith, is_t, p_small) in
        let header : AreHeader ip id_4 port (length d) p b1 b2 b3 b4 b5 b6 b7 b8 b9 b10 b11 = record {
          kind = is_b1;
          rest = rest_is p l l' b2 (omega (arith, p_small)) is_l is_l' is_b2;
          cookie = is_b3;
          id_head = is_b4 ∙ stored_again_8 (take 8 id_4) h (id_head_bytes w d (V4 ip port) allowed number answers.range is fit) (is_h ∙ ap (little_number 8) (id_head_part w.context (length d) is));
          id_tail = is_b5 ∙ stored_again_4 (drop 8 id_4) g (id_tail_bytes w d (V4 ip port) allowed number answers.range is fit) (is_g ∙ ap (little_number 4) (id_tail_part w.context (length d) is));
          address = is_b6;
          family = is_b7;
          port_is = port_bytes port q1 q2 q3 b8 fits.small (port_in_record ip port fits.small b0 held q q1 (stack_number 2 2 q b0 size (omega arith) is_q) is_q1) is_q2 is_q3 is_b8;
          ip_is = ip_bytes_are ip ip_bytes r1 r2 r3 b9 (ip_in_record ip port ip_bytes b0 held r r1 (stack_number 4 4 r b0 size (omega arith) is_r) is_r1) is_r2 is_r3 is_b9;
          data_kind = is_b10;
          size = is_b11 ∙ stored_half n y (omega (arith, n_is, short_d)) is_y ∙ ap (big_bytes 2) n_is;
        } in (
          λ fitting. sends w d (V4 ip port) allowed number answers.range is fit _ (parts_bytes (indication ip port id_4 d)) (ap Some (indication_window ip d id_4 port p t b1 b2 b3 b4 b5 b6 b7 b8 b9 b10 b11 is.tx.count header p_is t_is)) (indication_so allows unbound short_d),
          λ no_room. wrong w d (V4 ip port) allowed number answers.range is fit 2 _ (too_wide p t p_is t_is short_d no_room),
        ),
  )
    where
      too_wide : (p t : ℕ) → p ≡ length d + padding_count (length d) → t ≡ 36 + p → length d ≤ 65468 → ((64 + length d + 3 < 28 + t) ⊎ (65507 < t)) → ⊥
      too_wide p t e f le (inl lt) = omega (arith, e, f, lt)
      too_wide p t e f le (inr lt) = omega (arith, e, f, lt, le)

  narrow_precondition : (src : ℕ) → src ≡ little_number 8 w.context.source → precondition w peer_program is_cut IsEnd_4 30 (at_family w d (V4 ip port) allowed number answers.range is fit 53 src)
  narrow_precondition src src_is = λ b0 is_b0.
      let held : b0 ≡ address_record (V4 ip port) = is_b0 ∙ stored_again_8 w.context.source src is.source src_is ∙ is_source in
      let size : length b0 ≡ 8 = ap length (held ∙ sym is_source) ∙ is.source.count in
      λ rec is_rec. λ ok bytes is_ok is_bytes.
      let rec_is : rec ≡ address_record (V4 ip port) = record_is b0 rec size is_rec ∙ held in
      let ok_is : ok ≡ test_number allowed = is_ok ∙ ap (λ (r : List ℕ). (w.answer 3 0 (widened Narrow r)).0) rec_is ∙ answers.permits in (
        λ zero. let no = not_allowed allowed ok ok_is zero in refused w d (V4 ip port) allowed number answers.range is fit ok _ no.1 (without w d (V4 ip port) allowed number answers.range is fit no.0),
        λ some. let allows : allowed ≡ true = is_allowed allowed ok ok_is some in
            λ rec2 is_rec2. λ num bytes2 is_num is_bytes2.
            let rec2_is : rec2 ≡ address_record (V4 ip port) = record_is b0 rec2 size is_rec2 ∙ held in
            let num_is : num ≡ channel_number number = is_num ∙ ap (λ (r : List ℕ). (w.answer 2 0 (widened Narrow r)).0) rec2_is ∙ answers.numbers in
            λ n is_n. let n_is : n ≡ length d = is_n ∙ length_field w.context (length d) (omega (arith, fit.short)) in (
              λ none. precondition_is_sound w peer_program is_cut IsEnd_4 40 (at_part w d (V4 ip port) allowed number answers.range is fit 75 num src n (with_bytes empty_stack 504 b0)) (indication_precondition num src n b0 allows (no_number number num answers.range num_is none) n_is held),
              λ some_number. precondition_is_sound w peer_program is_cut IsEnd_4 20 (at_part w d (V4 ip port) allowed number answers.range is fit 65 num src n (with_bytes empty_stack 504 b0))
                  (channel_precondition w d (V4 ip port) allowed number answers.range is fit num src n (with_bytes empty_stack 504 b0) allows (is_number number num answers.range num_is some_number) n_is),
            ),
      )

  pub peer_exits_meet_4 : ExitsMeet w peer_program is_cut IsEnd_4 (start d)
  peer_exits_meet_4 = precondition_is_sound w peer_program is_cut IsEnd_4 10 (start d) (λ src is_src.
      let src_is : src ≡ little_number 8 w.context.source = is_src ∙ ap (little_number 8) (source_part w.context (length d) is) in (
        λ some. precondition_is_sound w peer_program is_cut IsEnd_4 30 (at_family w d (V4 ip port) allowed number answers.range is fit 53 src) (narrow_precondition src src_is),
        λ zero. absurd (not_zero src src_is zero),
      ))

-- ---- a source of IPv6

module _ (w : Environment) (d ip : List ℕ) (port : ℕ) (fits : HasWidth 16 ip port) (allowed : Bool) (number : Option ℕ) (is_source : w.context.source ≡ address_record (V6 ip port)) (is_wide : w.context.wide_source ≡ wide_record (V6 ip port)) (answers : AnswersPeer w.answer (V6 ip port) allowed number) (is : IsContext w.context) (fit : IsDatagram d) where
  abbrev id_6 : List ℕ
  id_6 = w.context.tx

  abbrev wide : List ℕ
  wide = wide_record (V6 ip port)

  abbrev IsEnd_6 : ℕ → State → Type 0
  IsEnd_6 v s = IsPeerEnd allowed number (V6 ip port) id_6 d v s

  abbrev data_6 : Option (List ℕ)
  data_6 = peer_data allowed number (V6 ip port) id_6 d

  from_indication_6 : allowed ≡ true → number ≡ None → data_6 ≡ limited (parts_bytes (indication_6 ip port id_6 d))
  from_indication_6 e f = rw (e, f) refl

  long_indication_6 : (p : ℕ) → p ≡ length d + padding_count (length d) → length (parts_bytes (indication_6 ip port id_6 d)) ≡ 48 + p
  long_indication_6 p e =
      let tail : List ℕ = d ++ replicate (padding_count (length d)) 0 in
      let attributes = attributes_bytes (indication_6 ip port id_6 d).attributes in
      let count : length attributes ≡ 28 + p =
      ap length (attributes_are_6 ip d id_6 port) ∙ length-append (after_header_6 ip port id_6 (length d)) tail ∙ omega (arith, length-after_header_6 ip id_6 port (length d), length-append d (replicate (padding_count (length d)) 0), length-replicate {A = ℕ} (padding_count (length d)) 0, e) in
      let head : List ℕ = big_bytes 2 0x0017 ++ big_bytes 2 (length attributes) ++ big_bytes 4 magic_cookie in
      omega (arith, length-append (head ++ id_6) attributes, length-append head id_6, count, is.tx.count)

  no_indication_6 : allowed ≡ true → number ≡ None → 65456 < length d → data_6 ≡ None
  no_indication_6 e f lt = from_indication_6 e f ∙ limited_none (parts_bytes (indication_6 ip port id_6 d)) (omega (arith, long_indication_6 (length d + padding_count (length d)) refl, lt))

  indication_so_6 : allowed ≡ true → number ≡ None → length d ≤ 65456 → data_6 ≡ Some (parts_bytes (indication_6 ip port id_6 d))
  indication_so_6 e f le = from_indication_6 e f ∙ limited_some (parts_bytes (indication_6 ip port id_6 d)) (omega (arith, long_indication_6 (length d + padding_count (length d)) refl, le))

  length_small : length d < 2 ^ 64
  length_small = omega (arith, fit.short)

  -- the record is zero
  is_zero : (src : ℕ) → src ≡ little_number 8 w.context.source → src % 2 ^ 64 ≡ 0
  is_zero src e = let number = ap (little_number 8) is_source in omega (arith, e, number)

  wide_bytes : AreBytes 20 wide
  wide_bytes = wide_record_bytes ip port fits

  head_bytes : AreBytes 8 (take 8 wide)
  head_bytes = record { count = omega (arith, length-take 8 wide, wide_bytes.count); fit = All-take (λ b. b < 256) 8 wide wide_bytes.fit }

  middle_bytes : AreBytes 8 (take 8 (drop 8 wide))
  middle_bytes = record { count = omega (arith, length-take 8 (drop 8 wide), length-drop 8 wide, wide_bytes.count); fit = All-take (λ b. b < 256) 8 (drop 8 wide) (All-drop (λ b. b < 256) 8 wide wide_bytes.fit) }

  tail_bytes : AreBytes 4 (take 4 (drop 16 wide))
  tail_bytes = record { count = omega (arith, length-take 4 (drop 16 wide), length-drop 16 wide, wide_bytes.count); fit = All-take (λ b. b < 256) 4 (drop 16 wide) (All-drop (λ b. b < 256) 16 wide wide_bytes.fit) }

  -- what is read of the wide record
  head_field : (h : ℕ) → h ≡ little_number 8 (part 8 48 (context_bytes w.context (length d))) → h ≡ little_number 8 (take 8 wide)
  head_field h e = e ∙ ap (little_number 8) (wide_part w.context (length d) is 8 0 ∙ ap (take 8) is_wide)

  middle_field : (m : ℕ) → m ≡ little_number 8 (part 8 56 (context_bytes w.context (length d))) → m ≡ little_number 8 (take 8 (drop 8 wide))
  middle_field m e = e ∙ ap (little_number 8) (wide_part w.context (length d) is 8 8 ∙ ap (λ (l : List ℕ). take 8 (drop 8 l)) is_wide)

  tail_field : (l : ℕ) → l ≡ little_number 4 (part 4 64 (context_bytes w.context (length d))) → l ≡ little_number 4 (take 4 (drop 16 wide))
  tail_field l e = e ∙ ap (little_number 4) (wide_part w.context (length d) is 4 16 ∙ ap (λ (l : List ℕ). take 4 (drop 16 l)) is_wide)

  mask_number : 0x42a4122112210000 ≡ little_number 8 front_mask
  mask_number = omega arith

  indication_precondition_6 : (num h n : ℕ) (stack : StackMemory) → allowed ≡ true → number ≡ None → n ≡ length d → h ≡ little_number 8 (take 8 wide)
      → precondition w peer_program is_cut IsEnd_6 40 (at_part w d (V6 ip port) allowed number answers.range is fit 20 num h n stack)
  indication_precondition_6 num h n stack allows unbound n_is h_is = (
    λ long. refused w d (V6 ip port) allowed number answers.range is fit 0 _ refl (no_indication_6 allows unbound (omega (arith, long, n_is, fit.short))),
    λ short.
        let short_d : length d ≤ 65456 = omega (arith, short, n_is, fit.short) in
        λ a is_a. λ b is_b. λ p is_p.
        let p_n : p ≡ n + padding_count n = padded_is n a b p (omega (arith, n_is, short_d)) is_a is_b is_p in
        let p_is : p ≡ length d + padding_count (length d) = p_n ∙ ap (λ (x : ℕ). x + padding_count x) n_is in
        let p_small : p ≤ 65459 = omega (arith, p_is, short_d) in
        λ b1 is_b1. λ l is_l. λ l' is_l'. λ b2 is_b2. λ b3 is_b3. λ g is_g. λ b4 is_b4. λ e is_e. λ b5 is_b5. λ b6 is_b6.
        λ x is_x. λ b7 is_b7. λ m is_m. λ y is_y. λ b8 is_b8. λ q is_q. λ z is_z. λ b9 is_b9. λ b10 is_b10. λ u is_u. λ b11 is_b11. λ t is_t.
        let t_is : t ≡ 48 + p = omega (arith, is_t, p_small) in
        let head_id = id_head_bytes w d (V6 ip port) allowed number answers.range is fit in
        let tail_id = id_tail_bytes w d (V6 ip port) allowed number answers.range is fit in
        let g_is : g ≡ little_number 8 (take 8 id_6) = is_g ∙ ap (little_number 8) (id_head_part w.context (length d) is) in
        let e_is : e ≡ little_number 4 (drop 8 id_6) = is_e ∙ ap (little_number 4) (id_tail_part w.context (length d) is) in
        let header : AreWideHeader ip id_6 port (length d) p b1 b2 b3 b4 b5 b6 b7 b8 b9 b10 b11 = record {
          kind = is_b1;
          rest = rest_is_6 p l l' b2 (omega (arith, p_small)) is_l is_l' is_b2;
          cookie = is_b3;
          id_head = is_b4 ∙ stored_again_8 (take 8 id_6) g head_id g_is;
          id_tail = is_b5 ∙ stored_again_4 (drop 8 id_6) e tail_id e_is;
          address = is_b6;
          head = stored_xor_8 (take 8 wide) front_mask b7 h 0x42a4122112210000 x head_bytes front_mask_bytes h_is mask_number is_x is_b7;
          middle = stored_xor_8 (take 8 (drop 8 wide)) (take 8 id_6) b8 m g y middle_bytes head_id (middle_field m is_m) g_is is_y is_b8;
          tail = stored_xor_4 (take 4 (drop 16 wide)) (drop 8 id_6) b9 q e z tail_bytes tail_id (tail_field q is_q) e_is is_z is_b9;
          data_kind = is_b10;
          size = is_b11 ∙ stored_half n u (omega (arith, n_is, short_d)) is_u ∙ ap (big_bytes 2) n_is;
        } in (
          λ fitting. sends w d (V6 ip port) allowed number answers.range is fit _ (parts_bytes (indication_6 ip port id_6 d)) (ap Some (indication_window_6 ip d id_6 port p t b1 b2 b3 b4 b5 b6 b7 b8 b9 b10 b11 fits is.tx header p_is t_is)) (indication_so_6 allows unbound short_d),
          λ no_room. wrong w d (V6 ip port) allowed number answers.range is fit 2 _ (too_wide p t p_is t_is short_d no_room),
        ),
  )
    where
      too_wide : (p t : ℕ) → p ≡ length d + padding_count (length d) → t ≡ 48 + p → length d ≤ 65456 → ((64 + length d + 3 < 16 + t) ⊎ (65507 < t)) → ⊥
      too_wide p t e f le (inl lt) = omega (arith, e, f, lt)
      too_wide p t e f le (inr lt) = omega (arith, e, f, lt, le)

  wide_precondition : (src : ℕ) → precondition w peer_program is_cut IsEnd_6 30 (at_family w d (V6 ip port) allowed number answers.range is fit 3 src)
  wide_precondition src = λ h is_h. λ b1 is_b1. λ m is_m. λ b2 is_b2. λ l is_l. λ b3 is_b3.
      let h_is : h ≡ little_number 8 (take 8 wide) = head_field h is_h in
      let b1_is : b1 ≡ take 8 wide = is_b1 ∙ stored_again_8 (take 8 wide) h head_bytes h_is in
      let b2_is : b2 ≡ take 8 (drop 8 wide) = is_b2 ∙ stored_again_8 (take 8 (drop 8 wide)) m middle_bytes (middle_field m is_m) in
      let b3_is : b3 ≡ take 4 (drop 16 wide) = is_b3 ∙ stored_again_4 (take 4 (drop 16 wide)) l tail_bytes (tail_field l is_l) in
      let stack : StackMemory = with_bytes (with_bytes (with_bytes empty_stack 488 b1) 496 b2) 504 b3 in
      λ rec is_rec. λ ok bytes is_ok is_bytes.
      let rec_is : rec ≡ wide = wide_pieces_are wide b1 b2 b3 rec wide_bytes.count b1_is b2_is b3_is is_rec in
      let ok_is : ok ≡ test_number allowed = is_ok ∙ ap (λ (r : List ℕ). (w.answer 8 0 r).0) rec_is ∙ answers.permits in (
        λ zero. let no = not_allowed allowed ok ok_is zero in refused w d (V6 ip port) allowed number answers.range is fit ok _ no.1 (without w d (V6 ip port) allowed number answers.range is fit no.0),
        λ some. let allows : allowed ≡ true = is_allowed allowed ok ok_is some in
            λ rec2 is_rec2. λ num bytes2 is_num is_bytes2.
            let rec2_is : rec2 ≡ wide = wide_pieces_are wide b1 b2 b3 rec2 wide_bytes.count b1_is b2_is b3_is is_rec2 in
            let num_is : num ≡ channel_number number = is_num ∙ ap (λ (r : List ℕ). (w.answer 7 0 r).0) rec2_is ∙ answers.numbers in
            λ n is_n. let n_is : n ≡ length d = is_n ∙ length_field w.context (length d) length_small in (
              λ some_number. precondition_is_sound w peer_program is_cut IsEnd_6 20 (at_part w d (V6 ip port) allowed number answers.range is fit 65 num h n stack)
                  (channel_precondition w d (V6 ip port) allowed number answers.range is fit num h n stack allows (is_number number num answers.range num_is some_number) n_is),
              λ none. precondition_is_sound w peer_program is_cut IsEnd_6 40 (at_part w d (V6 ip port) allowed number answers.range is fit 20 num h n stack) (indication_precondition_6 num h n stack allows (no_number number num answers.range num_is none) n_is h_is),
            ),
      )

  pub peer_exits_meet_6 : ExitsMeet w peer_program is_cut IsEnd_6 (start d)
  peer_exits_meet_6 = precondition_is_sound w peer_program is_cut IsEnd_6 10 (start d) (λ src is_src.
      let src_is : src ≡ little_number 8 w.context.source = is_src ∙ ap (little_number 8) (source_part w.context (length d) is) in (
        λ some. absurd (some (is_zero src src_is)),
        λ zero. precondition_is_sound w peer_program is_cut IsEnd_6 30 (at_family w d (V6 ip port) allowed number answers.range is fit 3 src) (wide_precondition src),
      ))
