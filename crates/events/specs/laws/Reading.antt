-- Interface. Laws of the reader: it reads an event from the event's line, and what it reads has that line.
use Rattle.std.specs.Prelude.{◌≡◌, ◌≢◌, ℕ, zero, suc, ◌+◌, ◌-◌, ◌*◌, ◌/◌, ◌%◌, ◌^◌, ◌<◌, ◌≤◌, ◌⊎◌, ◌==◌, ◌&&◌, ◌||◌, Bool, true, false, not, List, [], ◌∷◌, ◌++◌, length, slice_index, codes, decimal, flat_map, bytes_eq, nat_le, nat_lt, Option, None, Some, option_map, Result, Ok, Err, refl, if◌then◌else◌}
use Rattle.std.specs.Result.{result_ok, result_unwrap_or}
use Rattle.std.specs.Str.Parse.{digits_value}
use Rattle.std.proofs.Common.{sym, ap, subst, ◌∙◌, inl, inr, arith, append_assoc, eqb-true, eq-eqb}
use Rattle.std.specs.Fmt.{digit_glyph}
use Rattle.std.proofs.lemmas.Bool.{cases_Bool, cases_lt, cond-true, cond-false, and_parts, and_from, lt-ltb, ltb-true, le-leb, leb-true, both_ways}
use Rattle.std.proofs.lemmas.Fmt.{decimal_is_IsNumeral, decimal_by_steps}
use Rattle.std.proofs.lemmas.Option.{same_Some, none-some}
use Rattle.std.proofs.lemmas.Slice.Eq.{bytes_eq-Decides}
use Rattle.stun.specs.Ranges.{is_between}
use Rattle.hex.specs.Hex.{IsBytes, encode_lower, encode_with, lower_digits, decode_sized, decode_of, decode_pairs, hex_digit_value, pair_value, value_at, digit_or_error}
use Rattle.hex.specs.Hex as hex
use Rattle.hex.specs.declared.error.FromHexError.{FromHexError}
use Rattle.hex.proofs.HexLemmas.{length-encode_with, decode_of-encode_lower, decode_sized-twice, decode_sized-ok, decode_of-ok, decode_of-even, IsDigits-lower_digits}
use Rattle.addresses.specs.Addresses.{HasWidth, IsAddress}
use Rattle.addresses.specs.AddressTexts.{dotted_decimal, hex_digits, address_text}
use Rattle.addresses.specs.declared.address.Addr.{Addr}
use Rattle.addresses.specs.declared.address.Addr.TheVariants.{V4, V6}
use Rattle.credentials.specs.Texts.{is_nonce}
use Rattle.semantics.specs.declared.limits.TheConstants.{MAX_DATAGRAM}
use Rattle.events.specs.Events.{Event, Datagram, Nonce}
use Rattle.events.specs.Lines.{bytes_text, side_text, source_text, datagram_text, line_of, IsSource, IsEvent}
use Rattle.events.specs.declared.meta.Meta.{Meta}
use Rattle.events.specs.declared.meta.Source.{Source}
use Rattle.events.specs.declared.meta.Source.TheVariants.{Client, Peer}
use Rattle.basics.specs.Options.{◌>>=◌, guard}
use Rattle.basics.specs.Decimals.{decimal_in}
use Rattle.basics.specs.laws.Decimals.{decimal_in-decimal, decimal_in-is}
use Rattle.events.specs.Reading.{parts_around, has_upper, digits_in, ipv4_in, is_bracketed, ipv6_in, host_in, address_in_text, content_in, client_in_text, peer_in, datagram_in_text, nonce_in, event_in}

-- ---- texts without a separator

abbrev pub is_free : ℕ → List ℕ → Bool
is_free separator [] = true
is_free separator (b ∷ bytes) = not (b == separator) && is_free separator bytes

is_free-append : (s : ℕ) (xs ys : List ℕ) → is_free s xs ≡ true → is_free s ys ≡ true → is_free s (xs ++ ys) ≡ true
is_free-append s [] ys free rest = rest
is_free-append s (x ∷ xs) ys free rest =
    let parts = and_parts (not (x == s)) (is_free s xs) free in
    and_from (not (x == s)) (is_free s (xs ++ ys)) parts.0 (is_free-append s xs ys parts.1 rest)

not_false : (test : Bool) → not test ≡ true → test ≡ false
not_false true h = sym h
not_false false h = refl

not_true : (test : Bool) → test ≡ false → not test ≡ true
not_true test e = ap not e

differs : (b s : ℕ) → b ≢ s → (b == s) ≡ false
differs b s ne = elim (cases_Bool (b == s)) [ inl t ↦ absurd (ne (eqb-true b s t)) | inr f ↦ f ]

one_free : (b s : ℕ) → b ≢ s → is_free s (b ∷ []) ≡ true
one_free b s ne = and_from (not (b == s)) true (not_true (b == s) (differs b s ne)) refl

or_left : (test g : Bool) → (test || g) ≡ false → test ≡ false
or_left true g e = e
or_left false g e = refl

or_right : (g test : Bool) → (g || test) ≡ false → test ≡ false
or_right true g e = absurd cc
or_right false g e = e

or_both : (g test : Bool) → g ≡ false → test ≡ false → (g || test) ≡ false
or_both g test e h = λ i. e i || h i

-- what precedes a separator, and what follows it
pub split_at-free : (s : ℕ) (front rest : List ℕ) → is_free s front ≡ true → parts_around s (front ++ s ∷ rest) ≡ Some (front, rest)
split_at-free s [] rest free = cond-true (s == s) (Some ([], rest)) _ (eq-eqb s s refl)
split_at-free s (b ∷ front) rest free =
    let parts = and_parts (not (b == s)) (is_free s front) free in
    cond-false (b == s) _ (option_map (λ p. (b ∷ p.0, p.1)) (parts_around s (front ++ s ∷ rest))) (not_false (b == s) parts.0)
    ∙ ap (option_map (λ (p : List ℕ × List ℕ). (b ∷ p.0, p.1))) (split_at-free s front rest parts.1)

mapped : (b : ℕ) (o : Option (List ℕ × List ℕ)) (p : List ℕ × List ℕ) → option_map (λ q. (b ∷ q.0, q.1)) o ≡ Some p → (q : List ℕ × List ℕ) × (o ≡ Some q) × ((b ∷ q.0, q.1) ≡ p)
mapped b None p e = absurd (none-some p e)
mapped b (Some q) p e = (q, refl, same_Some (b ∷ q.0, q.1) p e)

pub split_at-joins : (s : ℕ) (bytes : List ℕ) (p : List ℕ × List ℕ) → parts_around s bytes ≡ Some p → bytes ≡ p.0 ++ s ∷ p.1
split_at-joins s [] p e = absurd (none-some p e)
split_at-joins s (b ∷ bytes) p e = elim (cases_Bool (b == s)) [
  | inl t ↦
      let is : ([], bytes) ≡ p = same_Some ([], bytes) p (sym (cond-true (b == s) (Some ([], bytes)) _ t) ∙ e) in
      (λ i. eqb-true b s t i ∷ bytes) ∙ (λ i. (is i).0 ++ s ∷ (is i).1)
  | inr f ↦
      let more = mapped b (parts_around s bytes) p (sym (cond-false (b == s) _ (option_map (λ q. (b ∷ q.0, q.1)) (parts_around s bytes)) f) ∙ e) in
      ap (λ l. b ∷ l) (split_at-joins s bytes more.0 more.1) ∙ (λ i. (more.2 i).0 ++ s ∷ (more.2 i).1)
]

-- ---- decimal numbers

-- digits are no separator that lies outside them
pub decimal-free : (s n : ℕ) → ((s < 48) ⊎ (57 < s)) → n < 2 ^ 64 → is_free s (decimal n) ≡ true
decimal-free s n outside = decimal_by_steps (λ n ds. is_free s ds ≡ true) one more n where
  digit : (k : ℕ) → k < 10 → is_free s ((48 + k) ∷ []) ≡ true
  digit k lt = one_free (48 + k) s (λ e. elim outside [ inl low ↦ absurd (omega arith) | inr high ↦ absurd (omega arith) ])

  one : (k : ℕ) → k < 10 → is_free s ((48 + k) ∷ []) ≡ true
  one k lt = digit k lt

  more : (k : ℕ) (ds : List ℕ) → 10 ≤ k → is_free s ds ≡ true → is_free s (ds ++ ((48 + k % 10) ∷ [])) ≡ true
  more k ds big free = is_free-append s ds ((48 + k % 10) ∷ []) free (digit (k % 10) (omega arith))

same_bytes : (xs : List ℕ) → bytes_eq xs xs ≡ true
same_bytes xs = (bytes_eq-Decides xs xs).1 refl

-- ---- digits of bytes

at_free : (s : ℕ) (text : List ℕ) (d : ℕ) → 0 < s → is_free s text ≡ true → slice_index text d ≢ s
at_free s [] d some free e = absurd (omega (arith, e))
at_free s (b ∷ text) zero some free e = both_ways (b == s) (not_false (b == s) (and_parts (not (b == s)) (is_free s text) free).0) (eq-eqb b s e)
at_free s (b ∷ text) (suc d) some free e = at_free s text d some (and_parts (not (b == s)) (is_free s text) free).1 e

encoded-free_of : (s : ℕ) (bytes : List ℕ) → 0 < s → is_free s lower_digits ≡ true → is_free s (encode_lower bytes) ≡ true
unfolding encode_with
encoded-free_of s [] some lower = refl
encoded-free_of s (b ∷ bytes) some lower =
    let high = not_true (slice_index lower_digits (b / 16) == s) (differs (slice_index lower_digits (b / 16)) s (at_free s lower_digits (b / 16) some lower)) in
    let low = not_true (slice_index lower_digits (b % 16) == s) (differs (slice_index lower_digits (b % 16)) s (at_free s lower_digits (b % 16) some lower)) in
    and_from (not (slice_index lower_digits (b / 16) == s)) _ high (and_from (not (slice_index lower_digits (b % 16) == s)) _ low (encoded-free_of s bytes some lower))

pub encoded-free : (bytes : List ℕ) → is_free 0x20 (encode_lower bytes) ≡ true
encoded-free bytes = encoded-free_of 0x20 bytes (omega arith) refl

-- no digit is in upper case
abbrev is_upper : ℕ → Bool
is_upper c = is_between 0x41 0x5a c

none_upper_at : (text : List ℕ) (d : ℕ) → has_upper text ≡ false → is_upper (slice_index text d) ≡ false
none_upper_at [] d none = refl
none_upper_at (c ∷ text) zero none = or_left (is_upper c) (has_upper text) none
none_upper_at (c ∷ text) (suc d) none = none_upper_at text d (or_right (is_upper c) (has_upper text) none)

lower_is_lower : has_upper lower_digits ≡ false
lower_is_lower = refl

pub encoded-lower : (bytes : List ℕ) → has_upper (encode_lower bytes) ≡ false
unfolding encode_with
encoded-lower [] = refl
encoded-lower (b ∷ bytes) =
    or_both (is_upper (slice_index lower_digits (b / 16))) _ (none_upper_at lower_digits (b / 16) lower_is_lower)
    (or_both (is_upper (slice_index lower_digits (b % 16))) _ (none_upper_at lower_digits (b % 16) lower_is_lower) (encoded-lower bytes))

pub digits_in-encoded : (n : ℕ) (bytes : List ℕ) → length bytes ≡ n → IsBytes bytes → digits_in n (encode_lower bytes) ≡ Some bytes
digits_in-encoded n bytes long fit =
    cond-false (has_upper (encode_lower bytes)) None (result_ok (decode_sized (encode_lower bytes) n)) (encoded-lower bytes)
    ∙ ap result_ok (decode_sized-twice (encode_lower bytes) n (omega (arith, length-encode_with lower_digits bytes, long)) ∙ decode_of-encode_lower bytes fit)

-- a digit that is not in upper case, by its value
by_value : (c v : ℕ) → hex_digit_value c ≡ Some v → is_upper c ≡ false → ((v < 10) × (c ≡ 48 + v)) ⊎ ((10 ≤ v) × (v < 16) × (c ≡ 87 + v))
by_value c v e lower = elim (cases_Bool (nat_le 65 c && nat_le c 70)) [
  | inl t ↦
      let parts = and_parts (nat_le 65 c) (nat_le c 70) t in
      absurd (both_ways (is_upper c) lower (and_from (nat_le 65 c) (nat_le c 90) parts.0 (le-leb c 90 (omega (arith, leb-true c 70 parts.1)))))
  | inr f ↦
      let second = sym (cond-false (nat_le 65 c && nat_le c 70) (Some (c - 55)) _ f) ∙ e in
      elim (cases_Bool (nat_le 97 c && nat_le c 102)) [
        | inl t ↦
            let parts = and_parts (nat_le 97 c) (nat_le c 102) t in
            let is : c - 87 ≡ v = same_Some (c - 87) v (sym (cond-true (nat_le 97 c && nat_le c 102) (Some (c - 87)) _ t) ∙ second) in
            inr (omega (arith, is, leb-true 97 c parts.0), omega (arith, is, leb-true c 102 parts.1), omega (arith, is, leb-true 97 c parts.0))
        | inr g ↦
            let third = sym (cond-false (nat_le 97 c && nat_le c 102) (Some (c - 87)) _ g) ∙ second in
            elim (cases_Bool (nat_le 48 c && nat_le c 57)) [
              | inl t ↦
                  let parts = and_parts (nat_le 48 c) (nat_le c 57) t in
                  let is : c - 48 ≡ v = same_Some (c - 48) v (sym (cond-true (nat_le 48 c && nat_le c 57) (Some (c - 48)) None t) ∙ third) in
                  inl (omega (arith, is, leb-true c 57 parts.1), omega (arith, is, leb-true 48 c parts.0))
              | inr h ↦ absurd (none-some v (sym (cond-false (nat_le 48 c && nat_le c 57) (Some (c - 48)) None h) ∙ third))
            ]
      ]
]

digit_is : (c v : ℕ) → hex_digit_value c ≡ Some v → is_upper c ≡ false → slice_index lower_digits v ≡ c
digit_is c v e lower =
    let known = by_value c v e lower in
    let below : v < 16 = elim known [ inl h ↦ omega (arith, h.0) | inr h ↦ h.1 ] in
    let table = by_value (slice_index lower_digits v) v (IsDigits-lower_digits v below) (none_upper_at lower_digits v lower_is_lower) in
    elim known [
      | inl h ↦ elim table [ inl t ↦ t.1 ∙ sym h.1 | inr t ↦ absurd (omega (arith, h.0, t.0)) ]
      | inr h ↦ elim table [ inl t ↦ absurd (omega (arith, h.0, t.0)) | inr t ↦ t.2 ∙ sym h.2 ]
    ]

value_small : (c v : ℕ) → hex_digit_value c ≡ Some v → is_upper c ≡ false → v < 16
value_small c v e lower = elim (by_value c v e lower) [ inl h ↦ omega (arith, h.0) | inr h ↦ h.1 ]

then_ok : {A B : Type 0} (result : Result A FromHexError) (f : A → Result B FromHexError) (y : B) → hex.◌>>=◌ result f ≡ Ok y → (x : A) × (result ≡ Ok x) × (f x ≡ Ok y)
then_ok (Ok x) f y h = (x, refl, h)
then_ok (Err e) f y h = cc h

digit_read : (c i v : ℕ) (option : Option ℕ) → digit_or_error c i option ≡ Ok v → option ≡ Some v
digit_read c i v None e = cc e
digit_read c i v (Some w) e = ap (λ (result : Result ℕ FromHexError). result_ok result) e

decoded-encodes : (i : ℕ) (text bytes : List ℕ) → has_upper text ≡ false → decode_pairs i text ≡ Ok bytes → text ≡ encode_lower bytes
unfolding decode_pairs encode_with
decoded-encodes i [] bytes lower e = ap encode_lower (ap (λ (r : Result (List ℕ) FromHexError). result_unwrap_or r []) e)
decoded-encodes i (a ∷ []) bytes lower e = cc e
decoded-encodes i (a ∷ b ∷ rest) bytes lower e =
    let pair = then_ok (pair_value a b i) _ bytes e in
    let high = then_ok (value_at a i) _ pair.0 pair.1 in
    let low = then_ok (value_at b (i + 1)) _ pair.0 high.2 in
    let more = then_ok (decode_pairs (i + 2) rest) _ bytes pair.2 in
    let h_is = digit_read a i high.0 (hex_digit_value a) high.1 in
    let l_is = digit_read b (i + 1) low.0 (hex_digit_value b) low.1 in
    let a_lower = or_left (is_upper a) (has_upper (b ∷ rest)) lower in
    let b_lower = or_left (is_upper b) (has_upper rest) (or_right (is_upper a) (has_upper (b ∷ rest)) lower) in
    let rest_lower = or_right (is_upper b) (has_upper rest) (or_right (is_upper a) (has_upper (b ∷ rest)) lower) in
    let small = value_small b low.0 l_is b_lower in
    let byte : high.0 * 16 + low.0 ≡ pair.0 = ap (λ (digit : Result ℕ FromHexError). result_unwrap_or digit 0) low.2 in
    let upper_half : pair.0 / 16 ≡ high.0 = omega (arith, byte, small) in
    let lower_half : pair.0 % 16 ≡ low.0 = omega (arith, byte, small) in
    let whole : pair.0 ∷ more.0 ≡ bytes = ap (λ (r : Result (List ℕ) FromHexError). result_unwrap_or r []) more.2 in
    (λ j. sym (ap (slice_index lower_digits) upper_half ∙ digit_is a high.0 h_is a_lower) j
    ∷ sym (ap (slice_index lower_digits) lower_half ∙ digit_is b low.0 l_is b_lower) j
    ∷ decoded-encodes (i + 2) rest more.0 rest_lower more.1 j)
    ∙ ap encode_lower whole

decoded : (r : Result (List ℕ) FromHexError) (bytes : List ℕ) → result_ok r ≡ Some bytes → r ≡ Ok bytes
decoded (Ok x) bytes e = ap Ok (same_Some x bytes e)
decoded (Err x) bytes e = absurd (none-some bytes e)

-- what is read is bytes, of which the text is the digits
pub digits_in-is : (n : ℕ) (text bytes : List ℕ) → digits_in n text ≡ Some bytes → (length bytes ≡ n) × IsBytes bytes × (text ≡ encode_lower bytes)
digits_in-is n text bytes e = elim (cases_Bool (has_upper text)) [
  | inl t ↦ absurd (none-some bytes (sym (cond-true (has_upper text) None (result_ok (decode_sized text n)) t) ∙ e))
  | inr f ↦
      let sized = decoded (decode_sized text n) bytes (sym (cond-false (has_upper text) None (result_ok (decode_sized text n)) f) ∙ e) in
      let twice : length text ≡ 2 * n = decode_sized-ok text n bytes sized in
      let whole : decode_of text ≡ Ok bytes = sym (decode_sized-twice text n twice) ∙ sized in
      let ok = decode_of-ok text bytes whole in
      (omega (arith, ok.2, twice), ok.3, decoded-encodes 0 text bytes f (sym (decode_of-even text (omega (arith, twice))) ∙ whole))
]

-- ---- addresses

joined : (front rest : List ℕ) (s : ℕ) → (front ++ s ∷ []) ++ rest ≡ front ++ s ∷ rest
joined front rest s = append_assoc front (s ∷ []) rest

then_some : {A B : Type 0} (option : Option A) (t : A → Option B) (y : B) → (option >>= t) ≡ Some y → (x : A) × (option ≡ Some x) × (t x ≡ Some y)
then_some None t y e = absurd (none-some y e)
then_some (Some x) t y e = (x, refl, e)

-- four bytes as decimal numbers with points between them
abbrev dotted_four : ℕ → ℕ → ℕ → ℕ → List ℕ
dotted_four a b c d = decimal a ++ 0x2e ∷ (decimal b ++ 0x2e ∷ (decimal c ++ 0x2e ∷ decimal d))

dotted-four : (a b c d : ℕ) → dotted_decimal (a ∷ b ∷ c ∷ d ∷ []) ≡ dotted_four a b c d
dotted-four a b c d =
    (λ i. (decimal a ++ codes ".") ++ ((decimal b ++ codes ".") ++ joined (decimal c) (decimal d) 0x2e i))
    ∙ (λ i. (decimal a ++ codes ".") ++ joined (decimal b) (decimal c ++ 0x2e ∷ decimal d) 0x2e i)
    ∙ joined (decimal a) (decimal b ++ 0x2e ∷ (decimal c ++ 0x2e ∷ decimal d)) 0x2e

no_point : (n : ℕ) → n < 256 → is_free 0x2e (decimal n) ≡ true
no_point n small = decimal-free 0x2e n (inl (omega arith)) (omega (arith, small))

ipv4_in-four : (a b c d : ℕ) → a < 256 → b < 256 → c < 256 → d < 256 → ipv4_in (dotted_four a b c d) ≡ Some (a ∷ b ∷ c ∷ d ∷ [])
ipv4_in-four a b c d a_small b_small c_small d_small =
    rw (
      split_at-free 0x2e (decimal a) (decimal b ++ 0x2e ∷ (decimal c ++ 0x2e ∷ decimal d)) (no_point a a_small),
      split_at-free 0x2e (decimal b) (decimal c ++ 0x2e ∷ decimal d) (no_point b b_small),
      split_at-free 0x2e (decimal c) (decimal d) (no_point c c_small),
      decimal_in-decimal 256 a a_small (omega (arith, a_small)),
      decimal_in-decimal 256 b b_small (omega (arith, b_small)),
      decimal_in-decimal 256 c c_small (omega (arith, c_small)),
      decimal_in-decimal 256 d d_small (omega (arith, d_small)),
    ) refl

-- four numbers below 256 are the bytes of an IPv4 address
four_bytes : (a b c d port : ℕ) → a < 256 → b < 256 → c < 256 → d < 256 → port < 0x10000 → HasWidth 4 (a ∷ b ∷ c ∷ d ∷ []) port
four_bytes a b c d port a_small b_small c_small d_small small = record { long = refl; bytes = at; small = small } where
  at : (i : ℕ) → slice_index (a ∷ b ∷ c ∷ d ∷ []) i < 256
  at zero = a_small
  at (suc zero) = b_small
  at (suc (suc zero)) = c_small
  at (suc (suc (suc zero))) = d_small
  at (suc (suc (suc (suc i)))) = omega arith

pub record AreFour (ip text : List ℕ) : Type 0 where
  pub first : ℕ
  pub second : ℕ
  pub third : ℕ
  pub fourth : ℕ
  pub first_small : first < 256
  pub second_small : second < 256
  pub third_small : third < 256
  pub fourth_small : fourth < 256
  pub ip_is : first ∷ second ∷ third ∷ fourth ∷ [] ≡ ip
  pub text_is : text ≡ dotted_four first second third fourth

ipv4_in-is : (text ip : List ℕ) → ipv4_in text ≡ Some ip → AreFour ip text
ipv4_in-is text ip e =
    let a = then_some (parts_around 0x2e text) _ ip e in
    let b = then_some (parts_around 0x2e a.0.1) _ ip a.2 in
    let c = then_some (parts_around 0x2e b.0.1) _ ip b.2 in
    let first = then_some (decimal_in 256 a.0.0) _ ip c.2 in
    let second = then_some (decimal_in 256 b.0.0) _ ip first.2 in
    let third = then_some (decimal_in 256 c.0.0) _ ip second.2 in
    let fourth = then_some (decimal_in 256 c.0.1) _ ip third.2 in
    let first_is = decimal_in-is 256 a.0.0 first.0 first.1 in
    let second_is = decimal_in-is 256 b.0.0 second.0 second.1 in
    let third_is = decimal_in-is 256 c.0.0 third.0 third.1 in
    let fourth_is = decimal_in-is 256 c.0.1 fourth.0 fourth.1 in
    record {
      first = first.0;
      second = second.0;
      third = third.0;
      fourth = fourth.0;
      first_small = first_is.0;
      second_small = second_is.0;
      third_small = third_is.0;
      fourth_small = fourth_is.0;
      ip_is = same_Some (first.0 ∷ second.0 ∷ third.0 ∷ fourth.0 ∷ []) ip fourth.2;
      text_is =
          split_at-joins 0x2e text a.0 a.1
          ∙ (λ i. first_is.1 i ++ 0x2e ∷ split_at-joins 0x2e a.0.1 b.0 b.1 i)
          ∙ (λ i. decimal first.0 ++ 0x2e ∷ (second_is.1 i ++ 0x2e ∷ split_at-joins 0x2e b.0.1 c.0 c.1 i))
          ∙ (λ i. decimal first.0 ++ 0x2e ∷ (decimal second.0 ++ 0x2e ∷ (third_is.1 i ++ 0x2e ∷ fourth_is.1 i)));
    }

dotted_free : (s a b c d : ℕ) → (s < 46) ⊎ (57 < s) → a < 256 → b < 256 → c < 256 → d < 256 → is_free s (dotted_four a b c d) ≡ true
dotted_free s a b c d outside a_small b_small c_small d_small =
    let far : (s < 48) ⊎ (57 < s) = elim outside [ inl low ↦ inl (omega arith) | inr high ↦ inr high ] in
    let point : not (0x2e == s) ≡ true = not_true (0x2e == s) (differs 0x2e s (λ e. elim outside [ inl low ↦ absurd (omega arith) | inr high ↦ absurd (omega arith) ])) in
    let free : (n : ℕ) → n < 256 → is_free s (decimal n) ≡ true = λ n small. decimal-free s n far (omega (arith, small)) in
    is_free-append s (decimal a) _ (free a a_small) (and_from (not (0x2e == s)) _ point
    (is_free-append s (decimal b) _ (free b b_small) (and_from (not (0x2e == s)) _ point
    (is_free-append s (decimal c) _ (free c c_small) (and_from (not (0x2e == s)) _ point (free d d_small))))))

-- ---- addresses of IPv6

abbrev same_glyphs : ℕ → Bool
same_glyphs zero = true
same_glyphs (suc n) = (digit_glyph false n == slice_index lower_digits n) && same_glyphs n

glyph_at : (n k : ℕ) → same_glyphs n ≡ true → k < n → digit_glyph false k ≡ slice_index lower_digits k
glyph_at zero k h lt = absurd (omega arith)
glyph_at (suc n) k h lt =
    let parts = and_parts (digit_glyph false n == slice_index lower_digits n) (same_glyphs n) h in
    elim (cases_lt k n) [
      | inl below ↦ glyph_at n k parts.1 below
      | inr top ↦
          let e : k ≡ n = omega arith in
          subst (λ (j : ℕ). digit_glyph false j ≡ slice_index lower_digits j) (sym e) (eqb-true (digit_glyph false n) (slice_index lower_digits n) parts.0)
    ]

glyph_is : (d : ℕ) → d < 16 → digit_glyph false d ≡ slice_index lower_digits d
glyph_is d lt = glyph_at 16 d refl lt

-- the digits that an address displays are those that are read
pub digits_are : (ip : List ℕ) → IsBytes ip → flat_map hex_digits ip ≡ encode_lower ip
unfolding encode_with
digits_are [] fit = refl
digits_are (b ∷ ip) fit =
    let small : b < 256 = fit 0 in
    λ i. glyph_is (b / 16) (omega (arith, small)) i ∷ glyph_is (b % 16) (omega arith) i ∷ digits_are ip (λ k. fit (suc k)) i

abbrev bracketed : List ℕ → List ℕ
bracketed ip = 0x5b ∷ (encode_lower ip ++ 0x5d ∷ [])

bracketed-text : (ip : List ℕ) (port : ℕ) → IsBytes ip → address_text (V6 ip port) ≡ bracketed ip ++ 0x3a ∷ decimal port
bracketed-text ip port fit =
    let digits : List ℕ = encode_lower ip in
    (λ i. ((codes "[" ++ digits_are ip fit i) ++ codes "]:") ++ decimal port)
    ∙ ap (λ (l : List ℕ). 0x5b ∷ l) (append_assoc digits (0x5d ∷ 0x3a ∷ []) (decimal port) ∙ sym (append_assoc digits (0x5d ∷ []) (0x3a ∷ decimal port)))

bracketed-free : (s : ℕ) (ip : List ℕ) → 0 < s → is_free s lower_digits ≡ true → is_free s (codes "[]") ≡ true → is_free s (bracketed ip) ≡ true
bracketed-free s ip some lower brackets =
    let parts = and_parts (not (0x5b == s)) (is_free s (0x5d ∷ [])) brackets in
    and_from (not (0x5b == s)) (is_free s (encode_lower ip ++ 0x5d ∷ [])) parts.0 (is_free-append s (encode_lower ip) (0x5d ∷ []) (encoded-free_of s ip some lower) parts.1)

ipv6_in-text : (ip : List ℕ) → length ip ≡ 16 → IsBytes ip → ipv6_in (bracketed ip) ≡ Some ip
ipv6_in-text ip long fit =
    rw (
      split_at-free 0x5d (encode_lower ip) [] (encoded-free_of 0x5d ip (omega arith) refl),
      digits_in-encoded 16 ip long fit,
    ) refl

guarded : {A : Type 0} (b : Bool) (x : Option A) (v : A) → (guard b >>= λ _. x) ≡ Some v → (b ≡ true) × (x ≡ Some v)
guarded true x v e = (refl, e)
guarded false x v e = absurd (none-some v e)

ipv6_in-is : (text ip : List ℕ) → ipv6_in text ≡ Some ip → (length ip ≡ 16) × IsBytes ip × (text ≡ bracketed ip)
ipv6_in-is text ip e =
    let opened = then_some (parts_around 0x5b text) _ ip e in
    let closed = then_some (parts_around 0x5d opened.0.1) _ ip opened.2 in
    let rest = guarded (bytes_eq opened.0.0 [] && bytes_eq closed.0.1 []) (digits_in 16 closed.0.0) ip closed.2 in
    let empty = and_parts (bytes_eq opened.0.0 []) (bytes_eq closed.0.1 []) rest.0 in
    let before : opened.0.0 ≡ [] = (bytes_eq-Decides opened.0.0 []).0 empty.0 in
    let after : closed.0.1 ≡ [] = (bytes_eq-Decides closed.0.1 []).0 empty.1 in
    let digits = digits_in-is 16 closed.0.0 ip rest.1 in (
      digits.0,
      digits.1,
      split_at-joins 0x5b text opened.0 opened.1
          ∙ (λ i. before i ++ 0x5b ∷ split_at-joins 0x5d opened.0.1 closed.0 closed.1 i)
          ∙ (λ i. 0x5b ∷ (digits.2 i ++ 0x5d ∷ after i)),
    )

free_of_bracket : (text : List ℕ) → is_free 0x5b text ≡ true → is_bracketed text ≡ false
free_of_bracket [] free = refl
free_of_bracket (b ∷ text) free = not_false (b == 0x5b) (and_parts (not (b == 0x5b)) (is_free 0x5b text) free).0

mapped_from : {A B : Type 0} (f : A → B) (o : Option A) (v : B) → option_map f o ≡ Some v → (x : A) × (o ≡ Some x) × (f x ≡ v)
mapped_from f None v e = absurd (none-some v e)
mapped_from f (Some x) v e = (x, refl, same_Some (f x) v e)

-- ---- addresses

-- an address is read from its text, which has no blank
pub address_in-text : (address : Addr) → IsAddress address → (address_in_text (address_text address) ≡ Some address) × (is_free 0x20 (address_text address) ≡ true)
address_in-text (V6 ip port) is =
    let host = bracketed ip in
    let text : address_text (V6 ip port) ≡ host ++ 0x3a ∷ decimal port = bracketed-text ip port is.bytes in
    let small : port < 2 ^ 64 = omega (arith, is.small) in
    let parsed : address_in_text (host ++ 0x3a ∷ decimal port) ≡ Some (V6 ip port) =
    rw (
      split_at-free 0x3a host (decimal port) (bracketed-free 0x3a ip (omega arith) refl refl),
      decimal_in-decimal 0x10000 port is.small small,
    ) (ap (option_map (λ ip. V6 ip port)) (ipv6_in-text ip is.long is.bytes)) in
    let free : is_free 0x20 (host ++ 0x3a ∷ decimal port) ≡ true =
    is_free-append 0x20 host (0x3a ∷ decimal port) (bracketed-free 0x20 ip (omega arith) refl refl) (decimal-free 0x20 port (inl (omega arith)) small) in
    (ap address_in_text text ∙ parsed, ap (is_free 0x20) text ∙ free)
address_in-text (V4 [] port) is = absurd (omega (arith, is.long))
address_in-text (V4 (a ∷ []) port) is = absurd (omega (arith, is.long))
address_in-text (V4 (a ∷ b ∷ []) port) is = absurd (omega (arith, is.long))
address_in-text (V4 (a ∷ b ∷ c ∷ []) port) is = absurd (omega (arith, is.long))
address_in-text (V4 (a ∷ b ∷ c ∷ d ∷ e ∷ ip) port) is = absurd (omega (arith, is.long))
address_in-text (V4 (a ∷ b ∷ c ∷ d ∷ []) port) is =
    let host = dotted_four a b c d in
    let text : address_text (V4 (a ∷ b ∷ c ∷ d ∷ []) port) ≡ host ++ 0x3a ∷ decimal port = (λ i. (dotted-four a b c d i ++ codes ":") ++ decimal port) ∙ joined host (decimal port) 0x3a in
    let small : port < 2 ^ 64 = omega (arith, is.small) in
    let a_small : a < 256 = is.bytes 0 in
    let b_small : b < 256 = is.bytes 1 in
    let c_small : c < 256 = is.bytes 2 in
    let d_small : d < 256 = is.bytes 3 in
    let parsed : address_in_text (host ++ 0x3a ∷ decimal port) ≡ Some (V4 (a ∷ b ∷ c ∷ d ∷ []) port) =
    rw (
      split_at-free 0x3a host (decimal port) (dotted_free 0x3a a b c d (inr (omega arith)) a_small b_small c_small d_small),
      decimal_in-decimal 0x10000 port is.small small,
      free_of_bracket host (dotted_free 0x5b a b c d (inr (omega arith)) a_small b_small c_small d_small),
      ipv4_in-four a b c d a_small b_small c_small d_small,
    ) refl in
    let free : is_free 0x20 (host ++ 0x3a ∷ decimal port) ≡ true =
    is_free-append 0x20 host (0x3a ∷ decimal port) (dotted_free 0x20 a b c d (inl (omega arith)) a_small b_small c_small d_small) (decimal-free 0x20 port (inl (omega arith)) small) in
    (ap address_in_text text ∙ parsed, ap (is_free 0x20) text ∙ free)

host_in-is : (text : List ℕ) (port : ℕ) (address : Addr) → port < 0x10000 → host_in text port ≡ Some address → IsAddress address × (text ++ 0x3a ∷ decimal port ≡ address_text address)
host_in-is text port address small e = elim (cases_Bool (is_bracketed text)) [
  | inl t ↦
      let six = mapped_from (λ ip. V6 ip port) (ipv6_in text) address (sym (cond-true (is_bracketed text) (option_map (λ ip. V6 ip port) (ipv6_in text)) (option_map (λ ip. V4 ip port) (ipv4_in text)) t) ∙ e) in
      let read = ipv6_in-is text six.0 six.1 in
      let is : IsAddress (V6 six.0 port) = record { long = read.0; bytes = read.1; small = small } in
      (subst IsAddress six.2 is, (λ i. read.2 i ++ 0x3a ∷ decimal port) ∙ sym (bracketed-text six.0 port read.1) ∙ ap address_text six.2)
  | inr f ↦
      let ip = mapped_from (λ ip. V4 ip port) (ipv4_in text) address (sym (cond-false (is_bracketed text) (option_map (λ ip. V6 ip port) (ipv6_in text)) (option_map (λ ip. V4 ip port) (ipv4_in text)) f) ∙ e) in
      let four = ipv4_in-is text ip.0 ip.1 in
      let of_four : V4 (four.first ∷ four.second ∷ four.third ∷ four.fourth ∷ []) port ≡ address = ap (λ (l : List ℕ). V4 l port) four.ip_is ∙ ip.2 in (
        subst IsAddress of_four (four_bytes four.first four.second four.third four.fourth port four.first_small four.second_small four.third_small four.fourth_small small),
        (λ i. four.text_is i ++ 0x3a ∷ decimal port)
            ∙ sym ((λ i. (dotted-four four.first four.second four.third four.fourth i ++ codes ":") ++ decimal port) ∙ joined (dotted_four four.first four.second four.third four.fourth) (decimal port) 0x3a)
            ∙ ap address_text of_four,
      )
]

pub address_in-is : (text : List ℕ) (address : Addr) → address_in_text text ≡ Some address → IsAddress address × (text ≡ address_text address)
address_in-is text address e =
    let parts = then_some (parts_around 0x3a text) _ address e in
    let port = then_some (decimal_in 0x10000 parts.0.1) _ address parts.2 in
    let port_is = decimal_in-is 0x10000 parts.0.1 port.0 port.1 in
    let host = host_in-is parts.0.0 port.0 address port_is.0 port.2 in
    (host.0, split_at-joins 0x3a text parts.0 parts.1 ∙ (λ i. parts.0.0 ++ 0x3a ∷ port_is.1 i) ∙ host.1)

-- ---- the bytes of a datagram

content_in-text : (bytes : List ℕ) → length bytes ≤ MAX_DATAGRAM → IsBytes bytes → content_in (bytes_text bytes) ≡ Some bytes
content_in-text [] few fit = refl
content_in-text (b ∷ bytes) few fit =
    let text = encode_lower (b ∷ bytes) in
    let long : length text ≡ 2 * length (b ∷ bytes) = length-encode_with lower_digits (b ∷ bytes) in
    let half : length text / 2 ≡ length (b ∷ bytes) = omega (arith, long) in
    let other : bytes_eq text (codes "-") ≡ false = elim (cases_Bool (bytes_eq text (codes "-"))) [
      | inl t ↦
          let same : length text ≡ 1 = ap length ((bytes_eq-Decides text (codes "-")).0 t) in
          absurd (omega (arith, same, long))
      | inr f ↦ f
    ] in
    let inside : is_between 1 MAX_DATAGRAM (length text / 2) ≡ true =
    and_from (nat_le 1 (length text / 2)) (nat_le (length text / 2) MAX_DATAGRAM) (le-leb 1 (length text / 2) (omega (arith, half))) (le-leb (length text / 2) MAX_DATAGRAM (omega (arith, half, few))) in
    cond-false (bytes_eq text (codes "-")) (Some []) _ other
    ∙ cond-true (is_between 1 MAX_DATAGRAM (length text / 2)) (digits_in (length text / 2) text) None inside
    ∙ digits_in-encoded (length text / 2) (b ∷ bytes) (sym half) fit

spelled : (text bytes : List ℕ) → 1 ≤ length bytes → text ≡ encode_lower bytes → text ≡ bytes_text bytes
spelled text [] some e = absurd (omega (arith, some))
spelled text (b ∷ bytes) some e = e

content_in-is : (text bytes : List ℕ) → content_in text ≡ Some bytes → (length bytes ≤ MAX_DATAGRAM) × IsBytes bytes × (text ≡ bytes_text bytes)
content_in-is text bytes e = elim (cases_Bool (bytes_eq text (codes "-"))) [
  | inl t ↦
      let is : [] ≡ bytes = same_Some [] bytes (sym (cond-true (bytes_eq text (codes "-")) (Some []) _ t) ∙ e) in
      let P : List ℕ → Type 0 = λ l. (length l ≤ MAX_DATAGRAM) × IsBytes l × (text ≡ bytes_text l) in
      subst P is (omega arith, λ i. omega arith, (bytes_eq-Decides text (codes "-")).0 t)
  | inr f ↦
      let sized = sym (cond-false (bytes_eq text (codes "-")) (Some []) _ f) ∙ e in
      elim (cases_Bool (is_between 1 MAX_DATAGRAM (length text / 2))) [
        | inl t ↦
            let parts = and_parts (nat_le 1 (length text / 2)) (nat_le (length text / 2) MAX_DATAGRAM) t in
            let is = digits_in-is (length text / 2) text bytes (sym (cond-true (is_between 1 MAX_DATAGRAM (length text / 2)) (digits_in (length text / 2) text) None t) ∙ sized) in
            (omega (arith, is.0, leb-true (length text / 2) MAX_DATAGRAM parts.1), is.1, spelled text bytes (omega (arith, is.0, leb-true 1 (length text / 2) parts.0)) is.2)
        | inr g ↦ absurd (none-some bytes (sym (cond-false (is_between 1 MAX_DATAGRAM (length text / 2)) (digits_in (length text / 2) text) None g) ∙ sized))
      ]
]

-- ---- sources

-- the reader of a side's sources
abbrev pub source_in : ℕ → Source → List ℕ → Option (Source × List ℕ)
source_in slots (Client client) = client_in_text
source_in slots (Peer slot peer) = peer_in slots

source_in-text : (slots : ℕ) (from : Source) (rest : List ℕ) → slots < 2 ^ 64 → IsSource slots from → source_in slots from (source_text from ++ 0x20 ∷ rest) ≡ Some (from, rest)
source_in-text slots (Client client) rest few is =
    let text = address_in-text client is in
    rw (split_at-free 0x20 (address_text client) rest text.1, text.0) refl
source_in-text slots (Peer slot peer) rest few is =
    let text = address_in-text peer is.1 in
    let small : slot < 2 ^ 64 = omega (arith, is.0, few) in
    let whole : source_text (Peer slot peer) ++ 0x20 ∷ rest ≡ decimal slot ++ 0x20 ∷ (address_text peer ++ 0x20 ∷ rest) = append_assoc (decimal slot) (0x20 ∷ address_text peer) (0x20 ∷ rest) in
    ap (peer_in slots) whole
    ∙ rw (
      split_at-free 0x20 (decimal slot) (address_text peer ++ 0x20 ∷ rest) (decimal-free 0x20 slot (inl (omega arith)) small),
      split_at-free 0x20 (address_text peer) rest text.1,
      decimal_in-decimal slots slot is.0 small,
      text.0,
    ) refl

-- a source that was read, and the text that it was read from
abbrev IsRead : ℕ → List ℕ → Source × List ℕ → Type 0
IsRead slots text source = IsSource slots source.0 × (text ≡ source_text source.0 ++ 0x20 ∷ source.1)

client_in-is : (slots : ℕ) (text : List ℕ) (source : Source × List ℕ) → client_in_text text ≡ Some source → IsRead slots text source × (codes "c" ≡ side_text source.0)
client_in-is slots text source e =
    let parts = then_some (parts_around 0x20 text) _ source e in
    let client = then_some (address_in_text parts.0.0) _ source parts.2 in
    let is = address_in-is parts.0.0 client.0 client.1 in
    let same : (Client client.0, parts.0.1) ≡ source = same_Some (Client client.0, parts.0.1) source client.2 in
    let P : Source × List ℕ → Type 0 = λ q. IsRead slots text q × (codes "c" ≡ side_text q.0) in
    subst P same ((is.0, split_at-joins 0x20 text parts.0 parts.1 ∙ (λ i. is.1 i ++ 0x20 ∷ parts.0.1)), refl)

peer_in-is : (slots : ℕ) (text : List ℕ) (source : Source × List ℕ) → peer_in slots text ≡ Some source → IsRead slots text source × (codes "p" ≡ side_text source.0)
peer_in-is slots text source e =
    let first = then_some (parts_around 0x20 text) _ source e in
    let second = then_some (parts_around 0x20 first.0.1) _ source first.2 in
    let slot = then_some (decimal_in slots first.0.0) _ source second.2 in
    let peer = then_some (address_in_text second.0.0) _ source slot.2 in
    let slot_is = decimal_in-is slots first.0.0 slot.0 slot.1 in
    let is = address_in-is second.0.0 peer.0 peer.1 in
    let same : (Peer slot.0 peer.0, second.0.1) ≡ source = same_Some (Peer slot.0 peer.0, second.0.1) source peer.2 in
    let whole : text ≡ (decimal slot.0 ++ 0x20 ∷ address_text peer.0) ++ 0x20 ∷ second.0.1 =
    split_at-joins 0x20 text first.0 first.1
    ∙ (λ i. slot_is.1 i ++ 0x20 ∷ split_at-joins 0x20 first.0.1 second.0 second.1 i)
    ∙ (λ i. decimal slot.0 ++ 0x20 ∷ (is.1 i ++ 0x20 ∷ second.0.1))
    ∙ sym (append_assoc (decimal slot.0) (0x20 ∷ address_text peer.0) (0x20 ∷ second.0.1)) in
    let P : Source × List ℕ → Type 0 = λ q. IsRead slots text q × (codes "p" ≡ side_text q.0) in
    subst P same (((slot_is.0, is.0), whole), refl)

-- ---- datagrams

datagram_in-text : (slots : ℕ) (source : List ℕ → Option (Source × List ℕ)) (given : Meta) (bytes : List ℕ)
    → source (source_text given.from ++ 0x20 ∷ bytes_text bytes) ≡ Some (given.from, bytes_text bytes)
    → IsEvent slots (Datagram given bytes) → datagram_in_text source (datagram_text given bytes) ≡ Some (Datagram given bytes)
datagram_in-text slots source given bytes from is =
    let rest = source_text given.from ++ 0x20 ∷ bytes_text bytes in
    rw (
      split_at-free 0x20 (decimal given.now) (encode_lower given.tx ++ 0x20 ∷ rest) (decimal-free 0x20 given.now (inl (omega arith)) is.0),
      split_at-free 0x20 (encode_lower given.tx) rest (encoded-free given.tx),
      decimal_in-decimal (2 ^ 64) given.now is.0 is.0,
      digits_in-encoded 12 given.tx is.1 is.2,
      from,
      content_in-text bytes is.4 is.5,
    ) refl

-- a datagram that was read, where its source was read of a side
datagram_in-is : (slots : ℕ) (side : List ℕ) (source : List ℕ → Option (Source × List ℕ)) (text : List ℕ) (j : Event)
    → ((t : List ℕ) (p : Source × List ℕ) → source t ≡ Some p → IsRead slots t p × (side ≡ side_text p.0))
    → datagram_in_text source text ≡ Some j → IsEvent slots j × (side ++ 0x20 ∷ text ≡ line_of j)
datagram_in-is slots side source text j reads h =
    let first = then_some (parts_around 0x20 text) _ j h in
    let second = then_some (parts_around 0x20 first.0.1) _ j first.2 in
    let now = then_some (decimal_in (2 ^ 64) first.0.0) _ j second.2 in
    let tx = then_some (digits_in 12 second.0.0) _ j now.2 in
    let from = then_some (source second.0.1) _ j tx.2 in
    let bytes = then_some (content_in from.0.1) _ j from.2 in
    let now_is = decimal_in-is (2 ^ 64) first.0.0 now.0 now.1 in
    let id_is = digits_in-is 12 second.0.0 tx.0 tx.1 in
    let from_is = reads second.0.1 from.0 from.1 in
    let bytes_are = content_in-is from.0.1 bytes.0 bytes.1 in
    let given : Meta = record { now = now.0; tx = tx.0; from = from.0.0 } in
    let same : Datagram given bytes.0 ≡ j = same_Some (Datagram given bytes.0) j bytes.2 in
    let whole : text ≡ datagram_text given bytes.0 =
    split_at-joins 0x20 text first.0 first.1
    ∙ (λ i. now_is.1 i ++ 0x20 ∷ split_at-joins 0x20 first.0.1 second.0 second.1 i)
    ∙ (λ i. decimal now.0 ++ 0x20 ∷ (id_is.2 i ++ 0x20 ∷ from_is.0.1 i))
    ∙ (λ i. decimal now.0 ++ 0x20 ∷ (encode_lower tx.0 ++ 0x20 ∷ (source_text from.0.0 ++ 0x20 ∷ bytes_are.2 i))) in
    let P : Event → Type 0 = λ d. IsEvent slots d × (side ++ 0x20 ∷ text ≡ line_of d) in
    subst P same ((now_is.0, id_is.0, id_is.1, from_is.0.0, bytes_are.0, bytes_are.1), λ i. from_is.1 i ++ 0x20 ∷ whole i)

-- ---- lines

-- the side names the reader of its source
by_side : (slots : ℕ) (from : Source) (text : List ℕ) → event_in slots (side_text from ++ 0x20 ∷ text) ≡ datagram_in_text (source_in slots from) text
by_side slots (Client client) text = refl
by_side slots (Peer slot peer) text = refl

-- the event of an event's line
pub event_in-line_of : (slots : ℕ) (j : Event) → slots < 2 ^ 64 → IsEvent slots j → event_in slots (line_of j) ≡ Some j
event_in-line_of slots (Datagram given bytes) few is =
    by_side slots given.from (datagram_text given bytes)
    ∙ datagram_in-text slots (source_in slots given.from) given bytes (source_in-text slots given.from (bytes_text bytes) few is.3) is
event_in-line_of slots (Nonce text) few is = cond-true (is_nonce text) (Some (Nonce text)) None is

nonce_in-is : (text : List ℕ) (j : Event) → nonce_in text ≡ Some j → (is_nonce text ≡ true) × (Nonce text ≡ j)
nonce_in-is text j h = elim (cases_Bool (is_nonce text)) [
  | inl t ↦ (t, same_Some (Nonce text) j (sym (cond-true (is_nonce text) (Some (Nonce text)) None t) ∙ h))
  | inr f ↦ absurd (none-some j (sym (cond-false (is_nonce text) (Some (Nonce text)) None f) ∙ h))
]

-- an event that was read, and the line that it was read from
pub event_in-is : (slots : ℕ) (line : List ℕ) (j : Event) → event_in slots line ≡ Some j → IsEvent slots j × (line ≡ line_of j)
event_in-is slots line j h =
    let parts = then_some (parts_around 0x20 line) _ j h in
    let kind : List ℕ = parts.0.0 in
    let text : List ℕ = parts.0.1 in
    let P : List ℕ → Type 0 = λ l. IsEvent slots j × (l ≡ line_of j) in
    let whole : line ≡ kind ++ 0x20 ∷ text = split_at-joins 0x20 line parts.0 parts.1 in
    let named : (side : List ℕ) → bytes_eq kind side ≡ true → side ++ 0x20 ∷ text ≡ line = λ side t. (λ i. sym ((bytes_eq-Decides kind side).0 t) i ++ 0x20 ∷ text) ∙ sym whole in
    subst P refl (elim (cases_Bool (bytes_eq kind (codes "c"))) [
      | inl t ↦
          let is = datagram_in-is slots (codes "c") client_in_text text j (client_in-is slots) (sym (cond-true (bytes_eq kind (codes "c")) (datagram_in_text client_in_text text) _ t) ∙ parts.2) in
          (is.0, sym (named (codes "c") t) ∙ is.1)
      | inr f ↦
          let second = sym (cond-false (bytes_eq kind (codes "c")) (datagram_in_text client_in_text text) _ f) ∙ parts.2 in
          elim (cases_Bool (bytes_eq kind (codes "p"))) [
            | inl t ↦
                let is = datagram_in-is slots (codes "p") (peer_in slots) text j (peer_in-is slots) (sym (cond-true (bytes_eq kind (codes "p")) (datagram_in_text (peer_in slots) text) _ t) ∙ second) in
                (is.0, sym (named (codes "p") t) ∙ is.1)
            | inr g ↦
                let third = sym (cond-false (bytes_eq kind (codes "p")) (datagram_in_text (peer_in slots) text) _ g) ∙ second in
                elim (cases_Bool (bytes_eq kind (codes "n"))) [
                  | inl t ↦
                      let is = nonce_in-is text j (sym (cond-true (bytes_eq kind (codes "n")) (nonce_in text) None t) ∙ third) in
                      let Q : Event → Type 0 = λ d. IsEvent slots d × (line ≡ line_of d) in
                      subst Q is.1 (is.0, sym (named (codes "n") t))
                  | inr k ↦ absurd (none-some j (sym (cond-false (bytes_eq kind (codes "n")) (nonce_in text) None k) ∙ third))
                ]
          ]
    ])
