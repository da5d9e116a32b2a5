-- What the parsers of the library make of the parts of a network's text.
use Rattle.std.proofs.Common.{◌≡◌, ◌≢◌, ℕ, zero, suc, ◌+◌, ◌^◌, ◌<◌, ◌≤◌, arith, sym, subst, Bool, true, false, not, cond, ◌||◌, refl, List, [], ◌∷◌, length, None, Result, Ok, Err, slice_index}
use Rattle.std.specs.List.{list_any, position_or_len, before_first, after_first}
use Rattle.std.specs.Char.{digit_value}
use Rattle.std.specs.Result.{result_ok, OkIff}
use Rattle.std.specs.Str.Parse.{IsNumeral, ParsesUnsigned, digits_value, without_leading_plus}
use Rattle.std.specs.Net.Grammar.{IsIpv4Text, IsIpv6Text, Parses}
use Rattle.std.specs.declared.net.ipv4_addr.Ipv4Addr.{Ipv4Addr}
use Rattle.std.specs.declared.net.ipv6_addr.Ipv6Addr.{Ipv6Addr}
use Rattle.std.specs.declared.net.parser.AddrParseError.{AddrParseError}
use Rattle.std.proofs.lemmas.Bool.Decides.{nat_tests}
use Rattle.std.proofs.lemmas.Grind.{common_steps}
use Rattle.std.proofs.lemmas.Option.{none-some}
use Rattle.std.proofs.lemmas.Int.Digits.{digits_value-lt}
use Rattle.peer_filter.specs.Networks.{AreBits, AreBitsIn, IsIpv4, IsIpv4In, IsIpv6, IsIpv6In, IsNetworkText, IsAddressText, IsAccepted, IsParsed, is_slash, prefix_bits}
use Rattle.peer_filter.specs.declared.network.Network.{Network}
use Rattle.peer_filter.specs.declared.network.Network.TheVariants.{V4, V6}
use Rattle.peer_filter.specs.declared.network.NetworkError.{NetworkError}
use Rattle.peer_filter.specs.declared.network.NetworkError.TheVariants.{NotANetwork, Bits, HostBits}

pub no_ipv4 : (text : List ℕ) (r : Result Ipv4Addr AddrParseError) → Parses IsIpv4Text text r → result_ok r ≡ None → IsIpv4In text None
no_ipv4 text (Ok a) is none = absurd (none-some a (sym none))
no_ipv4 text (Err e) is none = λ number found. is found.0 found.1.0

pub no_ipv6 : (text : List ℕ) (r : Result Ipv6Addr AddrParseError) → Parses IsIpv6Text text r → result_ok r ≡ None → IsIpv6In text None
no_ipv6 text (Ok a) is none = absurd (none-some a (sym none))
no_ipv6 text (Err e) is none = λ number found. is found.0 found.1.0

-- ---- the number of bits

no_sign : (text : List ℕ) → slice_index text 0 ≢ 43 → without_leading_plus text ≡ text
no_sign text other = grind (arith, common_steps, nat_tests)

few_digits : (n : ℕ) → n ≤ 3 → 10 ^ n ≤ 1000
few_digits zero few = omega arith
few_digits (suc zero) few = omega arith
few_digits (suc (suc zero)) few = omega arith
few_digits (suc (suc (suc zero))) few = omega arith
few_digits (suc (suc (suc (suc n)))) few = absurd (omega arith)

bits_from : {E : Type 0} (ds : List ℕ) (r : Result ℕ E) → length ds ≤ 3
    → OkIff r (IsNumeral 10 ds × (digits_value 10 ds < 2 ^ 16)) (digits_value 10 ds) → AreBitsIn ds (result_ok r)
bits_from ds (Ok x) few is = ((is.0.0, few), sym is.1)
bits_from ds (Err e) few is = λ bits are.
    let below : digits_value 10 ds < 10 ^ length ds = digits_value-lt 10 ds are.0.0.1 in
    is (are.0.0, omega (arith, below, few_digits (length ds) few))

pub bits_parsed : {E : Type 0} (text : List ℕ) (r : Result ℕ E) → length text ≤ 3 → slice_index text 0 ≢ 43
    → ParsesUnsigned 16 10 text r → AreBitsIn text (result_ok r)
bits_parsed text r few other is = bits_from text r few (subst (λ (ds : List ℕ). OkIff r (IsNumeral 10 ds × (digits_value 10 ds < 2 ^ 16)) (digits_value 10 ds)) (no_sign text other) is)

pub no_bits-plus : (text : List ℕ) → slice_index text 0 ≡ 43 → AreBitsIn text None
no_bits-plus [] plus = λ bits are. absurd (omega (arith, are.0.0.0))
no_bits-plus (c ∷ cs) plus = λ bits are.
    let low : digit_value 43 < 10 = subst (λ b. digit_value b < 10) plus are.0.0.1.0 in
    absurd (omega (arith, low))

-- ---- the network

pub parsed : (text : List ℕ) (network : Network) (r : Result Network NetworkError) → IsNetworkText text network → IsAccepted network r → IsParsed text r
parsed text network (Ok accepted) is checked = (network, (is, checked))
parsed text network (Err NotANetwork) is checked = absurd checked
parsed text network (Err Bits) is checked = (network, (is, checked))
parsed text network (Err HostBits) is checked = (network, (is, checked))

has_slash : (text : List ℕ) → position_or_len is_slash text < length text → list_any is_slash text ≡ true
has_slash [] inside = absurd (omega arith)
has_slash (x ∷ xs) inside = go (is_slash x) (has_slash xs) inside
  where
    go : (b : Bool) → (position_or_len is_slash xs < length xs → list_any is_slash xs ≡ true)
        → cond (not b) (1 + position_or_len is_slash xs) 0 < suc (length xs) → (b || list_any is_slash xs) ≡ true
    go true rest less = refl
    go false rest less = rest (omega (arith, less))

pub split_text : (text address digits : List ℕ) (network : Network) → address ≡ before_first is_slash text → digits ≡ after_first is_slash text
    → position_or_len is_slash text < length text → IsAddressText address network → AreBits digits (prefix_bits network) → IsNetworkText text network
split_text text address digits network before after inside written bits = record {
  slash = has_slash text inside;
  address = subst (λ (front : List ℕ). IsAddressText front network) before written;
  bits = subst (λ (rest : List ℕ). AreBits rest (prefix_bits network)) after bits;
}

pub not_written : (text address : List ℕ) → address ≡ before_first is_slash text → IsIpv4In address None → IsIpv6In address None
    → (network : Network) → ¬ (IsNetworkText text network)
not_written text address before none4 none6 (V4 number bits) is =
    none4 number (subst (λ (front : List ℕ). IsIpv4 front number) (sym before) is.address)
not_written text address before none4 none6 (V6 number bits) is =
    none6 number (subst (λ (front : List ℕ). IsIpv6 front number) (sym before) is.address)
