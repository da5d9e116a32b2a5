-- Bytes that were unmasked give the masked ones back.
use Rattle.std.proofs.Common.{◌≡◌, ℕ, ◌<◌, ◌+◌, ◌≤◌, ◌^◌, List, [], length, take, drop, get_or, sym, ap, ◌∙◌, subst, arith, Fits, w8, ◌⊎◌, inl, inr}
use Rattle.std.specs.Prelude.{bit_xor}
use Rattle.std.specs.Int.{bytes_high_first}
use Rattle.std.specs.Int.Bits.{xor_assoc, xor_self, xor_zero_r}
use Rattle.std.proofs.lemmas.List.{append-nil, get_or-drop, length-drop}
use Rattle.stun.specs.Endian.{big_from, big_number, big_bytes}
use Rattle.stun.specs.Numbers.{big_number-reads_back, big_from-lt, length-bytes_high_first}
use Rattle.stun.specs.Registry.{magic_cookie}
use Rattle.attributes.specs.Addresses.{IsAddressValue, address_value, ipv6_mask, xor_bytes}
use Rattle.addresses.specs.declared.address.Addr.{Addr}
use Rattle.addresses.specs.declared.address.Addr.TheVariants.{V4, V6}
use Rattle.attributes.specs.laws.Number.{bytes_back, all_fit}

pub twice : (a mask : ℕ) → bit_xor (bit_xor a mask) mask ≡ a
twice a mask = xor_assoc a mask mask ∙ ap (bit_xor a) (xor_self mask) ∙ xor_zero_r a

pub read_back : (n y : ℕ) → y < 256 ^ n → big_number n (bytes_high_first n y) ≡ y
read_back n y lt = ap (big_from 0 n) (sym (append-nil (bytes_high_first n y))) ∙ big_number-reads_back n y [] lt

fit_after : (n : ℕ) (xs : List ℕ) → ((i : ℕ) → Fits w8 (get_or xs i 0)) → (i : ℕ) → Fits w8 (get_or (drop n xs) i 0)
fit_after n xs fit i = subst (λ (b : ℕ). Fits w8 b) (sym (get_or-drop n xs i 0)) (fit (n + i))

-- of a value, the n bytes after its first four
pub masked_back : (n : ℕ) (value : List ℕ) (mask number : ℕ) (ip : List ℕ) → n + 4 ≤ length value → ((i : ℕ) → Fits w8 (get_or value i 0)) → number ≡ big_number n (drop 4 value) → ip ≡ bytes_high_first n (bit_xor number mask)
    → bit_xor number mask < 256 ^ n → xor_bytes n ip mask ≡ take n (drop 4 value)
unfolding xor_bytes
masked_back n value mask number ip long fit number_is ip_is small =
    ap (λ (bytes : List ℕ). big_bytes n (bit_xor (big_number n bytes) mask)) ip_is
    ∙ ap (λ (y : ℕ). big_bytes n (bit_xor y mask)) (read_back n (bit_xor number mask) small)
    ∙ ap (big_bytes n) (twice number mask)
    ∙ ap (big_bytes n) number_is
    ∙ bytes_back n (drop 4 value) (omega (arith, long, length-drop 4 value)) (all_fit (drop 4 value) (fit_after 4 value fit))

-- they are the bytes after the first four, masked
pub masked_is : (n : ℕ) (value : List ℕ) (mask number : ℕ) (ip : List ℕ) → number ≡ big_number n (drop 4 value) → ip ≡ bytes_high_first n (bit_xor number mask) → ip ≡ xor_bytes n (drop 4 value) mask
unfolding xor_bytes
masked_is n value mask number ip number_is ip_is = ip_is ∙ ap (λ (y : ℕ). big_bytes n (bit_xor y mask)) number_is

pub below : (n : ℕ) (value : List ℕ) (number : ℕ) → ((i : ℕ) → Fits w8 (get_or value i 0)) → number ≡ big_number n (drop 4 value) → number < 256 ^ n
below n value number fit is = subst (λ (k : ℕ). k < 256 ^ n) (sym is) (big_from-lt 0 n (drop 4 value) (λ i. (fit_after 4 value fit i).fits))

length-masked : (n : ℕ) (ip : List ℕ) (mask : ℕ) → length (xor_bytes n ip mask) ≡ n
unfolding xor_bytes
length-masked n ip mask = length-bytes_high_first n (bit_xor (big_number n ip) mask)

-- the length and the family of an address's value
pub address_shape : (a : Addr) (tx value : List ℕ) → IsAddressValue a tx value → ((length value ≡ 8) × (get_or value 1 0 ≡ 1)) ⊎ ((length value ≡ 20) × (get_or value 1 0 ≡ 2))
address_shape (V4 ip port) tx value is = inl (omega (arith, ap length is.spelled, length-masked 4 ip magic_cookie), ap (λ (v : List ℕ). get_or v 1 0) is.spelled)
address_shape (V6 ip port) tx value is = inr (omega (arith, ap length is.spelled, length-masked 16 ip (ipv6_mask tx)), ap (λ (v : List ℕ). get_or v 1 0) is.spelled)

-- the value of an address has 8 or 20 bytes
pub value_short : (a : Addr) (tx : List ℕ) → length (address_value a tx) ≤ 20
unfolding address_value
value_short (V4 ip port) tx = omega (arith, length-masked 4 ip magic_cookie)
value_short (V6 ip port) tx = omega (arith, length-masked 16 ip (ipv6_mask tx))
