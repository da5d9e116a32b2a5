-- An address has one value under a transaction id, and a value one address.
use Rattle.std.proofs.Common.{◌≡◌, ℕ, zero, suc, ◌<◌, ◌^◌, List, [], ◌++◌, length, drop, get_or, sym, ap, ◌∙◌, arith}
use Rattle.std.specs.Prelude.{bit_xor, slice_index}
use Rattle.std.proofs.lemmas.Nat.{xor_lt}
use Rattle.std.proofs.lemmas.List.{take_all, drop_all, append-nil}
use Rattle.std.proofs.lemmas.List.Elements.{All-from_get_or}
use Rattle.stun.specs.Endian.{big_number, big_bytes}
use Rattle.stun.specs.Numbers.{big_from-lt}
use Rattle.stun.specs.Registry.{magic_cookie}
use Rattle.addresses.specs.Addresses.{HasWidth}
use Rattle.attributes.specs.Addresses.{IsAddressValue, cookie_half, ipv6_mask, xor_bytes}
use Rattle.addresses.specs.declared.address.Addr.{Addr}
use Rattle.addresses.specs.declared.address.Addr.TheVariants.{V4, V6}
use Rattle.attributes.specs.laws.Number.{bytes_back}
use Rattle.attributes.proofs.Masks.{twice, read_back}

whole : (n : ℕ) (ip : List ℕ) (port : ℕ) → HasWidth n ip port → big_bytes n (big_number n ip) ≡ ip
whole n ip port is = bytes_back n ip (omega (arith, is.long)) (All-from_get_or (λ (b : ℕ). b < 256) ip 0 (λ i lt. is.bytes i)) ∙ take_all n ip (omega (arith, is.long))

-- masked bytes determine the bytes
unmasked : (n : ℕ) (ip ip' : List ℕ) (port port' mask : ℕ) → HasWidth n ip port → HasWidth n ip' port' → ((x : ℕ) → x < 256 ^ n → bit_xor x mask < 256 ^ n) → xor_bytes n ip mask ≡ xor_bytes n ip' mask → ip ≡ ip'
unfolding xor_bytes
unmasked n ip ip' port port' mask is is' small e =
    let a : ℕ = big_number n ip in
    let b : ℕ = big_number n ip' in
    let same : bit_xor a mask ≡ bit_xor b mask = sym (read_back n (bit_xor a mask) (small a (big_from-lt 0 n ip is.bytes))) ∙ ap (big_number n) e ∙ read_back n (bit_xor b mask) (small b (big_from-lt 0 n ip' is'.bytes)) in
    let number : a ≡ b = sym (twice a mask) ∙ ap (λ (x : ℕ). bit_xor x mask) same ∙ twice b mask in
    sym (whole n ip port is) ∙ ap (big_bytes n) number ∙ whole n ip' port' is'

port_fits : (port : ℕ) → port < 0x10000 → bit_xor port cookie_half < 0x10000
port_fits port small = xor_lt 16 port cookie_half small (omega arith)

-- the two bytes of a port determine it
unmasked_port : (port port' : ℕ) → port < 0x10000 → port' < 0x10000 → (rest rest' : List ℕ) → big_bytes 2 (bit_xor port cookie_half) ++ rest ≡ big_bytes 2 (bit_xor port' cookie_half) ++ rest' → port ≡ port'
unmasked_port port port' small small' rest rest' e =
    let same : bit_xor port cookie_half ≡ bit_xor port' cookie_half = omega (arith, ap (λ (v : List ℕ). get_or v 0 0) e, ap (λ (v : List ℕ). get_or v 1 0) e, port_fits port small, port_fits port' small') in
    sym (twice port cookie_half) ∙ ap (λ (x : ℕ). bit_xor x cookie_half) same ∙ twice port' cookie_half

-- the cookie and a transaction id have 128 bits
mask_bytes : (tx : List ℕ) → ((i : ℕ) → get_or tx i 0 < 256) → (i : ℕ) → slice_index (big_bytes 4 magic_cookie ++ tx) i < 256
mask_bytes tx fit zero = omega arith
mask_bytes tx fit (suc zero) = omega arith
mask_bytes tx fit (suc (suc zero)) = omega arith
mask_bytes tx fit (suc (suc (suc zero))) = omega arith
mask_bytes tx fit (suc (suc (suc (suc i)))) = fit i

mask_fits : (tx : List ℕ) → ((i : ℕ) → get_or tx i 0 < 256) → ipv6_mask tx < 256 ^ 16
unfolding ipv6_mask
mask_fits tx fit = big_from-lt 0 16 (big_bytes 4 magic_cookie ++ tx) (mask_bytes tx fit)

-- two addresses of one value are one
pub address_unique : (a b : Addr) (tx value : List ℕ) → ((i : ℕ) → get_or tx i 0 < 256) → IsAddressValue a tx value → IsAddressValue b tx value → a ≡ b
address_unique (V4 ip port) (V4 ip' port') tx value fit given e =
    let tail : big_bytes 2 (bit_xor port cookie_half) ++ xor_bytes 4 ip magic_cookie ≡ big_bytes 2 (bit_xor port' cookie_half) ++ xor_bytes 4 ip' magic_cookie = ap (drop 2) (sym given.spelled ∙ e.spelled) in
    let same = unmasked 4 ip ip' port port' magic_cookie given.fits e.fits (λ x lt. xor_lt 32 x magic_cookie lt (omega arith)) (ap (drop 2) tail) in
    λ i. V4 (same i) (unmasked_port port port' given.fits.small e.fits.small _ _ tail i)
address_unique (V6 ip port) (V6 ip' port') tx value fit given e =
    let tail : big_bytes 2 (bit_xor port cookie_half) ++ xor_bytes 16 ip (ipv6_mask tx) ≡ big_bytes 2 (bit_xor port' cookie_half) ++ xor_bytes 16 ip' (ipv6_mask tx) = ap (drop 2) (sym given.spelled ∙ e.spelled) in
    let same = unmasked 16 ip ip' port port' (ipv6_mask tx) given.fits e.fits (λ x lt. xor_lt 128 x (ipv6_mask tx) lt (mask_fits tx fit)) (ap (drop 2) tail) in
    λ i. V6 (same i) (unmasked_port port port' given.fits.small e.fits.small _ _ tail i)
address_unique (V4 ip port) (V6 ip' port') tx value fit given e = absurd (omega (arith, ap (λ (v : List ℕ). get_or v 1 0) (sym given.spelled ∙ e.spelled)))
address_unique (V6 ip port) (V4 ip' port') tx value fit given e = absurd (omega (arith, ap (λ (v : List ℕ). get_or v 1 0) (sym given.spelled ∙ e.spelled)))

-- the bytes before an address, and the address after them
pub value_written : (n number mask : ℕ) (front want rest old ip : List ℕ) → front ≡ want → rest ≡ big_bytes n (bit_xor number mask) ++ drop n old → length old ≡ n → number ≡ big_number n ip → front ++ rest ≡ want ++ xor_bytes n ip mask
unfolding xor_bytes
value_written n number mask front want rest old ip front_is rest_is long number_is =
    let nothing : drop n old ≡ [] = drop_all n old (omega (arith, long)) in
    λ i. front_is i ++ (rest_is ∙ (λ j. big_bytes n (bit_xor (number_is j) mask) ++ nothing j) ∙ append-nil (big_bytes n (bit_xor (big_number n ip) mask))) i
