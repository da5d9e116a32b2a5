-- Interface. The bytes of a number that was read from bytes are these.
use Rattle.std.proofs.Common.{◌≡◌, ℕ, zero, suc, ◌+◌, ◌*◌, ◌/◌, ◌<◌, ◌≤◌, ◌^◌, List, [], ◌∷◌, length, take, get_or, refl, sym, ap, ◌∙◌, arith, All, inl, inr, Fits, w8}
use Rattle.std.specs.Prelude.{slice_index}
use Rattle.std.specs.Int.{bytes_high_first, byte_at}
use Rattle.std.proofs.lemmas.Nat.{div-mul-add}
use Rattle.std.proofs.Math.Nat.{mod-eq_of_lt}
use Rattle.std.proofs.lemmas.Bool.{cases_lt}
use Rattle.std.proofs.lemmas.List.{get_or_past, length-take-le, append-nil}
use Rattle.std.proofs.lemmas.List.Elements.{All-take, All-from_get_or}
use Rattle.stun.specs.Endian.{big_from, big_number, big_bytes}
use Rattle.stun.specs.Numbers.{big_from-cons, big_from-lt, big_from-take, big_from-bytes, length-bytes_high_first}

fits_at : (xs : List ℕ) → All (λ b. b < 256) xs → (k : ℕ) → slice_index xs k < 256
fits_at xs all k = elim (cases_lt k (length xs)) [
  | inl lt ↦ all k 0 lt
  | inr le ↦ let none : slice_index xs k ≡ 0 = get_or_past xs k 0 le in omega (arith, none)
]

tail_fits : (x : ℕ) (xs : List ℕ) → All (λ b. b < 256) (x ∷ xs) → All (λ b. b < 256) xs
tail_fits x xs all = λ k d lt. all (suc k) d (omega arith)

-- one digit before k others, in two ways
one_digit : (a b m n d : ℕ) → m < d → n < d → a * d + m ≡ b * d + n → (a ≡ b) × (m ≡ n)
one_digit a b m n d p q e =
    let first : a ≡ b = sym (div-mul-add a d m p) ∙ ap (λ (k : ℕ). k / d) e ∙ div-mul-add b d n q in
    let same : a * d + m ≡ a * d + n = e ∙ ap (λ (k : ℕ). k * d + n) (sym first) in
    (first, omega (arith, same))

same_bytes : (n : ℕ) (xs ys : List ℕ) → length xs ≡ n → length ys ≡ n → All (λ b. b < 256) xs → All (λ b. b < 256) ys → big_from 0 n xs ≡ big_from 0 n ys → xs ≡ ys
same_bytes zero [] [] l m f g e = refl
same_bytes zero [] (y ∷ ys) l m f g e = absurd (omega (arith, m))
same_bytes zero (x ∷ xs) ys l m f g e = absurd (omega (arith, l))
same_bytes (suc n) [] ys l m f g e = absurd (omega (arith, l))
same_bytes (suc n) (x ∷ xs) [] l m f g e = absurd (omega (arith, m))
same_bytes (suc n) (x ∷ xs) (y ∷ ys) l m f g e =
    let first = one_digit x y (big_from 0 n xs) (big_from 0 n ys) (256 ^ n) (big_from-lt 0 n xs (fits_at xs (tail_fits x xs f))) (big_from-lt 0 n ys (fits_at ys (tail_fits y ys g)))
    (ap (λ (r : ℕ). x * 256 ^ n + r) (sym (big_from-cons 0 n x xs)) ∙ e ∙ ap (λ (r : ℕ). y * 256 ^ n + r) (big_from-cons 0 n y ys)) in
    λ i. first.0 i ∷ same_bytes n xs ys (omega (arith, l)) (omega (arith, m)) (tail_fits x xs f) (tail_fits y ys g) first.1 i

is_byte : (n x : ℕ) → byte_at n x < 256
is_byte zero x = omega arith
is_byte (suc n) x = omega arith

are_bytes : (n x : ℕ) → All (λ b. b < 256) (bytes_high_first n x)
are_bytes zero x k d lt = absurd (omega (arith, lt))
are_bytes (suc n) x zero d lt = is_byte n x
are_bytes (suc n) x (suc k) d lt = are_bytes n x k d (omega (arith, lt))

pub bytes_back : (n : ℕ) (xs : List ℕ) → n ≤ length xs → All (λ b. b < 256) xs → big_bytes n (big_number n xs) ≡ take n xs
bytes_back n xs long all =
    let number : ℕ = big_number n xs in
    let small : number < 256 ^ n = big_from-lt 0 n xs (fits_at xs all) in
    let back : big_from 0 n (bytes_high_first n number) ≡ number =
    ap (big_from 0 n) (sym (append-nil (bytes_high_first n number))) ∙ big_from-bytes n number [] ∙ mod-eq_of_lt small in
    same_bytes n (bytes_high_first n number) (take n xs) (length-bytes_high_first n number) (length-take-le n xs long) (are_bytes n number) (All-take (λ b. b < 256) n xs all)
    (back ∙ sym (big_from-take 0 n n xs (omega arith)))

-- what the type of a slice of bytes says
pub all_fit : (xs : List ℕ) → ((i : ℕ) → Fits w8 (get_or xs i 0)) → All (λ b. b < 256) xs
all_fit xs fit = All-from_get_or (λ (b : ℕ). b < 256) xs 0 (λ i lt. (fit i).fits)
