-- Bytes compare as the number that they spell, the highest first.
use Rattle.std.proofs.Common.{◌≡◌, ℕ, zero, suc, ◌+◌, ◌*◌, ◌<◌, ◌≤◌, ◌^◌, List, [], ◌∷◌, length, get_or, Less, Equal, Greater, refl, sym, ap, ◌∙◌, subst, arith}
use Rattle.std.specs.Ordering.{nat_cmp, ordering_then, MatchOrdering}
use Rattle.std.specs.Cmp.{ranks, nat_cmp_is}
use Rattle.std.proofs.Math.Nat.{add-mul, mul-le-mul_right}
use Rattle.byteorder.specs.Endian.{big_from, big_number}
use Rattle.byteorder.specs.Numbers.{big_from-cons, big_from-lt}
use Rattle.addresses.specs.AddressOrder.{ip_cmp}

higher_first : (x y m n d : ℕ) → x < y → m < d → x * d + m < y * d + n
higher_first x y m n d less small =
    let top : (x + 1) * d ≤ y * d = mul-le-mul_right d (omega (arith, less)) in
    let more : (x + 1) * d ≡ x * d + 1 * d = add-mul x 1 d in
    omega (arith, top, more, small)

after_same : (k m n : ℕ) → nat_cmp m n ≡ nat_cmp (k + m) (k + n)
after_same k m n = nat_cmp_is (k + m) (k + n) (nat_cmp m n)
    (elim (nat_cmp m n) as (λ o. MatchOrdering o (m < n) (m ≡ n) (n < m) → MatchOrdering o (k + m < k + n) (k + m ≡ k + n) (k + n < k + m)) [
      | Less ↦ λ l. omega (arith, l)
      | Equal ↦ λ e. ap (λ (z : ℕ). k + z) e
      | Greater ↦ λ l. omega (arith, l)
    ] (ranks m n))

-- one digit, and then a number of smaller digits
pub digit_first : (x y m n d : ℕ) → m < d → n < d → ordering_then (nat_cmp x y) (nat_cmp m n) ≡ nat_cmp (x * d + m) (y * d + n)
digit_first x y m n d small also =
    elim (nat_cmp x y) as (λ o. MatchOrdering o (x < y) (x ≡ y) (y < x) → ordering_then o (nat_cmp m n) ≡ nat_cmp (x * d + m) (y * d + n)) [
      | Less ↦ λ l. nat_cmp_is (x * d + m) (y * d + n) Less (higher_first x y m n d l small)
      | Equal ↦ λ e. subst (λ (z : ℕ). nat_cmp m n ≡ nat_cmp (x * d + m) (z * d + n)) e (after_same (x * d) m n)
      | Greater ↦ λ l. nat_cmp_is (x * d + m) (y * d + n) Greater (higher_first y x n m d l also)
    ] (ranks x y)

pub ip_cmp-number : (n : ℕ) (xs ys : List ℕ) → length xs ≡ n → length ys ≡ n → ((i : ℕ) → get_or xs i 0 < 256) → ((i : ℕ) → get_or ys i 0 < 256)
    → ip_cmp xs ys ≡ nat_cmp (big_number n xs) (big_number n ys)
ip_cmp-number zero [] [] long also fit fits = refl
ip_cmp-number zero [] (y ∷ ys) long also fit fits = absurd (omega (arith, also))
ip_cmp-number zero (x ∷ xs) ys long also fit fits = absurd (omega (arith, long))
ip_cmp-number (suc n) [] ys long also fit fits = absurd (omega (arith, long))
ip_cmp-number (suc n) (x ∷ xs) [] long also fit fits = absurd (omega (arith, also))
ip_cmp-number (suc n) (x ∷ xs) (y ∷ ys) long also fit fits =
    ap (ordering_then (nat_cmp x y)) (ip_cmp-number n xs ys (omega (arith, long)) (omega (arith, also)) (λ i. fit (suc i)) (λ i. fits (suc i)))
    ∙ digit_first x y (big_from 0 n xs) (big_from 0 n ys) (256 ^ n) (big_from-lt 0 n xs (λ i. fit (suc i))) (big_from-lt 0 n ys (λ i. fits (suc i)))
    ∙ (λ i. nat_cmp (x * 256 ^ n + sym (big_from-cons 0 n x xs) i) (y * 256 ^ n + sym (big_from-cons 0 n y ys) i))
