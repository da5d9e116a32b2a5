-- Numbers that are xored are xored byte by byte.
use Rattle.std.proofs.Common.{◌≡◌, ℕ, zero, suc, ◌+◌, ◌*◌, ◌%◌, ◌<◌, ◌≤◌, ◌^◌, List, [], ◌∷◌, ◌++◌, length, take, drop, get_or, refl, sym, ap, ap₂, ◌∙◌, arith, All, pow-add}
use Rattle.std.specs.Prelude.{bit_xor, slice_index}
use Rattle.std.proofs.lemmas.Nat.{xor_block, xor_lt}
use Rattle.std.proofs.lemmas.List.{length-append, take_all}
use Rattle.std.proofs.lemmas.List.Elements.{All-nil, All-cons, All-head, All-tail}
use Rattle.std.proofs.Math.Nat.{pow-succ'}
use Rattle.insn.specs.Endian.{big_from, little_from, big_number, little_number, big_bytes, little_bytes}
use Rattle.insn.specs.Numbers.{big_from-cons, little_from-cons, big_from-lt, little_from-lt}
use Rattle.insn.specs.Words.{alu}
use Rattle.insn.specs.declared.operator.AluOp.TheVariants.{Xor}
use Rattle.insn.specs.declared.width.Width.TheVariants.{W64}
use Rattle.semantics.specs.Machine.{AreBytes}
use Rattle.semantics.specs.laws.Swap.{stored_again_8, stored_again_4}
use Rattle.programs.proofs.LoadedValues.{byte_below}
use Rattle.attributes.specs.laws.Number.{bytes_back}

-- bytes xored with others, as many as both have
abbrev pub xor_each : List ℕ → List ℕ → List ℕ
xor_each [] b = []
xor_each (x ∷ a) [] = []
xor_each (x ∷ a) (y ∷ b) = bit_xor x y ∷ xor_each a b

pub length-xor_each : (a b : List ℕ) → length a ≡ length b → length (xor_each a b) ≡ length a
length-xor_each [] b e = refl
length-xor_each (x ∷ a) [] e = absurd (omega (arith, e))
length-xor_each (x ∷ a) (y ∷ b) e = ap suc (length-xor_each a b (omega (arith, e)))

xor_each_fit : (a b : List ℕ) → All (λ b. b < 256) a → All (λ b. b < 256) b → All (λ b. b < 256) (xor_each a b)
xor_each_fit [] b p q = All-nil (λ (b : ℕ). b < 256)
xor_each_fit (x ∷ a) [] p q = All-nil (λ (b : ℕ). b < 256)
xor_each_fit (x ∷ a) (y ∷ b) p q =
    All-cons (λ (b : ℕ). b < 256) (bit_xor x y) (xor_each a b) (xor_lt 8 x y (All-head (λ (b : ℕ). b < 256) x a p) (All-head (λ (b : ℕ). b < 256) y b q))
    (xor_each_fit a b (All-tail (λ (b : ℕ). b < 256) x a p) (All-tail (λ (b : ℕ). b < 256) y b q))

pub xor_each_bytes : (n : ℕ) (a b : List ℕ) → AreBytes n a → AreBytes n b → AreBytes n (xor_each a b)
xor_each_bytes n a b p q = record { count = length-xor_each a b (p.count ∙ sym q.count) ∙ p.count; fit = xor_each_fit a b p.fit q.fit }

pub xor_each-append : (a b c d : List ℕ) → length a ≡ length c → xor_each (a ++ b) (c ++ d) ≡ xor_each a c ++ xor_each b d
xor_each-append [] b [] d e = refl
xor_each-append [] b (y ∷ c) d e = absurd (omega (arith, e))
xor_each-append (x ∷ a) b [] d e = absurd (omega (arith, e))
xor_each-append (x ∷ a) b (y ∷ c) d e = ap (λ (l : List ℕ). bit_xor x y ∷ l) (xor_each-append a b c d (omega (arith, e)))

-- ---- as little-endian numbers

pub little_xor : (n : ℕ) (a b : List ℕ) → AreBytes n a → AreBytes n b → little_number n (xor_each a b) ≡ bit_xor (little_number n a) (little_number n b)
little_xor n a b p q = along n a b p.count q.count p.fit q.fit where
  along : (n : ℕ) (a b : List ℕ) → length a ≡ n → length b ≡ n → All (λ b. b < 256) a → All (λ b. b < 256) b → little_number n (xor_each a b) ≡ bit_xor (little_number n a) (little_number n b)
  along zero a b p q f g = refl
  along (suc n) [] b p q f g = absurd (omega (arith, p))
  along (suc n) (x ∷ a) [] p q f g = absurd (omega (arith, q))
  along (suc n) (x ∷ a) (y ∷ b) p q f g =
      let u : ℕ = little_number n a in
      let v : ℕ = little_number n b in
      let rest : little_number n (xor_each a b) ≡ bit_xor u v = along n a b (omega (arith, p)) (omega (arith, q)) (All-tail (λ (b : ℕ). b < 256) x a f) (All-tail (λ (b : ℕ). b < 256) y b g) in
      let block : bit_xor (u * 2 ^ 8 + x) (v * 2 ^ 8 + y) ≡ bit_xor u v * 2 ^ 8 + bit_xor x y = xor_block 8 u v x y (All-head (λ (b : ℕ). b < 256) x a f) (All-head (λ (b : ℕ). b < 256) y b g) in
      let left : u * 2 ^ 8 + x ≡ little_number (suc n) (x ∷ a) = let moved = little_from-cons 0 n x a in omega (arith, moved) in
      let right : v * 2 ^ 8 + y ≡ little_number (suc n) (y ∷ b) = let moved = little_from-cons 0 n y b in omega (arith, moved) in
      let moved = little_from-cons 0 n (bit_xor x y) (xor_each a b) in
      let whole : little_number (suc n) (xor_each (x ∷ a) (y ∷ b)) ≡ bit_xor u v * 2 ^ 8 + bit_xor x y = omega (arith, moved, rest) in
      whole ∙ sym block ∙ ap₂ (λ (i j : ℕ). bit_xor i j) left right

-- two numbers of 64 bits, xored
pub xor_of_doubles : (a m : ℕ) → a < 2 ^ 64 → m < 2 ^ 64 → alu Xor W64 a m ≡ bit_xor a m
xor_of_doubles a m p q =
    let small_a : a % 2 ^ 64 ≡ a = omega (arith, p) in
    let small_m : m % 2 ^ 64 ≡ m = omega (arith, q) in
    let small : bit_xor a m % 2 ^ 64 ≡ bit_xor a m = let lt = xor_lt 64 a m p q in omega (arith, lt) in
    ap₂ (λ (x y : ℕ). bit_xor x y % 2 ^ 64) small_a small_m ∙ small

-- ---- as big-endian numbers

eights : ℕ → ℕ
eights zero = 0
eights (suc n) = 8 + eights n

bytes_power : (n : ℕ) → 256 ^ n ≡ 2 ^ eights n
unfolding eights
bytes_power zero = refl
bytes_power (suc n) = pow-succ' 256 n ∙ ap (λ (x : ℕ). 256 * x) (bytes_power n) ∙ sym (pow-add 2 8 (eights n))

pub big_xor : (n : ℕ) (a b : List ℕ) → AreBytes n a → AreBytes n b → big_number n (xor_each a b) ≡ bit_xor (big_number n a) (big_number n b)
big_xor n a b p q = along n a b p.count q.count p.fit q.fit where
  in_place : (n x : ℕ) (a : List ℕ) → x * 2 ^ eights n + big_number n a ≡ big_number (suc n) (x ∷ a)
  in_place n x a = (λ i. x * sym (bytes_power n) i + sym (big_from-cons 0 n x a) i)

  below : (n : ℕ) (a : List ℕ) → All (λ b. b < 256) a → big_number n a < 2 ^ eights n
  below n a f = let lt = big_from-lt 0 n a (byte_below a f) in omega (arith, lt, bytes_power n)

  along : (n : ℕ) (a b : List ℕ) → length a ≡ n → length b ≡ n → All (λ b. b < 256) a → All (λ b. b < 256) b → big_number n (xor_each a b) ≡ bit_xor (big_number n a) (big_number n b)
  along zero a b p q f g = refl
  along (suc n) [] b p q f g = absurd (omega (arith, p))
  along (suc n) (x ∷ a) [] p q f g = absurd (omega (arith, q))
  along (suc n) (x ∷ a) (y ∷ b) p q f g =
      let k : ℕ = eights n in
      let rest : big_number n (xor_each a b) ≡ bit_xor (big_number n a) (big_number n b) = along n a b (omega (arith, p)) (omega (arith, q)) (All-tail (λ (b : ℕ). b < 256) x a f) (All-tail (λ (b : ℕ). b < 256) y b g) in
      sym (in_place n (bit_xor x y) (xor_each a b)) ∙ ap (λ (r : ℕ). bit_xor x y * 2 ^ k + r) rest
      ∙ sym (xor_block k x y (big_number n a) (big_number n b) (below n a (All-tail (λ (b : ℕ). b < 256) x a f)) (below n b (All-tail (λ (b : ℕ). b < 256) y b g)))
      ∙ ap₂ (λ (i j : ℕ). bit_xor i j) (in_place n x a) (in_place n y b)

-- and so are their bytes
pub big_bytes_xor : (n : ℕ) (a b : List ℕ) → AreBytes n a → AreBytes n b → big_bytes n (bit_xor (big_number n a) (big_number n b)) ≡ xor_each a b
big_bytes_xor n a b p q =
    let are : AreBytes n (xor_each a b) = xor_each_bytes n a b p q in
    ap (big_bytes n) (sym (big_xor n a b p q)) ∙ bytes_back n (xor_each a b) (omega (arith, are.count)) are.fit ∙ take_all n (xor_each a b) (omega (arith, are.count))

-- ---- as they are stored

pub stored_xor_8 : (a b bytes : List ℕ) (m n v : ℕ) → AreBytes 8 a → AreBytes 8 b → m ≡ little_number 8 a → n ≡ little_number 8 b → v ≡ alu Xor W64 m n → bytes ≡ little_bytes 8 v → bytes ≡ xor_each a b
stored_xor_8 a b bytes m n v p q e f g h =
    let small_m : m < 2 ^ 64 = let lt = little_from-lt 0 8 a (byte_below a p.fit) in omega (arith, lt, e) in
    let small_n : n < 2 ^ 64 = let lt = little_from-lt 0 8 b (byte_below b q.fit) in omega (arith, lt, f) in
    let number : v ≡ little_number 8 (xor_each a b) = g ∙ xor_of_doubles m n small_m small_n ∙ ap₂ (λ (i j : ℕ). bit_xor i j) e f ∙ sym (little_xor 8 a b p q) in
    h ∙ stored_again_8 (xor_each a b) v (xor_each_bytes 8 a b p q) number

pub stored_xor_4 : (a b bytes : List ℕ) (m n v : ℕ) → AreBytes 4 a → AreBytes 4 b → m ≡ little_number 4 a → n ≡ little_number 4 b → v ≡ alu Xor W64 m n → bytes ≡ little_bytes 4 v → bytes ≡ xor_each a b
stored_xor_4 a b bytes m n v p q e f g h =
    let small_m : m < 2 ^ 64 = let lt = little_from-lt 0 4 a (byte_below a p.fit) in omega (arith, lt, e) in
    let small_n : n < 2 ^ 64 = let lt = little_from-lt 0 4 b (byte_below b q.fit) in omega (arith, lt, f) in
    let number : v ≡ little_number 4 (xor_each a b) = g ∙ xor_of_doubles m n small_m small_n ∙ ap₂ (λ (i j : ℕ). bit_xor i j) e f ∙ sym (little_xor 4 a b p q) in
    h ∙ stored_again_4 (xor_each a b) v (xor_each_bytes 4 a b p q) number
