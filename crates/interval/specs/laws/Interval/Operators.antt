-- Internal. Operators with two operands: one lemma for each row of the table.
use Rattle.std.proofs.Common.{◌≡◌, ℕ, ◌+◌, ◌-◌, ◌*◌, ◌/◌, ◌%◌, ◌^◌, ◌≤◌, ◌<◌, min, max, true, ◌==◌, sym, ap, subst, ◌∙◌, arith, ℤ, pos}
use Rattle.std.specs.Prelude.{nat_lt, nat_le, ◌&&◌, if◌then◌else◌, bit_and}
use Rattle.std.specs.Int.{w64, cast_signed, cast_unsigned, int_shr, leading_zeros}
use Rattle.std.specs.Int.RustNames.{bit_or, bit_xor, int_div, int_rem}
use Rattle.std.proofs.lemmas.Bool.{cond_both, ltb-true, leb-true, eqb-true, and_parts}
use Rattle.std.proofs.Math.Nat.{mod-le, div-le_self, add-mod_left, pow-le-pow_right, div-mul-le_self}
use Rattle.std.proofs.lemmas.Nat.{mod_below, mul-le, le-div, and_le_l, and_le_r, or_lt, xor_lt, leading_length, pow_pos}
use Rattle.std.proofs.lemmas.Int.{to_z_pos}
use Rattle.insn.specs.Words.{int_width, bit_count, modulus, cut, whole, alu}
use Rattle.insn.specs.declared.width.Width.{Width}
use Rattle.insn.specs.declared.width.Width.TheVariants.{W32, W64}
use Rattle.insn.specs.declared.operator.AluOp.{AluOp}
use Rattle.insn.specs.declared.operator.AluOp.TheVariants.{Add, Sub, Mul, Div, SignedDiv, Or, And, Lsh, Rsh, Mod, SignedMod, Xor, Arsh}
use Rattle.interval.specs.declared.domain.Bounds.{Bounds}
use Rattle.interval.specs.Intervals.{LiesBetween, from_to, single, all, operand_bounds, is_single, are_positive, quotient_bounds, remainder, ones, shifted_right, result_bounds, interval_alu}
use Rattle.interval.specs.laws.Interval.Members.{IsWithin, LiesInWords, modulus_fits, number_small, cut_below, cut_between, cut_up_to, cut_any, either_interval, narrowed_within, the_member, only_member}

-- ---- plain numbers

-- a quotient grows with the dividend
div_grows : (a b k : ℕ) → 0 < k → a ≤ b → a / k ≤ b / k
div_grows a b k lt le = le-div (a / k) b k lt (omega (arith, div-mul-le_self a k))

-- and falls with the divisor
div_falls : (a j k : ℕ) → 0 < j → j ≤ k → a / k ≤ a / j
div_falls a j k lt le = le-div (a / k) a j lt (omega (arith, mul-le (a / k) j (a / k) k (omega arith) le, div-mul-le_self a k))

pub ones_above : (n : ℕ) → n < 2 ^ 64 → (n < 2 ^ (64 - leading_zeros w64 n)) × (2 ^ (64 - leading_zeros w64 n) ≤ 2 ^ 64)
ones_above n lt =
    let found = leading_length 64 n lt in
    let same : found.0 ≡ 64 - leading_zeros w64 n = omega (arith, found.1) in
    let few : 64 - leading_zeros w64 n ≤ 64 = omega arith in
    let base : 0 < 2 = omega arith in
    (subst (λ (k : ℕ). n < 2 ^ k) same found.2, pow-le-pow_right base few)

-- a number below half is its own signed number
pub positive : (w : Width) (n : ℕ) → n < modulus w / 2 → cast_signed (int_width w) n ≡ pos n
positive W32 n lt = to_z_pos (int_width W32) n (omega arith)
positive W64 n lt = to_z_pos (int_width W64) n (omega arith)

-- ---- the rows

module _ (w : Width) (x y : Bounds) (m n : ℕ) (h : IsWithin (modulus w) x m) (f : IsWithin (modulus w) y n) where
  left_small : m < modulus w
  left_small = number_small (modulus w) x m h

  right_small : n < modulus w
  right_small = number_small (modulus w) y n f

  word : (k : ℕ) → k < modulus w → k < 2 ^ 64
  word k lt = omega (arith, modulus_fits w)

  row_add : LiesInWords (result_bounds Add w x y) (cut w (whole Add w m n))
  row_add =
      either_interval (nat_lt (x.hi + y.hi) (modulus w)) (from_to (x.lo + y.lo) (x.hi + y.hi)) (all w) (cut w (m + n))
      (λ e.
      let lt = ltb-true (x.hi + y.hi) (modulus w) e in
      cut_between w (x.lo + y.lo) (x.hi + y.hi) (m + n) (word (x.hi + y.hi) lt) (omega (arith, h.below, f.below)) (omega (arith, h.above, f.above)) (omega (arith, h.below, f.below)))
      (λ e. cut_any w (m + n))

  row_sub : LiesInWords (result_bounds Sub w x y) (cut w (whole Sub w m n))
  row_sub =
      either_interval (nat_le y.hi x.lo) (from_to (x.lo - y.hi) (x.hi - y.lo)) (all w) (cut w (m + (modulus w - n)))
      (λ e.
      let le = leb-true y.hi x.lo e in
      let lt = left_small in
      let same : m + (modulus w - n) ≡ modulus w + (m - n) = omega (arith, h.above, f.below, right_small) in
      let is : cut w (m + (modulus w - n)) ≡ cut w (m - n) = ap (cut w) same ∙ add-mod_left (modulus w) (m - n) in
      subst (λ (k : ℕ). LiesInWords (from_to (x.lo - y.hi) (x.hi - y.lo)) k) (sym is)
      (cut_between w (x.lo - y.hi) (x.hi - y.lo) (m - n) (word (x.hi - y.lo) (omega (arith, h.small))) (omega (arith, lt)) (omega (arith, h.above, f.below)) (omega (arith, h.below, f.above))))
      (λ e. cut_any w (m + (modulus w - n)))

  product : (k l p : ℕ) → x.hi * k < modulus w → l ≤ p → p ≤ k → LiesInWords (from_to (x.lo * l) (x.hi * k)) (cut w (m * p))
  product k l p lt above below =
      let up = mul-le m p x.hi k h.below below in
      cut_between w (x.lo * l) (x.hi * k) (m * p) (word (x.hi * k) lt) (omega (arith, up, lt)) (mul-le x.lo l m p h.above above) up

  row_mul : LiesInWords (result_bounds Mul w x y) (cut w (whole Mul w m n))
  row_mul =
      either_interval (nat_lt (x.hi * y.hi) (modulus w)) (from_to (x.lo * y.lo) (x.hi * y.hi)) (all w) (cut w (m * n))
      (λ e. product y.hi y.lo n (ltb-true (x.hi * y.hi) (modulus w) e) f.above f.below)
      (λ e. cut_any w (m * n))

  row_div : LiesInWords (quotient_bounds x y) (cut w (whole Div w m n))
  row_div =
      either_interval (nat_lt 0 y.lo) (from_to (x.lo / y.hi) (x.hi / y.lo)) (from_to 0 x.hi) (cut w (whole Div w m n))
      (λ e.
      let lt = ltb-true 0 y.lo e in
      cond_both (n == 0) 0 (m / n) (λ k. LiesInWords (from_to (x.lo / y.hi) (x.hi / y.lo)) (cut w k))
      (λ z. let zero_is = eqb-true n 0 z in absurd (omega (arith, f.above)))
      (λ z.
      let high = div-le_self x.hi y.lo in
      cut_between w (x.lo / y.hi) (x.hi / y.lo) (m / n) (word (x.hi / y.lo) (omega (arith, high, h.small))) (omega (arith, div-le_self m n, left_small))
      (omega (arith, div_grows x.lo m y.hi (omega (arith, f.above, f.below)) h.above, div_falls m n y.hi (omega (arith, f.above)) f.below))
      (omega (arith, div_grows m x.hi n (omega (arith, f.above)) h.below, div_falls x.hi y.lo n lt f.above))))
      (λ e.
      cond_both (n == 0) 0 (m / n) (λ k. LiesInWords (from_to 0 x.hi) (cut w k))
      (λ z. cut_up_to w x.hi 0 (word x.hi h.small) (omega arith))
      (λ z. cut_up_to w x.hi (m / n) (word x.hi h.small) (omega (arith, div-le_self m n, h.below))))

  row_mod : LiesInWords (remainder x y) (cut w (whole Mod w m n))
  row_mod =
      either_interval (nat_lt 0 y.lo) (from_to 0 (min x.hi (y.hi - 1))) (from_to 0 x.hi) (cut w (whole Mod w m n))
      (λ e.
      let lt = ltb-true 0 y.lo e in
      cond_both (n == 0) m (m % n) (λ k. LiesInWords (from_to 0 (min x.hi (y.hi - 1))) (cut w k))
      (λ z. let zero_is = eqb-true n 0 z in absurd (omega (arith, f.above)))
      (λ z.
      let low = mod_below m n (omega (arith, f.above)) in
      let small = mod-le m n in
      cut_up_to w (min x.hi (y.hi - 1)) (m % n) (word (min x.hi (y.hi - 1)) (omega (arith, h.small))) (omega (arith, low, small, h.below, f.below))))
      (λ e.
      cond_both (n == 0) m (m % n) (λ k. LiesInWords (from_to 0 x.hi) (cut w k))
      (λ z. cut_up_to w x.hi m (word x.hi h.small) h.below)
      (λ z. cut_up_to w x.hi (m % n) (word x.hi h.small) (omega (arith, mod-le m n, h.below))))

  row_and : LiesInWords (result_bounds And w x y) (cut w (whole And w m n))
  row_and = cut_up_to w (min x.hi y.hi) (bit_and m n) (word (min x.hi y.hi) (omega (arith, h.small))) (omega (arith, and_le_l m n, and_le_r m n, h.below, f.below))

  row_ones : (k : ℕ) → ((j : ℕ) → m < 2 ^ j → n < 2 ^ j → k < 2 ^ j) → LiesInWords (from_to 0 (ones (max x.hi y.hi))) (cut w k)
  unfolding ones
  row_ones k below =
      let top = max x.hi y.hi in
      let fits : top < 2 ^ 64 = omega (arith, word x.hi h.small, word y.hi f.small) in
      let bits = 64 - leading_zeros w64 top in
      let found = ones_above top fits in
      let lt = below bits (omega (arith, found.0, h.below)) (omega (arith, found.0, f.below)) in
      cut_up_to w (2 ^ bits - 1) k (omega (arith, found.1, pow_pos bits)) (omega (arith, lt))

  row_lsh : LiesInWords (result_bounds Lsh w x y) (cut w (whole Lsh w m n))
  row_lsh =
      let power = 2 ^ (y.lo % bit_count w) in
      either_interval (is_single y && nat_lt (x.hi * power) (modulus w)) (from_to (x.lo * power) (x.hi * power)) (all w) (cut w (m * 2 ^ (n % bit_count w)))
      (λ e.
      let both = and_parts (is_single y) (nat_lt (x.hi * power) (modulus w)) e in
      let is = the_member y n (modulus w) both.0 f in
      subst (λ (k : ℕ). LiesInWords (from_to (x.lo * power) (x.hi * power)) (cut w (m * 2 ^ (k % bit_count w)))) is
      (product power power power (ltb-true (x.hi * power) (modulus w) both.1) (omega arith) (omega arith)))
      (λ e. cut_any w (m * 2 ^ (n % bit_count w)))

  row_shr : LiesInWords (shifted_right w x y) (cut w (m / 2 ^ (n % bit_count w)))
  row_shr =
      let power = 2 ^ (y.lo % bit_count w) in
      let positive_power = pow_pos (y.lo % bit_count w) in
      either_interval (is_single y) (from_to (x.lo / power) (x.hi / power)) (from_to 0 x.hi) (cut w (m / 2 ^ (n % bit_count w)))
      (λ e.
      let is = the_member y n (modulus w) e f in
      subst (λ (k : ℕ). LiesInWords (from_to (x.lo / power) (x.hi / power)) (cut w (m / 2 ^ (k % bit_count w)))) is
      (cut_between w (x.lo / power) (x.hi / power) (m / power) (word (x.hi / power) (omega (arith, div-le_self x.hi power, h.small))) (omega (arith, div-le_self m power, left_small)) (div_grows x.lo m power positive_power h.above) (div_grows m x.hi power positive_power h.below)))
      (λ e. cut_up_to w x.hi (m / 2 ^ (n % bit_count w)) (word x.hi h.small) (omega (arith, div-le_self m (2 ^ (n % bit_count w)), h.below)))

  signs_are : are_positive w x y ≡ true → (cast_signed (int_width w) m ≡ pos m) × (cast_signed (int_width w) n ≡ pos n)
  signs_are e =
      let both = and_parts (nat_lt x.hi (modulus w / 2)) (nat_lt y.hi (modulus w / 2)) e in
      let left = ltb-true x.hi (modulus w / 2) both.0 in
      let right = ltb-true y.hi (modulus w / 2) both.1 in
      (positive w m (omega (arith, left, h.below)), positive w n (omega (arith, right, f.below)))

  pub signed_div_is : are_positive w x y ≡ true → whole SignedDiv w m n ≡ whole Div w m n
  signed_div_is e = let is = signs_are e in λ i. if n == 0 then 0 else cast_unsigned (int_width w) (int_div (is.0 i) (is.1 i))

  pub signed_mod_is : are_positive w x y ≡ true → whole SignedMod w m n ≡ whole Mod w m n
  signed_mod_is e = let is = signs_are e in λ i. if n == 0 then m else cast_unsigned (int_width w) (int_rem (is.0 i) (is.1 i))

  pub arsh_is : nat_lt x.hi (modulus w / 2) ≡ true → whole Arsh w m n ≡ m / 2 ^ (n % bit_count w)
  arsh_is e =
      let lt = ltb-true x.hi (modulus w / 2) e in
      ap (λ (z : ℤ). cast_unsigned (int_width w) (int_shr z (n % bit_count w))) (positive w m (omega (arith, lt, h.below)))

  pub row : (op : AluOp) → LiesInWords (result_bounds op w x y) (cut w (whole op w m n))
  row Add = row_add
  row Sub = row_sub
  row Mul = row_mul
  row Div = row_div
  row SignedDiv =
      either_interval (are_positive w x y) (quotient_bounds x y) (all w) (cut w (whole SignedDiv w m n))
      (λ e. subst (λ (k : ℕ). LiesInWords (quotient_bounds x y) (cut w k)) (sym (signed_div_is e)) row_div)
      (λ e. cut_any w (whole SignedDiv w m n))
  row Or = row_ones (bit_or m n) (λ j. or_lt j m n)
  row And = row_and
  row Lsh = row_lsh
  row Rsh = row_shr
  row Mod = row_mod
  row SignedMod =
      either_interval (are_positive w x y) (remainder x y) (all w) (cut w (whole SignedMod w m n))
      (λ e. subst (λ (k : ℕ). LiesInWords (remainder x y) (cut w k)) (sym (signed_mod_is e)) row_mod)
      (λ e. cut_any w (whole SignedMod w m n))
  row Xor = row_ones (bit_xor m n) (λ j. xor_lt j m n)
  row Arsh =
      either_interval (nat_lt x.hi (modulus w / 2)) (shifted_right w x y) (all w) (cut w (whole Arsh w m n))
      (λ e. subst (λ (k : ℕ). LiesInWords (shifted_right w x y) (cut w k)) (sym (arsh_is e)) row_shr)
      (λ e. cut_any w (whole Arsh w m n))

pub alu_fits : (op : AluOp) (w : Width) (m n : ℕ) → alu op w m n < 2 ^ 64
alu_fits op w m n = omega (arith, cut_below w (whole op w (cut w m) (cut w n)), modulus_fits w)

-- operands that are both single are computed on
pub alu_sound : (op : AluOp) (w : Width) (x y : Bounds) (m n : ℕ) → LiesBetween x m → LiesBetween y n → LiesInWords (interval_alu op w x y) (alu op w m n)
alu_sound op w x y m n h f =
    either_interval (is_single x && is_single y) (single (alu op w x.lo y.lo)) (result_bounds op w (operand_bounds w x) (operand_bounds w y)) (alu op w m n)
    (λ e.
    let both = and_parts (is_single x) (is_single y) e in
    let left : x.lo ≡ m = only_member x m both.0 h in
    let right : y.lo ≡ n = only_member y n both.1 f in
    let same : alu op w x.lo y.lo ≡ alu op w m n = λ i. alu op w (left i) (right i) in
    let fits = alu_fits op w m n in
    record { word = omega (arith, same, fits); above = omega (arith, same); below = omega (arith, same) })
    (λ e. row w (operand_bounds w x) (operand_bounds w y) (cut w m) (cut w n) (narrowed_within w x m h) (narrowed_within w y n f) op)
