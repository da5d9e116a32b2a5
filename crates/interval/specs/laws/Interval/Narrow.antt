-- Interface. Intervals are as narrow as their two tables say.
use Rattle.std.proofs.Common.{◌≡◌, ℕ, suc, ◌+◌, ◌-◌, ◌*◌, ◌/◌, ◌%◌, ◌^◌, ◌≤◌, ◌<◌, min, max, Bool, true, false, ◌==◌, refl, sym, ap, subst, ◌∙◌, arith}
use Rattle.std.specs.Prelude.{nat_lt, nat_le, ◌&&◌, if◌then◌else◌}
use Rattle.std.specs.Int.{w64, leading_zeros}
use Rattle.std.proofs.lemmas.Bool.{cond_both, ltb-true, leb-true, eqb-true, ltb-false, leb-false, lt-ltb, le-leb, and_parts, and_from, true≢false, eq-eqb}
use Rattle.std.proofs.Math.Nat.{div-le_self, add-mod_left, mod-eq_of_lt, pow-le-pow_right, pow-succ'}
use Rattle.std.proofs.lemmas.Nat.{leading_length, mul-le, pow_pos}
use mir.Val.{bits}
use Rattle.insn.specs.Words.{bit_count, modulus, cut, whole, alu, unary, sign_extended, signed_width, swap_width, extended_of, target_of}
use Rattle.insn.specs.declared.width.Width.{Width}
use Rattle.insn.specs.declared.operator.UnaryOp.{UnaryOp}
use Rattle.insn.specs.declared.operator.UnaryOp.TheVariants.{Mov, Neg, SignExtend, Swap}
use Rattle.insn.specs.declared.operator.SwapOp.TheVariants.{ToLittle, ToBig, Reverse}
use Rattle.insn.specs.declared.operator.AluOp.{AluOp}
use Rattle.insn.specs.declared.operator.AluOp.TheVariants.{Add, Sub, Mul, Div, SignedDiv, Or, And, Lsh, Rsh, Mod, SignedMod, Xor, Arsh}
use Rattle.interval.specs.declared.domain.Bounds.{Bounds}
use Rattle.interval.specs.Intervals.{from_to, single, all, operand_bounds, is_single, are_positive, quotient_bounds, remainder, ones, shifted_right, result_bounds, interval_alu, ranged_unary, operand_width, interval_unary}
use Rattle.interval.specs.Narrowness.{AreWords, ArePositive, IsResult, AreResults, IsExact, IsRemainder, IsUpper, IsUnchanged, result_modulus}
use Rattle.interval.specs.laws.Interval.Members.{IsWithin, modulus_fits, modulus_positive, cut_small, cut_below}
use Rattle.interval.specs.laws.Interval.OneOperand.{extended_is, low_below, reversed_below}
use Rattle.interval.specs.laws.Interval.Operators.{signed_div_is, arsh_is, row}

-- the interval of a choice whose test holds
taken : (b : Bool) (x y : Bounds) (P : Bounds → Type 0) → b ≡ true → P x → P (if b then x else y)
taken b x y P e p = cond_both b x y P (λ _. p) (λ f. absurd (true≢false (sym e ∙ f)))

pub positive_is : (w : Width) (x y : Bounds) → ArePositive w x y → are_positive w x y ≡ true
positive_is w x y p = and_from (nat_lt x.hi (modulus w / 2)) (nat_lt y.hi (modulus w / 2)) (lt-ltb x.hi (modulus w / 2) p.left) (lt-ltb y.hi (modulus w / 2) p.right)

-- an operand of words of the width is computed on as it is
narrowed_same : (w : Width) (x : Bounds) → AreWords w x → operand_bounds w x ≡ x
narrowed_same w x a = taken (nat_lt x.hi (modulus w)) x (all w) (λ z. z ≡ x) (lt-ltb x.hi (modulus w) a.words) refl

-- a number below a power is at least half of no greater one
power_fits : (n m k : ℕ) → 2 ^ m ≤ 2 * n + 1 → n < 2 ^ k → 2 ^ m ≤ 2 ^ k
power_fits n m k le lt =
    let base : 0 < 2 = omega arith in
    cond_both (nat_le m k) m k (λ _. 2 ^ m ≤ 2 ^ k)
    (λ e. pow-le-pow_right base (leb-true m k e))
    (λ e. let more : suc k ≤ m = leb-false m k e in absurd (omega (arith, le, lt, pow-le-pow_right base more, pow-succ' 2 k)))

module _ (w : Width) (x y : Bounds) (a : AreWords w x) (h : AreWords w y) where
  within_left : (m : ℕ) → x.lo ≤ m → m ≤ x.hi → IsWithin (modulus w) x m
  within_left m p q = record { small = a.words; above = p; below = q }

  within_right : (n : ℕ) → y.lo ≤ n → n ≤ y.hi → IsWithin (modulus w) y n
  within_right n p q = record { small = h.words; above = p; below = q }

  -- two members, and what the operator gives for them
  reaches : (op : AluOp) (m n k : ℕ) → x.lo ≤ m → m ≤ x.hi → y.lo ≤ n → n ≤ y.hi → cut w (whole op w m n) ≡ k → IsResult op w x y k
  reaches op m n k p q r s e =
      let fits = modulus_fits w in
      let left : cut w m ≡ m = cut_small w m (omega (arith, a.words)) in
      let right : cut w n ≡ n = cut_small w n (omega (arith, h.words)) in
      record {
        m = m;
        n = n;
        of_left = record { word = omega (arith, a.words); above = p; below = q };
        of_right = record { word = omega (arith, h.words); above = r; below = s };
        gives = (λ i. cut w (whole op w (left i) (right i))) ∙ e;
      }

  row_add : x.hi + y.hi < modulus w → AreResults Add w x y (result_bounds Add w x y)
  row_add lt =
      let p = a.order in
      let q = h.order in
      taken (nat_lt (x.hi + y.hi) (modulus w)) (from_to (x.lo + y.lo) (x.hi + y.hi)) (all w) (AreResults Add w x y) (lt-ltb (x.hi + y.hi) (modulus w) lt)
      (record {
        lo = reaches Add x.lo y.lo (x.lo + y.lo) (omega arith) p (omega arith) q (cut_small w (x.lo + y.lo) (omega arith));
        hi = reaches Add x.hi y.hi (x.hi + y.hi) p (omega arith) q (omega arith) (cut_small w (x.hi + y.hi) lt);
      })

  difference : (m n : ℕ) → m ≤ x.hi → n ≤ m → n ≤ y.hi → cut w (whole Sub w m n) ≡ m - n
  difference m n p q r =
      let left = a.words in
      let right = h.words in
      let same : m + (modulus w - n) ≡ modulus w + (m - n) = omega arith in
      ap (cut w) same ∙ add-mod_left (modulus w) (m - n) ∙ cut_small w (m - n) (omega arith)

  row_sub : y.hi ≤ x.lo → AreResults Sub w x y (result_bounds Sub w x y)
  row_sub le =
      let p = a.order in
      let q = h.order in
      taken (nat_le y.hi x.lo) (from_to (x.lo - y.hi) (x.hi - y.lo)) (all w) (AreResults Sub w x y) (le-leb y.hi x.lo le)
      (record {
        lo = reaches Sub x.lo y.hi (x.lo - y.hi) (omega arith) p q (omega arith) (difference x.lo y.hi p le (omega arith));
        hi = reaches Sub x.hi y.lo (x.hi - y.lo) p (omega arith) (omega arith) q (difference x.hi y.lo (omega arith) (omega arith) q);
      })

  row_mul : x.hi * y.hi < modulus w → AreResults Mul w x y (result_bounds Mul w x y)
  row_mul lt =
      let p = a.order in
      let q = h.order in
      taken (nat_lt (x.hi * y.hi) (modulus w)) (from_to (x.lo * y.lo) (x.hi * y.hi)) (all w) (AreResults Mul w x y) (lt-ltb (x.hi * y.hi) (modulus w) lt)
      (record {
        lo = reaches Mul x.lo y.lo (x.lo * y.lo) (omega arith) p (omega arith) q (cut_small w (x.lo * y.lo) (omega (arith, lt, mul-le x.lo y.lo x.hi y.hi p q)));
        hi = reaches Mul x.hi y.hi (x.hi * y.hi) p (omega arith) q (omega arith) (cut_small w (x.hi * y.hi) lt);
      })

  quotient : (m n : ℕ) → m ≤ x.hi → 0 < n → cut w (whole Div w m n) ≡ m / n
  quotient m n p lt =
      let word = a.words in
      cond_both (n == 0) 0 (m / n) (λ k. cut w k ≡ m / n)
      (λ z. let zero_is = eqb-true n 0 z in absurd (omega arith))
      (λ z. cut_small w (m / n) (omega (arith, div-le_self m n)))

  -- the quotients of the ends, whichever form divides
  quotients : (op : AluOp) → 0 < y.lo → ((m n : ℕ) → x.lo ≤ m → m ≤ x.hi → y.lo ≤ n → n ≤ y.hi → whole op w m n ≡ whole Div w m n) → AreResults op w x y (quotient_bounds x y)
  quotients op lt same =
      let p = a.order in
      let q = h.order in
      taken (nat_lt 0 y.lo) (from_to (x.lo / y.hi) (x.hi / y.lo)) (from_to 0 x.hi) (AreResults op w x y) (lt-ltb 0 y.lo lt)
      (record {
        lo = reaches op x.lo y.hi (x.lo / y.hi) (omega arith) p q (omega arith) (ap (cut w) (same x.lo y.hi (omega arith) p q (omega arith)) ∙ quotient x.lo y.hi p (omega arith));
        hi = reaches op x.hi y.lo (x.hi / y.lo) p (omega arith) (omega arith) q (ap (cut w) (same x.hi y.lo p (omega arith) (omega arith) q) ∙ quotient x.hi y.lo (omega arith) lt);
      })

  row_signed_div : 0 < y.lo → ArePositive w x y → AreResults SignedDiv w x y (result_bounds SignedDiv w x y)
  row_signed_div lt positive =
      let is = positive_is w x y positive in
      taken (are_positive w x y) (quotient_bounds x y) (all w) (AreResults SignedDiv w x y) is
      (quotients SignedDiv lt (λ m n p q r s. signed_div_is w x y m n (within_left m p q) (within_right n r s) is))

  row_lsh : y.lo ≡ y.hi → x.hi * 2 ^ (y.lo % bit_count w) < modulus w → AreResults Lsh w x y (result_bounds Lsh w x y)
  row_lsh e lt =
      let p = a.order in
      let q = h.order in
      let power = 2 ^ (y.lo % bit_count w) in
      taken (is_single y && nat_lt (x.hi * power) (modulus w)) (from_to (x.lo * power) (x.hi * power)) (all w) (AreResults Lsh w x y)
      (and_from (is_single y) (nat_lt (x.hi * power) (modulus w)) (eq-eqb y.lo y.hi e) (lt-ltb (x.hi * power) (modulus w) lt))
      (record {
        lo = reaches Lsh x.lo y.lo (x.lo * power) (omega arith) p (omega arith) q (cut_small w (x.lo * power) (omega (arith, lt, mul-le x.lo power x.hi power p (omega arith))));
        hi = reaches Lsh x.hi y.lo (x.hi * power) p (omega arith) (omega arith) q (cut_small w (x.hi * power) lt);
      })

  -- the ends shifted, whichever form shifts
  shifts : (op : AluOp) → y.lo ≡ y.hi → ((m n : ℕ) → x.lo ≤ m → m ≤ x.hi → y.lo ≤ n → n ≤ y.hi → whole op w m n ≡ m / 2 ^ (n % bit_count w)) → AreResults op w x y (shifted_right w x y)
  shifts op e same =
      let p = a.order in
      let q = h.order in
      let word = a.words in
      let power = 2 ^ (y.lo % bit_count w) in
      taken (is_single y) (from_to (x.lo / power) (x.hi / power)) (from_to 0 x.hi) (AreResults op w x y) (eq-eqb y.lo y.hi e)
      (record {
        lo = reaches op x.lo y.lo (x.lo / power) (omega arith) p (omega arith) q (ap (cut w) (same x.lo y.lo (omega arith) p (omega arith) q) ∙ cut_small w (x.lo / power) (omega (arith, div-le_self x.lo power)));
        hi = reaches op x.hi y.lo (x.hi / power) p (omega arith) (omega arith) q (ap (cut w) (same x.hi y.lo p (omega arith) (omega arith) q) ∙ cut_small w (x.hi / power) (omega (arith, div-le_self x.hi power)));
      })

  row_arsh : y.lo ≡ y.hi → x.hi < modulus w / 2 → AreResults Arsh w x y (result_bounds Arsh w x y)
  row_arsh e lt =
      let is = lt-ltb x.hi (modulus w / 2) lt in
      taken (nat_lt x.hi (modulus w / 2)) (shifted_right w x y) (all w) (AreResults Arsh w x y) is
      (shifts Arsh e (λ m n p q r s. arsh_is w x y m n (within_left m p q) (within_right n r s) is))

  ranged_ends : (op : AluOp) → IsExact op w x y → AreResults op w x y (result_bounds op w x y)
  ranged_ends Add exact = row_add exact
  ranged_ends Sub exact = row_sub exact
  ranged_ends Mul exact = row_mul exact
  ranged_ends Div exact = quotients Div exact (λ m n p q r s. refl)
  ranged_ends SignedDiv exact = row_signed_div exact.0 exact.1
  ranged_ends Or exact = absurd exact
  ranged_ends And exact = absurd exact
  ranged_ends Lsh exact = row_lsh exact.0 exact.1
  ranged_ends Rsh exact = shifts Rsh exact (λ m n p q r s. refl)
  ranged_ends Mod exact = absurd exact
  ranged_ends SignedMod exact = absurd exact
  ranged_ends Xor exact = absurd exact
  ranged_ends Arsh exact = row_arsh exact.0 exact.1

  narrowed_are : (op : AluOp) → result_bounds op w (operand_bounds w x) (operand_bounds w y) ≡ result_bounds op w x y
  narrowed_are op i = result_bounds op w (narrowed_same w x a i) (narrowed_same w y h i)

  -- where the table is exact, both ends are results of members
  pub ends_are_results : (op : AluOp) → IsExact op w x y → AreResults op w x y (interval_alu op w x y)
  ends_are_results op exact =
      cond_both (is_single x && is_single y) (single (alu op w x.lo y.lo)) (result_bounds op w (operand_bounds w x) (operand_bounds w y)) (AreResults op w x y)
      (λ e.
      let result : IsResult op w x y (alu op w x.lo y.lo) = record {
        m = x.lo;
        n = y.lo;
        of_left = record { word = omega (arith, a.words, a.order, modulus_fits w); above = omega arith; below = a.order };
        of_right = record { word = omega (arith, h.words, h.order, modulus_fits w); above = omega arith; below = h.order };
        gives = refl;
      } in
      record { lo = result; hi = result })
      (λ e. subst (AreResults op w x y) (sym (narrowed_are op)) (ranged_ends op exact))

  -- ---- upper ends

  small_all : modulus w - 1 < modulus w
  small_all = omega (arith, modulus_positive w)

  -- an end of a choice
  chosen_end : (c : Bool) (u v : Bounds) (P : ℕ → Type 0) → (c ≡ true → P u.hi) → (c ≡ false → P v.hi) → P (if c then u else v).hi
  chosen_end c u v P p q = cond_both c u v (λ z. P z.hi) p q

  divided_end : (quotient_bounds x y).hi ≤ x.hi
  divided_end = chosen_end (nat_lt 0 y.lo) (from_to (x.lo / y.hi) (x.hi / y.lo)) (from_to 0 x.hi) (λ k. k ≤ x.hi) (λ e. div-le_self x.hi y.lo) (λ e. omega arith)

  remainder_end : IsRemainder x y (remainder x y).hi
  remainder_end =
      chosen_end (nat_lt 0 y.lo) (from_to 0 (min x.hi (y.hi - 1))) (from_to 0 x.hi) (IsRemainder x y)
      (λ e. record { dividend = omega arith; divisor = λ lt. omega (arith, h.order) })
      (λ e. record { dividend = omega arith; divisor = λ lt. absurd (omega (arith, lt, ltb-false 0 y.lo e)) })

  shifted_end : (shifted_right w x y).hi ≤ x.hi
  shifted_end =
      let power = 2 ^ (y.lo % bit_count w) in
      chosen_end (is_single y) (from_to (x.lo / power) (x.hi / power)) (from_to 0 x.hi) (λ k. k ≤ x.hi) (λ e. div-le_self x.hi power) (λ e. omega arith)

  ones_end : (k : ℕ) → x.hi < 2 ^ k → y.hi < 2 ^ k → ones (max x.hi y.hi) < 2 ^ k
  unfolding ones
  ones_end k p q =
      let top = max x.hi y.hi in
      let fits : top < 2 ^ 64 = omega (arith, a.words, h.words, modulus_fits w) in
      let found = leading_length 64 top fits in
      let bits = 64 - leading_zeros w64 top in
      let same : found.0 ≡ bits = omega (arith, found.1) in
      let least : 2 ^ bits ≤ 2 * top + 1 = subst (λ (j : ℕ). 2 ^ j ≤ 2 * top + 1) same found.3 in
      omega (arith, power_fits top bits k least (omega (arith, p, q)))

  ranged_upper : (op : AluOp) → IsUpper op w x y (result_bounds op w x y).hi
  ranged_upper Add = chosen_end (nat_lt (x.hi + y.hi) (modulus w)) (from_to (x.lo + y.lo) (x.hi + y.hi)) (all w) (λ k. k < modulus w) (λ e. ltb-true (x.hi + y.hi) (modulus w) e) (λ e. small_all)
  ranged_upper Sub = chosen_end (nat_le y.hi x.lo) (from_to (x.lo - y.hi) (x.hi - y.lo)) (all w) (λ k. k < modulus w) (λ e. omega (arith, a.words)) (λ e. small_all)
  ranged_upper Mul = chosen_end (nat_lt (x.hi * y.hi) (modulus w)) (from_to (x.lo * y.lo) (x.hi * y.hi)) (all w) (λ k. k < modulus w) (λ e. ltb-true (x.hi * y.hi) (modulus w) e) (λ e. small_all)
  ranged_upper Div = divided_end
  ranged_upper SignedDiv = λ positive. taken (are_positive w x y) (quotient_bounds x y) (all w) (λ z. z.hi ≤ x.hi) (positive_is w x y positive) divided_end
  ranged_upper Or = ones_end
  ranged_upper And = (omega arith, omega arith)
  ranged_upper Lsh =
      let power = 2 ^ (y.lo % bit_count w) in
      chosen_end (is_single y && nat_lt (x.hi * power) (modulus w)) (from_to (x.lo * power) (x.hi * power)) (all w) (λ k. k < modulus w)
      (λ e. ltb-true (x.hi * power) (modulus w) (and_parts (is_single y) (nat_lt (x.hi * power) (modulus w)) e).1) (λ e. small_all)
  ranged_upper Rsh = shifted_end
  ranged_upper Mod = remainder_end
  ranged_upper SignedMod = λ positive. taken (are_positive w x y) (remainder x y) (all w) (λ z. IsRemainder x y z.hi) (positive_is w x y positive) remainder_end
  ranged_upper Xor = ones_end
  ranged_upper Arsh = λ lt. taken (nat_lt x.hi (modulus w / 2)) (shifted_right w x y) (all w) (λ z. z.hi ≤ x.hi) (lt-ltb x.hi (modulus w / 2) lt) shifted_end

-- a smaller end is one too
smaller : (op : AluOp) (w : Width) (x y : Bounds) (j k : ℕ) → j ≤ k → IsUpper op w x y k → IsUpper op w x y j
smaller Add w x y j k le h = omega (arith, le, h)
smaller Sub w x y j k le h = omega (arith, le, h)
smaller Mul w x y j k le h = omega (arith, le, h)
smaller Div w x y j k le h = omega (arith, le, h)
smaller SignedDiv w x y j k le h = λ p. omega (arith, le, h p)
smaller Or w x y j k le h = λ n p q. omega (arith, le, h n p q)
smaller And w x y j k le h = (omega (arith, le, h.0), omega (arith, le, h.1))
smaller Lsh w x y j k le h = omega (arith, le, h)
smaller Rsh w x y j k le h = omega (arith, le, h)
smaller Mod w x y j k le h = record { dividend = omega (arith, le, h.dividend); divisor = λ lt. omega (arith, le, h.divisor lt) }
smaller SignedMod w x y j k le h = λ p. let r = h p in record { dividend = omega (arith, le, r.dividend); divisor = λ lt. omega (arith, le, r.divisor lt) }
smaller Xor w x y j k le h = λ n p q. omega (arith, le, h n p q)
smaller Arsh w x y j k le h = λ p. omega (arith, le, h p)

-- the upper end is at most what the table says
pub end_is_upper : (op : AluOp) (w : Width) (x y : Bounds) → AreWords w x → AreWords w y → IsUpper op w x y (interval_alu op w x y).hi
end_is_upper op w x y a p =
    cond_both (is_single x && is_single y) (single (alu op w x.lo y.lo)) (result_bounds op w (operand_bounds w x) (operand_bounds w y)) (λ z. IsUpper op w x y z.hi)
    (λ e.
    let left : IsWithin (modulus w) x x.lo = record { small = a.words; above = omega arith; below = a.order } in
    let right : IsWithin (modulus w) y y.lo = record { small = p.words; above = omega arith; below = p.order } in
    let first : cut w x.lo ≡ x.lo = cut_small w x.lo (omega (arith, a.words, a.order)) in
    let second : cut w y.lo ≡ y.lo = cut_small w y.lo (omega (arith, p.words, p.order)) in
    let is : alu op w x.lo y.lo ≡ cut w (whole op w x.lo y.lo) = λ i. cut w (whole op w (first i) (second i)) in
    let lies = row w x y x.lo y.lo left right op in
    smaller op w x y (alu op w x.lo y.lo) (result_bounds op w x y).hi (omega (arith, is, lies.below)) (ranged_upper w x y a p op))
    (λ e. subst (λ (z : Bounds). IsUpper op w x y z.hi) (sym (narrowed_are w x y a p op)) (ranged_upper w x y a p op))

-- ---- operators with one operand

unchanged_number : (op : UnaryOp) (x : Bounds) (n : ℕ) → AreWords (operand_width op) x → n ≤ x.hi → IsUnchanged op x → unary op n ≡ n
unchanged_number (Mov w) x n a le h = cut_small w n (omega (arith, le, a.words))
unchanged_number (Neg w) x n a le h = absurd h
unchanged_number (SignExtend e) x n a le h =
    ap (cut (target_of e)) (extended_is (extended_of e) n (omega (arith, le, h))) ∙ cut_small (target_of e) n (omega (arith, le, a.words))
unchanged_number (Swap ToLittle z) x n a le h = let small : n < 2 ^ bits (swap_width z) = omega (arith, le, h) in mod-eq_of_lt small
unchanged_number (Swap ToBig z) x n a le h = absurd h
unchanged_number (Swap Reverse z) x n a le h = absurd h

unchanged_ranged : (op : UnaryOp) (x : Bounds) → IsUnchanged op x → ranged_unary op x ≡ x
unchanged_ranged (Mov w) x h = refl
unchanged_ranged (Neg w) x h = absurd h
unchanged_ranged (SignExtend e) x h =
    let half = 2 ^ bits (signed_width (extended_of e)) / 2 in
    taken (nat_lt x.hi half) x (all (target_of e)) (λ z. z ≡ x) (lt-ltb x.hi half h) refl
unchanged_ranged (Swap ToLittle z) x h =
    let size = 2 ^ bits (swap_width z) in
    taken (nat_lt x.hi size) x (from_to 0 (size - 1)) (λ z. z ≡ x) (lt-ltb x.hi size h) refl
unchanged_ranged (Swap ToBig z) x h = absurd h
unchanged_ranged (Swap Reverse z) x h = absurd h

-- an operand that the operator leaves as it is is the result
pub unchanged_operand : (op : UnaryOp) (x : Bounds) → AreWords (operand_width op) x → IsUnchanged op x → interval_unary op x ≡ x
unchanged_operand op x a h =
    cond_both (is_single x) (single (unary op x.lo)) (ranged_unary op (operand_bounds (operand_width op) x)) (λ z. z ≡ x)
    (λ e.
    let same = unchanged_number op x x.lo a a.order h in
    let ends = eqb-true x.lo x.hi e in
    ap single same ∙ (λ i. from_to x.lo (ends i)))
    (λ e. ap (ranged_unary op) (narrowed_same (operand_width op) x a) ∙ unchanged_ranged op x h)

number_below : (op : UnaryOp) (n : ℕ) → unary op n < result_modulus op
number_below (Mov w) n = cut_below w n
number_below (Neg w) n = cut_below w (modulus w - cut w n)
number_below (SignExtend e) n = cut_below (target_of e) (sign_extended (extended_of e) n)
number_below (Swap ToLittle z) n = low_below z n
number_below (Swap ToBig z) n = reversed_below z (n % 2 ^ bits (swap_width z))
number_below (Swap Reverse z) n = reversed_below z (n % 2 ^ bits (swap_width z))

ranged_below : (op : UnaryOp) (x : Bounds) → AreWords (operand_width op) x → (ranged_unary op x).hi < result_modulus op
ranged_below (Mov w) x a = a.words
ranged_below (Neg w) x a = omega (arith, modulus_positive w)
ranged_below (SignExtend e) x a =
    cond_both (nat_lt x.hi (2 ^ bits (signed_width (extended_of e)) / 2)) x (all (target_of e)) (λ z. z.hi < modulus (target_of e)) (λ t. a.words) (λ t. omega (arith, modulus_positive (target_of e)))
ranged_below (Swap ToLittle z) x a =
    let size = 2 ^ bits (swap_width z) in
    cond_both (nat_lt x.hi size) x (from_to 0 (size - 1)) (λ z. z.hi < size) (λ t. ltb-true x.hi size t) (λ t. omega (arith, pow_pos (bits (swap_width z))))
ranged_below (Swap ToBig z) x a = omega (arith, pow_pos (bits (swap_width z)))
ranged_below (Swap Reverse z) x a = omega (arith, pow_pos (bits (swap_width z)))

-- no result is claimed beyond the size of the operator's results
pub unary_below : (op : UnaryOp) (x : Bounds) → AreWords (operand_width op) x → (interval_unary op x).hi < result_modulus op
unary_below op x a =
    cond_both (is_single x) (single (unary op x.lo)) (ranged_unary op (operand_bounds (operand_width op) x)) (λ z. z.hi < result_modulus op)
    (λ e. number_below op x.lo)
    (λ e. subst (λ (z : Bounds). (ranged_unary op z).hi < result_modulus op) (sym (narrowed_same (operand_width op) x a)) (ranged_below op x a))
