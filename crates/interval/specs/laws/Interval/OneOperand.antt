-- Internal. Operators with one operand: one lemma for each row of the table.
use Rattle.std.proofs.Common.{◌≡◌, ℕ, ◌-◌, ◌/◌, ◌%◌, ◌^◌, ◌≤◌, ◌<◌, ap, subst, ◌∙◌, arith}
use Rattle.std.specs.Prelude.{nat_lt}
use Rattle.std.specs.Int.{w8, w16, w32, w64, cast_signed, cast_unsigned, swap_bytes}
use Rattle.std.proofs.lemmas.Bool.{ltb-true}
use Rattle.std.proofs.Math.Nat.{mod-eq_of_lt}
use Rattle.std.proofs.lemmas.Nat.{mod_below, pow_pos}
use Rattle.std.proofs.Math.Pow.{mod-mod-pow}
use Rattle.std.proofs.lemmas.Int.{to_z_pos}
use mir.Val.{bits}
use Rattle.insn.specs.Words.{modulus, cut, unary, sign_extended, signed_width, swap_width, extended_of, target_of}
use Rattle.insn.specs.declared.width.Width.TheVariants.{W32, W64}
use Rattle.insn.specs.declared.size.SignedSize.{SignedSize}
use Rattle.insn.specs.declared.size.SignedSize.TheVariants as signed
use Rattle.insn.specs.declared.size.SwapSize.{SwapSize}
use Rattle.insn.specs.declared.size.SwapSize.TheVariants as swap
use Rattle.insn.specs.declared.operator.UnaryOp.{UnaryOp}
use Rattle.insn.specs.declared.operator.UnaryOp.TheVariants.{Mov, Neg, SignExtend, Swap}
use Rattle.insn.specs.declared.operator.Extension.{Extension}
use Rattle.insn.specs.declared.operator.Extension.TheVariants.{ByteTo32, HalfTo32, ByteTo64, HalfTo64, WordTo64}
use Rattle.insn.specs.declared.operator.SwapOp.TheVariants.{ToLittle, ToBig, Reverse}
use Rattle.interval.specs.declared.domain.Bounds.{Bounds}
use Rattle.interval.specs.Intervals.{LiesBetween, from_to, single, all, operand_bounds, is_single, low, ranged_unary, operand_width, interval_unary}
use Rattle.interval.specs.laws.Interval.Members.{IsWithin, LiesInWords, modulus_fits, number_small, cut_small, cut_below, cut_cut, between, cut_any, either_interval, narrowed_within, only_member}

-- ---- byte swaps

swap_fits : (z : SwapSize) → 2 ^ bits (swap_width z) ≤ 2 ^ 64
swap_fits swap.Half = omega arith
swap_fits swap.Word = omega arith
swap_fits swap.Double = omega arith

pub low_below : (z : SwapSize) (n : ℕ) → n % 2 ^ bits (swap_width z) < 2 ^ bits (swap_width z)
low_below z n = mod_below n (2 ^ bits (swap_width z)) (pow_pos (bits (swap_width z)))

pub reversed_below : (z : SwapSize) (n : ℕ) → swap_bytes (swap_width z) n < 2 ^ bits (swap_width z)
reversed_below swap.Half n = omega arith
reversed_below swap.Word n = omega arith
reversed_below swap.Double n = omega arith

row_reversed : (z : SwapSize) (n : ℕ) → LiesInWords (from_to 0 (2 ^ bits (swap_width z) - 1)) (swap_bytes (swap_width z) n)
row_reversed z n = between 0 (2 ^ bits (swap_width z) - 1) (swap_bytes (swap_width z) n) (omega (arith, swap_fits z, pow_pos (bits (swap_width z)))) (omega arith) (omega (arith, reversed_below z n))

row_low : (z : SwapSize) (x : Bounds) (n : ℕ) → IsWithin (2 ^ 64) x n → LiesInWords (low (bits (swap_width z)) x) (n % 2 ^ bits (swap_width z))
row_low z x n a =
    either_interval (nat_lt x.hi (2 ^ bits (swap_width z))) x (from_to 0 (2 ^ bits (swap_width z) - 1)) (n % 2 ^ bits (swap_width z))
    (λ e.
    let lt = ltb-true x.hi (2 ^ bits (swap_width z)) e in
    let small : n < 2 ^ bits (swap_width z) = omega (arith, a.below, lt) in
    let is : n % 2 ^ bits (swap_width z) ≡ n = mod-eq_of_lt small in
    record { word = a.small; above = omega (arith, is, a.above); below = omega (arith, is, a.below) })
    (λ e. between 0 (2 ^ bits (swap_width z) - 1) (n % 2 ^ bits (swap_width z)) (omega (arith, swap_fits z, pow_pos (bits (swap_width z)))) (omega arith) (omega (arith, low_below z n)))

-- ---- sign extensions

-- a number with the sign of its size clear is extended to itself
pub extended_is : (s : SignedSize) (n : ℕ) → n < 2 ^ bits (signed_width s) / 2 → sign_extended s n ≡ n
extended_is signed.Byte n lt =
    let same : n % 2 ^ 8 ≡ n = omega arith in
    ap (cast_unsigned w64) (to_z_pos w8 (n % 2 ^ 8) (omega arith)) ∙ same
extended_is signed.Half n lt =
    let same : n % 2 ^ 16 ≡ n = omega arith in
    ap (cast_unsigned w64) (to_z_pos w16 (n % 2 ^ 16) (omega arith)) ∙ same
extended_is signed.Word n lt =
    let same : n % 2 ^ 32 ≡ n = omega arith in
    ap (cast_unsigned w64) (to_z_pos w32 (n % 2 ^ 32) (omega arith)) ∙ same

-- only the low bits of the operand are read
low_bits_8_32 : (n : ℕ) → n % 2 ^ 32 % 2 ^ 8 ≡ n % 2 ^ 8
low_bits_8_32 n = mod-mod-pow n 24 8

low_bits_16_32 : (n : ℕ) → n % 2 ^ 32 % 2 ^ 16 ≡ n % 2 ^ 16
low_bits_16_32 n = mod-mod-pow n 16 16

low_bits_8_64 : (n : ℕ) → n % 2 ^ 64 % 2 ^ 8 ≡ n % 2 ^ 8
low_bits_8_64 n = mod-mod-pow n 56 8

low_bits_16_64 : (n : ℕ) → n % 2 ^ 64 % 2 ^ 16 ≡ n % 2 ^ 16
low_bits_16_64 n = mod-mod-pow n 48 16

low_bits_32_64 : (n : ℕ) → n % 2 ^ 64 % 2 ^ 32 ≡ n % 2 ^ 32
low_bits_32_64 n = mod-mod-pow n 32 32

cut_extended : (e : Extension) (n : ℕ) → unary (SignExtend e) (cut (target_of e) n) ≡ unary (SignExtend e) n
cut_extended ByteTo32 n = ap (λ (k : ℕ). cut W32 (cast_unsigned w64 (cast_signed w8 k))) (low_bits_8_32 n)
cut_extended HalfTo32 n = ap (λ (k : ℕ). cut W32 (cast_unsigned w64 (cast_signed w16 k))) (low_bits_16_32 n)
cut_extended ByteTo64 n = ap (λ (k : ℕ). cut W64 (cast_unsigned w64 (cast_signed w8 k))) (low_bits_8_64 n)
cut_extended HalfTo64 n = ap (λ (k : ℕ). cut W64 (cast_unsigned w64 (cast_signed w16 k))) (low_bits_16_64 n)
cut_extended WordTo64 n = ap (λ (k : ℕ). cut W64 (cast_unsigned w64 (cast_signed w32 k))) (low_bits_32_64 n)

row_extended : (e : Extension) (x : Bounds) (n : ℕ) → IsWithin (modulus (target_of e)) x n → LiesInWords (ranged_unary (SignExtend e) x) (unary (SignExtend e) n)
row_extended e x n a =
    either_interval (nat_lt x.hi (2 ^ bits (signed_width (extended_of e)) / 2)) x (all (target_of e)) (unary (SignExtend e) n)
    (λ t.
    let lt = ltb-true x.hi (2 ^ bits (signed_width (extended_of e)) / 2) t in
    let is : unary (SignExtend e) n ≡ n = ap (cut (target_of e)) (extended_is (extended_of e) n (omega (arith, a.below, lt))) ∙ cut_small (target_of e) n (number_small (modulus (target_of e)) x n a) in
    record { word = omega (arith, a.small, modulus_fits (target_of e)); above = omega (arith, is, a.above); below = omega (arith, is, a.below) })
    (λ t. cut_any (target_of e) (sign_extended (extended_of e) n))

-- ---- all operators

-- an operand of which only the words of the operator's width are read
cut_unary : (op : UnaryOp) (n : ℕ) → n < 2 ^ 64 → unary op (cut (operand_width op) n) ≡ unary op n
cut_unary (Mov w) n lt = cut_cut w n
cut_unary (Neg w) n lt = ap (λ (k : ℕ). cut w (modulus w - k)) (cut_cut w n)
cut_unary (SignExtend e) n lt = cut_extended e n
cut_unary (Swap op z) n lt = ap (unary (Swap op z)) (cut_small W64 n lt)

row_unary : (op : UnaryOp) (x : Bounds) (n : ℕ) → IsWithin (modulus (operand_width op)) x n → LiesInWords (ranged_unary op x) (unary op n)
row_unary (Mov w) x n a =
    let is = cut_small w n (number_small (modulus w) x n a) in
    record { word = omega (arith, a.small, modulus_fits w); above = omega (arith, is, a.above); below = omega (arith, is, a.below) }
row_unary (Neg w) x n a = cut_any w (modulus w - cut w n)
row_unary (SignExtend e) x n a = row_extended e x n a
row_unary (Swap ToLittle z) x n a = row_low z x n a
row_unary (Swap ToBig z) x n a = row_reversed z (n % 2 ^ bits (swap_width z))
row_unary (Swap Reverse z) x n a = row_reversed z (n % 2 ^ bits (swap_width z))

pub unary_fits : (op : UnaryOp) (n : ℕ) → unary op n < 2 ^ 64
unary_fits (Mov w) n = omega (arith, cut_below w n, modulus_fits w)
unary_fits (Neg w) n = omega (arith, cut_below w (modulus w - cut w n), modulus_fits w)
unary_fits (SignExtend e) n = omega (arith, cut_below (target_of e) (sign_extended (extended_of e) n), modulus_fits (target_of e))
unary_fits (Swap ToLittle z) n = omega (arith, low_below z n, swap_fits z)
unary_fits (Swap ToBig z) n = omega (arith, reversed_below z (n % 2 ^ bits (swap_width z)), swap_fits z)
unary_fits (Swap Reverse z) n = omega (arith, reversed_below z (n % 2 ^ bits (swap_width z)), swap_fits z)

-- an operand that is single is computed on
pub unary_sound : (op : UnaryOp) (x : Bounds) (n : ℕ) → LiesBetween x n → LiesInWords (interval_unary op x) (unary op n)
unary_sound op x n h =
    let w = operand_width op in
    let is : unary op (cut w n) ≡ unary op n = cut_unary op n h.word in
    either_interval (is_single x) (single (unary op x.lo)) (ranged_unary op (operand_bounds w x)) (unary op n)
    (λ e.
    let same : unary op x.lo ≡ unary op n = ap (unary op) (only_member x n e h) in
    let fits = unary_fits op n in
    record { word = omega (arith, same, fits); above = omega (arith, same); below = omega (arith, same) })
    (λ e. subst (λ (k : ℕ). LiesInWords (ranged_unary op (operand_bounds w x)) k) is (row_unary op (operand_bounds w x) (cut w n) (narrowed_within w x n h)))
