-- The bits after a prefix, as a shift shows them.
use Rattle.std.proofs.Common.{◌≡◌, ℕ, ◌+◌, ◌-◌, ◌*◌, ◌/◌, ◌%◌, ◌^◌, ◌<◌, ◌≤◌, ◌∙◌, arith, suc, zero, sym, ap, Option, Some, None, ◌==◌, unwrap_or}
use Rattle.std.specs.Option.{SomeIff}
use Rattle.std.proofs.lemmas.Bool.Decides.{nat_tests}
use Rattle.std.proofs.lemmas.Grind.{common_steps}
use Rattle.std.proofs.lemmas.Nat.{mod-pow-add, pow_pos, shl-shr, shr_split}

nothing : (a b : ℕ) → (a * 2 ^ b) % 2 ^ b ≡ 0
nothing a b = omega (arith, shr_split (a * 2 ^ b) b, ap (λ n. n * 2 ^ b) (shl-shr a b))

-- a shift to the left leaves the low bits, each higher
shifted : (a b r : ℕ) → (a * 2 ^ b) % 2 ^ (r + b) ≡ (a % 2 ^ r) * 2 ^ b
shifted a b r = rw (mod-pow-add (a * 2 ^ b) r b, shl-shr a b, nothing a b) (omega arith)

within : (w b : ℕ) → b ≤ w → (b < w → ⊥) → w - b ≡ 0
within w b few most = omega arith

no_bits : (a w b : ℕ) → b ≤ w → (b < w → ⊥) → a % 2 ^ (w - b) ≡ 0
no_bits a w b few most = rw (within w b few most) (omega arith)

times : (x p : ℕ) → 0 < p → (x * p == 0) ≡ (x == 0)
times zero p more = grind (arith, common_steps, nat_tests)
times (suc n) p more = grind (arith, common_steps, nat_tests)

apart : (w b : ℕ) → b ≤ w → w ≡ w - b + b
apart w b few = omega arith

pub host_shift : (w a b : ℕ) (o : Option ℕ) → b ≤ w → SomeIff o (b < w) ((a * 2 ^ b) % 2 ^ w)
    → (unwrap_or o 0 == 0) ≡ (a % 2 ^ (w - b) == 0)
host_shift w a b None few is = ap (λ (n : ℕ). n == 0) (sym (no_bits a w b few is))
host_shift w a b (Some x) few is =
    ap (λ (n : ℕ). n == 0) (is.1 ∙ ap (λ v. (a * 2 ^ b) % 2 ^ v) (apart w b few) ∙ shifted a b (w - b))
    ∙ times (a % 2 ^ (w - b)) (2 ^ b) (pow_pos b)

pub prefix_shift : (w a b : ℕ) (o : Option ℕ) → w ≤ 128 → a < 2 ^ 128 → SomeIff o (w - b < 128) (a / 2 ^ (w - b)) → unwrap_or o 0 ≡ a / 2 ^ (w - b)
prefix_shift w a b None few fits is =
    let most : w - b ≡ 128 = omega (arith, few, is) in
    rw (most) (omega (arith, fits))
prefix_shift w a b (Some x) few fits is = is.1
