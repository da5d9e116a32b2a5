use Rattle.std.proofs.Common.{◌≡◌, ℕ, ◌-◌, ◌/◌, ◌^◌, ◌≤◌, ◌<◌, Option, Some, None, ap, arith, ◌∙◌}
use Rattle.std.specs.Option.{SomeIff, unwrap_or}
use Rattle.std.specs.Int.{w64, leading_zeros}
use Rattle.std.proofs.lemmas.Nat.{leading_le}
use Rattle.std.proofs.lemmas.Nat.Bits.{ones_shr}
use Rattle.interval.specs.Intervals.{ones}
use Rattle.interval.proofs.arithmetic.ones.Goals as goal

-- all ones, shifted by a count of which 64 leaves none
shifted_ones : (k : ℕ) (o : Option ℕ) → k ≤ 64 → SomeIff o (k < 64) ((2 ^ 64 - 1) / 2 ^ k) → unwrap_or o 0 ≡ 2 ^ (64 - k) - 1
shifted_ones k None le h = ap (λ (n : ℕ). 2 ^ n - 1) (let same : 0 ≡ 64 - k = omega (arith, h) in same)
shifted_ones k (Some x) le h = let is = ones_shr 64 k le in grind (arith, is, h)

pub returns : goal.returns
unfolding ones
returns c = c.unwrap_or.ensures ∙ shifted_ones (leading_zeros w64 c.args.n) c.checked_shr.result (leading_le 64 c.args.n) c.checked_shr.ensures
