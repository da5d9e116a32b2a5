-- Meaning. A program that is being loaded.
use Rattle.std.specs.Prelude.{ℕ}
use Rattle.interval.specs.declared.interval.Interval.{Interval}
use Rattle.verifier.specs.Slices.{Walking}

-- its walk, and what its verification may still weigh
pub record LoadingWalk : Type 0 where
  pub walk : Walking Interval
  pub left : ℕ
