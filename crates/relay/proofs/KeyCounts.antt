-- How many keys a step compares, by what its verdict asks for.
use Rattle.std.proofs.Common.{ℕ, ◌+◌, ◌≤◌, Option, arith}
use Rattle.std.proofs.Math.Nat.{le-max_left, le-max_right}
use Rattle.rules.specs.declared.confinement.Confinement.{Confinement}
use Rattle.relay.specs.KeysCompared.{keys_of_permitting, keys_of_step}

module _ (confinement : Option Confinement) (old found : ℕ) (few : found ≤ old + 9) where
  -- the slot alone is looked up
  pub slot_alone : found ≤ old + keys_of_step confinement
  slot_alone = omega (arith, few)

  -- the rules look up more
  pub by_rules : (made : ℕ) → made ≤ found + 16 → made ≤ old + keys_of_step confinement
  by_rules made more = omega (arith, few, more, le-max_left 16 (keys_of_permitting confinement))

  -- it is asked what is permitted
  pub by_asking : (made : ℕ) → made ≤ found + keys_of_permitting confinement → made ≤ old + keys_of_step confinement
  by_asking made more = omega (arith, few, more, le-max_right 16 (keys_of_permitting confinement))
