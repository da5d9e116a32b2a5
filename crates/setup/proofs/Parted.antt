-- A text in which no byte that parts it is found has none.
use Rattle.std.proofs.Common.{◌≡◌, ◌+◌, ◌||◌, arith, cond, suc, ℕ, Bool, true, false, refl, List, [], ◌∷◌, length}
use Rattle.std.specs.Prelude.{not}
use Rattle.std.specs.List.{list_any, position_or_len}

module _ (parts : ℕ → Bool) where
  pub none_found : (text : List ℕ) → position_or_len parts text ≡ length text → list_any parts text ≡ false
  none_found [] same = refl
  none_found (x ∷ xs) same = go (parts x) (none_found xs) same
    where
      go : (b : Bool) → (position_or_len parts xs ≡ length xs → list_any parts xs ≡ false)
          → cond (not b) (1 + position_or_len parts xs) 0 ≡ suc (length xs) → (b || list_any parts xs) ≡ false
      go true rest e = absurd (omega (arith, e))
      go false rest e = rest (omega (arith, e))
