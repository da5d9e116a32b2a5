-- Meaning. Steps that may give nothing, one after the other: the first that does ends them.
use Rattle.std.specs.Prelude.{Bool, Option, None, Some, if◌then◌else◌}

infixl 10 ◌>>=◌
abbrev pub ◌>>=◌ : {A B : Type 0} → Option A → (A → Option B) → Option B
None >>= f = None
(Some x) >>= f = f x

-- continues where the test passes
abbrev pub guard : Bool → Option (Unit {0})
guard passed = if passed then Some tt else None
