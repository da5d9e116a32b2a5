-- Internal. What a test of the values keeps of a finite map.
use Rattle.std.specs.Prelude.{Bool, cond, Option, None}
use Rattle.std.specs.declared.cmp.Ordering.{Ordering}
use Rattle.std.specs.FinMap.{FinMap, get, retain_keys}

-- a value that passes
abbrev pub value_if : {X : Type 0} → (Option X → Bool) → Option X → Option X
value_if test v = cond (test v) v None

-- the entries whose values pass
abbrev pub kept_of : {K X : Type 0} {R : K → K → Ordering} → (Option X → Bool) → FinMap R X → FinMap R X
kept_of test m = retain_keys m (λ k. test (get m k))
