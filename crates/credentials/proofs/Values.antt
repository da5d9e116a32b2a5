-- The first value of a type, found from left to right.
use Rattle.std.proofs.Common.{◌≡◌, ℕ, Bool, true, false, cond, List, ◌∷◌, map, filter, Some, slice_get, refl}
use Rattle.std.specs.Prelude.{◌==◌, if◌then◌else◌}
use Rattle.stun.specs.Messages.{Attribute}
use Rattle.stun.specs.Attributes.{value_of}

cons_step : (b : Bool) (a : Attribute) (rest : List Attribute) → slice_get (map (λ x. x.value) (cond b (a ∷ rest) rest)) 0 ≡ (if b then Some a.value else slice_get (map (λ x. x.value) rest) 0)
cons_step true a rest = refl
cons_step false a rest = refl

pub value_cons : (kind : ℕ) (a : Attribute) (rest : List Attribute) → value_of kind (a ∷ rest) ≡ (if a.kind == kind then Some a.value else value_of kind rest)
value_cons kind a rest = cons_step (a.kind == kind) a (filter (λ x. x.kind == kind) rest)
