-- An abstract load through a base that isn't the context.
use Rattle.std.proofs.Common.{◌≡◌, ℤ, refl}
use Rattle.insn.specs.declared.size.Size.{Size}
use Rattle.interval.specs.Domains.{Operations}
use Rattle.absstate.specs.AbstractSteps.{abstract_load_value, abstract_load, store_known, abstract_store_pointer}
use Rattle.absstate.specs.declared.abstract_state.AbstractValue.{AbstractValue}
use Rattle.absstate.specs.declared.abstract_state.AbstractValue.TheVariants.{Nothing, Scalar, Ctx, Stack, Data, End}
use Rattle.absstate.specs.declared.abstract_state.AbsState.{AbsState}

pub load_elsewhere : {D : Type 0} (ops : Operations D) (a : AbsState D) (base : AbstractValue D) (d : ℤ) (z : Size) → (base ≡ Ctx → ⊥) → abstract_load ops a base d z ≡ abstract_load_value ops a base d z
load_elsewhere ops a Nothing d z other = refl
load_elsewhere ops a (Scalar n) d z other = refl
load_elsewhere ops a Ctx d z other = absurd (other refl)
load_elsewhere ops a (Stack k) d z other = refl
load_elsewhere ops a (Data anchor k) d z other = refl
load_elsewhere ops a End d z other = refl

-- an abstract store of what is no number
pub store_elsewhere : {D : Type 0} (a : AbsState D) (to : AbstractValue D) (d : ℤ) (z : Size) (k : AbstractValue D) → ((n : D) → k ≡ Scalar n → ⊥) → store_known a to d z k ≡ abstract_store_pointer a to d z k
store_elsewhere a to d z (Scalar n) other = absurd (other n refl)
store_elsewhere a to d z Nothing other = refl
store_elsewhere a to d z Ctx other = refl
store_elsewhere a to d z (Stack k) other = refl
store_elsewhere a to d z (Data anchor k) other = refl
store_elsewhere a to d z End other = refl
