use Rattle.std.proofs.Common.{◌≡◌, length}
use Rattle.stun.specs.Attributes.{attributes_left, values_of}
use Rattle.stun.proofs.attributes.next_value.Given as goal

abbrev pub invariant-loop-attr : goal.invariant-loop-attr
invariant-loop-attr l = values_of l.kind (attributes_left l.initial.attrs) ≡ values_of l.kind (attributes_left l.attrs)

abbrev pub decreases-loop-attr : goal.decreases-loop-attr
decreases-loop-attr l = length (attributes_left l.attrs)
