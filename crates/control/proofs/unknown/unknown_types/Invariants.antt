use Rattle.std.proofs.Common.{◌≡◌, ◌≤◌, length, map, not, fold, take}
use Rattle.std.specs.List.{filter}
use Rattle.stun.specs.Attributes.{is_understood, attributes_left}
use Rattle.control.specs.Unknown.{unknown_types, with_type}
use Rattle.control.specs.declared.unknown.TheConstants.{MAX_UNKNOWN}
use Rattle.control.proofs.unknown.unknown_types.Given as goal

abbrev pub invariant-loop-attribute : goal.invariant-loop-attribute
invariant-loop-attribute l = record {
  can : (goal.iterator-loop-attribute).can_next l.attribute-iterator;
  finite : (goal.iterator-loop-attribute).is_finite l.attribute-iterator;
  few : length l.kinds.items ≤ MAX_UNKNOWN;
  same : take MAX_UNKNOWN (fold with_type l.kinds.items (filter (λ kind. not (is_understood kind)) (map (λ a. a.kind) (attributes_left l.attribute-iterator)))) ≡ unknown_types l.message;
}
