use Rattle.std.proofs.Common.{ap, sym, ◌∙◌, take, fold, ℕ, List}
use Rattle.std.proofs.lemmas.List.{take_all}
use Rattle.stun.specs.Messages.{Attribute}
use Rattle.stun.specs.Attributes.{attributes_left, attribute_of_attr}
use Rattle.control.specs.Unknown.{with_type}
use Rattle.control.specs.declared.unknown.TheConstants.{MAX_UNKNOWN}
use Rattle.control.proofs.Types.{fold_cut, unknown_in, unknown_first}
use Rattle.control.proofs.unknown.unknown_types.Goals as goal

pub loop-attribute-preserved-then-not-is_understood : goal.loop-attribute-preserved-then-not-is_understood
loop-attribute-preserved-then-not-is_understood c = record {
  can = tt;
  finite = tt;
  few = c.add_type.ensures.few;
  same =
      ap (λ (kinds : List ℕ). take MAX_UNKNOWN (fold with_type kinds (unknown_in (attributes_left c.next.new.self)))) c.add_type.ensures.added
      ∙ fold_cut MAX_UNKNOWN (with_type c.loop-attribute.kinds.items c.in-Some.attribute.kind) (unknown_in (attributes_left c.next.new.self))
      ∙ ap (λ (kinds : List ℕ). take MAX_UNKNOWN (fold with_type c.loop-attribute.kinds.items kinds)) (unknown_first (attribute_of_attr c.in-Some.attribute) (attributes_left c.next.new.self) (sym c.is_understood.ensures ∙ c.if-not-is_understood.true) ∙ ap unknown_in (sym c.in-Some.ensures.steps))
      ∙ c.loop-attribute.invariant.same;
}

pub returns : goal.returns
returns c =
    sym (take_all MAX_UNKNOWN c.loop-attribute.kinds.items c.loop-attribute.invariant.few)
    ∙ ap (λ (rest : List Attribute). take MAX_UNKNOWN (fold with_type c.loop-attribute.kinds.items (unknown_in rest))) (sym c.in-None.ensures.steps.0)
    ∙ c.loop-attribute.invariant.same
