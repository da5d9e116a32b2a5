use Rattle.std.proofs.Common.{◌≡◌, ◌∷◌, [], arith, rules, sym, ap, ◌∙◌, length}
use Rattle.stun.specs.Attributes.{attribute_of_attr, attributes_left}
use Rattle.stun.specs.Reading.{attributes_in}
use Rattle.stun.proofs.Grammar.{attributes_tail, no_attributes}
use Rattle.stun.proofs.Integrity.{nothing_left, last_left, more_left}
use Rattle.stun.proofs.attributes.AttrsIterator.next.Goals as goal
use Rattle.stun.proofs.attributes.AttrsIterator.next.Goals.{then-attr-eq-MESSAGE_INTEGRITY, else-attr-eq-MESSAGE_INTEGRITY}

pub returns-in_err-attr-clause-steps : goal.returns-in_err-attr-clause-steps
returns-in_err-attr-clause-steps c =
    let none = ap attributes_left (sym c.self.view_is ∙ nothing_left c.self.inside.rest.now c.self.invariant c.in_err-attr.ensures) in
    rw c.from_residual.ensures (none, none)

pub invariant_of-self : goal.invariant_of-self
invariant_of-self c =
    elim c.if-attr-eq-MESSAGE_INTEGRITY.branch [
      | then-attr-eq-MESSAGE_INTEGRITY w ↦ rw w.self-is (no_attributes [] (omega arith))
      | else-attr-eq-MESSAGE_INTEGRITY w ↦ rw (w.self-is, c.in_ok-attr.rest-is) (attributes_tail _ _ _ _ c.in_ok-attr.ensures c.self.invariant)
    ]

first_of : (c : goal.After-self-2-1) → attributes_left c.args.self.now ≡ attribute_of_attr c.in_ok-attr.attr ∷ attributes_left (attributes_in c.if-attr-eq-MESSAGE_INTEGRITY.self.now)
first_of c =
    elim c.if-attr-eq-MESSAGE_INTEGRITY.branch [
      | then-attr-eq-MESSAGE_INTEGRITY w ↦ rw w.self-is (ap attributes_left (sym c.self.view_is) ∙ last_left _ _ _ _ c.in_ok-attr.ensures c.self.invariant w.if-attr-eq-MESSAGE_INTEGRITY.true)
      | else-attr-eq-MESSAGE_INTEGRITY w ↦ rw w.self-is (ap attributes_left (sym c.self.view_is) ∙ more_left _ _ _ _ c.in_ok-attr.ensures c.self.invariant w.if-attr-eq-MESSAGE_INTEGRITY.false)
    ]

pub returns-clause-steps : goal.returns-clause-steps
returns-clause-steps c = first_of c

pub returns-clause-goes : goal.returns-clause-goes
returns-clause-goes c =
    let shorter = ap length (first_of c) in
    search rules
