use Rattle.std.proofs.Common.{below_more, refl, rules, arith}
use Rattle.ordering.proofs.Forwards.{all_forward}
use Rattle.ordering.proofs.forward.is_forward.Goals as goal

pub returns : goal.returns
returns c = (λ t. all_forward c.args.program.now c.requires (λ k lt. c.loop-slot.invariant k (omega arith)), λ jumps. search rules)

pub loop-slot-preserved : goal.loop-slot-preserved
loop-slot-preserved c = below_more _ _ c.loop-slot.invariant (c.if-not-is_forward_at.ensures.0 refl)
