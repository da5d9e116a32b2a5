use Rattle.std.proofs.Common.{◌≡◌, true, false, get_or, drop, ap, ◌∙◌, eq-eqb, rules}
use Rattle.std.specs.Prelude.{◌==◌, Some}
use Rattle.events.proofs.Splits.{starts, goes_on, found, ends}
use Rattle.events.proofs.parsing.split_at.Goals as goal

other : (c : goal.Else-bytes-front) → (get_or c.args.bytes.now c.loop-front.front 0 == c.args.separator) ≡ false
other c = search rules

is_here : (c : goal.After-after-1) → (get_or c.args.bytes.now c.loop-front.front 0 == c.args.separator) ≡ true
is_here c = eq-eqb _ _ c.if-bytes-front.true

pub loop-front-init : goal.loop-front-init
loop-front-init c = starts c.args.separator c.args.bytes.now

pub loop-front-preserved : goal.loop-front-preserved
loop-front-preserved c = goes_on c.args.separator c.args.bytes.now c.loop-front.front c.loop-front-test.true (other c) c.loop-front.invariant

pub returns-then-bytes-front : goal.returns-then-bytes-front
returns-then-bytes-front c =
    let first = c.split_at.ensures in
    (λ i. Some (first.front i, (c.split_at-then-bytes-front.ensures.back ∙ ap (drop 1) first.back) i))
    ∙ found c.args.separator c.args.bytes.now c.loop-front.front c.loop-front-test.true (is_here c) c.loop-front.invariant

pub returns : goal.returns
returns c = ends c.args.separator c.args.bytes.now c.loop-front.front c.loop-front-test.false c.loop-front.invariant
