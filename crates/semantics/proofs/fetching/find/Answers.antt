use Rattle.std.proofs.Common.{◌<◌, arith}
use Rattle.semantics.proofs.Finding.{found_wide}
use Rattle.semantics.proofs.fetching.find.Goals as goal

pub returns-then-slot-at-clause-value : goal.returns-then-slot-at-clause-value
returns-then-slot-at-clause-value c =
    let above : c.loop-at.at.slot < c.args.slot = omega arith in
    found_wide c.args.code.now c.loop-at.at c.args.slot c.loop-at.invariant.at c.next-at.result c.next-at.ensures.at c.next-at.ensures.index c.loop-at-test.true above c.if-slot-at.true
