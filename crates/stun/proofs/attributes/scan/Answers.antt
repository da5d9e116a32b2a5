use Rattle.std.proofs.Common.{length, refl, ap, arith, length-append}
use Rattle.stun.specs.Messages.{attributes_bytes}
use Rattle.stun.proofs.Integrity.{scanned_more, scanned_all, scan_overruns}
use Rattle.stun.proofs.attributes.scan.Goals as goal

pub overflow_sub-at : goal.overflow_sub-at
overflow_sub-at c =
    let parts = c.loop-rest.invariant.parts in
    omega (arith, ap length parts, length-append (attributes_bytes c.loop-rest.invariant.front) c.loop-rest.rest.now)

pub returns-in_default-clause-overrun : goal.returns-in_default-clause-overrun
returns-in_default-clause-overrun c =
    (refl, scan_overruns _ _ _ c.loop-rest.invariant c.loop-rest-test.true c.in_default.ensures)

pub loop-rest-preserved : goal.loop-rest-preserved
loop-rest-preserved c =
    rw (c.in-Some.after-is, c.or-integrity.ensures, c.then_some.ensures) (scanned_more _ _ _ _ _ _ c.loop-rest.invariant c.in-Some.ensures)

pub returns-clause-found : goal.returns-clause-found
returns-clause-found c = scanned_all _ _ _ c.loop-rest.invariant c.loop-rest-test.false
