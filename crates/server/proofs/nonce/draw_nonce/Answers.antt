use Rattle.std.proofs.Common.{arith}
use Rattle.server.proofs.Digits.{digits_are_nonce}
use Rattle.server.proofs.nonce.draw_nonce.Goals as goal

pub returns-clause-nonce : goal.returns-clause-nonce
returns-clause-nonce g c =
    let (count, all) = c.loop.invariant in
    digits_are_nonce c.loop.nonce.bytes (omega (arith, count, c.loop-test.false, c.loop.auto.counter-end)) all
