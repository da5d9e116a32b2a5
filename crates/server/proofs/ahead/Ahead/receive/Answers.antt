use Rattle.std.proofs.Common.{arith}
use Rattle.server.proofs.Waits.{fits_stored}
use Rattle.server.proofs.ahead.Ahead.receive.Goals as goal

pub overflow_add-end : goal.overflow_add-end
overflow_add-end g c =
    let fits = fits_stored c.self.inside.datagrams.items c.self.inside.count c.self.inside.end c.index.result.now c.self.invariant.within (omega (arith, c.if-self-len.true, c.len.ensures, c.self.inside.datagrams.ok.0)) c.index.ensures in
    omega (arith, fits, c.self.invariant.inside, c.self.inside.bytes.ok.0, c.self.inside.bytes.small)

pub slice_bounds-copy_to-end : goal.slice_bounds-copy_to-end
slice_bounds-copy_to-end g c =
    let fits = fits_stored c.self.inside.datagrams.items c.self.inside.count c.self.inside.end c.index.result.now c.self.invariant.within (omega (arith, c.if-self-len.true, c.len.ensures, c.self.inside.datagrams.ok.0)) c.index.ensures in
    omega (arith, fits, c.self.invariant.inside, c.self.inside.bytes.ok.0, c.deref.ensures.len)
