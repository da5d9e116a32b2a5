use Rattle.std.proofs.Common.{◌≡◌, to_z, of_z, w16}
use Rattle.std.proofs.lemmas.Int.{to_z-of_z}
use Rattle.absstate.proofs.Loads.{store_elsewhere}
use Rattle.absstate.proofs.storing.store_known.Goals as goal

pub returns-in_default : goal.returns-in_default
returns-in_default g c =
    let displacement : to_z w16 (of_z w16 c.args.displacement) ≡ c.args.displacement = to_z-of_z w16 c.args.displacement c.ranges.displacement in
    let stored = c.store_pointer.ensures c.args.state.now in
    let same = c.in_default.pointer-is in
    let elsewhere = store_elsewhere c.args.state.now c.args.to c.args.displacement c.args.size c.args.known c.in_default.not-Scalar in
    cc
