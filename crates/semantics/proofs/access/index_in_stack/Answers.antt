use Rattle.std.proofs.Common.{◌≡◌, to_z, of_z, w64, w16}
use Rattle.std.proofs.lemmas.Int.{to_z-of_z}
use Rattle.semantics.proofs.access.index_in_stack.Goals as goal

pub returns : goal.returns
returns c =
    let base : to_z w64 (of_z w64 c.args.base) ≡ c.args.base = to_z-of_z w64 c.args.base c.ranges.base in
    let displacement : to_z w16 (of_z w16 c.args.displacement) ≡ c.args.displacement = to_z-of_z w16 c.args.displacement c.ranges.displacement in
    cc c.index_of.ensures
