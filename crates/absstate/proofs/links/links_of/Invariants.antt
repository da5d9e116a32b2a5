use Rattle.std.proofs.Common.{◌≡◌, ◌≤◌}
use Rattle.absstate.specs.Signatures.{links_among}
use Rattle.absstate.proofs.links.links_of.Given as goal

abbrev pub invariant-loop-index : goal.invariant-loop-index
invariant-loop-index g l = (l.links ≡ links_among l.values l.index) × (l.links.count ≤ l.index)
