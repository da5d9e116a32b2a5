use Rattle.std.proofs.Common.{length}
use Rattle.stun.proofs.Integrity.{Scanned}
use Rattle.stun.proofs.attributes.scan.Given as goal

abbrev pub invariant-loop-rest : goal.invariant-loop-rest
invariant-loop-rest l = Scanned l.bytes l.rest l.integrity

abbrev pub decreases-loop-rest : goal.decreases-loop-rest
decreases-loop-rest l = length l.rest
