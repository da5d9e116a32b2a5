use Rattle.std.proofs.Common.{length}
use Rattle.insn.proofs.Programs.{HasRead}
use Rattle.insn.proofs.decoding.instructions.Given as goal

abbrev pub invariant-loop-rest : goal.invariant-loop-rest
invariant-loop-rest l = HasRead l.bytes l.code.items l.slot l.rest

abbrev pub decreases-loop-rest : goal.decreases-loop-rest
decreases-loop-rest l = length l.rest
